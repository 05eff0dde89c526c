-- A source that was read to its end.
use Rattle.std.proofs.Common.{◌≡◌, ◌≢◌, ℕ, Option, None, Some, IfSome, Result, List, [], ◌++◌, length, refl, sym, ap, ◌∙◌, subst, arith, zero-add}
use Rattle.std.proofs.lemmas.List.{append-nil}
use Rattle.stat_defs.specs.declared.events.Event.{Event}
use Rattle.stat_defs.specs.declared.memory.NoMemory.{NoMemory}
use Rattle.stat_defs.specs.declared.reports.FileEnd.{FileEnd}
use Rattle.stat_defs.specs.declared.reports.FileEnd.TheVariants.{Whole, BadLine, LineTooLong, TooBig, TooMany, ReadFault, NotOpened}
use Rattle.stat_defs.specs.declared.reports.WorkerEnd.{WorkerEnd}
use Rattle.stats_io.specs.States.{SourceState}
use Rattle.stats_io.specs.declared.pulling.Pulled.{Pulled}
use Rattle.event_script.specs.declared.step.Step.{Step}
use Rattle.event_script.specs.Answer.{IsAnswer, IfEnded, HasEnded, TellsEnd, Explains, StoppedBy, IsLineFault}
use Rattle.event_script.specs.Reader.{Reading, Moves, unread}
use Rattle.event_script.specs.FileEvents.{AreEventsOf}
use Rattle.event_script.proofs.Runs.{run_of}
use Rattle.event_script.proofs.Moves.{moves_trans}
use Rattle.file_reading.specs.SourceRead.{taken_at, end_told, IsSourceRead}
use Rattle.file_reading.proofs.ReadSoFar.{ReadSoFar}

-- what holds of the end that was answered
at_end_of : (answer : Result Step NoMemory) (end : FileEnd) (fact : FileEnd → Type 0) → TellsEnd answer end
    → IfEnded answer fact → fact end
at_end_of answer end fact tells holds = subst (λ (o : Option FileEnd). IfSome o fact) tells.1 holds

-- the bytes that were taken matter at a read fault alone
run_taken : (content : Option (List ℕ)) (end : FileEnd) (taken : ℕ) (events : List Event)
    → AreEventsOf content end taken events → AreEventsOf content end (taken_at end taken) events
run_taken content Whole taken events run = run
run_taken content (BadLine n) taken events run = run
run_taken content (LineTooLong n) taken events run = run
run_taken content TooBig taken events run = run
run_taken content TooMany taken events run = run
run_taken content ReadFault taken events run = run
run_taken content NotOpened taken events run = run

was_opened : (stopped : Option Pulled) (end : FileEnd) → StoppedBy stopped end → end ≢ NotOpened
was_opened None end by e = subst IsLineFault e by
was_opened (Some stop) end by e = subst (λ (x : FileEnd). StoppedBy (Some stop) x) e by

module _ {S : Type 0} (state : S → SourceState) where
  pub read_all : (source : S) (init old new : Reading S) (events : List Event) (end : FileEnd) (worker : WorkerEnd)
      → ReadSoFar state init old events → init ≡ unread source (state source).faults
      → (answer : Result Step NoMemory) → TellsEnd answer end → IsAnswer state old new answer
      → worker ≡ end_told end new.taken (state source).faults (state new.source).faults
      → IsSourceRead state source events worker
  read_all source init old new events end worker so is answer tells answered worker_is =
      let last : Moves state old new answered.got [] =
      subst (λ (es : List Event). Moves state old new answered.got es) tells.0 answered.moves in
      let all = moves_trans state init old new so.got answered.got events [] so.moves last in
      let from_start = rw (is, append-nil) at all in
      let got : List ℕ = so.got ++ answered.got in
      let has : HasEnded state new end = at_end_of answer end (HasEnded state new) tells answered.ended in
      subst (IsSourceRead state source events) (sym worker_is) (record {
        is_run = run_taken (state source).left end new.taken events
            (run_of state source new (state source).faults got events end from_start has answered.whole);
        few = so.few;
        opened = was_opened new.stopped end has.by;
        last = new.source;
        origin = from_start.later.origin;
        given = got;
        consumed = from_start.consumed;
        few_bytes = omega (arith, from_start.taken, answered.bound);
        taken = ap (taken_at end) (from_start.taken ∙ zero-add (length got));
        count_before = refl;
        count_after = refl;
        rose = λ fault. rw (← from_start.first)
            (subst (λ (e : FileEnd). Explains (state new.source) new.first_faults e) fault has.explained);
      })
