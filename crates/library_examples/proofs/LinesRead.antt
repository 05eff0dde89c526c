-- Lines that were read to their end, and applied.
use Rattle.std.proofs.Common.{◌≡◌, ℕ, Option, IfSome, Result, List, [], ◌∷◌, ◌++◌, All, refl, subst}
use Rattle.std.proofs.lemmas.List.{append-nil}
use Rattle.std.proofs.lemmas.List.Elements.{All-from_recursion}
use Rattle.stat_defs.specs.declared.events.Event.{Event}
use Rattle.stat_defs.specs.declared.history.Verdict.{Verdict}
use Rattle.stat_defs.specs.declared.memory.NoMemory.{NoMemory}
use Rattle.stat_defs.specs.declared.reports.FileEnd.{FileEnd}
use Rattle.stats_io.specs.States.{SourceState}
use Rattle.event_script.specs.declared.step.Step.{Step}
use Rattle.event_script.specs.Answer.{IsAnswer, HasEnded, TellsEnd, Explains}
use Rattle.event_script.specs.Grammar.{IsLawful}
use Rattle.event_script.specs.Reader.{Reading, Moves, unread}
use Rattle.event_script.specs.FileEvents.{AreEventsOf}
use Rattle.event_script.proofs.Runs.{run_of}
use Rattle.event_script.proofs.Moves.{moves_trans}
use Rattle.flush_view.proofs.FileEvents.{files_few}
use Rattle.plain_store.specs.Store.{StoreHistory}
use Rattle.replay_files.proofs.SoFar.{SoFar}
use Rattle.library_examples.specs.Counting.{AreLinesApplied}

-- the events of a run are lawful
run_lawful : (content : Option (List ℕ)) (end : FileEnd) (taken : ℕ) (events : List Event)
    → AreEventsOf content end taken events → All IsLawful events
run_lawful content end taken events run =
    let files = files_few (content ∷ [])
    (record { end = end; taken = taken; faults_before = 0; faults_after = 0 } ∷ []) (events ∷ []) refl (run, tt) in
    All-from_recursion IsLawful events files.0.1

module _ {S : Type 0} (state : S → SourceState) where
  pub lines_read : (source : S) (init old new : Reading S) (earlier later : StoreHistory) (verdicts : List Verdict)
      → SoFar state init old earlier later verdicts → init ≡ unread source (state source).faults
      → (answer : Result Step NoMemory) (end : FileEnd) → TellsEnd answer end → IsAnswer state old new answer
      → AreLinesApplied state source earlier later verdicts end
  lines_read source init old new earlier later verdicts so is answer end tells answered =
      let last : Moves state old new answered.got [] =
      subst (λ (es : List Event). Moves state old new answered.got es) tells.0 answered.moves in
      let all = moves_trans state init old new so.read.got answered.got so.events [] so.read.moves last in
      let from_start = rw (is, append-nil) at all in
      let has : HasEnded state new end =
      subst (λ (o : Option FileEnd). IfSome o (HasEnded state new)) tells.1 answered.ended in
      let run : AreEventsOf (state source).left end new.taken so.events =
      run_of state source new (state source).faults (so.read.got ++ answered.got) so.events end from_start has
      answered.whole in
      record {
        events = so.events;
        taken = new.taken;
        is_run = run;
        applied = so.are_applied;
        lawful = run_lawful (state source).left end new.taken so.events run;
        few = so.read.few;
        last = new.source;
        origin = from_start.later.origin;
        explained = subst (λ (n : ℕ). Explains (state new.source) n end) from_start.first has.explained;
      }
