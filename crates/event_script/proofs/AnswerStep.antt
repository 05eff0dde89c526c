-- One answer of the reader.
use Rattle.std.proofs.Common.{◌≡◌, ◌+◌, ℕ, length, Option, Some, None, MatchOption, List, [], ◌++◌, drop, refl, sym, ap, ◌∙◌, subst, arith, Result, Ok, Err, MatchResult, IfSome, All, ⊎_elim, ◌-◌, ◌<◌, ◌≤◌, add-zero}
use Rattle.std.proofs.lemmas.List.{length-drop}
use Rattle.std.proofs.lemmas.List.Elements.{All-nil}
use Rattle.std.proofs.KnownBytes.{Consumes-nil}
use Rattle.std.specs.Result.{IsErr}
use Rattle.stat_defs.specs.declared.memory.NoMemory.{NoMemory}
use Rattle.stat_defs.specs.declared.reports.FileEnd.{FileEnd}
use Rattle.stat_defs.specs.declared.reports.FileEnd.TheVariants as file
use Rattle.stat_defs.specs.declared.reports.FileEnd.TheVariants.{NotOpened}
use Rattle.stats_io.specs.States.{SourceState}
use Rattle.stats_io.specs.declared.pulling.Pulled.{Pulled}
use Rattle.event_script.specs.declared.cutting.Place.{Place}
use Rattle.event_script.specs.declared.window.Window.{Window}
use Rattle.event_script.specs.declared.step.StepRef.{StepRef}
use Rattle.event_script.specs.declared.step.Step.{Step}
use Rattle.event_script.specs.declared.step.Step.TheVariants as step
use Rattle.event_script.specs.declared.limits.TheConstants.{MAX_FILE_BYTES, MAX_PULL_BYTES}
use Rattle.event_script.specs.Grammar.{IsLawful}
use Rattle.event_script.specs.Reader.{Reading, Moves}
use Rattle.event_script.specs.Answer.{IsAnswer, HoldsTaken, TellsEnd, no_answer, HasEnded, IsLineFault, EndsBy, StoppedBy, Explains, HasFaultCause, events_answered, end_of, IfEnded, IfEvent}
use Rattle.event_script.specs.Window.{stop_of, IsHeld, IsPiece}
use Rattle.event_script.specs.Passing.{PassesOver, ReadsLine, IsLineEnd}
use Rattle.event_script.specs.ReaderKept.{IsReaderKept}
use Rattle.event_script.specs.Ready.{GoesOn, PassesOn}
use Rattle.event_script.specs.Told.{answer_of, told, IsLastEnd, HasRead}
use Rattle.event_script.specs.Script.{end_by, lines_until}
use Rattle.stats_io.specs.declared.pulling.Pulled.TheVariants.{End, Failed, TooMany}
use Rattle.event_script.proofs.CutLines.{none_until}
use Rattle.event_script.proofs.Moves.{later_same, moves_trans}

-- a reader as contracts see it
abbrev pub seen : {S : Type 0} → S → List ℕ → Window → Place → ℕ → Option Pulled → Option FileEnd → Reading S
seen source held window place first stopped ended = record {
  source = source;
  number = place.number;
  given = place.given;
  offset = window.dropped + place.at;
  pending = drop place.at held;
  taken = window.taken;
  first_faults = first;
  stopped = stopped;
  ended = ended;
}

-- the bytes that were taken, from a place among those that are held
pub holds_taken : {S : Type 0} (source : S) (held : List ℕ) (window : Window) (place : Place) (first : ℕ) (stopped still : Option Pulled) (ended : Option FileEnd)
    → IsHeld held window stopped → place.at ≤ length held → HoldsTaken (seen source held window place first still ended)
holds_taken source held window place first stopped still ended is within = record {
  all = omega (arith, length-drop place.at held, is.all, within);
  but_one = omega (arith, length-drop place.at held, is.but_one, within);
  few = omega (arith, is.few);
}

-- a reader does not end as a file does that was not opened
was_opened : (stopped : Option Pulled) (end : FileEnd) → StoppedBy stopped end → end ≡ NotOpened → ⊥
was_opened None end by unopened = subst IsLineFault unopened by
was_opened (Some stop) end by unopened = subst (λ e. EndsBy stop e) unopened by

-- the cause of a line's fault, and how the source had stopped
line_explains : (source : SourceState) (first : ℕ) (end : FileEnd) → IsLineFault end → Explains source first end
line_explains source first (file.BadLine n) fault = tt
line_explains source first (file.LineTooLong n) fault = tt
line_explains source first file.TooMany fault = tt
line_explains source first file.Whole fault = absurd fault
line_explains source first file.TooBig fault = absurd fault
line_explains source first file.ReadFault fault = absurd fault
line_explains source first file.NotOpened fault = absurd fault

line_ends_by : (stop : Pulled) (end : FileEnd) → IsLineFault end → EndsBy stop end
line_ends_by stop (file.BadLine n) fault = tt
line_ends_by stop (file.LineTooLong n) fault = tt
line_ends_by stop file.TooMany fault = tt
line_ends_by stop file.Whole fault = absurd fault
line_ends_by stop file.TooBig fault = absurd fault
line_ends_by stop file.ReadFault fault = absurd fault
line_ends_by stop file.NotOpened fault = absurd fault

line_stops : (stopped : Option Pulled) (end : FileEnd) → IsLineFault end → StoppedBy stopped end
line_stops None end fault = fault
line_stops (Some stop) end fault = line_ends_by stop end fault

-- nothing moves
pub moves_none : {S : Type 0} (state : S → SourceState) (r : Reading S) → Moves state r r [] []
moves_none state r = record {
  consumed = Consumes-nil (state r.source).left;
  later = later_same (state r.source);
  first = refl;
  taken = sym (add-zero r.taken);
  given = sym (add-zero r.given);
  follows = λ more last may. may;
  answers = λ more last others end may comes. comes;
}

-- a fact that holds of an event's answer
pub if_event : (answer : Result Step NoMemory) (fact other : Type 0) → (fact → other) → IfEvent answer fact → IfEvent answer other
if_event (Ok (step.Event e)) fact other on holds = on holds
if_event (Ok step.End) fact other on holds = tt
if_event (Ok (step.BadLine n)) fact other on holds = tt
if_event (Ok (step.LineTooLong n)) fact other on holds = tt
if_event (Ok step.TooBig) fact other on holds = tt
if_event (Ok step.TooMany) fact other on holds = tt
if_event (Ok step.ReadFault) fact other on holds = tt
if_event (Err e) fact other on holds = tt

pub if_ended : (answer : Result Step NoMemory) (fact other : FileEnd → Type 0) → ((end : FileEnd) → end_of answer ≡ Some end → fact end → other end) → IfEnded answer fact → IfEnded answer other
if_ended (Ok (step.Event e)) fact other on holds = tt
if_ended (Ok step.End) fact other on holds = on file.Whole refl holds
if_ended (Ok (step.BadLine n)) fact other on holds = on (file.BadLine n) refl holds
if_ended (Ok (step.LineTooLong n)) fact other on holds = on (file.LineTooLong n) refl holds
if_ended (Ok step.TooBig) fact other on holds = on file.TooBig refl holds
if_ended (Ok step.TooMany) fact other on holds = on file.TooMany refl holds
if_ended (Ok step.ReadFault) fact other on holds = on file.ReadFault refl holds
if_ended (Err e) fact other on holds = tt

-- an answer behind a call that gave none
pub answer_behind : {S : Type 0} (state : S → SourceState) (a b c : Reading S) (answer : Result Step NoMemory)
    → IsAnswer state a b no_answer → a.number ≤ b.number → IsAnswer state b c answer → IsAnswer state a c answer
answer_behind state a b c answer p number q = record {
  got = p.got ++ q.got;
  moves = moves_trans state a b c p.got q.got [] (events_answered answer) p.moves q.moves;
  lawful = q.lawful;
  onward = if_event answer (b.number < c.number) (a.number < c.number) (λ more. omega (arith, more, number)) q.onward;
  ended = q.ended;
  whole = q.whole;
  few = q.few;
  short = q.short;
  bound = q.bound;
  held = q.held;
  near = q.near;
}

-- nothing was answered twice
pub goes_behind : {S : Type 0} (state : S → SourceState) (a b c : Reading S) → b.ended ≡ None → GoesOn state a b → GoesOn state b c → GoesOn state a c
goes_behind state a b c none p q = record {
  answer = answer_behind state a b c no_answer p.answer p.number q.answer;
  number = omega (arith, p.number, q.number);
  fault = λ was now. let rose = q.fault none now in omega (arith, rose, p.answer.moves.later.count);
}

-- lines were passed over before
pub goes_passed : {S : Type 0} (state : S → SourceState) (a b c : Reading S) → b.ended ≡ None → GoesOn state a b → PassesOn state b c → GoesOn state a c
goes_passed state a b c none p q = goes_behind state a b c none p q.goes

no_event : (answer : Result Step NoMemory) (fact : Type 0) → events_answered answer ≡ [] → IfEvent answer fact
no_event (Ok (step.Event e)) fact none = absurd cc
no_event (Ok step.End) fact none = tt
no_event (Ok (step.BadLine n)) fact none = tt
no_event (Ok (step.LineTooLong n)) fact none = tt
no_event (Ok step.TooBig) fact none = tt
no_event (Ok step.TooMany) fact none = tt
no_event (Ok step.ReadFault) fact none = tt
no_event (Err e) fact none = tt

no_end : (answer : Result Step NoMemory) → IsErr answer → IfEnded answer IsLineFault
no_end (Ok step) none = absurd cc
no_end (Err e) none = tt

module _ {S : Type 0} (state : S → SourceState) (source : S) (held : List ℕ) (window : Window) (place : Place) (first : ℕ) (stopped : Option Pulled) (ended : Option FileEnd)
    (kept : IsReaderKept held window place first stopped ended (state source)) where
  abbrev pub here : Reading S
  here = seen source held window place first stopped ended

  has_last : (o : Option FileEnd) → ended ≡ o → IfSome o (HasEnded state here)
  has_last None is = tt
  has_last (Some end) is = record { is = is; by = kept.by end is; explained = kept.explained end is }

  answer_still : (answer : Result Step NoMemory) → events_answered answer ≡ [] → IfEnded answer (HasEnded state here) → IsAnswer state here here answer
  answer_still answer none by = record {
    got = [];
    moves = rw none (moves_none state here);
    lawful = rw none (All-nil IsLawful);
    onward = no_event answer (place.number < place.number) none;
    ended = by;
    whole = kept.at_end;
    few = kept.few;
    short = omega (arith, kept.within, kept.numbered, kept.held.short);
    bound = kept.held.bound;
    held = holds_taken source held window place first stopped stopped ended kept.held kept.within;
    near = no_event answer (window.taken < window.dropped + place.at + MAX_PULL_BYTES) none;
  }

  -- the end is answered again
  pub answer_again : (answer : Result Step NoMemory) → events_answered answer ≡ [] → end_of answer ≡ ended → IsAnswer state here here answer
  answer_again answer none is = answer_still answer none (rw is (has_last ended refl))

  -- nothing is answered
  pub answer_none : (answer : Result Step NoMemory) → IsErr answer → IsAnswer state here here answer
  answer_none (Ok step) none = absurd cc
  answer_none (Err e) none = answer_still (Err e) refl tt

  -- nothing was done
  pub goes_nowhere : GoesOn state here here
  goes_nowhere = record { answer = answer_none no_answer refl; number = omega arith; fault = λ none fault. let both = sym none ∙ fault in absurd cc }

  -- no memory was there
  pub read_none : (answer : Result Step NoMemory) → IsErr answer → HasRead state here here answer
  read_none answer none = record { answer = answer_none answer none; by_line = no_end answer none }

  pub last_is : (end : FileEnd) (found : Option StepRef) → ended ≡ Some end → MatchOption found (end ≡ NotOpened) (λ step. TellsEnd (answer_of step) end)
      → MatchOption found (ended ≡ None) (IsLastEnd state here)
  last_is end None is unopened = absurd (was_opened stopped end (kept.by end is) unopened)
  last_is end (Some step) is tells = record { end = end; is = is; tells = tells; answer = answer_again (answer_of step) tells.0 (tells.1 ∙ sym is) }

-- what is read or passed over from a place among the bytes that are held
module _ {S : Type 0} (state : S → SourceState) (source : S) (held : List ℕ) (window : Window) (place new_place : Place) (first : ℕ) (stopped : Option Pulled) (stop : Pulled) (is : stop_of stopped ≡ stop)
    (kept : IsReaderKept held window place first stopped None (state source)) (within : new_place.at ≤ length held) where
  abbrev pub before : Reading S
  before = seen source held window place first stopped None

  abbrev pub after : Option FileEnd → Reading S
  after ended = seen source held window new_place first stopped ended

  number_fits : new_place.number + place.at ≤ place.number + new_place.at → new_place.number ≤ MAX_FILE_BYTES + 1
  number_fits numbered = omega (arith, numbered, within, kept.numbered, kept.held.short)

  -- lines that are passed over
  pub passes_on : PassesOver stop held place new_place → PassesOn state before (after None)
  passes_on passes = record {
    goes = record {
      answer = record {
        got = [];
        moves = record {
          consumed = Consumes-nil (state source).left;
          later = later_same (state source);
          first = refl;
          taken = sym (add-zero window.taken);
          given = passes.given ∙ sym (add-zero place.given);
          follows = λ more last may. may;
          answers = λ more last others end may comes. passes.gives stopped is window.dropped kept.held.short more last others end comes;
        };
        lawful = All-nil IsLawful;
        onward = tt;
        ended = tt;
        whole = kept.at_end;
        few = omega (arith, passes.given, kept.few);
        short = number_fits passes.numbered;
        bound = kept.held.bound;
        held = holds_taken source held window new_place first stopped stopped None kept.held within;
        near = tt;
      };
      number = passes.number;
      fault = λ none fault. cc;
    };
    source = refl;
    taken = refl;
    stopped = refl;
    ended = refl;
  }

  near_line : IsLineEnd held new_place.at → window.taken < window.dropped + new_place.at + MAX_PULL_BYTES
  near_line ends = ⊎_elim
      (λ all. omega (arith, all, kept.held.but_one))
      (λ newline. omega (arith, newline.0, kept.held.late (new_place.at - 1) (omega (arith, newline.0, within)) newline.1))
      ends

  has_ended : (o : Option FileEnd) → IfSome o IsLineFault → IfSome o (HasEnded state (after o))
  has_ended None fault = tt
  has_ended (Some end) fault = record { is = refl; by = line_stops stopped end fault; explained = line_explains (state source) first end fault }

  -- the line that is read
  pub has_read : (answer : Result Step NoMemory) → ReadsLine stop held place new_place answer → All IsLawful (events_answered answer) → HasRead state before (after (end_of answer)) answer
  has_read answer reads lawful = record {
    answer = record {
      got = [];
      moves = record {
        consumed = Consumes-nil (state source).left;
        later = later_same (state source);
        first = refl;
        taken = sym (add-zero window.taken);
        given = reads.given;
        follows = λ more last may. may;
        answers = λ more last others end may comes. reads.gives stopped is window.dropped kept.held.short more last others end comes;
      };
      lawful = lawful;
      onward = reads.number;
      ended = has_ended (end_of answer) reads.ends;
      whole = kept.at_end;
      few = reads.few;
      short = number_fits reads.numbered;
      bound = kept.held.bound;
      held = holds_taken source held window new_place first stopped stopped (end_of answer) kept.held within;
      near = if_event answer (IsLineEnd held new_place.at) (window.taken < window.dropped + new_place.at + MAX_PULL_BYTES) near_line reads.near;
    };
    by_line = reads.ends;
  }

pub passes_of : {S : Type 0} (state : S → SourceState) (source : S) (held : List ℕ) (window : Window) (place new_place : Place) (first : ℕ) (stopped : Option Pulled) (stop : Pulled)
    → stop_of stopped ≡ stop → (ended : Option FileEnd) → ended ≡ None → IsReaderKept held window place first stopped ended (state source) → new_place.at ≤ length held
    → PassesOver stop held place new_place
    → PassesOn state (seen source held window place first stopped ended) (seen source held window new_place first stopped ended)
passes_of state source held window place new_place first stopped stop is ended none kept within passes =
    let still : IsReaderKept held window place first stopped None (state source) = subst (λ (o : Option FileEnd). IsReaderKept held window place first stopped o (state source)) none kept in
    rw none (passes_on state source held window place new_place first stopped stop is still within passes)

pub read_of : {S : Type 0} (state : S → SourceState) (source : S) (held : List ℕ) (window : Window) (place new_place : Place) (first : ℕ) (stopped : Option Pulled) (stop : Pulled)
    → stop_of stopped ≡ stop → (ended : Option FileEnd) → ended ≡ None → IsReaderKept held window place first stopped ended (state source) → new_place.at ≤ length held
    → (answer : Result Step NoMemory) → ReadsLine stop held place new_place answer → All IsLawful (events_answered answer)
    → HasRead state (seen source held window place first stopped ended) (seen source held window new_place first stopped (end_of answer)) answer
read_of state source held window place new_place first stopped stop is ended none kept within answer reads lawful =
    let still : IsReaderKept held window place first stopped None (state source) = subst (λ (o : Option FileEnd). IsReaderKept held window place first stopped o (state source)) none kept in
    rw none (has_read state source held window place new_place first stopped stop is still within answer reads lawful)

-- the file ends where the source has stopped and no line is left
pub ends_by : {S : Type 0} (state : S → SourceState) (source : S) (held : List ℕ) (window : Window) (place : Place) (first : ℕ) (stopped : Option Pulled) (stop : Pulled)
    → stopped ≡ Some stop → (ended : Option FileEnd) → ended ≡ None → IsReaderKept held window place first stopped ended (state source) → IsPiece (stop_of stopped) (drop place.at held)
    → GoesOn state (seen source held window place first stopped ended) (seen source held window place first stopped (Some (end_by stop)))
ends_by state source held window place first stopped stop is ended none kept piece = rw (none, is) core
  where
    lines_none : lines_until stop (drop place.at held) ≡ []
    lines_none = let here = rw is at piece in none_until stop (drop place.at held) here.0 here.1

    sound : (s : Pulled) → stop ≡ s → end_by s ≡ file.ReadFault → ⊥
    sound Failed same fault = let both = sym none ∙ (kept.failed (is ∙ ap (λ s. Some s) same)).0 in absurd cc
    sound End same fault = absurd cc
    sound TooMany same fault = absurd cc

    core : GoesOn state (seen source held window place first (Some stop) None) (seen source held window place first (Some stop) (Some (end_by stop)))
    core = record {
      answer = record {
        got = [];
        moves = record {
          consumed = Consumes-nil (state source).left;
          later = later_same (state source);
          first = refl;
          taken = sym (add-zero window.taken);
          given = sym (add-zero place.given);
          follows = λ more last may. may;
          answers = λ more last others end may comes. rw (comes.0, comes.1, lines_none) (refl, refl);
        };
        lawful = All-nil IsLawful;
        onward = tt;
        ended = tt;
        whole = λ e. kept.at_end (is ∙ e);
        few = kept.few;
        short = omega (arith, kept.within, kept.numbered, kept.held.short);
        bound = kept.held.bound;
        held = holds_taken source held window place first stopped (Some stop) (Some (end_by stop)) kept.held kept.within;
        near = tt;
      };
      number = omega arith;
      fault = λ now fault. absurd (sound stop refl (let same : end_by stop ≡ file.ReadFault = cc in same));
    }

-- the first read fault has its cause
pub fault_of_line : {S : Type 0} (state : S → SourceState) (a b c : Reading S) (answer : Result Step NoMemory) → HasRead state b c answer → HasFaultCause state a c answer
fault_of_line state a b c answer read = λ none is. absurd (subst (λ (o : Option FileEnd). IfSome o IsLineFault) is read.by_line)

pub fault_at_end : {S : Type 0} (state : S → SourceState) (a b : Reading S) (answer : Result Step NoMemory) (end : FileEnd) → GoesOn state a b → b.ended ≡ Some end → TellsEnd answer end
    → HasFaultCause state a b answer
fault_at_end state a b answer end goes is tells = λ none fault. goes.fault none (is ∙ sym tells.1 ∙ fault)

-- the last end is told, and is the one that the reader has
pub ends_again : {S : Type 0} (state : S → SourceState) (now : Reading S) (step : StepRef) → IsLastEnd state now step → (end : FileEnd) → now.ended ≡ Some end
    → TellsEnd (answer_of step) end
ends_again state now step last end ended = (last.tells.0, last.tells.1 ∙ sym last.is ∙ ended)

-- an end is made the caller's own without memory
pub own_end : (step : StepRef) (end : FileEnd) (own : Result Step NoMemory) → TellsEnd (answer_of step) end
    → MatchResult own (λ s. s ≡ told step) (λ _. end_of (answer_of step) ≡ None) → own ≡ answer_of step
own_end step end (Ok s) tells is = ap (λ (s : Step). Ok s) is
own_end step end (Err e) tells none = let no = sym tells.1 ∙ none in absurd cc
