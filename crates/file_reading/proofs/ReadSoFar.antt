-- A source that is being read.
use Rattle.std.proofs.Common.{◌≡◌, ◌≤◌, ◌<◌, ℕ, Result, Ok, List, [], ◌∷◌, ◌++◌, length, length-append, subst, arith}
use Rattle.std.proofs.lemmas.List.Elements.{recursion_from_All}
use Rattle.stat_defs.specs.Events.{IsLawfulEvent}
use Rattle.stat_defs.specs.declared.events.Event.{Event}
use Rattle.stat_defs.specs.declared.memory.NoMemory.{NoMemory}
use Rattle.stats_io.specs.States.{SourceState}
use Rattle.event_script.specs.declared.limits.TheConstants.{MAX_EVENTS}
use Rattle.event_script.specs.Grammar.{IsLawful}
use Rattle.event_script.specs.Reader.{Reading, Moves}
use Rattle.event_script.specs.Answer.{IsAnswer}
use Rattle.event_script.specs.Told.{told, answer_of, told_in}
use Rattle.event_script.specs.declared.step.Step.{Step}
use Rattle.event_script.specs.declared.step.Step.TheVariants as step
use Rattle.event_script.specs.declared.step.StepRef.{StepRef}
use Rattle.event_script.proofs.AnswerStep.{moves_none}
use Rattle.event_script.proofs.Written.{lawful_event}
use Rattle.event_script.proofs.Moves.{moves_trans}

-- the events so far, between the reader as it was made and as it is now
pub record ReadSoFar {S : Type 0} (state : S → SourceState) (init now : Reading S) (events : List Event) : Type 0 where
  pub got : List ℕ
  pub moves : Moves state init now got events
  pub given : now.given ≡ length events
  pub few : length events ≤ MAX_EVENTS

module _ {S : Type 0} (state : S → SourceState) where
  pub read_none : (init : Reading S) → init.given ≡ 0 → ReadSoFar state init init []
  read_none init none = record { got = []; moves = moves_none state init; given = none; few = omega arith }

  -- the answer that was told of a borrowed step
  pub answered_step : (old new : Reading S) (result : Result StepRef NoMemory) (s : StepRef) → result ≡ Ok s
      → IsAnswer state old new (told_in result) → IsAnswer state old new (answer_of s)
  answered_step old new result s is answer = subst (λ (r : Result StepRef NoMemory). IsAnswer state old new (told_in r)) is answer

  pub answered_event : (old new : Reading S) (result : Result StepRef NoMemory) (s : StepRef) (event : Event)
      → result ≡ Ok s → told s ≡ step.Event event → IsAnswer state old new (told_in result)
      → IsAnswer state old new (Ok (step.Event event))
  answered_event old new result s event is tells answer =
      subst (λ (t : Step). IsAnswer state old new (Ok t)) tells (answered_step old new result s is answer)

  -- an event that was read is lawful
  pub lawful_now : (old new : Reading S) (event : Event) → IsAnswer state old new (Ok (step.Event event))
      → IsLawfulEvent event
  lawful_now old new event answer =
      lawful_event event (recursion_from_All IsLawful (event ∷ []) answer.lawful).0

  module _ (init old new : Reading S) (events : List Event) (so : ReadSoFar state init old events) (event : Event)
      (answer : IsAnswer state old new (Ok (step.Event event))) where
    -- this event is not one too many
    pub room_now : length events < MAX_EVENTS
    room_now =
        let before = so.given in
        let one_more = answer.moves.given in
        let few = answer.few in omega (arith, before, one_more, few)

    -- one event more
    pub read_more : ReadSoFar state init new (events ++ event ∷ [])
    read_more =
        let before = so.given in
        let one_more = answer.moves.given in
        let given : new.given ≡ length (events ++ event ∷ []) =
        omega (arith, before, one_more, length-append events (event ∷ [])) in
        record {
          got = so.got ++ answer.got;
          moves = moves_trans state init old new so.got answer.got events (event ∷ []) so.moves answer.moves;
          given = given;
          few = (let few = answer.few in omega (arith, few, given));
        }
