use Rattle.std.proofs.Common.{[], ◌∷◌, Ok, All, subst}
use Rattle.std.proofs.lemmas.List.Elements.{recursion_from_All}
use Rattle.event_script.specs.declared.step.Step.{Step}
use Rattle.event_script.specs.Answer.{events_answered}
use Rattle.event_script.specs.Grammar.{IsLawful}
use Rattle.refusal_tests.proofs.again.event_in.Goals as goal

-- the answer is the event, and the events of an answer are lawful
pub returns-in-Event : goal.returns-in-Event
returns-in-Event c =
    let event = c.in-Event.event in
    c.line_says_lawful_events.ensures event
    (recursion_from_All IsLawful (event ∷ [])
    (subst (λ (s : Step). All IsLawful (events_answered (Ok s))) c.in-Event.is c.in_ok-event.ensures.answer.lawful)).0
