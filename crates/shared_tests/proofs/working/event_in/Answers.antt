use Rattle.std.proofs.Common.{◌≡◌, [], ◌∷◌, Ok, Result, All, ap, ◌∙◌, subst}
use Rattle.std.proofs.lemmas.List.Elements.{recursion_from_All}
use Rattle.stat_defs.specs.declared.memory.NoMemory.{NoMemory}
use Rattle.event_script.specs.declared.step.Step.{Step}
use Rattle.event_script.specs.declared.step.Step.TheVariants as step
use Rattle.event_script.specs.Answer.{events_answered}
use Rattle.event_script.specs.Grammar.{IsLawful}
use Rattle.shared_tests.proofs.working.event_in.Goals as goal

-- the answer is the event, and the events of an answer are lawful
pub returns : goal.returns
returns g c =
    let event = c.in-Event.event in
    let told : c.next.result ≡ Ok (step.Event event) = c.expect.ensures ∙ ap Ok c.in-Event.is in
    c.line_says_lawful_events.ensures event
    (recursion_from_All IsLawful (event ∷ [])
    (subst (λ (r : Result Step NoMemory). All IsLawful (events_answered r)) told c.next.ensures.answer.lawful)).0
