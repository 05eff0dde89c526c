use Rattle.std.proofs.lemmas.Result.{IfOk-weaker}
use Rattle.regex_hir.specs.Meaning.{meaning}
use Rattle.tag_rules.proofs.StartFacts.{needles_lead}
use Rattle.tag_rules.proofs.starts.lead_of.Goals as goal

pub returns : goal.returns
returns c =
    let starts = rw c.in-Some.is at c.in_ok-needles.ensures.starts in
    IfOk-weaker c.common_lead.result _ _ (λ lead fronts. needles_lead c.in-Some.needles lead.items (meaning c.args.hir.now) starts fronts)
    (rw c.deref.ensures.value at c.common_lead.ensures)
