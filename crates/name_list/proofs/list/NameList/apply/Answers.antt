use Rattle.std.proofs.Common.{◌∙◌, ap, sym}
use Rattle.std.specs.List.{flat_map}
use Rattle.stat_defs.specs.declared.ids.Kind.TheVariants.{Counter, Gauge}
use Rattle.stat_defs.specs.Changes.{names_after}
use Rattle.name_list.specs.Ids.{ids_of}
use Rattle.name_list.specs.Kept.{changes_of}
use Rattle.name_list.proofs.Lists.{brought, batches-push}
use Rattle.name_list.proofs.list.NameList.apply.Goals as goal

pub invariant_of-self : goal.invariant_of-self
invariant_of-self c =
    let kept = c.self.invariant in let known = changes_of c.self.inside in let more = c.args.changes.now in
    let all = ap (flat_map (λ batch. batch.changes)) c.with_batch-self-inside.ensures ∙ batches-push c.self.inside.batches.items more in record {
      counters = brought Counter known more _ _ (c.deref.ensures.value ∙ kept.counters) c.in_ok-counters.ensures ∙ sym (ap (λ cs. ids_of Counter (names_after cs)) all);
      gauges = brought Gauge known more _ _ (c.deref-2.ensures.value ∙ kept.gauges) c.in_ok-gauges.ensures ∙ sym (ap (λ cs. ids_of Gauge (names_after cs)) all);
    }
