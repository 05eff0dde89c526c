use Rattle.std.proofs.Common.{◌∙◌, ap, sym}
use Rattle.std.specs.List.Sorted.{IsNonDecreasing}
use Rattle.std.proofs.Common.{subst}
use Rattle.std.proofs.lemmas.List.Sorted.{IsNonDecreasingBy-from_sort}
use Rattle.name_list.specs.Ids.{without}
use Rattle.name_list.proofs.Lists.{without-permutation}
use Rattle.name_list.proofs.pass.take_out.Goals as goal

pub keep_others-requires : goal.keep_others-requires
keep_others-requires c = subst IsNonDecreasing (sym c.deref.ensures.value) (IsNonDecreasingBy-from_sort (λ x. x) _ c.sort_unstable.ensures.sorted)

pub returns-clause-ids : goal.returns-clause-ids
returns-clause-ids c = c.keep_others.ensures ∙ (ap (λ gone. without gone c.args.ids.now.items) c.deref.ensures.value
    ∙ sym (without-permutation c.args.ids.now.items _ _ c.sort_unstable.ensures.permutation))
