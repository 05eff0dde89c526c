use Rattle.std.proofs.Common.{Bool, rules}
use Rattle.std.specs.Cmp.Lexicographic.{nat_list_cmp_total}
use Rattle.std.proofs.lemmas.List.Sorted.{answers_always, ranks_by}
use Rattle.flush_view.specs.ByName.{comes_before}
use Rattle.flush_view.specs.Views.{NumberedMetric, row_name}
use Rattle.flush_view.proofs.Picked.{sorted_by_name}
use Rattle.flush_view.proofs.naming.sort_by_name.Goals as goal

abbrev before : NumberedMetric → NumberedMetric → Bool
before one other = comes_before row_name one other

pub returns : goal.returns
returns c =
    let order = ranks_by nat_list_cmp_total row_name in
    sorted_by_name row_name _ _
    (c.in_ok-sort_by.ensures.sorted before order (answers_always _ _ _ (λ f a r g h. search rules)))
    (c.sort_by.ensures.stable before order (answers_always _ _ _ (λ f a r g h. search rules)))
