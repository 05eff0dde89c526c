use Rattle.std.proofs.Common.{◌∙◌, ap, map, Bool, rules}
use Rattle.std.specs.Cmp.Lexicographic.{nat_list_cmp_total}
use Rattle.std.proofs.lemmas.List.Sorted.{answers_always, ranks_by}
use Rattle.prom_text.specs.declared.rows.Row.{Row}
use Rattle.prom_text.specs.Members.{is_before, member_name}
use Rattle.prom_text.specs.Rows.{member_of}
use Rattle.prom_text.proofs.Order.{sorted_in_order, map_in_order}
use Rattle.prom_text.proofs.rows.sort_by_name.Goals as goal

abbrev before : Row → Row → Bool
before a b = is_before (member_of a) (member_of b)

pub returns : goal.returns
returns c =
    let order = ranks_by nat_list_cmp_total (λ (row : Row). member_name (member_of row)) in
    ap (map member_of)
    (sorted_in_order before order _ _ (c.in_ok-sort_by.ensures.sorted before order (answers_always _ _ _ (λ f a r g h. search rules)))
    (c.sort_by.ensures.stable before order (answers_always _ _ _ (λ f a r g h. search rules))))
    ∙ map_in_order member_of is_before c.args.rows.now.items
