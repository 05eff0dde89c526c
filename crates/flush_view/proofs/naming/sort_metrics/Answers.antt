use Rattle.std.proofs.Common.{◌∙◌, ℕ, List, Bool, Bor, ap, map, rules}
use Rattle.std.specs.Cmp.Lexicographic.{nat_list_cmp_total}
use Rattle.std.proofs.lemmas.List.Sorted.{answers_always, ranks_by}
use Rattle.stat_defs.specs.declared.metrics.Metric.{Metric}
use Rattle.flush_view.specs.ByName.{comes_before}
use Rattle.flush_view.proofs.Picked.{sorted_by_name, map-by_name}
use Rattle.flush_view.proofs.naming.sort_metrics.Goals as goal

abbrev name_at : Bor Metric → List ℕ
name_at metric = metric.now.name

abbrev before : Bor Metric → Bor Metric → Bool
before one other = comes_before name_at one other

abbrev metric_at : Bor Metric → Metric
metric_at metric = metric.now

pub returns : goal.returns
returns c =
    let order = ranks_by nat_list_cmp_total name_at in
    ap (map metric_at)
    (sorted_by_name name_at c.args.metrics.now.items c.sort_by.new.self.items
    (c.in_ok-sort_by.ensures.sorted before order (answers_always _ _ _ (λ f a r g h. search rules)))
    (c.sort_by.ensures.stable before order (answers_always _ _ _ (λ f a r g h. search rules))))
    ∙ map-by_name metric_at (λ metric. metric.name) c.args.metrics.now.items
