use Rattle.std.proofs.Common.{ℕ, IsUtf8, sym, subst, rules}
use Rattle.stat_defs.specs.declared.metrics.Metric.{Metric}
use Rattle.flush_view.proofs.rows.histogram_rows.Goals as goal

pub histogram_row-requires : goal.histogram_row-requires
histogram_row-requires c =
    subst (λ (numbered : ℕ × Metric). IsUtf8 numbered.1.name) (sym c.numbered-item.is)
    (c.requires c.loop-numbered.numbered-index c.numbered-item.result (search rules))
