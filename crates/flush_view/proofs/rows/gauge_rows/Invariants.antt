use Rattle.std.proofs.Common.{◌≡◌, map, take}
use Rattle.stat_defs.specs.declared.ids.Kind.TheVariants.{Gauge}
use Rattle.flush_view.specs.Before.{is_left}
use Rattle.flush_view.specs.Rows.{picked, gauge_at}
use Rattle.flush_view.proofs.rows.gauge_rows.Given as goal

abbrev pub invariant-loop-numbered : goal.invariant-loop-numbered
invariant-loop-numbered l =
    l.rows.items ≡ map (gauge_at l.words) (picked Gauge (is_left l.before) (take l.numbered-index l.metrics))
