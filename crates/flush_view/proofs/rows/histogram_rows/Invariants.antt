use Rattle.std.proofs.Common.{◌≡◌, map, take}
use Rattle.stat_defs.specs.declared.ids.Kind.TheVariants.{Histogram}
use Rattle.tag_rules.specs.Bounds.{bounds_for}
use Rattle.flush_view.specs.Rows.{picked, shows_histogram, histogram_at}
use Rattle.flush_view.proofs.rows.histogram_rows.Given as goal

abbrev pub invariant-loop-numbered : goal.invariant-loop-numbered
invariant-loop-numbered l =
    l.rows.items
    ≡ map (histogram_at (bounds_for l.buckets) l.intervals l.cumulative)
    (picked Histogram (shows_histogram l.before l.intervals) (take l.numbered-index l.metrics))
