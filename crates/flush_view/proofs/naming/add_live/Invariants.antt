use Rattle.std.proofs.Common.{◌≡◌, ◌++◌, map, take}
use Rattle.flush_view.specs.Named.{live_in}
use Rattle.flush_view.proofs.naming.add_live.Given as goal

abbrev pub invariant-loop-numbered : goal.invariant-loop-numbered
invariant-loop-numbered l =
    map (λ metric. metric.now) l.rows.items
    ≡ map (λ metric. metric.now) l.fn.rows.items ++ live_in (take l.numbered-index l.metrics) l.kind
