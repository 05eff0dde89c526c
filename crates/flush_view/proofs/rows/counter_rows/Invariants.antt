use Rattle.std.proofs.Common.{◌≡◌, map, take}
use Rattle.stat_defs.specs.declared.ids.Kind.TheVariants.{Counter}
use Rattle.flush_view.specs.Rows.{picked, shows_counter, counter_at}
use Rattle.flush_view.proofs.rows.counter_rows.Given as goal

abbrev pub invariant-loop-numbered : goal.invariant-loop-numbered
invariant-loop-numbered l =
    l.rows.items
    ≡ map (counter_at l.units l.totals)
    (picked Counter (shows_counter l.before l.units) (take l.numbered-index l.metrics))
