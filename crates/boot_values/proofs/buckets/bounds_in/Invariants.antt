use Rattle.std.proofs.Common.{◌≡◌, [], length, drop}
use Rattle.std.specs.Prelude.{All}
use Rattle.serde_json.specs.View.{items_view}
use Rattle.stat_defs.specs.Configs.{IsWholeBound}
use Rattle.boot_values.specs.BucketSettings.{bounds_from}
use Rattle.boot_values.proofs.Bounds.{Rises}
use Rattle.boot_values.proofs.buckets.bounds_in.Given as goal

abbrev pub invariant-loop-value : goal.invariant-loop-value
invariant-loop-value l =
    (bounds_from l.i [] (items_view l.list) ≡ bounds_from l.i l.found.items (items_view (drop l.value-index l.list)))
    × All IsWholeBound l.found.items
    × Rises l.found.items
    × (length l.found.items ≡ l.value-index)
