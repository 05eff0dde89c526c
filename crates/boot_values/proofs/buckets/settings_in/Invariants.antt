use Rattle.std.proofs.Common.{◌≡◌, [], length, drop}
use Rattle.std.specs.Prelude.{All}
use Rattle.serde_json.specs.View.{items_view}
use Rattle.stat_defs.specs.Configs.{IsBucketSpec}
use Rattle.boot_values.specs.BucketSettings.{settings_from}
use Rattle.boot_values.proofs.buckets.settings_in.Given as goal

abbrev pub invariant-loop-i : goal.invariant-loop-i
invariant-loop-i l =
    (settings_from 0 [] (items_view l.list) ≡ settings_from l.i l.found.items (items_view (drop l.i l.list)))
    × All IsBucketSpec l.found.items
    × (length l.found.items ≡ l.i)
