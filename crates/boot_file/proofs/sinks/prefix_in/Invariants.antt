use Rattle.std.proofs.Common.{◌≡◌, drop}
use Rattle.serde_json.specs.View.{items_view}
use Rattle.boot_file.specs.Sinks.{prefix_from}
use Rattle.boot_file.proofs.sinks.prefix_in.Given as goal

abbrev pub invariant-loop-i : goal.invariant-loop-i
invariant-loop-i l = prefix_from 0 (items_view l.list) ≡ prefix_from l.i (items_view (drop l.i l.list))
