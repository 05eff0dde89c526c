use Rattle.std.proofs.Common.{◌≡◌, ◌+◌, length, drop}
use Rattle.std.specs.Prelude.{All}
use Rattle.serde_json.specs.View.{items_view}
use Rattle.boot_file.specs.Lawful.{IsPlacedTag}
use Rattle.boot_file.specs.Tags.{tags_from}
use Rattle.boot_file.proofs.tags.tags_in.Given as goal

abbrev pub invariant-loop-i : goal.invariant-loop-i
invariant-loop-i l =
    (tags_from 0 l.fn.first.items (items_view l.list) ≡ tags_from l.i l.found.items (items_view (drop l.i l.list)))
    × All IsPlacedTag l.found.items
    × (length l.found.items ≡ length l.fn.first.items + l.i)
