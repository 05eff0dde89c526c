use Rattle.std.proofs.Common.{◌≡◌, [], length, drop}
use Rattle.std.specs.Prelude.{All}
use Rattle.serde_json.specs.View.{items_view}
use Rattle.stat_defs.specs.Configs.{IsPatternText, text_of}
use Rattle.boot_values.specs.StatsMatcher.{patterns_from}
use Rattle.boot_values.proofs.matcher.patterns_in.Given as goal

abbrev pub invariant-loop-i : goal.invariant-loop-i
invariant-loop-i l =
    (patterns_from l.side 0 [] (items_view l.list) ≡ patterns_from l.side l.i l.found.items (items_view (drop l.i l.list)))
    × All (λ p. IsPatternText (text_of p)) l.found.items
    × (length l.found.items ≡ l.i)
