use Rattle.std.proofs.Common.{◌≡◌, ◌≢◌, ◌+◌, List, [], ◌∷◌, length, drop}
use Rattle.std.specs.Prelude.{All}
use Rattle.std.specs.List.{AllPairs}
use Rattle.serde_json.specs.View.{items_view}
use Rattle.stat_defs.specs.declared.configs.ScopeSpec.{ScopeSpec}
use Rattle.stat_defs.specs.Configs.{IsScopeSpec}
use Rattle.boot_file.specs.Scopes.{root, scopes_from}
use Rattle.boot_file.proofs.scopes.scopes_in.Given as goal

abbrev pub invariant-loop-i : goal.invariant-loop-i
invariant-loop-i l =
    (scopes_from 0 (root ∷ []) (items_view l.list) ≡ scopes_from l.i l.found.items (items_view (drop l.i l.list)))
    × ((others : List ScopeSpec) × (l.found.items ≡ root ∷ others))
    × All IsScopeSpec l.found.items
    × AllPairs (λ one other. one.label ≢ other.label) l.found.items
    × (length l.found.items ≡ l.i + 1)
