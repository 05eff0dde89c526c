-- What is true of the metrics that changes give. This project's own.
use Rattle.std.specs.Prelude.{ℕ, ◌<◌, List, All}
use Rattle.stat_defs.specs.declared.ids.Kind.{Kind}
use Rattle.stat_defs.specs.declared.history.NameOp.{NameOp}
use Rattle.stat_defs.specs.Changes.{id_of, names_after}
use Rattle.name_list.specs.Ids.{ids_of}

-- a bound of the numbers of all changes is one of those of the metrics
abbrev pub IdsAreBelow : Type 0
IdsAreBelow = (n : ℕ) (kind : Kind) (changes : List NameOp)
    → All (λ c. id_of c < n) changes → All (λ id. id.0 < n) (ids_of kind (names_after changes))
