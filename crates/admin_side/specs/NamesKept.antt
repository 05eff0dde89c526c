-- What the names that a reader knows keep.
use Rattle.std.specs.Prelude.{◌≡◌, ◌<◌, List, length, All}
use Rattle.stat_defs.specs.declared.history.NameOp.{NameOp}
use Rattle.stat_defs.specs.Changes.{id_of}
use Rattle.book_state.specs.declared.limits.TheConstants.{MAX_METRICS}
use Rattle.name_changes.specs.Changes.{newest}
use Rattle.admin_side.specs.declared.known_names.KnownNames.TheInside.{Inside}

abbrev pub changes : Inside → List NameOp
changes k = k.list

pub record AreCounted (k : Inside) : Type 0 where
  pub count : k.count ≡ length k.list
  pub at : k.at ≡ newest k.list
  pub small : All (λ c. id_of c < MAX_METRICS) k.list
