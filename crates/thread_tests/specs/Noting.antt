-- What the lock's test of names makes of its book.
use Rattle.std.specs.Prelude.{◌≡◌, ℕ, ◌<◌, ◌≤◌, List, All}
use Rattle.stat_defs.specs.declared.history.NameOp.{NameOp}
use Rattle.stat_defs.specs.Changes.{at_of, id_of, NeverFalls}

-- changes of metric 0 that the entries past so many made, in a log that is now so long
pub record AreNoted (before after : ℕ) (more : List NameOp) : Type 0 where
  pub late : All (λ c. before < at_of c) more
  pub within : All (λ c. at_of c ≤ after) more
  pub rising : NeverFalls more
  pub first : All (λ c. id_of c ≡ 0) more
