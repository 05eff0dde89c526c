-- Lists whose members are numbered.
use Rattle.std.proofs.Common.{◌≡◌, ◌+◌, ℕ, suc, List, [], ◌∷◌, ◌++◌, length, subst, arith}
use Rattle.ledger.specs.Lists.{EachNumbered}

-- one member more, with the number behind the last one
pub one_more : {X : Type 0} (P : ℕ → X → Type 0) (n k : ℕ) (xs : List X) (x : X) → EachNumbered P n xs → k ≡ n + length xs → P k x → EachNumbered P n (xs ++ x ∷ [])
one_more P n k [] x each at here = (subst (λ m. P m x) (omega (arith, at)) here, tt)
one_more P n k (y ∷ xs) x each at here = (each.0, one_more P (suc n) k xs x each.1 (omega (arith, at)) here)
