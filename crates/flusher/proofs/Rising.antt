-- Places that rise, and one more above all of them.
use Rattle.std.proofs.Common.{◌≡◌, ℕ, zero, suc, ◌+◌, ◌<◌, List, [], ◌∷◌, ◌++◌, map, arith}
use Rattle.std.specs.List.{AllByRecursion}
use Rattle.std.specs.List.Sorted.{IsStrictlyIncreasing}

-- the rest of rising numbers rises
tail-rises : (x : ℕ) (xs : List ℕ) → IsStrictlyIncreasing (x ∷ xs) → IsStrictlyIncreasing xs
tail-rises x xs rising k short = let next : suc k + 1 ≡ suc (k + 1) = omega arith in rw next at (rising (suc k) (omega arith))

-- a number above all of them
pub rises-more : {X : Type 0} (f : X → ℕ) (xs : List X) (a : ℕ) → AllByRecursion (λ x. f x < a) xs → IsStrictlyIncreasing (map f xs) → IsStrictlyIncreasing (map f xs ++ a ∷ [])
rises-more f [] a below rising k short = absurd (omega (arith, short))
rises-more f (x ∷ []) a below rising zero short = below.0
rises-more f (x ∷ []) a below rising (suc k) short = absurd (omega (arith, short))
rises-more f (x ∷ y ∷ xs) a below rising zero short = rising 0 (omega arith)
rises-more f (x ∷ y ∷ xs) a below rising (suc k) short =
    let next : suc k + 1 ≡ suc (k + 1) = omega arith in
    let rest = rises-more f (y ∷ xs) a below.1 (tail-rises (f x) (f y ∷ map f xs) rising) k (omega (arith, short)) in
    rw next rest
