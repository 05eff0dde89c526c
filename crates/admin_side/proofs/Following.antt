-- Changes that are known, and those that go on from them.
use Rattle.std.proofs.Common.{◌≡◌, ℕ, zero, suc, ◌+◌, List, [], ◌∷◌, ◌++◌, length, drop, slice_get, Some, ◌-◌, refl, ap, sym, ◌∙◌, arith}
use Rattle.std.specs.Option.{option_map_or}
use Rattle.std.proofs.lemmas.Option.{none-some}
use Rattle.stat_defs.specs.declared.history.NameOp.{NameOp}
use Rattle.stat_defs.specs.Changes.{at_of, GoesOnLater}
use Rattle.name_changes.specs.Changes.{newest_from}

-- what is past the known ones stands behind them
pub goes-past : (known all : List NameOp) → GoesOnLater known all → all ≡ known ++ drop (length known) all
goes-past known all g = g.1 ∙ ap (λ l. known ++ l) (sym (ap (drop (length known)) g.1 ∙ past known g.0)) where
  past : (xs ys : List NameOp) → drop (length xs) (xs ++ ys) ≡ ys
  past [] ys = refl
  past (x ∷ xs) ys = past xs ys

pub newest-both : (at : ℕ) (xs ys : List NameOp) → newest_from at (xs ++ ys) ≡ newest_from (newest_from at xs) ys
newest-both at [] ys = refl
newest-both at (x ∷ xs) ys = newest-both (at_of x) xs ys

newest-at : (at : ℕ) (cs : List NameOp) (c : NameOp) (n : ℕ) → n + 1 ≡ length cs → slice_get cs n ≡ Some c → newest_from at cs ≡ at_of c
newest-at at [] c n e is = absurd (omega (arith, e))
newest-at at (x ∷ []) c zero e is = ap at_of (ap (λ o. option_map_or (λ y. y) o c) is)
newest-at at (x ∷ y ∷ cs) c zero e is = absurd (omega (arith, e))
newest-at at (x ∷ cs) c (suc n) e is = newest-at (at_of x) cs c n (omega (arith, e)) is

pub newest-end : (at : ℕ) (cs : List NameOp) (c : NameOp) → slice_get cs (length cs - 1) ≡ Some c → newest_from at cs ≡ at_of c
newest-end at [] c is = absurd (none-some c is)
newest-end at (x ∷ cs) c is = newest-at at (x ∷ cs) c (length (x ∷ cs) - 1) (omega arith) is
