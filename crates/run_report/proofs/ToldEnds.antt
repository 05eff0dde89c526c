-- Ends that are told in place of others, one after another.
use Rattle.std.proofs.Common.{◌≡◌, ◌<◌, ℕ, zero, suc, Option, None, Some, List, [], ◌∷◌, length, take, get_or, slice_set, refl, ap, arith}
use Rattle.stat_defs.specs.declared.reports.WorkerEnd.{WorkerEnd}
use Rattle.run_report.specs.Opened.{told_or, with_told}

-- one end more is told
pub some_told : (told : List (Option WorkerEnd)) (ends : List WorkerEnd) (i : ℕ) (any : Option WorkerEnd)
    (end : WorkerEnd) → i < length told → get_or told i any ≡ Some end
    → with_told (take (suc i) told) ends ≡ slice_set (with_told (take i told) ends) i end
some_told [] ends i any end within is = absurd (omega (arith, within))
some_told (t ∷ ts) [] zero any end within is = refl
some_told (t ∷ ts) [] (suc i) any end within is = refl
some_told (t ∷ ts) (e ∷ es) zero any end within is = ap (λ (o : Option WorkerEnd). told_or o e ∷ es) is
some_told (t ∷ ts) (e ∷ es) (suc i) any end within is =
    ap (λ (l : List WorkerEnd). told_or t e ∷ l) (some_told ts es i any end (omega (arith, within)) is)

-- where none is told, the ends stay
pub none_told : (told : List (Option WorkerEnd)) (ends : List WorkerEnd) (i : ℕ) (any : Option WorkerEnd)
    → i < length told → get_or told i any ≡ None
    → with_told (take (suc i) told) ends ≡ with_told (take i told) ends
none_told [] ends i any within is = absurd (omega (arith, within))
none_told (t ∷ ts) [] zero any within is = refl
none_told (t ∷ ts) [] (suc i) any within is = refl
none_told (t ∷ ts) (e ∷ es) zero any within is = ap (λ (o : Option WorkerEnd). told_or o e ∷ es) is
none_told (t ∷ ts) (e ∷ es) (suc i) any within is =
    ap (λ (l : List WorkerEnd). told_or t e ∷ l) (none_told ts es i any (omega (arith, within)) is)

-- they are as many as before
pub as_many_told : (told : List (Option WorkerEnd)) (ends : List WorkerEnd)
    → length (with_told told ends) ≡ length ends
as_many_told [] ends = refl
as_many_told (t ∷ ts) [] = refl
as_many_told (t ∷ ts) (e ∷ es) = ap suc (as_many_told ts es)
