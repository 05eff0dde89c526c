-- Numbers of which none stands twice.
use Rattle.std.proofs.Common.{◌≡◌, ◌<◌, ◌+◌, ℕ, nat_eq, Bool, true, false, ◌||◌, if◌then◌else◌, List, [], ◌∷◌, ◌++◌, length, take, drop, get_or, refl, sym, ap, subst, ◌∙◌, true≢false}
use Rattle.std.proofs.lemmas.Cmp.{nat_eq_equiv}
use Rattle.std.proofs.lemmas.List.{append_assoc, take_more, take-append-drop}
use Rattle.std.proofs.lemmas.List.Folds.{list_any-append}
use Rattle.std.specs.List.{list_any}
use Rattle.indexmap.specs.IndexSet.{insert_key}
use Rattle.book_state.specs.Bearing.{has, NoDoubles}

middle : (a b c : Bool) → (a || (b || c)) ≡ false → b ≡ false
middle true b c none = absurd (true≢false none)
middle false true c none = absurd (true≢false none)
middle false false c none = refl

-- what stands behind others is none of them
apart_front : (ks rest : List ℕ) (x : ℕ) → NoDoubles (ks ++ x ∷ rest) → has x ks ≡ false
apart_front [] rest x all = refl
apart_front (k ∷ ks) rest x all =
    let other = middle (has k ks) (nat_eq k x) (has k rest) (sym (list_any-append (nat_eq k) ks (x ∷ rest)) ∙ all.0) in
    let others = apart_front ks rest x all.1 in
    λ i. (nat_eq_equiv.symm x k ∙ other) i || others i

-- a number that is new is put last
pub new_last : (ks : List ℕ) (x : ℕ) → has x ks ≡ false → insert_key nat_eq ks x ≡ ks ++ x ∷ []
new_last ks x new = ap (λ b. if b then ks else ks ++ x ∷ []) new

-- the number at a place is none of those before it
pub new_at : (xs : List ℕ) (i : ℕ) → i < length xs → NoDoubles xs → has (get_or xs i 0) (take i xs) ≡ false
new_at xs i within all =
    let x = get_or xs i 0 in
    let split : take i xs ++ x ∷ drop (i + 1) xs ≡ xs =
    sym (append_assoc (take i xs) (x ∷ []) (drop (i + 1) xs))
    ∙ (ap (λ front. front ++ drop (i + 1) xs) (sym (take_more xs i 0 within)) ∙ take-append-drop (i + 1) xs) in
    apart_front (take i xs) (drop (i + 1) xs) x (subst NoDoubles (sym split) all)

-- a slice is asked whether it has a number as a list is
pub asked : (ks : List ℕ) (x : ℕ) → list_any (λ y. nat_eq y x) ks ≡ has x ks
asked ks x = λ i. list_any (λ y. nat_eq_equiv.symm y x i) ks
