-- What each match of a part needs, a match of the whole needs.
use Rattle.std.proofs.Common.{◌≡◌, ℕ, zero, suc, ◌+◌, ◌<◌, List, [], ◌∷◌, ◌++◌, length, get_or, map, sym, subst, arith, inl, inr}
use Rattle.std.proofs.lemmas.Bool.{both_ways}
use Rattle.std.proofs.lemmas.List.{length-append, get_or_append_left, get_or-append-add}
use Rattle.regex_class.proofs.RangesLemmas.{in_ranges-nil}
use Rattle.regex_hir.specs.declared.hir.Hir.{Hir}
use Rattle.regex_hir.specs.Meaning.{meaning, cat_all, alt_all}
use Rattle.regex_literal.specs.Find.{OccursAt}
use Rattle.tag_rules.specs.Starts.{HoldsOne, Needs}

-- a match of parts one after another has a match of each
pub needs_part : (parts : List Hir) (k : ℕ) (d : Hir) (needles : List (List ℕ)) → k < length parts →
    Needs (meaning (get_or parts k d)) needles → Needs (cat_all (map meaning parts)) needles
needs_part [] k d needles below needs = absurd (omega (arith, below))
needs_part (part ∷ parts) zero d needles below needs = λ hay bytes i j m. needs hay bytes i m.0 m.1
needs_part (part ∷ parts) (suc k) d needles below needs =
    λ hay bytes i j m. needs_part parts k d needles (omega (arith, below)) needs hay bytes m.0 j m.2

-- each of these branches needs them
abbrev pub AllNeed : List Hir → ℕ → List (List ℕ) → Type 0
AllNeed branches n needles = (k : ℕ) (d : Hir) → k < n → Needs (meaning (get_or branches k d)) needles

-- a match of one of the branches is a match of the whole, and it has no other
pub needs_branches : (branches : List Hir) (needles : List (List ℕ)) → AllNeed branches (length branches) needles →
    Needs (alt_all (map meaning branches)) needles
needs_branches [] needles needs = λ hay bytes i j m. absurd (both_ways _ (in_ranges-nil m.0) m.2)
needs_branches (branch ∷ branches) needles needs = λ hay bytes i j m. elim m [
  | inl first ↦ needs 0 branch (omega arith) hay bytes i j first
  | inr other ↦ needs_branches branches needles (λ k d below. needs (suc k) d (omega (arith, below))) hay bytes i j other
]

-- what holds one of some needles holds one of more
pub holds_left : (hay : List ℕ) (xs ys : List (List ℕ)) → HoldsOne hay xs → HoldsOne hay (xs ++ ys)
holds_left hay xs ys h =
    let found : get_or (xs ++ ys) h.1.0 [] ≡ get_or xs h.1.0 [] = get_or_append_left xs ys [] h.1.0 h.1.1 in
    (h.0, (h.1.0, omega (arith, h.1.1, length-append xs ys), subst (λ needle. OccursAt hay needle h.0) (sym found) h.1.2))

pub holds_right : (hay : List ℕ) (xs ys : List (List ℕ)) → HoldsOne hay ys → HoldsOne hay (xs ++ ys)
holds_right hay xs ys h =
    let found : get_or (xs ++ ys) (length xs + h.1.0) [] ≡ get_or ys h.1.0 [] = get_or-append-add xs ys h.1.0 [] in (
      h.0,
      (
        length xs + h.1.0,
        omega (arith, h.1.1, length-append xs ys),
        subst (λ needle. OccursAt hay needle h.0) (sym found) h.1.2,
      ),
    )

pub needs_more : (branches : List Hir) (n : ℕ) (xs ys : List (List ℕ)) → AllNeed branches n xs → AllNeed branches n (xs ++ ys)
needs_more branches n xs ys needs = λ k d below hay bytes i j m. holds_left hay xs ys (needs k d below hay bytes i j m)
