-- The live scope of a label, as scopes are opened and closed.
use Rattle.std.proofs.Common.{◌≡◌, ◌≢◌, ℕ, zero, suc, ◌+◌, ◌&&◌, Bool, true, false, cond, Option, Some, None, List, [], ◌∷◌, ◌++◌, length, map, nat_eq, slice_get, refl, ap, sym, ◌∙◌, subst, arith, inl, inr, zero-add}
use Rattle.std.specs.HashMap.{Updates, get}
use Rattle.std.specs.Cmp.Lexicographic.{pointwise}
use Rattle.std.proofs.Math.Bool.{and-false}
use Rattle.std.proofs.lemmas.Slice.Eq.{bytes_eq-Decides}
use Rattle.book_state.specs.declared.scopes.ScopeTable.TheInside.{Inside}
use Rattle.std.specs.List.{position_from}
use Rattle.book_state.specs.State.{Scope, same_text, live_in}
use Rattle.book_state.specs.Step.{change_at}
use Rattle.book_state.specs.Scopes.{ScopeView, scope_of_view, opened, emptied, bearing}
use Rattle.book_state.specs.ScopesKept.{Kept, shown}
use Rattle.book_state.proofs.Lists.{eq_or, some_same, true_false, not_true, both, get_push_last, get_push_before, get_change_same, get_change_other, map_some, or_else, position_push, position_found, position_none, position_change, position_map}

-- the same look-up in the scopes as they are stored
abbrev live_at : List ScopeView → List ℕ → Option ℕ
live_at scopes label = position_from (λ scope. scope.live && same_text scope.label label) 0 scopes

live_is : (scopes : List ScopeView) (label : List ℕ) → live_in (map scope_of_view scopes) label ≡ live_at scopes label
live_is scopes label = position_map (λ scope. scope.live && same_text scope.label label) scope_of_view 0 scopes

abbrev Found : List ScopeView → Type 0
Found scopes = (i : ℕ) (scope : ScopeView) → slice_get scopes i ≡ Some scope → scope.live ≡ true → live_at scopes scope.label ≡ Some i

abbrev is_live_as : List ℕ → ScopeView → Bool
is_live_as label scope = scope.live && same_text scope.label label

-- the scope that a look-up finds
scope_found : (scopes : List ScopeView) (label : List ℕ) (id : ℕ) → live_at scopes label ≡ Some id
    → (scope : ScopeView) × (slice_get scopes id ≡ Some scope) × (scope.live ≡ true) × (scope.label ≡ label)
scope_found scopes label id hit =
    let got = position_found (is_live_as label) 0 scopes id hit in
    let place : got.0 ≡ id = omega (arith, got.2) in
    let parts = both got.1.live (same_text got.1.label label) got.4 in
    (got.1, subst (λ (i : ℕ). slice_get scopes i ≡ Some got.1) place got.3, parts.0, (bytes_eq-Decides got.1.label label).0 parts.1)

pub scope_at : (scopes : List ScopeView) (label : List ℕ) (id : ℕ) → live_in (map scope_of_view scopes) label ≡ Some id
    → (scope : ScopeView) × (slice_get scopes id ≡ Some scope) × (scope.live ≡ true) × (scope.label ≡ label)
scope_at scopes label id hit = scope_found scopes label id (sym (live_is scopes label) ∙ hit)

new_label : (t : Bool) (id : ℕ) (o : Option ℕ) → (t ≡ true → o ≡ None) → or_else o (cond t (Some (0 + id)) None) ≡ cond t (Some id) o
new_label true id o none = rw (none refl, zero-add id) refl
new_label false id None none = refl
new_label false id (Some i) none = refl

module _ (scopes : List ScopeView) (label prefix : List ℕ) (free : live_at scopes label ≡ None) where
  live_opened : (q : List ℕ) → live_at (scopes ++ opened label prefix ∷ []) q ≡ cond (pointwise nat_eq label q) (Some (length scopes)) (live_at scopes q)
  live_opened q = position_push (is_live_as q) 0 scopes (opened label prefix)
      ∙ new_label (pointwise nat_eq label q) (length scopes) (live_at scopes q) (λ t. subst (λ (l : List ℕ). live_at scopes l ≡ None) ((bytes_eq-Decides label q).0 t) free)

  found_opened : Found scopes → Found (scopes ++ opened label prefix ∷ [])
  found_opened found i scope at live = elim (eq_or i (length scopes)) [
    | inl last ↦
        let is = some_same (opened label prefix) scope (sym (get_push_last scopes (opened label prefix) i last) ∙ at) in
        let l : scope.label ≡ label = ap (λ (s : ScopeView). s.label) (sym is) in
        rw (l, live_opened label, (bytes_eq-Decides label label).1 refl, last) refl
    | inr before ↦
        let old = found i scope (sym (get_push_before scopes (opened label prefix) i before) ∙ at) live in
        position_push (is_live_as scope.label) 0 scopes (opened label prefix) ∙ rw old refl
  ]

found_in : (b : Inside) → Kept b → Found (shown b)
found_in b kept i scope at live = sym (live_is (shown b) scope.label) ∙ kept.found i scope at live

pub opened_kept : (b b' : Inside) (label prefix : List ℕ) → live_in (map scope_of_view (shown b)) label ≡ None → shown b' ≡ shown b ++ opened label prefix ∷ []
    → Updates (pointwise nat_eq) b.live b'.live label (Some (length (shown b))) → Kept b → Kept b'
opened_kept b b' label prefix free rows live kept = let none = sym (live_is (shown b) label) ∙ free in record {
  indexed = λ q. live.0 q ∙ (ap (λ (o : Option ℕ). cond (pointwise nat_eq label q) (Some (length (shown b))) o) (kept.indexed q ∙ live_is (shown b) q)
      ∙ (sym (live_opened (shown b) label prefix none q) ∙ (ap (λ (s : List ScopeView). live_at s q) (sym rows) ∙ sym (live_is (shown b') q))));
  found = λ i scope at alive. live_is (shown b') scope.label ∙ subst Found (sym rows) (found_opened (shown b) label prefix none (found_in b kept)) i scope at alive;
}

module _ (scopes : List ScopeView) (label : List ℕ) (id : ℕ) (hit : live_at scopes label ≡ Some id) (found : Found scopes) where
  -- no scope that is left live has the label
  other_label : (i : ℕ) (scope : ScopeView) → i ≢ id → slice_get scopes i ≡ Some scope → scope.live ≡ true → scope.label ≡ label → ⊥
  other_label i scope other at live is =
      other (some_same i id (sym (found i scope at live) ∙ (ap (λ (l : List ℕ). live_at scopes l) is ∙ hit)))

  -- the scope that is closed is dead
  is_dead : (i : ℕ) (scope : ScopeView) → i ≡ id → slice_get (change_at emptied id scopes) i ≡ Some scope → scope.live ≡ false
  is_dead i scope here at =
      let was = map_some emptied (slice_get scopes id) scope (sym (get_change_same emptied id scopes) ∙ (ap (λ (k : ℕ). slice_get (change_at emptied id scopes) k) (sym here) ∙ at)) in
      ap (λ (s : ScopeView). s.live) was.2

  none_live : (q : List ℕ) → label ≡ q → (i : ℕ) (scope : ScopeView) → slice_get (change_at emptied id scopes) i ≡ Some scope → is_live_as q scope ≡ false
  none_live q is i scope at = elim (eq_or i id) [
    | inl here ↦ rw (is_dead i scope here at) refl
    | inr other ↦ not_true (is_live_as q scope) (λ t.
        let parts = both scope.live (same_text scope.label q) t in
        other_label i scope other (sym (get_change_other emptied id scopes i other) ∙ at) parts.0 ((bytes_eq-Decides scope.label q).0 parts.1 ∙ sym is))
  ]

  live_step : (q : List ℕ) (t : Bool) → pointwise nat_eq label q ≡ t → live_at (change_at emptied id scopes) q ≡ cond t None (live_at scopes q)
  live_step q true e = position_none (is_live_as q) 0 (change_at emptied id scopes) (none_live q ((bytes_eq-Decides label q).0 e))
  live_step q false e = position_change (is_live_as q) emptied 0 id scopes (λ scope at.
      let was = scope_found scopes label id hit in
      let l : scope.label ≡ label = ap (λ (s : ScopeView). s.label) (some_same scope was.0 (sym at ∙ was.1)) ∙ was.3 in
      let no : same_text scope.label q ≡ false = rw l e in
      sym (rw no (and-false scope.live)))

  live_emptied : (q : List ℕ) → live_at (change_at emptied id scopes) q ≡ cond (pointwise nat_eq label q) None (live_at scopes q)
  live_emptied q = live_step q (pointwise nat_eq label q) refl

  found_emptied : Found (change_at emptied id scopes)
  found_emptied i scope at live = elim (eq_or i id) [
    | inl here ↦ absurd (true_false (sym live ∙ is_dead i scope here at))
    | inr other ↦
        let old_at = sym (get_change_other emptied id scopes i other) ∙ at in
        let no : pointwise nat_eq label scope.label ≡ false = not_true (pointwise nat_eq label scope.label) (λ t. other_label i scope other old_at live (sym ((bytes_eq-Decides label scope.label).0 t))) in
        live_step scope.label false no ∙ found i scope old_at live
  ]

pub closed_kept : (b b' : Inside) (label : List ℕ) (id : ℕ) → live_in (map scope_of_view (shown b)) label ≡ Some id → shown b' ≡ change_at emptied id (shown b)
    → Updates (pointwise nat_eq) b.live b'.live label None → Kept b → Kept b'
closed_kept b b' label id at rows live kept = let hit = sym (live_is (shown b) label) ∙ at in record {
  indexed = λ q. live.0 q ∙ (ap (λ (o : Option ℕ). cond (pointwise nat_eq label q) None o) (kept.indexed q ∙ live_is (shown b) q)
      ∙ (sym (live_emptied (shown b) label id hit (found_in b kept) q) ∙ (ap (λ (s : List ScopeView). live_at s q) (sym rows) ∙ sym (live_is (shown b') q))));
  found = λ i scope here alive. live_is (shown b') scope.label ∙ subst Found (sym rows) (found_emptied (shown b) label id hit (found_in b kept)) i scope here alive;
}

-- what a scope bears is no part of its label
pub shown_bearing : (metric id : ℕ) (scopes : List ScopeView) → map scope_of_view (change_at (bearing metric) id scopes) ≡ map scope_of_view scopes
shown_bearing metric id [] = refl
shown_bearing metric zero (x ∷ xs) = refl
shown_bearing metric (suc id) (x ∷ xs) = ap (λ l. scope_of_view x ∷ l) (shown_bearing metric id xs)

-- a scope as it was before it bore a metric more
pub scope_before : (metric id i : ℕ) (scopes : List ScopeView) (scope : ScopeView) → slice_get (change_at (bearing metric) id scopes) i ≡ Some scope
    → (was : ScopeView) × (slice_get scopes i ≡ Some was) × (scope_of_view scope ≡ scope_of_view was)
scope_before metric id i scopes scope at = elim (eq_or i id) [
  | inl same ↦
      let was = map_some (bearing metric) (slice_get scopes id) scope
      (sym (get_change_same (bearing metric) id scopes) ∙ (ap (λ (k : ℕ). slice_get (change_at (bearing metric) id scopes) k) (sym same) ∙ at)) in
      (was.0, ap (λ (k : ℕ). slice_get scopes k) same ∙ was.1, ap scope_of_view was.2)
  | inr other ↦ (scope, sym (get_change_other (bearing metric) id scopes i other) ∙ at, refl)
]

pub bearing_kept : (b b' : Inside) (metric id : ℕ) → shown b' ≡ change_at (bearing metric) id (shown b) → b'.live ≡ b.live → Kept b → Kept b'
bearing_kept b b' metric id rows live kept = let same = ap (λ (l : List ScopeView). map scope_of_view l) rows ∙ shown_bearing metric id (shown b) in record {
  indexed = λ q. ap (λ m. get (pointwise nat_eq) m q) live ∙ (kept.indexed q ∙ ap (λ (l : List Scope). live_in l q) (sym same));
  found = λ i scope at alive.
      let was = scope_before metric id i (shown b) scope (ap (λ (l : List ScopeView). slice_get l i) (sym rows) ∙ at) in
      ap (λ (l : List Scope). live_in l scope.label) same
      ∙ (ap (λ (s : Scope). live_in (map scope_of_view (shown b)) s.label) was.2 ∙ kept.found i was.0 was.1 (ap (λ (s : Scope). s.live) (sym was.2) ∙ alive));
}

pub same_kept : (b b' : Inside) → shown b' ≡ shown b → b'.live ≡ b.live → Kept b → Kept b'
same_kept b b' rows live kept = record {
  indexed = λ q. ap (λ m. get (pointwise nat_eq) m q) live ∙ (kept.indexed q ∙ ap (λ (l : List ScopeView). live_in (map scope_of_view l) q) (sym rows));
  found = λ i scope at alive. ap (λ (l : List ScopeView). live_in (map scope_of_view l) scope.label) rows ∙ kept.found i scope (ap (λ (l : List ScopeView). slice_get l i) (sym rows) ∙ at) alive;
}
