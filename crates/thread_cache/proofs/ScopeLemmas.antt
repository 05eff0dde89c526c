-- Scopes without those that were dropped.
use Rattle.std.proofs.Common.{◌≡◌, ◌==◌, ◌<◌, ◌≤◌, ◌+◌, ◌⊎◌, ℕ, suc, min, Bool, true, false, not, is_some, Option, Some, None, List, [], ◌∷◌, cond, length, get_or, drop, slice_get, refl, sym, ap, subst, ◌∙◌, arith, inl, inr, rules, add-one}
use Rattle.std.specs.Cmp.{IsEquivalence}
use Rattle.std.specs.List.{filter, IsDistinct}
use Rattle.std.specs.Map.{keys_of, lookup, set_value}
use Rattle.std.specs.Option.{option_map_or}
use Rattle.std.proofs.Math.Seq.{drop-cons}
use Rattle.std.proofs.lemmas.Bool.{not-true, eqb-true}
use Rattle.std.proofs.lemmas.Cmp.{nat_eq_equiv}
use Rattle.std.proofs.lemmas.Option.{same_Some, slice_get-get_or}
use Rattle.std.proofs.lemmas.Map.Entries.{option_filter, lookup-filter-values}
use Rattle.stat_defs.specs.declared.ids.ScopeId.{ScopeId}
use Rattle.thread_cache.specs.declared.scopes.ScopeEntries.{ScopeEntries}
use Rattle.thread_cache.specs.Scopes.{is_live, is_listed, entries_at}

pub same_scope : ScopeId → ScopeId → Bool
same_scope a b = a.0 == b.0

pub scope_equiv : IsEquivalence (λ (a b : ScopeId). a.0 == b.0)
scope_equiv = record { refl = λ x. nat_eq_equiv.refl x.0; symm = λ x y. nat_eq_equiv.symm x.0 y.0; congr = λ x y z. nat_eq_equiv.congr x.0 y.0 z.0 }

abbrev pub stays : ScopeEntries → Bool
stays entries = not entries.dropped

live_after : (r : Option ScopeEntries) → option_map_or stays (option_filter stays r) false ≡ option_map_or stays r false
live_after None = refl
live_after (Some entries) = grind (rules)

listed_after : (r : Option ScopeEntries) → is_some (option_filter stays r) ≡ option_map_or stays r false
listed_after None = refl
listed_after (Some entries) = grind (rules)

module _ (scopes : List (ScopeId × ScopeEntries)) (unique : IsDistinct (λ (a b : ScopeId). a.0 == b.0) (keys_of scopes)) (s : ScopeId) where
  kept : entries_at (filter (λ e. stays e.1) scopes) s ≡ option_filter stays (entries_at scopes s)
  kept = lookup-filter-values scope_equiv stays s scopes unique

  pub is_live-kept : is_live (filter (λ e. stays e.1) scopes) s ≡ is_live scopes s
  is_live-kept = ap (λ r. option_map_or stays r false) kept ∙ live_after (entries_at scopes s)

  pub is_listed-kept : is_listed (filter (λ e. stays e.1) scopes) s ≡ is_live scopes s
  is_listed-kept = ap is_some kept ∙ listed_after (entries_at scopes s)

-- a value that is written leaves the same scopes listed
pub is_listed-written : (test : ScopeId → Bool) (w : ScopeEntries) (s : ScopeId) (scopes : List (ScopeId × ScopeEntries))
    → is_listed (set_value test scopes w) s ≡ is_listed scopes s
is_listed-written test w s [] = refl
is_listed-written test w s (e ∷ es) = by (test e.0) (s.0 == e.0.0) (is_listed-written test w s es)
  where
    by : (b t : Bool) → is_listed (set_value test es w) s ≡ is_listed es s
        → is_some (lookup (λ x. s.0 == x.0) (cond b ((e.0, w) ∷ es) (e ∷ set_value test es w))) ≡ is_some (cond (s.0 == e.0.0) (Some e.1) (entries_at es s))
    by true t rest = head (s.0 == e.0.0)
      where
        head : (t : Bool) → is_some (cond t (Some w) (entries_at es s)) ≡ is_some (cond t (Some e.1) (entries_at es s))
        head true = refl
        head false = refl
    by false t rest = head (s.0 == e.0.0)
      where
        head : (t : Bool) → is_some (cond t (Some e.1) (entries_at (set_value test es w) s)) ≡ is_some (cond t (Some e.1) (entries_at es s))
        head true = refl
        head false = rest

-- a value that is written, dropped where the one before was, leaves the same scopes live
pub is_live-written : (test : ScopeId → Bool) (w was : ScopeEntries) (s : ScopeId) (scopes : List (ScopeId × ScopeEntries))
    → lookup test scopes ≡ Some was → w.dropped ≡ was.dropped → is_live (set_value test scopes w) s ≡ is_live scopes s
is_live-written test w was s [] found same = refl
is_live-written test w was s (e ∷ es) found same = by (test e.0) found (is_live-written test w was s es)
  where
    by : (b : Bool) → cond b (Some e.1) (lookup test es) ≡ Some was
        → (lookup test es ≡ Some was → w.dropped ≡ was.dropped → is_live (set_value test es w) s ≡ is_live es s)
        → option_map_or stays (lookup (λ x. s.0 == x.0) (cond b ((e.0, w) ∷ es) (e ∷ set_value test es w))) false ≡ option_map_or stays (cond (s.0 == e.0.0) (Some e.1) (entries_at es s)) false
    by true here rest = head (s.0 == e.0.0)
      where
        head : (t : Bool) → option_map_or stays (cond t (Some w) (entries_at es s)) false ≡ option_map_or stays (cond t (Some e.1) (entries_at es s)) false
        head true = ap not (same ∙ sym (ap (λ (x : ScopeEntries). x.dropped) (same_Some e.1 was here)))
        head false = refl
    by false there rest = head (s.0 == e.0.0)
      where
        head : (t : Bool) → option_map_or stays (cond t (Some e.1) (entries_at (set_value test es w) s)) false ≡ option_map_or stays (cond t (Some e.1) (entries_at es s)) false
        head true = refl
        head false = rest there same

-- no live scope that is listed before a place is below a number
abbrev pub IsLeastBefore : ℕ → ℕ → List (ScopeId × ScopeEntries) → Type 0
IsLeastBefore least at scopes = (s : ScopeId) → is_live scopes s ≡ true → (least ≤ s.0) ⊎ (is_live (drop at scopes) s ≡ true)

pub least_with : (least number at : ℕ) (scopes : List (ScopeId × ScopeEntries)) → at < length scopes
    → ((e : ScopeId × ScopeEntries) → slice_get scopes at ≡ Some e → e.1.dropped ≡ false → number ≡ e.0.0)
    → IsLeastBefore least at scopes → IsLeastBefore (min least number) (at + 1) scopes
least_with least number at scopes short is before s live = elim (before s live) [
  | inl low ↦ inl (omega (arith, low))
  | inr rest ↦ here (s.0 == e.0.0) refl (subst (λ es. is_live es s ≡ true) (drop-cons scopes at none short) rest)
]
  where
    none : ScopeId × ScopeEntries
    none = (record { 0 = 0 }, record { dropped = false; count = 0 })

    e : ScopeId × ScopeEntries
    e = get_or scopes at none

    here : (t : Bool) → (s.0 == e.0.0) ≡ t → option_map_or stays (cond t (Some e.1) (entries_at (drop (suc at) scopes) s)) false ≡ true
        → (min least number ≤ s.0) ⊎ (is_live (drop (at + 1) scopes) s ≡ true)
    here true same stands =
        let first = is e (slice_get-get_or scopes at none short) (not-true e.1.dropped stands) in
        let mine = eqb-true s.0 e.0.0 same in
        inl (omega (arith, first, mine))
    here false other later = inr (rw add-one later)
