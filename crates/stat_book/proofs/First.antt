-- A new book, and the openings of the configured scopes.
use Rattle.std.proofs.Common.{◌≡◌, ◌≢◌, ℕ, zero, suc, ◌+◌, ◌<◌, ◌≤◌, ◌&&◌, ◌==◌, List, [], ◌∷◌, ◌++◌, true, false, Option, Some, None, length, map, take, get_or, slice_get, All, refl, ap, sym, ◌∙◌, subst, arith, inl, append_assoc, append-nil}
use Rattle.std.specs.List.{position_from, AllPairs}
use Rattle.std.specs.FinMap as table
use Rattle.std.specs.Ordering.{nat_cmp}
use Rattle.std.proofs.lemmas.List.{length-map, length-take, get_or-take}
use Rattle.std.proofs.lemmas.List.Sums.{count_by-le-length}
use Rattle.std.proofs.lemmas.List.Elements.{All-nil, All-cons, All-head, All-tail, All-from_get_or}
use Rattle.std.proofs.lemmas.Slice.Eq.{bytes_eq-Decides}
use Rattle.stat_defs.specs.Books.{releases_in, is_released}
use Rattle.stat_defs.specs.Configs.{IsConfig, IsScopeSpec}
use Rattle.stat_defs.specs.declared.configs.Config.{Config}
use Rattle.stat_defs.specs.declared.configs.ScopeSpec.{ScopeSpec}
use Rattle.stat_defs.specs.declared.configs.TagSpec.{TagSpec}
use Rattle.stat_defs.specs.declared.history.Entry.{Entry}
use Rattle.symbol_table.specs.Table.{Table, total, uses_at, IsTable}
use Rattle.book_state.specs.declared.limits.TheConstants.{MAX_WORKERS}
use Rattle.book_state.specs.State.{NameRules, State, Scope, live_scope, same_text, symbols_in}
use Rattle.book_state.specs.Log.{empty, openings, replay_from, replay, Run}
use Rattle.book_state.specs.Stored.{StateView, IsLawfulCall, drawing, after_entry, released_in}
use Rattle.book_state.proofs.Lists.{not_some, not_true, all_at, map_some, get_map, position_none, count_cons}
use Rattle.book_state.proofs.Growing.{replayed, runs_on}
use Rattle.book_state.proofs.Entering.{same_replay_from, drawn}
use Rattle.stat_book.specs.Appending.{first_entry}
use Rattle.stat_book.specs.Calls.{rules_of, new_book, is_opening}
use Rattle.stat_book.specs.Symbols.{AreUses}
use Rattle.stat_book.specs.BookKept.{IsKept}
use Rattle.stat_book.proofs.Keeping.{tags_are}

openings_push : (id : ℕ) (scopes : List ScopeSpec) (scope : ScopeSpec) → openings id (scopes ++ scope ∷ []) ≡ openings id scopes ++ first_entry (id + length scopes) scope ∷ []
openings_push id [] scope = let e : id ≡ id + 0 = omega arith in ap (λ (n : ℕ). first_entry n scope ∷ []) e
openings_push id (first ∷ scopes) scope =
    let e : suc id + length scopes ≡ id + length (first ∷ scopes) = omega arith in
    ap (λ (log : List Entry). first_entry id first ∷ log) (openings_push (suc id) scopes scope ∙ ap (λ (n : ℕ). openings (suc id) scopes ++ first_entry n scope ∷ []) e)

length-openings : (id : ℕ) (scopes : List ScopeSpec) → length (openings id scopes) ≡ length scopes
length-openings id [] = refl
length-openings id (scope ∷ scopes) = ap suc (length-openings (suc id) scopes)

abbrev scope_of_spec : ScopeSpec → Scope
scope_of_spec scope = record { label = scope.label; prefix = scope.prefix; live = true }

opened_all : (rules : NameRules) (s : State) (id : ℕ) (scopes : List ScopeSpec) → replay_from rules s (openings id scopes) ≡ record s { scopes = s.scopes ++ map scope_of_spec scopes }
opened_all rules s id [] = ap (λ (l : List Scope). record s { scopes = l }) (sym (append-nil s.scopes))
opened_all rules s id (scope ∷ scopes) =
    opened_all rules (record s { scopes = s.scopes ++ scope_of_spec scope ∷ [] }) (suc id) scopes
    ∙ ap (λ (l : List Scope). record s { scopes = l }) (append_assoc s.scopes (scope_of_spec scope ∷ []) (map scope_of_spec scopes))

-- a label that is configured for no scope so far is not live
no_label : (label : List ℕ) (scopes : List ScopeSpec) → All (λ (scope : ScopeSpec). scope.label ≢ label) scopes
    → position_from (λ (scope : Scope). scope.live && same_text scope.label label) 0 (map scope_of_spec scopes) ≡ None
no_label label scopes different = position_none (λ (scope : Scope). scope.live && same_text scope.label label) 0 (map scope_of_spec scopes) (λ i scope at.
    let from = map_some scope_of_spec (slice_get scopes i) scope (sym (get_map scope_of_spec scopes i) ∙ at) in
    let other = all_at (λ (spec : ScopeSpec). spec.label ≢ label) scopes i from.0 different from.1 in
    let un : same_text from.0.label label ≡ false = not_true (same_text from.0.label label) (λ same. other ((bytes_eq-Decides from.0.label label).0 same)) in
    rw (from.2, un) refl)

-- a configured scope has another label than those before it
pub other_labels : (scopes : List ScopeSpec) (i : ℕ) (scope : ScopeSpec) → AllPairs (λ (one other : ScopeSpec). one.label ≢ other.label) scopes → i < length scopes → scope ≡ get_or scopes i scope
    → All (λ (before : ScopeSpec). before.label ≢ scope.label) (take i scopes)
other_labels scopes i scope different within is = All-from_get_or (λ (before : ScopeSpec). before.label ≢ scope.label) (take i scopes) scope (λ k below.
    let first : k < i = omega (arith, below, length-take i scopes) in
    let other = different k i scope first within in
    rw get_or-take (subst (λ (s : ScopeSpec). (get_or scopes k scope).label ≢ s.label) (sym is) other))

-- the state in which these scopes were opened
abbrev pub first_state : List TagSpec → ℕ → List ScopeSpec → StateView
first_state tags workers scopes = record { tags = tags; state = replay (drawing tags) workers (openings 0 scopes); released = [] }

module _ (rules : NameRules) (workers : ℕ) (scopes : List ScopeSpec) where
  pub first_scopes : (replay rules workers (openings 0 scopes)).scopes ≡ map scope_of_spec scopes
  first_scopes = ap (λ (s : State). s.scopes) (opened_all rules (empty workers) 0 scopes)

  pub first_count : length (replay rules workers (openings 0 scopes)).scopes ≡ length scopes
  first_count = ap length first_scopes ∙ length-map scopes scope_of_spec

  pub first_free : (label : List ℕ) → All (λ (before : ScopeSpec). before.label ≢ label) scopes → live_scope (replay rules workers (openings 0 scopes)) label ≡ None
  first_free label different =
      ap (λ (l : List Scope). position_from (λ (s : Scope). s.live && same_text s.label label) 0 l) first_scopes ∙ no_label label scopes different

  pub first_log : (scope : ScopeSpec) → openings 0 scopes ++ first_entry (length (replay rules workers (openings 0 scopes)).scopes) scope ∷ [] ≡ openings 0 (scopes ++ scope ∷ [])
  first_log scope =
      let e : length (replay rules workers (openings 0 scopes)).scopes ≡ 0 + length scopes = omega (arith, first_count) in
      ap (λ (n : ℕ). openings 0 scopes ++ first_entry n scope ∷ []) e ∙ sym (openings_push 0 scopes scope)

pub first_step : (tags : List TagSpec) (workers : ℕ) (scopes : List ScopeSpec) (scope : ScopeSpec)
    → after_entry (first_state tags workers scopes) (first_entry (length (first_state tags workers scopes).state.scopes) scope) ≡ first_state tags workers (scopes ++ scope ∷ [])
first_step tags workers scopes scope =
    let e = first_entry (length (first_state tags workers scopes).state.scopes) scope in
    let state = sym (replayed (drawing tags) workers (openings 0 scopes) e) ∙ ap (λ (log : List Entry). replay (drawing tags) workers log) (first_log (drawing tags) workers scopes scope) in
    λ i. record { tags = tags; state = state i; released = [] }

-- the openings are steps
first_run : (rules : NameRules) (workers : ℕ) (scopes : List ScopeSpec) (d : ScopeSpec) → AllPairs (λ (one other : ScopeSpec). one.label ≢ other.label) scopes
    → (i : ℕ) → i ≤ length scopes → Run rules (empty workers) (openings 0 (take i scopes))
first_run rules workers scopes d different zero within = tt
first_run rules workers scopes d different (suc i) within =
    let one = i + 1 in
    let scope = get_or scopes i d in
    let below : i < length scopes = omega (arith, within) in
    let before = take i scopes in
    let same : get_or scopes i scope ≡ scope = get_same scopes i d scope below in
    let free = first_free rules workers before scope.label (other_labels scopes i scope different below (sym same)) in
    let more = runs_on rules (empty workers) (openings 0 before) (first_entry (length (replay rules workers (openings 0 before)).scopes) scope)
    (first_run rules workers scopes d different i (omega (arith, within))) (inl refl, free, refl) in
    let taken : before ++ scope ∷ [] ≡ take (suc i) scopes = sym (take_next scopes i d below) in
    subst (λ (l : List ScopeSpec). Run rules (empty workers) (openings 0 l)) taken
    (subst (λ (log : List Entry). Run rules (empty workers) log) (first_log rules workers before scope) more) where
      get_same : (xs : List ScopeSpec) (i : ℕ) (d d' : ScopeSpec) → i < length xs → get_or xs i d' ≡ get_or xs i d
      get_same [] i d d' within = absurd (omega (arith, within))
      get_same (x ∷ xs) zero d d' within = refl
      get_same (x ∷ xs) (suc i) d d' within = get_same xs i d d' (omega (arith, within))

      take_next : (xs : List ScopeSpec) (i : ℕ) (d : ScopeSpec) → i < length xs → take (suc i) xs ≡ take i xs ++ get_or xs i d ∷ []
      take_next [] i d within = absurd (omega (arith, within))
      take_next (x ∷ xs) zero d within = refl
      take_next (x ∷ xs) (suc i) d within = ap (λ (l : List ScopeSpec). x ∷ l) (take_next xs i d (omega (arith, within)))

first_lawful : (id : ℕ) (scopes : List ScopeSpec) → All IsScopeSpec scopes → All (λ (entry : Entry). IsLawfulCall entry.call) (openings id scopes)
first_lawful id [] each = All-nil (λ (entry : Entry). IsLawfulCall entry.call)
first_lawful id (scope ∷ scopes) each = All-cons (λ (entry : Entry). IsLawfulCall entry.call) (first_entry id scope) (openings (suc id) scopes) (All-head IsScopeSpec scope scopes each).prefix
    (first_lawful (suc id) scopes (All-tail IsScopeSpec scope scopes each))

first_released : (id : ℕ) (scopes : List ScopeSpec) → released_in (openings id scopes) ≡ []
first_released id [] = refl
first_released id (scope ∷ scopes) = first_released (suc id) scopes

first_releases : (id : ℕ) (scopes : List ScopeSpec) → releases_in (openings id scopes) ≡ 0
first_releases id [] = refl
first_releases id (scope ∷ scopes) =
    let one = count_cons (λ (entry : Entry). is_released entry.reply) (first_entry id scope) (openings (suc id) scopes) in
    omega (arith, one, first_releases (suc id) scopes)

taken_all : (xs : List ScopeSpec) → take (length xs) xs ≡ xs
taken_all [] = refl
taken_all (x ∷ xs) = ap (λ (l : List ScopeSpec). x ∷ l) (taken_all xs)

pub taken_over : {X : Type 0} (i : ℕ) (xs : List X) → length xs ≤ i → take i xs ≡ xs
taken_over zero [] within = refl
taken_over (suc i) [] within = refl
taken_over zero (x ∷ xs) within = absurd (omega (arith, within))
taken_over (suc i) (x ∷ xs) within = ap (λ l. x ∷ l) (taken_over i xs (omega (arith, within)))

pub no_uses : (uses : Table) → uses ≡ table.empty → IsTable uses → AreUses uses []
no_uses uses is all = record {
  table = all;
  counts = λ n. subst (λ (u : Table). uses_at u n ≡ 0) (sym is) (ap (λ (o : Option (List ℕ × ℕ)). elim o as (λ x. ℕ) [ None ↦ 0 | Some entry ↦ entry.1 ]) (table.get-empty nat_cmp n));
  tokens = λ at token n here. absurd (not_some (token, n) here);
}

pub first_kept : (config : Config) (workers : ℕ) → IsConfig config → 1 ≤ workers → workers ≤ MAX_WORKERS → (held : StateView) → held ≡ first_state config.tags workers config.scopes
    → (uses : Table) → AreUses uses [] → total uses ≡ 0 → IsKept (new_book config workers) held uses
first_kept config workers is some few held stored uses none zero_uses =
    let book = new_book config workers in
    let rules = rules_of book in
    let root : ScopeSpec = record { label = []; prefix = [] } in
    let state = opened_all rules (empty workers) 0 config.scopes in record {
      some_workers = some;
      few_workers = few;
      legal = record {
        rest = [];
        begins = sym (append-nil (openings 0 config.scopes));
        seats = refl;
        steps = subst (λ (l : List ScopeSpec). Run rules (empty workers) (openings 0 l)) (taken_all config.scopes)
            (first_run rules workers config.scopes root is.scopes.different (length config.scopes) (omega arith));
      };
      lawful = first_lawful 0 config.scopes is.scopes.each;
      few_openings = λ seat.
          let some = count_by-le-length (λ (entry : Entry). is_opening entry.call && entry.seat == seat) (openings 0 config.scopes) in
          omega (arith, some, length-openings 0 config.scopes, is.scopes.few);
      tags = ap (λ (v : StateView). v.tags) stored;
      replay = ap (λ (v : StateView). v.state) stored ∙ same_replay_from (drawing config.tags) rules (drawn config.tags ∙ sym (tags_are book)) (empty workers) (openings 0 config.scopes);
      released = ap (λ (v : StateView). v.released) stored ∙ sym (first_released 0 config.scopes);
      releases = first_releases 0 config.scopes ∙ sym (ap (λ (s : State). s.releases) state);
      symbols = subst (λ symbols. AreUses uses symbols) (sym (ap symbols_in state)) none;
      few_uses = omega (arith, zero_uses);
    }
