-- What is true of the book after each beginning of a log without openings and releases of workers.
use Rattle.std.proofs.Common.{◌≡◌, ◌==◌, ◌&&◌, ◌+◌, ◌≤◌, ℕ, zero, suc, cond, not, Bool, true, false, Option, None, Some, IsSome, List, [], ◌∷◌, ◌++◌, map, length, slice_get, nat_le, refl, ap, sym, ◌∙◌, subst, arith, inl, inr, ◌⊎◌}
use Rattle.std.specs.Prelude.{filter, count_by, find, option_map, option_and_then, unwrap_or}
use Rattle.std.specs.Option.{option_map_or}
use Rattle.std.specs.List.{AllByRecursion, position_from}
use Rattle.std.proofs.lemmas.Bool.{lt-leb}
use Rattle.std.proofs.lemmas.List.{length-append, length-map}
use Rattle.std.proofs.lemmas.List.Sums.{sum_by-cons, sum_by-append, length-filter}
use Rattle.stat_defs.specs.declared.configs.ScopeSpec.{ScopeSpec}
use Rattle.stat_defs.specs.declared.events.Key.{Key}
use Rattle.stat_defs.specs.declared.history.Call.{Call}
use Rattle.stat_defs.specs.declared.history.Call.TheVariants as call
use Rattle.stat_defs.specs.declared.history.Reply.{Reply}
use Rattle.stat_defs.specs.declared.history.Reply.TheVariants as reply
use Rattle.stat_defs.specs.declared.history.Verdict.{Verdict}
use Rattle.stat_defs.specs.declared.history.Verdict.TheVariants as verdict
use Rattle.stat_defs.specs.declared.ids.Kind.{Kind}
use Rattle.stat_defs.specs.declared.ids.Kind.TheVariants.{Counter, Gauge, Histogram, Text}
use Rattle.stat_defs.specs.declared.metrics.Life.{Life}
use Rattle.stat_defs.specs.declared.metrics.Life.TheVariants.{Live, Gone}
use Rattle.stat_defs.specs.declared.metrics.Metric.{Metric}
use Rattle.stat_defs.specs.Keys.{Held, same_text, same_kind}
use Rattle.stat_defs.specs.Names.{full}
use Rattle.book_state.specs.declared.limits.TheConstants.{MAX_METRICS, MAX_HISTOGRAMS}
use Rattle.book_state.specs.State.{Scope, Row, Seat, State, is_gone, live_scope, known, histograms_made, histograms_in}
use Rattle.book_state.specs.Finding.{Known, New, first_case, outcome, scope_of, name_of, is_full, is_over_limit}
use Rattle.book_state.specs.Step.{effect, Allowed, Tells, change_at, on_seat, on_metric, hold, acknowledged, ended, is_live, overdue, swept, found as found_row, made as made_row}
use Rattle.book_state.specs.Follows.{verdict_of}
use Rattle.book_state.proofs.Lists.{true_false, not_some, some_same}
use Rattle.ledger.specs.Ledger.{RunPlan}
use Rattle.ledger.proofs.Lists.{number_same}
use Rattle.all_accepted.specs.Admitted.{IsAccepted, NamedKind, prefix_under, named_under, key_named}
use Rattle.all_accepted.proofs.InLists.{all_joined, all_changed, all_filtered, In, Once, no_longer, once_filter, all_in_filter, once_push}

-- a scope that the configuration opens
abbrev pub opened : ScopeSpec → Scope
opened scope = record { label = scope.label; prefix = scope.prefix; live = true }

-- the scope of a label among these
under_none : (label : List ℕ) (n : ℕ) (scopes : List ScopeSpec) → prefix_under scopes label ≡ None
    → position_from (λ (scope : Scope). scope.live && same_text scope.label label) n (map opened scopes) ≡ None
under_none label n [] none = refl
under_none label n (x ∷ scopes) none = by_case (same_text x.label label) none (under_none label (n + 1) scopes) where
  by_case : (t : Bool) → option_map (λ (scope : ScopeSpec). scope.prefix) (cond t (Some x) (find (λ scope. same_text scope.label label) scopes)) ≡ None
      → (prefix_under scopes label ≡ None → position_from (λ (scope : Scope). scope.live && same_text scope.label label) (n + 1) (map opened scopes) ≡ None)
      → cond t (Some n) (position_from (λ (scope : Scope). scope.live && same_text scope.label label) (n + 1) (map opened scopes)) ≡ None
  by_case true is rest = absurd (not_some x.prefix (sym is))
  by_case false is rest = rest is

under_some : (label prefix : List ℕ) (n : ℕ) (scopes : List ScopeSpec) → prefix_under scopes label ≡ Some prefix
    → (i : ℕ) × (position_from (λ (scope : Scope). scope.live && same_text scope.label label) n (map opened scopes) ≡ Some (n + i))
    × (option_map_or (λ (scope : Scope). scope.prefix) (slice_get (map opened scopes) i) [] ≡ prefix)
under_some label prefix n [] some = absurd (not_some prefix some)
under_some label prefix n (x ∷ scopes) some = by_case (same_text x.label label) some (under_some label prefix (n + 1) scopes) where
  by_case : (t : Bool) → option_map (λ (scope : ScopeSpec). scope.prefix) (cond t (Some x) (find (λ scope. same_text scope.label label) scopes)) ≡ Some prefix
      → (prefix_under scopes label ≡ Some prefix → (i : ℕ) × (position_from (λ (scope : Scope). scope.live && same_text scope.label label) (n + 1) (map opened scopes) ≡ Some (n + 1 + i))
      × (option_map_or (λ (scope : Scope). scope.prefix) (slice_get (map opened scopes) i) [] ≡ prefix))
      → (i : ℕ) × (cond t (Some n) (position_from (λ (scope : Scope). scope.live && same_text scope.label label) (n + 1) (map opened scopes)) ≡ Some (n + i))
      × (option_map_or (λ (scope : Scope). scope.prefix) (slice_get (opened x ∷ map opened scopes) i) [] ≡ prefix)
  by_case true is rest = (0, ap (λ (k : ℕ). Some k) (omega arith), some_same x.prefix prefix is)
  by_case false is rest = let r = rest is in (suc r.0, r.1 ∙ ap (λ (k : ℕ). Some k) (omega arith), r.2)

abbrev pub pair_of : Row → NamedKind
pair_of row = (row.metric.kind, row.metric.name)

abbrev pub pairs_in : State → List NamedKind
pairs_in s = map pair_of s.metrics

pub same_kind_is : (a b : Kind) → same_kind a b ≡ true → a ≡ b
same_kind_is Counter Counter e = refl
same_kind_is Gauge Gauge e = refl
same_kind_is Histogram Histogram e = refl
same_kind_is Text Text e = refl
same_kind_is Counter Gauge e = absurd (true_false (sym e))
same_kind_is Counter Histogram e = absurd (true_false (sym e))
same_kind_is Counter Text e = absurd (true_false (sym e))
same_kind_is Gauge Counter e = absurd (true_false (sym e))
same_kind_is Gauge Histogram e = absurd (true_false (sym e))
same_kind_is Gauge Text e = absurd (true_false (sym e))
same_kind_is Histogram Counter e = absurd (true_false (sym e))
same_kind_is Histogram Gauge e = absurd (true_false (sym e))
same_kind_is Histogram Text e = absurd (true_false (sym e))
same_kind_is Text Counter e = absurd (true_false (sym e))
same_kind_is Text Gauge e = absurd (true_false (sym e))
same_kind_is Text Histogram e = absurd (true_false (sym e))

pub kind_same : (a : Kind) → same_kind a a ≡ true
kind_same Counter = refl
kind_same Gauge = refl
kind_same Histogram = refl
kind_same Text = refl

pub text_same : (xs : List ℕ) → same_text xs xs ≡ true
text_same [] = refl
text_same (x ∷ xs) = by_case (x == x) (number_same x x refl) (text_same xs) where
  by_case : (t : Bool) → t ≡ true → same_text xs xs ≡ true → (t && same_text xs xs) ≡ true
  by_case true e rest = rest
  by_case false e rest = absurd (true_false (sym e))

-- no metric is made of a kind and a name that is known
module _ (kind : Kind) (name : List ℕ) where
  abbrev is_it : Metric → Bool
  is_it metric = not (is_gone metric.life) && (same_kind kind metric.kind && same_text name metric.name)

  it_is : (row : Row) → row.metric.life ≡ Live → pair_of row ≡ (kind, name) → is_it row.metric ≡ true
  it_is row live same =
      ap (λ (l : Life). not (is_gone l) && (same_kind kind row.metric.kind && same_text name row.metric.name)) live
      ∙ ap (λ (n : NamedKind). same_kind kind n.0 && same_text name n.1) same
      ∙ ap (λ (t : Bool). t && same_text name name) (kind_same kind)
      ∙ text_same name

  not_known : (n : ℕ) (rows : List Row) → AllByRecursion (λ row. row.metric.life ≡ Live) rows → position_from is_it n (map (λ row. row.metric) rows) ≡ None
      → In (map pair_of rows) (kind, name) → ⊥
  not_known n [] lives none is = is
  not_known n (row ∷ rows) lives none (inl is) =
      not_some n (sym none ∙ ap (λ (t : Bool). cond t (Some n) (position_from is_it (n + 1) (map (λ (r : Row). r.metric) rows))) (it_is row lives.0 is))
  not_known n (row ∷ rows) lives none (inr is) = by_case (is_it row.metric) none (λ rest. not_known (n + 1) rows lives.1 rest is) where
    by_case : (t : Bool) → cond t (Some n) (position_from is_it (n + 1) (map (λ (r : Row). r.metric) rows)) ≡ None
        → (position_from is_it (n + 1) (map (λ (r : Row). r.metric) rows) ≡ None → ⊥) → ⊥
    by_case true e rest = not_some n (sym e)
    by_case false e rest = rest e

pub map_kept : {X Y : Type 0} (g : X → Y) (f : X → X) (i : ℕ) (xs : List X) → ((x : X) → g (f x) ≡ g x) → map g (change_at f i xs) ≡ map g xs
map_kept g f i [] same = refl
map_kept {Y = Y} g f zero (x ∷ xs) same = ap (λ (y : Y). y ∷ map g xs) (same x)
map_kept {Y = Y} g f (suc i) (x ∷ xs) same = ap (λ (l : List Y). g x ∷ l) (map_kept g f i xs same)

pub map_pushed : {X Y : Type 0} (g : X → Y) (xs : List X) (x : X) → map g xs ++ g x ∷ [] ≡ map g (xs ++ x ∷ [])
map_pushed g [] x = refl
map_pushed {Y = Y} g (y ∷ xs) x = ap (λ (l : List Y). g y ∷ l) (map_pushed g xs x)

pub none_swept : (seats : List Seat) (rows : List Row) → AllByRecursion (λ row. row.metric.life ≡ Live) rows → map (swept seats) rows ≡ rows
none_swept seats [] lives = refl
none_swept seats (row ∷ rows) lives = λ i. ap (λ (l : Life). cond (overdue seats l) (record row { metric = record row.metric { life = Gone } }) row) lives.0 i ∷ none_swept seats rows lives.1 i

histograms_are : (rows : List Row) → histograms_in (map (λ row. row.metric) rows) ≡ count_by (λ (n : NamedKind). same_kind n.0 Histogram) (map pair_of rows)
histograms_are [] = refl
histograms_are (row ∷ rows) =
    let rest = histograms_are rows in
    let one = sum_by-cons (λ (m : Metric). cond (same_kind m.kind Histogram) 1 0) row.metric (map (λ (r : Row). r.metric) rows) in
    let other = sum_by-cons (λ (n : NamedKind). cond (same_kind n.0 Histogram) 1 0) (pair_of row) (map pair_of rows) in
    omega (arith, rest, one, other)

-- what a verdict must be, where the key means a name
abbrev pub IsRight : RunPlan → Key → Verdict → Type 0
IsRight plan key v = IsSome (key_named plan key) → IsAccepted v

abbrev pub RightSeat : RunPlan → Seat → Type 0
RightSeat plan seat = AllByRecursion (λ (h : Held). IsRight plan h.key h.verdict) seat.held

module _ (plan : RunPlan) (names : List NamedKind) (few : length names ≤ MAX_METRICS) (few_histograms : count_by (λ (n : NamedKind). same_kind n.0 Histogram) names ≤ MAX_HISTOGRAMS) where
  abbrev pub HasName : Key → Type 0
  HasName key = (n : NamedKind) → key_named plan key ≡ Some n → In names n

  pub record IsSettledState (s : State) : Type 0 where
    pub scopes : s.scopes ≡ map opened plan.scopes
    pub lives : AllByRecursion (λ row. row.metric.life ≡ Live) s.metrics
    pub named : AllByRecursion (In names) (pairs_in s)
    pub once : Once (pairs_in s)
    pub held : AllByRecursion (RightSeat plan) s.seats

  -- what a key means in such a state
  abbrev Means : State → Key → Type 0
  Means s key = ((live_scope s key.label ≡ None) × (key_named plan key ≡ None))
      ⊎ ((i : ℕ) × (live_scope s key.label ≡ Some i) × (key_named plan key ≡ named_under plan key (option_map_or (λ (scope : Scope). scope.prefix) (slice_get s.scopes i) [])))

  means : (s : State) (key : Key) → s.scopes ≡ map opened plan.scopes → Means s key
  means s key scopes = by_case (prefix_under plan.scopes key.label) refl where
    by_case : (o : Option (List ℕ)) → prefix_under plan.scopes key.label ≡ o → Means s key
    by_case None e = inl (
      ap (λ (l : List Scope). position_from (λ (scope : Scope). scope.live && same_text scope.label key.label) 0 l) scopes ∙ under_none key.label 0 plan.scopes e,
      ap (λ (o : Option (List ℕ)). option_and_then (named_under plan key) o) e,
    )
    by_case (Some prefix) e =
        let r = under_some key.label prefix 0 plan.scopes e in
        let zero : ◌≡◌ {A = Option ℕ} (Some (0 + r.0)) (Some r.0) = ap (λ (k : ℕ). Some k) (omega arith) in
        inr (
          r.0,
          ap (λ (l : List Scope). position_from (λ (scope : Scope). scope.live && same_text scope.label key.label) 0 l) scopes ∙ r.1 ∙ zero,
          ap (λ (o : Option (List ℕ)). option_and_then (named_under plan key) o) e
              ∙ ap (λ (l : List ℕ). named_under plan key l) (sym r.2 ∙ ap (λ (l : List Scope). option_map_or (λ (scope : Scope). scope.prefix) (slice_get l r.0) []) (sym scopes)),
        )

  name_at : (s : State) (key : Key) (i : ℕ) → live_scope s key.label ≡ Some i → name_of s key ≡ full (option_map_or (λ (scope : Scope). scope.prefix) (slice_get s.scopes i) []) key.name
  name_at s key i live = ap (λ (o : Option ℕ). full (option_map_or (λ (scope : Scope). scope.prefix) (slice_get s.scopes (unwrap_or o 0)) []) key.name) live

  named_as : (s : State) (key : Key) (i : ℕ) → live_scope s key.label ≡ Some i → key_named plan key ≡ named_under plan key (option_map_or (λ (scope : Scope). scope.prefix) (slice_get s.scopes i) [])
      → key_named plan key ≡ cond (plan.rules.admits (name_of s key)) (Some (key.kind, name_of s key)) None
  named_as s key i live is = is ∙ ap (λ (name : List ℕ). cond (plan.rules.admits name) (Some (key.kind, name)) None) (sym (name_at s key i live))

  module _ (s : State) (settled : IsSettledState s) (key : Key) (has : HasName key) where
    abbrev fresh : NamedKind
    fresh = (key.kind, name_of s key)

    none_fresh : known s key.kind (name_of s key) ≡ None → In (pairs_in s) fresh → ⊥
    none_fresh none = not_known key.kind (name_of s key) 0 s.metrics settled.lives none

    room : In names fresh → known s key.kind (name_of s key) ≡ None → (is_full s ≡ false) × (is_over_limit s key.kind ≡ false)
    room in_names none = (
      lt-leb MAX_METRICS (length s.metrics) (
          let longer = no_longer (pairs_in s ++ fresh ∷ []) names (once_push (pairs_in s) fresh settled.once (none_fresh none)) (all_joined (In names) (pairs_in s) (fresh ∷ []) settled.named (in_names, tt)) in
          let long = length-append (pairs_in s) (fresh ∷ []) in
          let same = length-map s.metrics pair_of in
          omega (arith, longer, long, same, few)),
      by_kind (same_kind key.kind Histogram) refl,
    ) where
      by_kind : (t : Bool) → same_kind key.kind Histogram ≡ t → (same_kind key.kind Histogram && nat_le MAX_HISTOGRAMS (histograms_made s)) ≡ false
      by_kind false e = ap (λ (t : Bool). t && nat_le MAX_HISTOGRAMS (histograms_made s)) e
      by_kind true e =
          let is_histogram : NamedKind → Bool = λ (n : NamedKind). same_kind n.0 Histogram in
          let all : List NamedKind = pairs_in s ++ fresh ∷ [] in
          let once = once_filter is_histogram all (once_push (pairs_in s) fresh settled.once (none_fresh none)) in
          let longer = no_longer (filter is_histogram all) (filter is_histogram names) once (all_in_filter is_histogram names all (all_joined (In names) (pairs_in s) (fresh ∷ []) settled.named (in_names, tt))) in
          let one = length-filter is_histogram all in
          let other = length-filter is_histogram names in
          let split = sum_by-append (λ (n : NamedKind). cond (is_histogram n) 1 0) (pairs_in s) (fresh ∷ []) in
          let last : ◌≡◌ {A = ℕ} (count_by is_histogram (fresh ∷ [])) 1 = sum_by-cons (λ (n : NamedKind). cond (is_histogram n) 1 0) fresh [] ∙ ap (λ (t : Bool). cond t 1 0 + 0) e in
          let made = histograms_are s.metrics in
          ap (λ (t : Bool). t && nat_le MAX_HISTOGRAMS (histograms_made s)) e
          ∙ lt-leb MAX_HISTOGRAMS (histograms_made s) (omega (arith, longer, one, other, split, last, made, few_histograms))

    abbrev pub RightReply : Reply → Type 0
    RightReply r = (v : Verdict) → verdict_of r ≡ Some v → IsAccepted v

    found_right : (id : ℕ) (r : Reply) → Tells s key (Known id) r → RightReply r
    found_right id (reply.Found given) is = λ v e. (given, sym (some_same (verdict.Accepted given) v e))
    found_right id _ is = absurd is

    made_right : (r : Reply) → Tells s key New r → RightReply r
    made_right (reply.Made given numbers) is = λ v e. (given, sym (some_same (verdict.Accepted given) v e))
    made_right _ is = absurd is

    by_case : (a : Option ℕ) (b : Bool) (k : Option ℕ) (f o : Bool) (r : Reply) → IsSome a → b ≡ true → (k ≡ None → (f ≡ false) × (o ≡ false)) → Tells s key (first_case a b k f o) r → RightReply r
    by_case None b k f o r some admitted free is = absurd (true_false (sym some))
    by_case (Some i) false k f o r some admitted free is = absurd (true_false (sym admitted))
    by_case (Some i) true (Some id) f o r some admitted free is = found_right id r is
    by_case (Some i) true None true o r some admitted free is = absurd (true_false (free refl).0)
    by_case (Some i) true None false true r some admitted free is = absurd (true_false (free refl).1)
    by_case (Some i) true None false false r some admitted free is = made_right r is

    -- a find of a key that means a name is accepted
    pub find_right : (r : Reply) → Tells s key (outcome plan.rules s key) r → IsSome (key_named plan key) → RightReply r
    find_right r is some = elim (means s key settled.scopes) [
      | inl none ↦ absurd (true_false (sym (subst (λ (o : Option NamedKind). IsSome o) none.1 some)))
      | inr live ↦
          let shown : key_named plan key ≡ cond (plan.rules.admits (name_of s key)) (Some fresh) None = named_as s key live.0 live.1 live.2 in
          by_admits live.0 live.1 (plan.rules.admits (name_of s key)) refl shown
    ] where
      by_admits : (i : ℕ) → live_scope s key.label ≡ Some i → (b : Bool) → plan.rules.admits (name_of s key) ≡ b → key_named plan key ≡ cond (plan.rules.admits (name_of s key)) (Some fresh) None → RightReply r
      by_admits i live false e shown = absurd (true_false (sym (subst (λ (o : Option NamedKind). IsSome o) (shown ∙ ap (λ (t : Bool). cond t (Some fresh) None) e) some)))
      by_admits i live true e shown =
          by_case (live_scope s key.label) (plan.rules.admits (name_of s key)) (known s key.kind (name_of s key)) (is_full s) (is_over_limit s key.kind) r
          (subst (λ (o : Option ℕ). IsSome o) (sym live) refl) e (room (has fresh (shown ∙ ap (λ (t : Bool). cond t (Some fresh) None) e))) is

  -- such a state stays one by what no seat changes of it
  on_seat_settled : (f : Seat → Seat) (by : ℕ) (s : State) → ((row : Seat) → RightSeat plan row → RightSeat plan (f row)) → IsSettledState s → IsSettledState (on_seat f by s)
  on_seat_settled f zero s keeps settled = settled
  on_seat_settled f (suc at) s keeps settled = record {
    scopes = settled.scopes;
    lives = settled.lives;
    named = settled.named;
    once = settled.once;
    held = all_changed (RightSeat plan) f at s.seats keeps settled.held;
  }

  hold_right : (key : Key) (scope : ℕ) (v : Verdict) (row : Seat) → IsRight plan key v → RightSeat plan row → RightSeat plan (hold key scope v row)
  hold_right key scope v row right was = all_joined (λ (h : Held). IsRight plan h.key h.verdict) row.held (record { key = key; scope = scope; verdict = v } ∷ []) was (right, tt)

  -- metrics that are changed, and stay of their kind and name
  changed_settled : (f : Row → Row) (id : ℕ) (s : State) → ((row : Row) → row.metric.life ≡ Live → (f row).metric.life ≡ Live) → ((row : Row) → pair_of (f row) ≡ pair_of row) → IsSettledState s → IsSettledState (on_metric f id s)
  changed_settled f id s lives same settled = record {
    scopes = settled.scopes;
    lives = all_changed (λ (row : Row). row.metric.life ≡ Live) f id s.metrics lives settled.lives;
    named = subst (λ (l : List NamedKind). AllByRecursion (In names) l) (sym (map_kept pair_of f id s.metrics same)) settled.named;
    once = subst (λ (l : List NamedKind). Once l) (sym (map_kept pair_of f id s.metrics same)) settled.once;
    held = settled.held;
  }

  -- an entry makes a find of a key that means one of the names, or opens and releases nothing
  abbrev pub KeepsSettled : Call → Type 0
  KeepsSettled (call.OpenScope label prefix) = ⊥
  KeepsSettled (call.Release label) = ⊥
  KeepsSettled (call.Find key) = HasName key
  KeepsSettled _ = Unit {0}

  pub new_is : (s : State) (key : Key) (a : Option ℕ) (b : Bool) (k : Option ℕ) (f o : Bool) (given : _) (numbers : List ℕ) → Tells s key (first_case a b k f o) (reply.Made given numbers) → (IsSome a) × (b ≡ true) × (k ≡ None)
  new_is s key None b k f o given numbers is = absurd is
  new_is s key (Some i) false k f o given numbers is = absurd is
  new_is s key (Some i) true (Some id) f o given numbers is = absurd is
  new_is s key (Some i) true None true o given numbers is = absurd is
  new_is s key (Some i) true None false true given numbers is = absurd is
  new_is s key (Some i) true None false false given numbers is = (refl, refl, refl)

  rejected_is : (s : State) (key : Key) (a : Option ℕ) (b : Bool) (k : Option ℕ) (f o : Bool) → Tells s key (first_case a b k f o) reply.Rejected → (IsSome a) × (b ≡ false)
  rejected_is s key None b k f o is = absurd is
  rejected_is s key (Some i) false k f o is = (refl, refl)
  rejected_is s key (Some i) true (Some id) f o is = absurd is
  rejected_is s key (Some i) true None true o is = absurd is
  rejected_is s key (Some i) true None false true is = absurd is
  rejected_is s key (Some i) true None false false is = absurd is

  -- the scope of a find is live, so its key means what is admitted
  pub shown_by : (s : State) (settled : IsSettledState s) (key : Key) → IsSome (live_scope s key.label) → key_named plan key ≡ cond (plan.rules.admits (name_of s key)) (Some (key.kind, name_of s key)) None
  shown_by s settled key some = elim (means s key settled.scopes) [
    | inl none ↦ absurd (true_false (sym (subst (λ (o : Option ℕ). IsSome o) none.0 some)))
    | inr live ↦ named_as s key live.0 live.1 live.2
  ]

  pub step_settled : (by : ℕ) (c : Call) (r : Reply) (s : State) → KeepsSettled c → Allowed plan.rules by c r s → IsSettledState s → IsSettledState (effect plan.rules by c r s)
  step_settled by (call.OpenScope label prefix) r s is allowed settled = absurd is
  step_settled by (call.Release label) r s is allowed settled = absurd is
  step_settled by (call.Find key) (reply.Made id numbers) s is allowed settled =
      let told = new_is s key (live_scope s key.label) (plan.rules.admits (name_of s key)) (known s key.kind (name_of s key)) (is_full s) (is_over_limit s key.kind) id numbers allowed.1 in
      let named : key_named plan key ≡ Some (key.kind, name_of s key) = shown_by s settled key told.0 ∙ ap (λ (t : Bool). cond t (Some (key.kind, name_of s key)) None) told.1 in
      let new : NamedKind = (key.kind, name_of s key) in
      let row : Row = made_row plan.rules s key numbers in
      let pairs : pairs_in s ++ new ∷ [] ≡ map pair_of (s.metrics ++ row ∷ []) = map_pushed pair_of s.metrics row in
      on_seat_settled (hold key (scope_of s key) (verdict.Accepted id)) by (record s { metrics = s.metrics ++ row ∷ [] })
      (λ seat was. hold_right key (scope_of s key) (verdict.Accepted id) seat (λ some. (id, refl)) was)
      (record {
        scopes = settled.scopes;
        lives = all_joined (λ (x : Row). x.metric.life ≡ Live) s.metrics (row ∷ []) settled.lives (refl, tt);
        named = subst (λ (l : List NamedKind). AllByRecursion (In names) l) pairs (all_joined (In names) (pairs_in s) (new ∷ []) settled.named (is new named, tt));
        once = subst (λ (l : List NamedKind). Once l) pairs (once_push (pairs_in s) new settled.once (none_fresh s settled key is told.2));
        held = settled.held;
      })
  step_settled by (call.Find key) (reply.Found id) s is allowed settled =
      on_seat_settled (hold key (scope_of s key) (verdict.Accepted id)) by (on_metric (found_row (scope_of s key) key.mode) id.0 s)
      (λ seat was. hold_right key (scope_of s key) (verdict.Accepted id) seat (λ some. (id, refl)) was)
      (changed_settled (found_row (scope_of s key) key.mode) id.0 s (λ row live. refl) (λ row. refl) settled)
  step_settled by (call.Find key) reply.Rejected s is allowed settled =
      let told = rejected_is s key (live_scope s key.label) (plan.rules.admits (name_of s key)) (known s key.kind (name_of s key)) (is_full s) (is_over_limit s key.kind) allowed.1 in
      let none : key_named plan key ≡ None = shown_by s settled key told.0 ∙ ap (λ (t : Bool). cond t (Some (key.kind, name_of s key)) None) told.1 in
      on_seat_settled (hold key (scope_of s key) verdict.Rejected) by s
      (λ seat was. hold_right key (scope_of s key) verdict.Rejected seat (λ some. absurd (true_false (sym (subst (λ (o : Option NamedKind). IsSome o) none some)))) was) settled
  step_settled by (call.SetText id text) reply.TextSet s is allowed settled =
      changed_settled (λ (row : Row). record row { metric = record row.metric { text = text } }) id.0 s (λ row live. live) (λ row. refl) settled
  step_settled by call.Ack (reply.Acked tag) s is allowed settled =
      on_seat_settled (acknowledged s.scopes tag) by s (λ seat was. all_filtered (λ (h : Held). IsRight plan h.key h.verdict) (λ (h : Held). is_live s.scopes h.scope) seat.held was) settled
  step_settled by call.Sweep (reply.Swept n) s is allowed settled = record {
    scopes = settled.scopes;
    lives = subst (λ (l : List Row). AllByRecursion (λ (row : Row). row.metric.life ≡ Live) l) (sym (none_swept s.seats s.metrics settled.lives)) settled.lives;
    named = subst (λ (l : List Row). AllByRecursion (In names) (map pair_of l)) (sym (none_swept s.seats s.metrics settled.lives)) settled.named;
    once = subst (λ (l : List Row). Once (map pair_of l)) (sym (none_swept s.seats s.metrics settled.lives)) settled.once;
    held = settled.held;
  }
  step_settled by call.End reply.Ended s is allowed settled = on_seat_settled ended by s (λ seat was. tt) settled
  step_settled by _ _ s is allowed settled = settled
