-- What the seats of a legal log hold, beside the scopes that were released.
use Rattle.std.proofs.Common.{◌≡◌, ◌≢◌, ℕ, zero, suc, ◌+◌, ◌<◌, ◌≤◌, ◌==◌, ◌||◌, not, Bool, true, false, cond, Option, Some, None, IsNone, List, [], ◌∷◌, ◌++◌, filter, length, take, drop, slice_get, All, refl, ap, sym, ◌∙◌, subst, arith, inl, inr, append_assoc, append-nil, unwrap_or}
use Rattle.std.proofs.lemmas.Bool.Decides.{Decides-eqb}
use Rattle.std.proofs.lemmas.List.{length-append, take-append-le, take-append-drop}
use Rattle.std.proofs.lemmas.List.Elements.{All-nil}
use Rattle.std.proofs.lemmas.List.Folds.{list_any-append}
use Rattle.std.specs.List.{list_any, AllByRecursion, IsDistinct}
use Rattle.std.specs.Option.{option_map_or}
use Rattle.stat_defs.specs.declared.ids.ScopeId.{ScopeId}
use Rattle.stat_defs.specs.declared.events.Key.{Key}
use Rattle.stat_defs.specs.declared.history.Verdict.{Verdict}
use Rattle.stat_defs.specs.declared.history.Verdict.TheVariants as verdict
use Rattle.stat_defs.specs.declared.history.Call.{Call}
use Rattle.stat_defs.specs.declared.history.Call.TheVariants as call
use Rattle.stat_defs.specs.declared.history.Reply.{Reply}
use Rattle.stat_defs.specs.declared.history.Reply.TheVariants as reply
use Rattle.stat_defs.specs.declared.history.Entry.{Entry}
use Rattle.stat_defs.specs.Keys.{Held, held_under, same_key, HoldsOnce, is_through}
use Rattle.book_state.specs.State.{NameRules, Scope, Row, Seat, State, live_scope, known, seat_of}
use Rattle.book_state.specs.Finding.{first_case, scope_of, name_of, is_full, is_over_limit}
use Rattle.book_state.specs.Step.{effect, change_at, on_seat, is_live, closed, hold, acknowledged, ended, Working, Allowed, Tells}
use Rattle.book_state.specs.Log.{empty, replay_from, replay, Run, held_by}
use Rattle.book_state.specs.Follows.{tag_of}
use Rattle.book_state.specs.Stored.{released_by, released_in}
use Rattle.book_state.specs.SeatLaws.{unacknowledged}
use Rattle.book_state.proofs.Lists.{eq_or, not_some, some_at, true_false, not_true, get_push_last, length-change_at}
use Rattle.book_state.proofs.Members.{change_some, push_some, filter_some, any_push, one_of, all_each}
use Rattle.book_state.proofs.Moves.{live_within, live_pushed, live_other, live_closed}
use Rattle.book_state.proofs.Finds.{scope_is_live, tells_made, tells_found}
use Rattle.book_state.proofs.Safety.{replicated}

-- the scope is one of these
abbrev among : List ScopeId → ℕ → Bool
among released k = list_any (λ s. s.0 == k) released

record IsHolding (scopes : List Scope) (released : List ScopeId) (seat : Seat) : Type 0 where
  tag : seat.tag ≤ length released
  once : HoldsOnce seat.held
  within : (i : ℕ) (h : Held) → slice_get seat.held i ≡ Some h → h.scope < length scopes
  later : (i : ℕ) (h : Held) → slice_get seat.held i ≡ Some h → among (take seat.tag released) h.scope ≡ false

-- the dead scopes are those that were released
record IsReleased (s : State) (released : List ScopeId) : Type 0 where
  count : length released ≡ s.releases
  dead : (k : ℕ) → k < length s.scopes → is_live s.scopes k ≡ not (among released k)
  within : (k : ℕ) → among released k ≡ true → k < length s.scopes
  seats : (j : ℕ) (seat : Seat) → slice_get s.seats j ≡ Some seat → IsHolding s.scopes released seat

live_not : (t : Bool) → true ≡ not t → t ≡ false
live_not true e = absurd (true_false e)
live_not false e = refl

among_push : (released : List ScopeId) (id : ScopeId) (k : ℕ) → among (released ++ id ∷ []) k ≡ (among released k || id.0 == k)
among_push released id k = any_push (λ s. s.0 == k) released id

or_false : (t : Bool) → (t || false) ≡ t
or_false true = refl
or_false false = refl

or_true : (t : Bool) → (t || true) ≡ true
or_true true = refl
or_true false = refl

-- the first of some scopes are some of them
among_take : (n : ℕ) (released : List ScopeId) (k : ℕ) → among released k ≡ false → among (take n released) k ≡ false
among_take n released k none = first (among (take n released) k) (among (drop n released) k)
    (sym (list_any-append (λ s. s.0 == k) (take n released) (drop n released)) ∙ (ap (λ l. among l k) (take-append-drop n released) ∙ none)) where
      first : (a b : Bool) → (a || b) ≡ false → a ≡ false
      first true b e = absurd (true_false e)
      first false b e = refl

not_same : (a b : ℕ) → a ≢ b → (b == a) ≡ false
not_same a b other = not_true (b == a) (λ e. other (sym ((Decides-eqb b a).0 e)))

holding_grows : (scopes scopes' : List Scope) (released more : List ScopeId) (seat : Seat) → length scopes ≤ length scopes' → IsHolding scopes released seat
    → IsHolding scopes' (released ++ more) seat
holding_grows scopes scopes' released more seat longer is = record {
  tag = (let t = is.tag in omega (arith, t, length-append released more));
  once = is.once;
  within = λ i h at. (let w = is.within i h at in omega (arith, w, longer));
  later = λ i h at. ap (λ l. among l h.scope) (take-append-le seat.tag released more is.tag) ∙ is.later i h at;
}

-- an opening
opened : (s : State) (released : List ScopeId) (scope : Scope) → scope.live ≡ true → IsReleased s released → IsReleased (record s { scopes = s.scopes ++ scope ∷ [] }) released
opened s released scope live is = record {
  count = is.count;
  dead = λ k within. elim (eq_or k (length s.scopes)) [
    | inl last ↦
        ap (λ (o : Option Scope). option_map_or (λ scope. scope.live) o false) (get_push_last s.scopes scope k last)
        ∙ (live ∙ sym (ap not (not_true (among released k) (λ t. let w = is.within k t in absurd (omega (arith, w, last))))))
    | inr before ↦ let w : k < length s.scopes = omega (arith, within, before, length-append s.scopes (scope ∷ [])) in live_pushed s.scopes scope k w ∙ is.dead k w
  ];
  within = λ k t. let w = is.within k t in omega (arith, w, length-append s.scopes (scope ∷ []));
  seats = λ j seat at. subst (λ l. IsHolding (s.scopes ++ scope ∷ []) l seat) (append-nil released)
      (holding_grows s.scopes (s.scopes ++ scope ∷ []) released [] seat (omega (arith, length-append s.scopes (scope ∷ []))) (is.seats j seat at));
}

-- a release
abbrev without : State → ScopeId → List Row → State
without s id metrics = record s { scopes = change_at closed id.0 s.scopes; metrics = metrics; releases = s.releases + 1 }

released_one : (s : State) (released : List ScopeId) (id : ScopeId) (metrics : List Row) → is_live s.scopes id.0 ≡ true → IsReleased s released
    → IsReleased (without s id metrics) (released ++ id ∷ [])
released_one s released id metrics live is = record {
  count = let c = is.count in omega (arith, c, length-append released (id ∷ []));
  dead = λ k within. elim (eq_or k id.0) [
    | inl same ↦
        not_true (is_live (change_at closed id.0 s.scopes) k) (λ t. live_closed s.scopes id.0 k t same)
        ∙ sym (ap not (among_push released id k ∙ (ap (λ t. among released k || t) ((Decides-eqb id.0 k).1 (sym same)) ∙ or_true (among released k))))
    | inr other ↦
        live_other s.scopes id.0 k other
        ∙ (is.dead k (omega (arith, within, length-change_at closed id.0 s.scopes))
        ∙ sym (ap not (among_push released id k ∙ (ap (λ t. among released k || t) (not_same k id.0 other) ∙ or_false (among released k)))))
  ];
  within = λ k t. elim (one_of (among released k) (id.0 == k) (sym (among_push released id k) ∙ t)) [
    | inl was ↦ let w = is.within k was in omega (arith, w, length-change_at closed id.0 s.scopes)
    | inr this ↦
        let w = live_within s.scopes id.0 live in
        let same : id.0 ≡ k = (Decides-eqb id.0 k).0 this in
        omega (arith, w, same, length-change_at closed id.0 s.scopes)
  ];
  seats = λ j seat at. holding_grows s.scopes (change_at closed id.0 s.scopes) released (id ∷ []) seat (omega (arith, length-change_at closed id.0 s.scopes)) (is.seats j seat at);
}

-- where the metrics alone are changed, and where one seat is
metrics_changed : (s : State) (released : List ScopeId) (metrics : List Row) → IsReleased s released → IsReleased (record s { metrics = metrics }) released
metrics_changed s released metrics is = record { count = is.count; dead = is.dead; within = is.within; seats = is.seats }

seat_changed : (f : Seat → Seat) (by : ℕ) (s : State) (released : List ScopeId) → IsReleased s released
    → ((row : Seat) → seat_of s by ≡ Some row → IsHolding s.scopes released row → IsHolding s.scopes released (f row)) → IsReleased (on_seat f by s) released
seat_changed f zero s released is keeps = is
seat_changed f (suc at) s released is keeps = record {
  count = is.count;
  dead = is.dead;
  within = is.within;
  seats = λ j seat e. elim (change_some f at s.seats j seat e) [
    | inl got ↦ subst (λ (row : Seat). IsHolding s.scopes released row) (sym got.3) (keeps got.1 got.2 (is.seats at got.1 got.2))
    | inr got ↦ is.seats j seat got.1
  ];
}

-- an entry more, of a key that was not held
all_push : {X : Type 0} (P : X → Type 0) (xs : List X) (x : X) → AllByRecursion P xs → P x → AllByRecursion P (xs ++ x ∷ [])
all_push P [] x all this = (this, tt)
all_push P (y ∷ xs) x all this = (all.0, all_push P xs x all.1 this)

once_more : (held : List Held) (one : Held) → held_under one.key held ≡ None → HoldsOnce held → HoldsOnce (held ++ one ∷ [])
unfolding IsDistinct
once_more [] one free once = (tt, tt)
once_more (h ∷ held) one free once = by_key (same_key h.key one.key) refl free (λ rest. once_more held one rest once.1) where
  by_key : (t : Bool) → same_key h.key one.key ≡ t → cond t (Some h) (held_under one.key held) ≡ None → (held_under one.key held ≡ None → HoldsOnce (held ++ one ∷ []))
      → AllByRecursion (λ other. same_key h.key other.key ≡ false) (held ++ one ∷ []) × HoldsOnce (held ++ one ∷ [])
  by_key true is taken rest = absurd (not_some h (sym taken))
  by_key false is free rest = (all_push (λ other. same_key h.key other.key ≡ false) held one once.0 is, rest free)

all_left : {X : Type 0} (P : X → Type 0) (p : X → Bool) (xs : List X) → AllByRecursion P xs → AllByRecursion P (filter p xs)
all_left P p [] all = tt
all_left P p (x ∷ xs) all = by_test (p x) (all_left P p xs all.1) where
  by_test : (t : Bool) → AllByRecursion P (filter p xs) → AllByRecursion P (cond t (x ∷ filter p xs) (filter p xs))
  by_test true rest = (all.0, rest)
  by_test false rest = rest

once_left : (p : Held → Bool) (held : List Held) → HoldsOnce held → HoldsOnce (filter p held)
unfolding IsDistinct
once_left p [] once = tt
once_left p (h ∷ held) once = by_test (p h) (once_left p held once.1) where
  by_test : (t : Bool) → HoldsOnce (filter p held) → HoldsOnce (cond t (h ∷ filter p held) (filter p held))
  by_test true rest = (all_left (λ other. same_key h.key other.key ≡ false) p held once.0, rest)
  by_test false rest = rest

not_held : (o : Option Held) → IsNone o → o ≡ None
not_held None none = refl
not_held (Some h) none = absurd (true_false none)

-- a find whose verdict is held
holds_more : (s : State) (released : List ScopeId) (key : Key) (scope : ℕ) (v : Verdict) (row : Seat) → is_live s.scopes scope ≡ true → held_under key row.held ≡ None
    → IsReleased s released → IsHolding s.scopes released row → IsHolding s.scopes released (hold key scope v row)
holds_more s released key scope v row live free is was = record {
  tag = was.tag;
  once = once_more row.held new free was.once;
  within = λ i h at. elim (push_some row.held new i h at) [
    | inl got ↦ subst (λ (x : Held). x.scope < length s.scopes) (sym got.1) (live_within s.scopes scope live)
    | inr got ↦ was.within i h got.1
  ];
  later = λ i h at. elim (push_some row.held new i h at) [
    | inl got ↦ subst (λ (x : Held). among (take row.tag released) x.scope ≡ false) (sym got.1)
        (among_take row.tag released scope (live_not (among released scope) (sym live ∙ is.dead scope (live_within s.scopes scope live))))
    | inr got ↦ was.later i h got.1
  ];
} where
  new : Held
  new = record { key = key; scope = scope; verdict = v }

find_holds : (s : State) (released : List ScopeId) (by : ℕ) (key : Key) (v : Verdict) (metrics : List Row) → is_live s.scopes (scope_of s key) ≡ true
    → Working s by (λ row. IsNone (held_under key row.held)) → IsReleased s released
    → IsReleased (on_seat (hold key (scope_of s key) v) by (record s { metrics = metrics })) released
find_holds s released by key v metrics live may is =
    let s' : State = record s { metrics = metrics } in
    seat_changed (hold key (scope_of s key) v) by s' released (metrics_changed s released metrics is) (λ row at was.
    holds_more s' released key (scope_of s key) v row live
    (not_held (held_under key row.held) (some_at (λ (r : Seat). (r.ended ≡ false) × IsNone (held_under key r.held)) (seat_of s by) row (there by row at) may).1)
    (metrics_changed s released metrics is) was) where
      there : (b : ℕ) (row : Seat) → seat_of (record s { metrics = metrics }) b ≡ Some row → seat_of s b ≡ Some row
      there zero row at = at
      there (suc b) row at = at

-- an acknowledgement of all releases
acks_all : (s : State) (released : List ScopeId) (tag : ℕ) (row : Seat) → tag ≡ s.releases → IsReleased s released → IsHolding s.scopes released row
    → IsHolding s.scopes released (acknowledged s.scopes tag row)
acks_all s released tag row all is was = record {
  tag = let c = is.count in omega (arith, all, c);
  once = once_left (λ h. is_live s.scopes h.scope) row.held was.once;
  within = λ i h at. live_within s.scopes h.scope (filter_some (λ h. is_live s.scopes h.scope) row.held i h at).1;
  later = λ i h at.
      let live = (filter_some (λ h. is_live s.scopes h.scope) row.held i h at).1 in
      among_take tag released h.scope (live_not (among released h.scope) (sym live ∙ is.dead h.scope (live_within s.scopes h.scope live)));
}

holds_none : (scopes : List Scope) (released : List ScopeId) (row : Seat) → IsHolding scopes released row → IsHolding scopes released (ended row)
unfolding IsDistinct
holds_none scopes released row was = record {
  tag = was.tag;
  once = tt;
  within = λ i h at. absurd (not_some h at);
  later = λ i h at. absurd (not_some h at);
}

tells_rejected : (s : State) (key : Key) (o : Option ℕ) (a : Bool) (k : Option ℕ) (full over : Bool) → Tells s key (first_case o a k full over) reply.Rejected → (sc : ℕ) × (o ≡ Some sc)
tells_rejected s key None a k full over t = absurd t
tells_rejected s key (Some sc) false k full over t = (sc, refl)
tells_rejected s key (Some sc) true (Some i) full over t = absurd t
tells_rejected s key (Some sc) true None true over t = absurd t
tells_rejected s key (Some sc) true None false true t = absurd t
tells_rejected s key (Some sc) true None false false t = absurd t

none_more : (s : State) (released : List ScopeId) → IsReleased s released → IsReleased s (released ++ [])
none_more s released is = subst (λ l. IsReleased s l) (sym (append-nil released)) is

module _ (rules : NameRules) where
  step_released : (by : ℕ) (c : Call) (r : Reply) (s : State) (released : List ScopeId) → IsReleased s released → Allowed rules by c r s
      → IsReleased (effect rules by c r s) (released ++ released_by c r)
  step_released by (call.OpenScope label prefix) (reply.Opened id) s released is may = none_more _ released (opened s released (record { label = label; prefix = prefix; live = true }) refl is)
  step_released by (call.Release label) (reply.Released id) s released is may =
      released_one s released id _ (ap (λ (o : Option ℕ). is_live s.scopes (unwrap_or o 0)) (sym may.1) ∙ scope_is_live s label id.0 may.1) is
  step_released by (call.Find key) (reply.Made id numbers) s released is may =
      let told = tells_made s key (live_scope s key.label) (rules.admits (name_of s key)) (known s key.kind (name_of s key)) (is_full s) (is_over_limit s key.kind) id numbers may.1 in
      none_more _ released (find_holds s released by key (verdict.Accepted id) _ (scope_is_live s key.label told.scope told.live) may.0 is)
  step_released by (call.Find key) (reply.Found id) s released is may =
      let told = tells_found s key (live_scope s key.label) (rules.admits (name_of s key)) (known s key.kind (name_of s key)) (is_full s) (is_over_limit s key.kind) id may.1 in
      none_more _ released (find_holds s released by key (verdict.Accepted id) _ (scope_is_live s key.label told.0 told.1) may.0 is)
  step_released by (call.Find key) reply.Rejected s released is may =
      let told = tells_rejected s key (live_scope s key.label) (rules.admits (name_of s key)) (known s key.kind (name_of s key)) (is_full s) (is_over_limit s key.kind) may.1 in
      none_more _ released (find_holds s released by key verdict.Rejected s.metrics (scope_is_live s key.label told.0 told.1) may.0 is)
  step_released by (call.SetText id text) reply.TextSet s released is may = none_more _ released (metrics_changed s released _ is)
  step_released by call.Ack (reply.Acked tag) s released is may =
      none_more _ released (seat_changed (acknowledged s.scopes tag) by s released is (λ row at was. acks_all s released tag row may.1 is was))
  step_released by call.Sweep (reply.Swept n) s released is may = none_more _ released (metrics_changed s released _ is)
  step_released by call.End reply.Ended s released is may = none_more _ released (seat_changed ended by s released is (λ row at was. holds_none s.scopes released row was))
  step_released by _ _ s released is may = none_more s released is

  run_released : (s : State) (released : List ScopeId) (log : List Entry) → IsReleased s released → Run rules s log → IsReleased (replay_from rules s log) (released ++ released_in log)
  run_released s released [] is run = none_more s released is
  run_released s released (e ∷ log) is run =
      subst (λ l. IsReleased (replay_from rules (effect rules e.seat e.call e.reply s) log) l) (append_assoc released (released_by e.call e.reply) (released_in log))
      (run_released (effect rules e.seat e.call e.reply s) (released ++ released_by e.call e.reply) log (step_released e.seat e.call e.reply s released is run.0) run.1)

first_seat : IsHolding [] [] (record { tag = 0; held = []; ended = false })
unfolding IsDistinct
first_seat = record { tag = omega arith; once = tt; within = λ i h at. absurd (not_some h at); later = λ i h at. absurd (not_some h at) }

empty_released : (workers : ℕ) → IsReleased (empty workers) []
empty_released workers = record {
  count = refl;
  dead = λ k within. absurd (omega (arith, within));
  within = λ k t. absurd (true_false (sym t));
  seats = λ j seat at. subst (λ (row : Seat). IsHolding [] [] row) (replicated workers j (record { tag = 0; held = []; ended = false }) seat at) first_seat;
}

module _ (rules : NameRules) (workers seat : ℕ) (log : List Entry) (steps : Run rules (empty workers) log) where
  at_end : IsReleased (replay rules workers log) (released_in log)
  at_end = run_released rules (empty workers) [] log (empty_released workers) steps

  of_row : (P : Option Seat → Type 0) → P None → ((row : Seat) → IsHolding (replay rules workers log).scopes (released_in log) row → P (Some row)) → P (seat_of (replay rules workers log) seat)
  of_row P none some = by_row (seat_of (replay rules workers log) seat) (λ row at. row_at seat row at) where
    row_at : (n : ℕ) (row : Seat) → seat_of (replay rules workers log) n ≡ Some row → IsHolding (replay rules workers log).scopes (released_in log) row
    row_at zero row at = absurd (not_some row at)
    row_at (suc j) row at = at_end.seats j row at

    by_row : (o : Option Seat) → ((row : Seat) → o ≡ Some row → IsHolding (replay rules workers log).scopes (released_in log) row) → P o
    by_row None at = none
    by_row (Some row) at = some row (at row refl)

  pub tag_past : tag_of (replay rules workers log) seat ≤ (replay rules workers log).releases
  tag_past = of_row (λ o. option_map_or (λ (row : Seat). row.tag) o 0 ≤ (replay rules workers log).releases) (omega arith)
      (λ row is. (let t = is.tag in let c = at_end.count in omega (arith, t, c)))

  pub held_once : HoldsOnce (held_by rules workers seat log)
  unfolding IsDistinct
  held_once = of_row (λ o. HoldsOnce (option_map_or (λ (row : Seat). row.held) o [])) tt (λ row is. is.once)

  -- a scope that is not among the first is among the rest or nowhere
  among_rest : (n k : ℕ) → among (take n (released_in log)) k ≡ false → among (released_in log) k ≡ among (drop n (released_in log)) k
  among_rest n k none =
      ap (λ l. among l k) (sym (take-append-drop n (released_in log)))
      ∙ (list_any-append (λ s. s.0 == k) (take n (released_in log)) (drop n (released_in log)) ∙ ap (λ t. t || among (drop n (released_in log)) k) none)

  pub dead_scopes : All (λ h. is_live (replay rules workers log).scopes h.scope ≡ not (is_through (unacknowledged rules workers seat log) h)) (held_by rules workers seat log)
  dead_scopes = of_row (λ o. All (λ h. is_live (replay rules workers log).scopes h.scope ≡ not (is_through (drop (option_map_or (λ (row : Seat). row.tag) o 0) (released_in log)) h))
      (option_map_or (λ (row : Seat). row.held) o [])) (All-nil _)
      (λ row is. all_each (λ h. is_live (replay rules workers log).scopes h.scope ≡ not (is_through (drop row.tag (released_in log)) h)) row.held
      (λ i h at. at_end.dead h.scope (is.within i h at) ∙ ap not (among_rest row.tag h.scope (is.later i h at))))
