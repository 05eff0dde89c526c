-- A counter that is not gone stays so until a sweep.
use Rattle.std.proofs.Common.{◌≡◌, ℕ, zero, suc, ◌+◌, ◌==◌, ◌&&◌, not, Bool, true, false, cond, Option, option_map, None, Some, List, [], ◌∷◌, ◌++◌, slice_get, refl, ap, sym, ◌∙◌, subst, arith, inl, inr}
use Rattle.std.specs.List.{list_all}
use Rattle.std.specs.Option.{option_map_or}
use Rattle.std.proofs.lemmas.Bool.Decides.{Decides-eqb}
use Rattle.stat_defs.specs.Books.{BookHistory}
use Rattle.stat_defs.specs.Keys.{same_kind}
use Rattle.stat_defs.specs.declared.ids.Kind.{Kind}
use Rattle.stat_defs.specs.declared.ids.Kind.TheVariants.{Counter}
use Rattle.stat_defs.specs.declared.history.Call.{Call}
use Rattle.stat_defs.specs.declared.history.Call.TheVariants as call
use Rattle.stat_defs.specs.declared.history.Reply.{Reply}
use Rattle.stat_defs.specs.declared.history.Reply.TheVariants as reply
use Rattle.stat_defs.specs.declared.history.Entry.{Entry}
use Rattle.book_state.specs.State.{NameRules, Row, Seat, State, bears, is_gone}
use Rattle.book_state.specs.Finding.{scope_of}
use Rattle.book_state.specs.Step.{effect, Allowed, change_at, on_seat, on_metric, found, made, left_to, released}
use Rattle.book_state.specs.Log.{empty, is_sweep, replay_from, Run}
use Rattle.book_state.proofs.Growing.{replayed_on}
use Rattle.book_state.proofs.Lists.{eq_or, get_change_same, get_change_other, get_map, get_within, get_push_before, both, true_false}
use Rattle.book_state.proofs.Releasing.{others}
use Rattle.stat_book.specs.Calls.{rules_of, state_of, IsLegal}
use Rattle.plain_store.specs.Entries.{Adds}
use Rattle.book_state.specs.Follows.{Own}
use Rattle.plain_store.specs.StoreKept.{is_counter_there}

-- the same kind, and not gone where it was not
pub record Stays (row row' : Row) : Type 0 where
  pub kind : row'.metric.kind ≡ row.metric.kind
  pub there : is_gone row.metric.life ≡ false → is_gone row'.metric.life ≡ false

abbrev Still : List Row → ℕ → Row → Type 0
Still rows id row = (row' : Row) × (slice_get rows id ≡ Some row') × Stays row row'

itself : (row : Row) → Stays row row
itself row = record { kind = refl; there = λ h. h }

twice : (a b c : Row) → Stays a b → Stays b c → Stays a c
twice a b c ab bc = record { kind = bc.kind ∙ ab.kind; there = λ h. bc.there (ab.there h) }

changed : (f : Row → Row) → ((row : Row) → Stays row (f row)) → (at : ℕ) (rows : List Row) (id : ℕ) (row : Row) → slice_get rows id ≡ Some row → Still (change_at f at rows) id row
changed f same at rows id row here = elim (eq_or id at) [
  | inl is ↦ (
    f row,
    ap (λ (k : ℕ). slice_get (change_at f at rows) k) is ∙ (get_change_same f at rows ∙ ap (option_map f) (ap (λ (k : ℕ). slice_get rows k) (sym is) ∙ here)),
    same row,
  )
  | inr other ↦ (row, get_change_other f at rows id other ∙ here, itself row)
]

left_stays : (tag : ℕ) (row : Row) (left : List ℕ) → Stays row (left_to tag row.metric left)
left_stays tag row [] = record { kind = refl; there = λ h. refl }
left_stays tag row (b ∷ bs) = record { kind = refl; there = λ h. h }

cond_stays : (t : Bool) (row a b : Row) → Stays row a → Stays row b → Stays row (cond t a b)
cond_stays true row a b sa sb = sa
cond_stays false row a b sa sb = sb

on_seat_still : (f : Seat → Seat) (by : ℕ) (s : State) (id : ℕ) (row : Row) → Still s.metrics id row → Still (on_seat f by s).metrics id row
on_seat_still f zero s id row still = still
on_seat_still f (suc at) s id row still = still

module _ (rules : NameRules) where
  step_still : (by : ℕ) (c : Call) (r : Reply) (s : State) (id : ℕ) (row : Row) → is_sweep c ≡ false → slice_get s.metrics id ≡ Some row → Still (effect rules by c r s).metrics id row
  step_still by (call.OpenScope label prefix) (reply.Opened scope) s id row is_none here = (row, here, itself row)
  step_still by (call.Release label) (reply.Released scope) s id row is_none here = (
    released scope.0 (s.releases + 1) row,
    get_map (released scope.0 (s.releases + 1)) s.metrics id ∙ ap (option_map (released scope.0 (s.releases + 1))) here,
    cond_stays (bears scope.0 row) row (left_to (s.releases + 1) row.metric (others scope.0 row.bearers)) row (left_stays (s.releases + 1) row (others scope.0 row.bearers)) (itself row),
  )
  step_still by (call.Find key) (reply.Made new numbers) s id row is_none here =
      let more : State = record s { metrics = s.metrics ++ made rules s key numbers ∷ [] } in
      on_seat_still _ by more id row
      (row, get_push_before s.metrics (made rules s key numbers) id (λ e. omega (arith, e, get_within s.metrics id row here)) ∙ here, itself row)
  step_still by (call.Find key) (reply.Found known) s id row is_none here =
      let live : State = on_metric (found (scope_of s key) key.mode) known.0 s in
      on_seat_still _ by live id row
      (changed (found (scope_of s key) key.mode) (λ x. record { kind = refl; there = λ h. refl }) known.0 s.metrics id row here)
  step_still by (call.Find key) reply.Rejected s id row is_none here = on_seat_still _ by s id row (row, here, itself row)
  step_still by (call.SetText at text) reply.TextSet s id row is_none here =
      changed (λ x. record x { metric = record x.metric { text = text } }) (λ x. record { kind = refl; there = λ h. h }) at.0 s.metrics id row here
  step_still by call.Ack (reply.Acked tag) s id row is_none here = on_seat_still _ by s id row (row, here, itself row)
  step_still by call.Sweep (reply.Swept n) s id row is_none here = absurd (true_false is_none)
  step_still by call.End reply.Ended s id row is_none here = on_seat_still _ by s id row (row, here, itself row)
  step_still by _ _ s id row is_none here = (row, here, itself row)

  -- the worker does not sweep
  no_sweep : (by : ℕ) (c : Call) (r : Reply) (s : State) → (by == 1) ≡ true → Allowed rules by c r s → is_sweep c ≡ false
  no_sweep by call.Sweep (reply.Swept n) s mine may = let one = (Decides-eqb by 1).0 mine in let none = may.0 in absurd (omega (arith, one, none))
  no_sweep by call.Sweep _ s mine may = absurd may
  no_sweep by _ r s mine may = refl

  run_still : (s : State) (log : List Entry) (id : ℕ) (row : Row) → list_all (λ entry. entry.seat == 1) log ≡ true → Run rules s log → slice_get s.metrics id ≡ Some row
      → Still (replay_from rules s log).metrics id row
  run_still s [] id row mine run here = (row, here, itself row)
  run_still s (e ∷ log) id row mine run here =
      let parts = both (e.seat == 1) (list_all (λ entry. entry.seat == 1) log) mine in
      let once = step_still e.seat e.call e.reply s id row (no_sweep e.seat e.call e.reply s parts.0 run.0) here in
      let rest = run_still (effect rules e.seat e.call e.reply s) log id once.0 parts.1 run.1 once.1 in
      (rest.0, rest.1, twice row once.0 rest.0 once.2 rest.2)

  -- the second part of a run is one
  pub run_behind : (s : State) (log more : List Entry) → Run rules s (log ++ more) → Run rules (replay_from rules s log) more
  run_behind s [] more run = run
  run_behind s (e ∷ log) more run = run_behind (effect rules e.seat e.call e.reply s) log more run.1

pub there_row : (s : State) (id : ℕ) → is_counter_there s id ≡ true → (row : Row) × (slice_get s.metrics id ≡ Some row) × (same_kind row.metric.kind Counter ≡ true) × (is_gone row.metric.life ≡ false)
there_row s id there = by_row (slice_get s.metrics id) refl there where
  not_gone : (t : Bool) → not t ≡ true → t ≡ false
  not_gone true e = absurd (true_false (sym e))
  not_gone false e = refl

  by_row : (o : Option Row) → slice_get s.metrics id ≡ o → option_map_or (λ row. same_kind row.metric.kind Counter && not (is_gone row.metric.life)) o false ≡ true
      → (row : Row) × (slice_get s.metrics id ≡ Some row) × (same_kind row.metric.kind Counter ≡ true) × (is_gone row.metric.life ≡ false)
  by_row None is e = absurd (true_false (sym e))
  by_row (Some row) is e = let parts = both (same_kind row.metric.kind Counter) (not (is_gone row.metric.life)) e in (row, is, parts.0, not_gone (is_gone row.metric.life) parts.1)

pub there_of_row : (s : State) (id : ℕ) (row : Row) → slice_get s.metrics id ≡ Some row → same_kind row.metric.kind Counter ≡ true → is_gone row.metric.life ≡ false → is_counter_there s id ≡ true
there_of_row s id row is kind there =
    ap (λ (o : Option Row). option_map_or (λ row. same_kind row.metric.kind Counter && not (is_gone row.metric.life)) o false) is
    ∙ (ap (λ (t : Bool). t && not (is_gone row.metric.life)) kind ∙ ap (λ (t : Bool). not t) there)

-- what the worker adds to a log leaves the counters that are not gone
pub counters_stay : (old new : BookHistory) (P : List Own → Type 0) (adds : Adds old P new) → IsLegal new → (id : ℕ) → is_counter_there (state_of old) id ≡ true → is_counter_there (state_of new) id ≡ true
counters_stay old new P adds legal id there =
    let row = there_row (state_of old) id there in
    let whole : IsLegal (record old { log = old.log ++ adds.more }) = subst (λ (b : BookHistory). IsLegal b) adds.logged legal in
    let run = run_behind (rules_of old) (empty old.workers) old.log adds.more whole.steps in
    let still = run_still (rules_of old) (state_of old) adds.more id row.0 adds.mine run row.1 in
    let now = replayed_on (rules_of old) (empty old.workers) old.log adds.more in
    subst (λ (b : BookHistory). is_counter_there (state_of b) id ≡ true) (sym adds.logged)
    (subst (λ (s : State). is_counter_there s id ≡ true) (sym now)
    (there_of_row (replay_from (rules_of old) (state_of old) adds.more) id still.0 still.1 (ap (λ (k : Kind). same_kind k Counter) still.2.kind ∙ row.2) (still.2.there row.3)))
