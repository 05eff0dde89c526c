-- Every metric that a lawful log makes has a full name.
use Rattle.std.proofs.Common.{◌≡◌, ℕ, zero, suc, true, List, [], ◌∷◌, ◌++◌, cond, Bool, fold, map, filter, slice_get, ◌+◌, ◌==◌, not, false, refl, sym, subst, arith, IsUtf8}
use Rattle.std.specs.Option.{option_map_or}
use Rattle.std.specs.List.{AllByRecursion}
use Rattle.stat_defs.specs.Names.{IsScopePrefix, IsFullName}
use Rattle.stat_defs.specs.declared.history.Call.{Call}
use Rattle.stat_defs.specs.declared.history.Call.TheVariants as call
use Rattle.stat_defs.specs.declared.history.Entry.{Entry}
use Rattle.stat_defs.specs.declared.history.Reply.{Reply}
use Rattle.stat_defs.specs.declared.history.Reply.TheVariants as reply
use Rattle.stat_defs.specs.declared.metrics.Life.TheVariants.{Gone}
use Rattle.stat_defs.specs.declared.metrics.Metric.{Metric}
use Rattle.tag_rules.proofs.Readable.{name_is_text}
use Rattle.book_state.specs.State.{NameRules, Row, Scope, Seat, State, metrics_of, bears}
use Rattle.book_state.specs.Finding.{scope_of}
use Rattle.book_state.specs.Step.{effect, change_at, on_seat, closed, left_to, released, found, made, overdue, swept}
use Rattle.book_state.specs.Stored.{StateView, IsLawfulCall, after_entry, drawing}
use Rattle.book_state.proofs.Naming.{full_is_full}
use Rattle.flush_view.specs.Replaying.{AreNext}

abbrev HasPrefix : Scope → Type 0
HasPrefix scope = IsScopePrefix scope.prefix

abbrev HasName : Row → Type 0
HasName row = IsFullName row.metric.name

abbrev HasNames : State → Type 0
HasNames s = AllByRecursion HasPrefix s.scopes × AllByRecursion HasName s.metrics

module _ {X : Type 0} (P : X → Type 0) where
  pushed : (xs : List X) (x : X) → AllByRecursion P xs → P x → AllByRecursion P (xs ++ x ∷ [])
  pushed [] x all one = (one, tt)
  pushed (y ∷ xs) x all one = (all.0, pushed xs x all.1 one)

  module _ (f : X → X) (keeps : (x : X) → P x → P (f x)) where
    changed : (i : ℕ) (xs : List X) → AllByRecursion P xs → AllByRecursion P (change_at f i xs)
    changed i [] all = tt
    changed zero (x ∷ xs) all = (keeps x all.0, all.1)
    changed (suc i) (x ∷ xs) all = (all.0, changed i xs all.1)

    mapped : (xs : List X) → AllByRecursion P xs → AllByRecursion P (map f xs)
    mapped [] all = tt
    mapped (x ∷ xs) all = (keeps x all.0, mapped xs all.1)

on_seat_named : (f : Seat → Seat) (seat : ℕ) (s : State) → HasNames s → HasNames (on_seat f seat s)
on_seat_named f zero s named = named
on_seat_named f (suc at) s named = named

prefix_in : (scopes : List Scope) (i : ℕ) → AllByRecursion HasPrefix scopes
    → IsScopePrefix (option_map_or (λ scope. scope.prefix) (slice_get scopes i) [])
prefix_in [] i all = record { short = omega arith; bytes = refl }
prefix_in (scope ∷ scopes) zero all = all.0
prefix_in (scope ∷ scopes) (suc i) all = prefix_in scopes i all.1

left_named : (tag : ℕ) (metric : Metric) (bearers : List ℕ) → IsFullName metric.name
    → HasName (left_to tag metric bearers)
left_named tag metric [] named = named
left_named tag metric (b ∷ bs) named = named

released_named : (scope tag : ℕ) (row : Row) → HasName row → HasName (released scope tag row)
released_named scope tag row named = by_case (bears scope row) where
  by_case : (b : Bool) → HasName (cond b (left_to tag row.metric (filter (λ b. not (scope == b)) row.bearers)) row)
  by_case true = left_named tag row.metric (filter (λ b. not (scope == b)) row.bearers) named
  by_case false = named

swept_named : (seats : List Seat) (row : Row) → HasName row → HasName (swept seats row)
swept_named seats row named = by_case (overdue seats row.metric.life) where
  by_case : (b : Bool) → HasName (cond b (record row { metric = record row.metric { life = Gone } }) row)
  by_case true = named
  by_case false = named

effect_named : (rules : NameRules) (seat : ℕ) (c : Call) (r : Reply) (s : State) → IsLawfulCall c → HasNames s
    → HasNames (effect rules seat c r s)
effect_named rules seat (call.OpenScope label prefix) (reply.Opened id) s lawful named =
    (pushed HasPrefix s.scopes (record { label = label; prefix = prefix; live = true }) named.0 lawful, named.1)
effect_named rules seat (call.OpenScope label prefix) _ s lawful named = named
effect_named rules seat (call.Release label) (reply.Released id) s lawful named = (
  changed HasPrefix closed (λ scope has. has) id.0 s.scopes named.0,
  mapped HasName (released id.0 (s.releases + 1)) (released_named id.0 (s.releases + 1)) s.metrics named.1,
)
effect_named rules seat (call.Release label) _ s lawful named = named
effect_named rules seat (call.Find key) (reply.Made id numbers) s lawful named =
    on_seat_named _ seat _ (
      named.0,
      pushed HasName s.metrics (made rules s key numbers) named.1
          (full_is_full (option_map_or (λ scope. scope.prefix) (slice_get s.scopes (scope_of s key)) []) key.name
          (prefix_in s.scopes (scope_of s key) named.0) lawful),
    )
effect_named rules seat (call.Find key) (reply.Found id) s lawful named =
    on_seat_named _ seat _
    (named.0, changed HasName (found (scope_of s key) key.mode) (λ row has. has) id.0 s.metrics named.1)
effect_named rules seat (call.Find key) reply.Rejected s lawful named = on_seat_named _ seat s named
effect_named rules seat (call.Find key) _ s lawful named = named
effect_named rules seat (call.SetText id text) reply.TextSet s lawful named = (
  named.0,
  changed HasName (λ row. record row { metric = record row.metric { text = text } })
      (λ row has. has) id.0 s.metrics named.1,
)
effect_named rules seat (call.SetText id text) _ s lawful named = named
effect_named rules seat call.Ack (reply.Acked tag) s lawful named = on_seat_named _ seat s named
effect_named rules seat call.Ack _ s lawful named = named
effect_named rules seat call.Sweep (reply.Swept n) s lawful named =
    (named.0, mapped HasName (swept s.seats) (swept_named s.seats) s.metrics named.1)
effect_named rules seat call.Sweep _ s lawful named = named
effect_named rules seat call.End reply.Ended s lawful named = on_seat_named _ seat s named
effect_named rules seat call.End _ s lawful named = named

named_after : (v : StateView) (log : List Entry) → AreNext v log → HasNames v.state
    → HasNames (fold after_entry v log).state
named_after v [] next named = named
named_after v (e ∷ log) next named =
    named_after (after_entry v e) log next.1
    (effect_named (drawing v.tags) e.seat e.call e.reply v.state next.0.lawful named)

texts_of : (rows : List Row) → AllByRecursion HasName rows
    → AllByRecursion (λ (metric : Metric). IsUtf8 metric.name) (map (λ row. row.metric) rows)
texts_of [] all = tt
texts_of (row ∷ rows) all = (name_is_text row.metric.name all.0, texts_of rows all.1)

-- where a state without scopes and metrics is the first one
pub names_are_texts : (v : StateView) → v.state.scopes ≡ [] → v.state.metrics ≡ [] → (log : List Entry) → AreNext v log
    → AllByRecursion (λ (metric : Metric). IsUtf8 metric.name) (metrics_of (fold after_entry v log).state)
names_are_texts v no_scopes no_metrics log next =
    texts_of (fold after_entry v log).state.metrics (named_after v log next (
      subst (AllByRecursion HasPrefix) (sym no_scopes) tt,
      subst (AllByRecursion HasName) (sym no_metrics) tt,
    )).1
