-- The tags of each metric are those that are drawn out of its name.
use Rattle.std.proofs.Common.{◌≡◌, ℕ, zero, suc, cond, Bool, true, false, Some, List, [], ◌∷◌, ◌++◌, slice_get, refl, subst}
use Rattle.std.specs.Prelude.{filter, not, ◌==◌, ◌+◌}
use Rattle.std.specs.List.{AllByRecursion}
use Rattle.stat_defs.specs.declared.history.Call.{Call}
use Rattle.stat_defs.specs.declared.history.Call.TheVariants as call
use Rattle.stat_defs.specs.declared.history.Reply.{Reply}
use Rattle.stat_defs.specs.declared.history.Reply.TheVariants as reply
use Rattle.stat_defs.specs.declared.history.Entry.{Entry}
use Rattle.book_state.specs.State.{NameRules, Row, Seat, State, bears}
use Rattle.book_state.specs.Step.{effect, on_seat, left_to, released, overdue, swept, found as found_row, made as made_row, change_at}
use Rattle.book_state.specs.Finding.{scope_of}
use Rattle.book_state.specs.Log.{empty, replay_from, replay}
use Rattle.book_state.proofs.Lists.{not_some, some_same}
use Rattle.all_accepted.proofs.InLists.{all_joined, all_changed, all_mapped}

pub all_get : {X : Type 0} (P : X → Type 0) (xs : List X) (i : ℕ) (x : X) → AllByRecursion P xs → slice_get xs i ≡ Some x → P x
all_get P [] i x all e = absurd (not_some x e)
all_get P (y ∷ xs) zero x all e = subst P (some_same y x e) all.0
all_get P (y ∷ xs) (suc i) x all e = all_get P xs i x all.1 e

module _ (rules : NameRules) where
  abbrev pub HasTags : Row → Type 0
  HasTags row = row.metric.tagged ≡ rules.tagged row.metric.name

  abbrev pub HaveTags : State → Type 0
  HaveTags s = AllByRecursion HasTags s.metrics

  on_seat_tags : (f : Seat → Seat) (by : ℕ) (s : State) → HaveTags s → HaveTags (on_seat f by s)
  on_seat_tags f zero s has = has
  on_seat_tags f (suc at) s has = has

  left_tags : (tag : ℕ) (row : Row) (left : List ℕ) → HasTags row → HasTags (left_to tag row.metric left)
  left_tags tag row [] has = has
  left_tags tag row (b ∷ bs) has = has

  cond_tags : (t : Bool) (a b : Row) → HasTags a → HasTags b → HasTags (cond t a b)
  cond_tags true a b one other = one
  cond_tags false a b one other = other

  step_tags : (by : ℕ) (c : Call) (r : Reply) (s : State) → HaveTags s → HaveTags (effect rules by c r s)
  step_tags by (call.OpenScope label prefix) (reply.Opened id) s has = has
  step_tags by (call.Release label) (reply.Released id) s has =
      all_mapped HasTags (released id.0 (s.releases + 1)) s.metrics
      (λ row is. cond_tags (bears id.0 row) (left_to (s.releases + 1) row.metric (filter (λ b. not (id.0 == b)) row.bearers)) row (left_tags (s.releases + 1) row (filter (λ b. not (id.0 == b)) row.bearers) is) is) has
  step_tags by (call.Find key) (reply.Made id numbers) s has =
      on_seat_tags _ by (record s { metrics = s.metrics ++ made_row rules s key numbers ∷ [] }) (all_joined HasTags s.metrics (made_row rules s key numbers ∷ []) has (refl, tt))
  step_tags by (call.Find key) (reply.Found id) s has =
      on_seat_tags _ by (record s { metrics = change_at (found_row (scope_of s key) key.mode) id.0 s.metrics }) (all_changed HasTags (found_row (scope_of s key) key.mode) id.0 s.metrics (λ row is. is) has)
  step_tags by (call.Find key) reply.Rejected s has = on_seat_tags _ by s has
  step_tags by (call.SetText id text) reply.TextSet s has =
      all_changed HasTags (λ (row : Row). record row { metric = record row.metric { text = text } }) id.0 s.metrics (λ row is. is) has
  step_tags by call.Ack (reply.Acked tag) s has = on_seat_tags _ by s has
  step_tags by call.Sweep (reply.Swept n) s has =
      all_mapped HasTags (swept s.seats) s.metrics (λ row is. cond_tags (overdue s.seats row.metric.life) _ row is is) has
  step_tags by call.End reply.Ended s has = on_seat_tags _ by s has
  step_tags by _ _ s has = has

  run_tags : (s : State) (log : List Entry) → HaveTags s → HaveTags (replay_from rules s log)
  run_tags s [] has = has
  run_tags s (e ∷ log) has = run_tags (effect rules e.seat e.call e.reply s) log (step_tags e.seat e.call e.reply s has)

  pub all_tags : (workers : ℕ) (log : List Entry) → HaveTags (replay rules workers log)
  all_tags workers log = run_tags (empty workers) log tt
