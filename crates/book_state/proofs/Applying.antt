-- What an entry that is applied tells, and what is stored after it.
use Rattle.std.proofs.Common.{◌≡◌, ℕ, zero, suc, ◌≤◌, Bool, false, List, [], ◌∷◌, map, length, refl, ap, sym, ◌∙◌, subst, arith}
use Rattle.stat_defs.specs.declared.events.Key.{Key}
use Rattle.stat_defs.specs.declared.history.Call.{Call}
use Rattle.stat_defs.specs.declared.history.Call.TheVariants as call
use Rattle.stat_defs.specs.declared.history.Reply.{Reply}
use Rattle.stat_defs.specs.declared.history.Reply.TheVariants as reply
use Rattle.stat_defs.specs.declared.history.Entry.{Entry}
use Rattle.stat_defs.specs.declared.ids.MetricId.{MetricId}
use Rattle.stat_defs.specs.declared.ids.ScopeId.{ScopeId}
use Rattle.book_state.specs.State.{NameRules, Seat, State}
use Rattle.book_state.specs.Step.{effect, Allowed, Working, on_seat, change_at}
use Rattle.book_state.specs.Stored.{StateView, IsNext, IsAlike, IsNoted, drawing, after_entry, released_by, seat_stored}
use Rattle.book_state.proofs.Lists.{map-change_at, within_some}

module _ (v : StateView) (e : Entry) (c : Call) (r : Reply) (call_is : e.call ≡ c) (reply_is : e.reply ≡ r) where
  pub allowed_at : (n : IsNext v e) → Allowed n.rules e.seat c r v.state
  allowed_at n = subst (λ (a : Call). Allowed n.rules e.seat a r v.state) call_is (subst (λ (a : Reply). Allowed n.rules e.seat e.call a v.state) reply_is n.allowed)

  pub effect_at : (after_entry v e).state ≡ effect (drawing v.tags) e.seat c r v.state
  effect_at = λ i. effect (drawing v.tags) e.seat (call_is i) (reply_is i) v.state

  pub released_at : released_by e.call e.reply ≡ released_by c r
  released_at = λ i. released_by (call_is i) (reply_is i)

pub same_state : (s : State) → IsAlike s s
same_state s = record { scopes = refl; metrics = refl; releases = refl; seats = refl }

-- what a seat holds is not stored
pub held_alike : (s : State) (f : Seat → Seat) → ((seat : Seat) → seat_stored (f seat) ≡ seat_stored seat) → (by : ℕ) → IsAlike s (on_seat f by s)
held_alike s f same zero = same_state s
held_alike s f same (suc at) = record { scopes = refl; metrics = refl; releases = refl; seats = map-change_at seat_stored f (λ x. x) same at s.seats ∙ unchanged at (map seat_stored s.seats) } where
  unchanged : (i : ℕ) (xs : List (ℕ × Bool)) → change_at (λ x. x) i xs ≡ xs
  unchanged i [] = refl
  unchanged zero (x ∷ xs) = refl
  unchanged (suc i) (x ∷ xs) = ap (λ (l : List (ℕ × Bool)). x ∷ l) (unchanged i xs)

-- an entry that changes nothing that is stored
abbrev Noted : NameRules → ℕ → Call → Reply → State → Type 0
Noted rules by c r s = IsAlike s (effect rules by c r s) × (released_by c r ≡ [])

noted : (v : StateView) (e : Entry) (c : Call) (r : Reply) → e.call ≡ c → e.reply ≡ r → Noted (drawing v.tags) e.seat c r v.state → IsNoted v e
noted v e c r ci ri n = record { alike = subst (IsAlike v.state) (sym (effect_at v e c r ci ri)) n.0; none_released = released_at v e c r ci ri ∙ n.1 }

module _ (rules : NameRules) (by : ℕ) (s : State) where
  note_open : (label prefix : List ℕ) (r : Reply) → ((id : ScopeId) → r ≡ reply.Opened id → ⊥) → Noted rules by (call.OpenScope label prefix) r s
  note_open label prefix (reply.Opened id) other = absurd (other id refl)
  note_open label prefix _ other = (same_state s, refl)

  note_release : (label : List ℕ) (r : Reply) → ((id : ScopeId) → r ≡ reply.Released id → ⊥) → Noted rules by (call.Release label) r s
  note_release label (reply.Released id) other = absurd (other id refl)
  note_release label _ other = (same_state s, refl)

  note_find : (key : Key) (r : Reply) → ((id : MetricId) → r ≡ reply.Found id → ⊥) → ((id : MetricId) (numbers : List ℕ) → r ≡ reply.Made id numbers → ⊥) → Noted rules by (call.Find key) r s
  note_find key (reply.Found id) found made = absurd (found id refl)
  note_find key (reply.Made id numbers) found made = absurd (made id numbers refl)
  note_find key reply.Rejected found made = (held_alike s _ (λ seat. refl) by, refl)
  note_find key _ found made = (same_state s, refl)

pub noted_open : (v : StateView) (e : Entry) (label prefix : List ℕ) → e.call ≡ call.OpenScope label prefix → ((id : ScopeId) → e.reply ≡ reply.Opened id → ⊥) → IsNoted v e
noted_open v e label prefix ci other = noted v e (call.OpenScope label prefix) e.reply ci refl (note_open (drawing v.tags) e.seat v.state label prefix e.reply other)

pub noted_release : (v : StateView) (e : Entry) (label : List ℕ) → e.call ≡ call.Release label → ((id : ScopeId) → e.reply ≡ reply.Released id → ⊥) → IsNoted v e
noted_release v e label ci other = noted v e (call.Release label) e.reply ci refl (note_release (drawing v.tags) e.seat v.state label e.reply other)

pub noted_find : (v : StateView) (e : Entry) (key : Key) → e.call ≡ call.Find key → ((id : MetricId) → e.reply ≡ reply.Found id → ⊥)
    → ((id : MetricId) (numbers : List ℕ) → e.reply ≡ reply.Made id numbers → ⊥) → IsNoted v e
noted_find v e key ci found made = noted v e (call.Find key) e.reply ci refl (note_find (drawing v.tags) e.seat v.state key e.reply found made)

module _ (rules : NameRules) (by : ℕ) (s : State) where
  pub told_text : (id : MetricId) (text : List ℕ) (r : Reply) → Allowed rules by (call.SetText id text) r s → r ≡ reply.TextSet
  told_text id text reply.TextSet may = refl
  told_text id text _ may = absurd may

  pub told_ack : (r : Reply) → Allowed rules by call.Ack r s → r ≡ reply.Acked s.releases
  told_ack (reply.Acked tag) may = ap reply.Acked may.1
  told_ack _ may = absurd may

  pub told_sweep : (r : Reply) → Allowed rules by call.Sweep r s → (n : ℕ) × (r ≡ reply.Swept n)
  told_sweep (reply.Swept n) may = (n, refl)
  told_sweep _ may = absurd may

  pub told_end : (r : Reply) → Allowed rules by call.End r s → r ≡ reply.Ended
  told_end reply.Ended may = refl
  told_end _ may = absurd may

-- the place of a worker's seat
pub seat_place : (s : State) (by : ℕ) (May : Seat → Type 0) → Working s by May → (1 ≤ by) × (by ≤ length s.seats)
seat_place s zero May works = absurd works
seat_place s (suc at) May works = let within = within_some s.seats at (λ row. (row.ended ≡ false) × May row) works in (omega arith, omega (arith, within))
