-- What a seat's own calls leave with it.
use Rattle.std.proofs.Common.{◌≡◌, ℕ, zero, suc, if◌then◌else◌, Bool, true, false, Option, option_map, Some, None, List, [], ◌∷◌, ◌++◌, filter, refl, ap, sym, ◌∙◌}
use Rattle.std.specs.Option.{option_map_or, IsSomeAnd}
use Rattle.stat_defs.specs.declared.ids.MetricId.{MetricId}
use Rattle.stat_defs.specs.declared.events.Key.{Key}
use Rattle.stat_defs.specs.declared.history.Verdict.{Verdict}
use Rattle.stat_defs.specs.declared.history.Verdict.TheVariants as verdict
use Rattle.stat_defs.specs.declared.history.Call.TheVariants as call
use Rattle.stat_defs.specs.declared.history.Reply.{Reply}
use Rattle.stat_defs.specs.declared.history.Reply.TheVariants as reply
use Rattle.stat_defs.specs.Keys.{Held}
use Rattle.book_state.specs.State.{NameRules, Scope, Seat, State, seat_of, held_in}
use Rattle.book_state.specs.Finding.{scope_of}
use Rattle.book_state.specs.Step.{effect, on_seat, on_metric, found, made, hold, acknowledged, ended, is_live, Works}
use Rattle.book_state.specs.Follows.{verdict_of}
use Rattle.book_state.specs.SeatLaws.{is_held}
use Rattle.book_state.proofs.Lists.{some_same, not_some, true_false, get_change_same}
use Rattle.book_state.proofs.Growing.{same_seats}

-- the seat that is changed
pub at_seat : (f : Seat → Seat) (seat : ℕ) (s : State) → seat_of (on_seat f seat s) seat ≡ option_map f (seat_of s seat)
at_seat f zero s = refl
at_seat f (suc at) s = get_change_same f at s.seats

changed : (f : Seat → Seat) (seat : ℕ) (s : State) (row : Seat) → seat_of s seat ≡ Some row → seat_of (on_seat f seat s) seat ≡ Some (f row)
changed f seat s row is = at_seat f seat s ∙ ap (option_map f) is

-- the verdict of a reply to a find
told : (v w : Verdict) (row : Seat) (key : Key) (scope : ℕ) → Some w ≡ Some v → Some (if is_held w then hold key scope w row else row) ≡ Some (if is_held v then hold key scope v row else row)
told v w row key scope e = ap (λ (x : Verdict). Some (if is_held x then hold key scope x row else row)) (some_same w v e)

module _ (rules : NameRules) (s : State) (seat : ℕ) where
  pub own_find : (row : Seat) (key : Key) (r : Reply) (v : Verdict) → seat_of s seat ≡ Some row → verdict_of r ≡ Some v
      → seat_of (effect rules seat (call.Find key) r s) seat ≡ Some (if is_held v then hold key (scope_of s key) v row else row)
  own_find row key (reply.Made id numbers) v is e =
      let more : State = record s { metrics = s.metrics ++ made rules s key numbers ∷ [] } in
      changed (hold key (scope_of s key) (verdict.Accepted id)) seat more row (same_seats more s seat refl ∙ is) ∙ told v (verdict.Accepted id) row key (scope_of s key) e
  own_find row key (reply.Found id) v is e =
      let live : State = on_metric (found (scope_of s key) key.mode) id.0 s in
      changed (hold key (scope_of s key) (verdict.Accepted id)) seat live row (same_seats live s seat refl ∙ is) ∙ told v (verdict.Accepted id) row key (scope_of s key) e
  own_find row key reply.Rejected v is e = changed (hold key (scope_of s key) verdict.Rejected) seat s row is ∙ told v verdict.Rejected row key (scope_of s key) e
  own_find row key (reply.Opened id) v is e = is ∙ told v (verdict.Opened id) row key (scope_of s key) e
  own_find row key reply.LabelTaken v is e = is ∙ told v verdict.LabelTaken row key (scope_of s key) e
  own_find row key (reply.Released id) v is e = is ∙ told v (verdict.Released id) row key (scope_of s key) e
  own_find row key reply.NoScope v is e = is ∙ told v verdict.NoScope row key (scope_of s key) e
  own_find row key reply.NoRoom v is e = is ∙ told v verdict.NoRoom row key (scope_of s key) e
  own_find row key reply.OverLimit v is e = is ∙ told v verdict.OverLimit row key (scope_of s key) e
  own_find row key reply.TextSet v is e = absurd (not_some v e)
  own_find row key (reply.Acked tag) v is e = absurd (not_some v e)
  own_find row key (reply.Swept n) v is e = absurd (not_some v e)
  own_find row key reply.Ended v is e = absurd (not_some v e)

  held_not : (v w : Verdict) → Some w ≡ Some v → is_held v ≡ false → is_held w ≡ true → ⊥
  held_not v w e none held = true_false (sym held ∙ (ap is_held (some_same w v e) ∙ none))

  pub own_passed : (key : Key) (r : Reply) (v : Verdict) → verdict_of r ≡ Some v → is_held v ≡ false → seat_of (effect rules seat (call.Find key) r s) seat ≡ seat_of s seat
  own_passed key (reply.Made id numbers) v e none = absurd (held_not v (verdict.Accepted id) e none refl)
  own_passed key (reply.Found id) v e none = absurd (held_not v (verdict.Accepted id) e none refl)
  own_passed key reply.Rejected v e none = absurd (held_not v verdict.Rejected e none refl)
  own_passed key _ v e none = refl

  pub own_ack : (row : Seat) (tag : ℕ) → seat_of s seat ≡ Some row → seat_of (effect rules seat call.Ack (reply.Acked tag) s) seat ≡ Some (acknowledged s.scopes tag row)
  own_ack row tag is = changed (acknowledged s.scopes tag) seat s row is

  pub own_end : (row : Seat) → seat_of s seat ≡ Some row → seat_of (effect rules seat call.End reply.Ended s) seat ≡ Some (ended row)
  own_end row is = changed ended seat s row is

  pub own_opening : (label prefix : List ℕ) (r : Reply) → seat_of (effect rules seat (call.OpenScope label prefix) r s) seat ≡ seat_of s seat
  own_opening label prefix (reply.Opened id) = same_seats (effect rules seat (call.OpenScope label prefix) (reply.Opened id) s) s seat refl
  own_opening label prefix _ = refl

  pub own_release : (label : List ℕ) (r : Reply) → seat_of (effect rules seat (call.Release label) r s) seat ≡ seat_of s seat
  own_release label (reply.Released id) = same_seats (effect rules seat (call.Release label) (reply.Released id) s) s seat refl
  own_release label _ = refl

  pub own_text : (id : MetricId) (text : List ℕ) (r : Reply) → seat_of (effect rules seat (call.SetText id text) r s) seat ≡ seat_of s seat
  own_text id text reply.TextSet = same_seats (effect rules seat (call.SetText id text) reply.TextSet s) s seat refl
  own_text id text _ = refl

-- what a row holds
abbrev row_held : Option Seat → List Held
row_held o = option_map_or (λ (row : Seat). row.held) o []

module _ (rules : NameRules) (s : State) (seat : ℕ) where
  pub held_found : (key : Key) (r : Reply) (v : Verdict) → Works s seat → verdict_of r ≡ Some v → is_held v ≡ true
      → held_in (effect rules seat (call.Find key) r s) seat ≡ held_in s seat ++ record { key = key; scope = scope_of s key; verdict = v } ∷ []
  held_found key r v works told held = by_row (seat_of s seat) refl works where
    one : Held
    one = record { key = key; scope = scope_of s key; verdict = v }

    by_row : (o : Option Seat) → seat_of s seat ≡ o → IsSomeAnd o (λ row. (row.ended ≡ false) × Unit {0})
        → held_in (effect rules seat (call.Find key) r s) seat ≡ held_in s seat ++ one ∷ []
    by_row None is works = absurd works
    by_row (Some row) is works =
        ap row_held (own_find rules s seat row key r v is told)
        ∙ (ap (λ (b : Bool). (if b then hold key (scope_of s key) v row else row).held) held
        ∙ ap (λ (o : Option Seat). row_held o ++ one ∷ []) (sym is))

  pub held_passed : (key : Key) (r : Reply) (v : Verdict) → verdict_of r ≡ Some v → is_held v ≡ false → held_in (effect rules seat (call.Find key) r s) seat ≡ held_in s seat
  held_passed key r v told none = ap row_held (own_passed rules s seat key r v told none)

  filtered : (scopes : List Scope) (tag : ℕ) (o : Option Seat) → row_held (option_map (acknowledged scopes tag) o) ≡ filter (λ h. is_live scopes h.scope) (row_held o)
  filtered scopes tag None = refl
  filtered scopes tag (Some row) = refl

  pub held_acked : (tag : ℕ) → held_in (effect rules seat call.Ack (reply.Acked tag) s) seat ≡ filter (λ h. is_live s.scopes h.scope) (held_in s seat)
  held_acked tag = ap row_held (at_seat (acknowledged s.scopes tag) seat s) ∙ filtered s.scopes tag (seat_of s seat)

  none_left : (o : Option Seat) → row_held (option_map ended o) ≡ []
  none_left None = refl
  none_left (Some row) = refl

  pub held_ended : held_in (effect rules seat call.End reply.Ended s) seat ≡ []
  held_ended = ap row_held (at_seat ended seat s) ∙ none_left (seat_of s seat)
