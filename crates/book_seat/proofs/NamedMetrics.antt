-- A verdict that a seat holds names a metric of its key's kind that is not gone, and there is room for it.
use Rattle.std.proofs.Common.{◌≡◌, ℕ, zero, suc, Bool, true, false, cond, Option, Some, None, IfSome, find, All, List, [], ◌∷◌, slice_get, refl, sym, subst}
use Rattle.std.specs.Option.{option_map_or, IsSomeAnd}
use Rattle.stat_defs.specs.Books.{BookHistory}
use Rattle.stat_defs.specs.Keys.{Held, held_under, same_key}
use Rattle.stat_defs.specs.declared.events.Event.{Event}
use Rattle.stat_defs.specs.declared.events.Key.{Key}
use Rattle.stat_defs.specs.declared.history.Verdict.{Verdict}
use Rattle.stat_defs.specs.declared.history.Verdict.TheVariants as verdict
use Rattle.stat_defs.proofs.KeyLemmas.{same_key-is}
use Rattle.book_state.specs.State.{State, Row, Seat, held_in, is_gone}
use Rattle.book_state.specs.Follows.{event_key, held_verdict}
use Rattle.book_state.specs.Safe.{IsSafe, NamesSafe, IsThere}
use Rattle.book_state.specs.SafeLaws.{NamesMetric, HoldsMetrics}
use Rattle.book_state.proofs.Lists.{not_some, some_same, map_some, all_at}
use Rattle.book_state.proofs.Safety.{legal_is_safe}
use Rattle.stat_book.specs.Calls.{rules_of, state_of, IsLegal}
use Rattle.seat_history.specs.declared.known.LogKnown.{LogKnown}
use Rattle.seat_history.specs.History.{known_history}
use Rattle.book_access.specs.Calling.{known_state}
use Rattle.book_seat.specs.Deciding.{held_in_log}
use Rattle.book_seat.specs.Naming.{IsHeldNow, HoldsVerdict, NamesLive, NamesOwn, IsInRoom, NamesInRoom}

-- what is found stands among them, and passes
record Found {X : Type 0} (p : X → Bool) (xs : List X) (x : X) : Type 0 where
  pub at : ℕ
  pub there : slice_get xs at ≡ Some x
  pub passes : p x ≡ true

found_in : {X : Type 0} (p : X → Bool) (xs : List X) (x : X) → find p xs ≡ Some x → Found p xs x
found_in p [] x e = absurd (not_some x e)
found_in p (y ∷ ys) x e = here (p y) refl e (found_in p ys x) where
  here : (t : Bool) → p y ≡ t → cond t (Some y) (find p ys) ≡ Some x → (find p ys ≡ Some x → Found p ys x) → Found p (y ∷ ys) x
  here true is e rest = record { at = zero; there = e; passes = subst (λ z. p z ≡ true) (some_same y x e) is }
  here false is e rest = let more = rest e in record { at = suc more.at; there = more.there; passes = more.passes }

-- what both say of it
abbrev Named : State → Key → Verdict → Type 0
Named s key v = NamesLive s key v × IsInRoom v

module _ (s : State) (safe : IsSafe s) (names : HoldsMetrics s) (key : Key) where
  both_of : (o : Option Row) → IsSomeAnd o (IsThere s) → IsSomeAnd o (λ row. row.metric.kind ≡ key.kind)
      → IsSomeAnd o (λ row. (row.metric.kind ≡ key.kind) × (is_gone row.metric.life ≡ false))
  both_of None there kind = absurd there
  both_of (Some row) there kind = (kind, there.life)

  of_held : (h : Held) (v : Verdict) → v ≡ h.verdict → h.key ≡ key → NamesSafe s h.verdict → NamesMetric s h.key h.verdict → Named s key v
  of_held h v same under there kind = told v (subst (λ (w : Verdict). NamesSafe s w) (sym same) there)
      (subst (λ (w : Verdict). NamesMetric s key w) (sym same) (subst (λ (k : Key). NamesMetric s k h.verdict) under kind)) where
        told : (w : Verdict) → NamesSafe s w → NamesMetric s key w → Named s key w
        told (verdict.Accepted id) there kind = (both_of (slice_get s.metrics id.0) there kind.2, kind.1)
        told (verdict.Opened id) there kind = (tt, tt)
        told (verdict.Released id) there kind = (tt, tt)
        told verdict.LabelTaken there kind = (tt, tt)
        told verdict.NoScope there kind = (tt, tt)
        told verdict.Rejected there kind = (tt, tt)
        told verdict.OverLimit there kind = (tt, tt)
        told verdict.NoRoom there kind = (tt, tt)

  at_place : (at : ℕ) (o : Option Seat) → slice_get s.seats at ≡ o → (h : Held) (v : Verdict) → v ≡ h.verdict
      → Found (λ (x : Held). same_key x.key key) (option_map_or (λ (row : Seat). row.held) o []) h → Named s key v
  at_place at None is h v same found = absurd (not_some h found.there)
  at_place at (Some seat) is h v same found = of_held h v same (same_key-is h.key key found.passes)
      (all_at (λ (x : Held). NamesSafe s x.verdict) seat.held found.at h (all_at (λ (seat : Seat). All (λ (x : Held). NamesSafe s x.verdict) seat.held) s.seats at seat safe.held is) found.there)
      (all_at (λ (x : Held). NamesMetric s x.key x.verdict) seat.held found.at h
      (all_at (λ (seat : Seat). All (λ (x : Held). NamesMetric s x.key x.verdict) seat.held) s.seats at seat names is) found.there)

  in_seat : (n : ℕ) (h : Held) (v : Verdict) → v ≡ h.verdict → Found (λ (x : Held). same_key x.key key) (held_in s n) h → Named s key v
  in_seat zero h v same found = absurd (not_some h found.there)
  in_seat (suc at) h v same found = at_place at (slice_get s.seats at) refl h v same found

  held_names : (n : ℕ) (v : Verdict) → held_verdict s n key ≡ Some v → Named s key v
  held_names n v is =
      let h = map_some (λ (x : Held). x.verdict) (held_under key (held_in s n)) v is in
      in_seat n h.0 v h.2 (found_in (λ (x : Held). same_key x.key key) (held_in s n) h.0 h.1)

  now_names : (n : ℕ) (v : Verdict) → IsHeldNow s n key v → Named s key v
  now_names n (verdict.Accepted id) held = held_names n (verdict.Accepted id) (held refl)
  now_names n (verdict.Opened id) held = (tt, tt)
  now_names n (verdict.Released id) held = (tt, tt)
  now_names n verdict.LabelTaken held = (tt, tt)
  now_names n verdict.NoScope held = (tt, tt)
  now_names n verdict.Rejected held = (tt, tt)
  now_names n verdict.OverLimit held = (tt, tt)
  now_names n verdict.NoRoom held = (tt, tt)

safe_in : (h : BookHistory) → IsLegal h → IsSafe (state_of h)
safe_in h legal = (legal_is_safe.safe (rules_of h) h.config.scopes h.workers h.log legal).0

metrics_in : (h : BookHistory) → IsLegal h → HoldsMetrics (state_of h)
metrics_in h legal = (legal_is_safe.metrics (rules_of h) h.config.scopes h.workers h.log legal).0

module _ (k : LogKnown) (legal : IsLegal (known_history k)) where
  key_names : (key : Key) (v : Verdict) → IsHeldNow (known_state k) k.number key v → Named (known_state k) key v
  key_names key v held = now_names (known_state k) (safe_in (known_history k) legal) (metrics_in (known_history k) legal) key k.number v held

  pub hit_in_room : (key : Key) (o : Option Verdict) → o ≡ held_in_log k key → IfSome o IsInRoom
  hit_in_room key None is = tt
  hit_in_room key (Some v) is = (held_names (known_state k) (safe_in (known_history k) legal) (metrics_in (known_history k) legal) key k.number v (sym is)).1

  pub names_own : (e : Event) (v : Verdict) → HoldsVerdict k e v → NamesOwn (known_state k) e v
  names_own e v held = by_key (event_key e) held where
    by_key : (o : Option Key) → IfSome o (λ key. IsHeldNow (known_state k) k.number key v) → IfSome o (λ key. NamesLive (known_state k) key v)
    by_key None held = held
    by_key (Some key) held = (key_names key v held).0

  pub names_in_room : (e : Event) (v : Verdict) → HoldsVerdict k e v → NamesInRoom e v
  names_in_room e v held = by_key (event_key e) held where
    by_key : (o : Option Key) → IfSome o (λ key. IsHeldNow (known_state k) k.number key v) → IfSome o (λ key. IsInRoom v)
    by_key None held = held
    by_key (Some key) held = (key_names key v held).1
