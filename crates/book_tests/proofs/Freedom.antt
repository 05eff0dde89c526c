-- A seat that did not end may call, and may find what it did not find.
use Rattle.std.proofs.Common.{◌≡◌, ◌≢◌, ℕ, zero, suc, ◌+◌, ◌<◌, ◌≤◌, ◌==◌, ◌&&◌, ◌||◌, Bool, true, false, cond, find, filter, Option, Some, None, IsNone, List, [], ◌∷◌, ◌++◌, length, slice_get, refl, ap, sym, ◌∙◌, subst, arith, inl, inr}
use Rattle.std.specs.List.{list_any}
use Rattle.std.specs.Option.{IsSomeAnd, option_map, option_or}
use Rattle.std.proofs.lemmas.Bool.Decides.{Decides-eqb, nat_tests}
use Rattle.std.proofs.lemmas.List.Folds.{find-append}
use Rattle.std.proofs.lemmas.List.Sums.{count_by-le-length}
use Rattle.stat_defs.specs.Books.{BookHistory}
use Rattle.stat_defs.specs.Keys.{Held, held_under, same_key}
use Rattle.stat_defs.specs.declared.events.Key.{Key}
use Rattle.stat_defs.specs.declared.history.Call.{Call}
use Rattle.stat_defs.specs.declared.history.Call.TheVariants as call
use Rattle.stat_defs.specs.declared.history.Reply.{Reply}
use Rattle.stat_defs.specs.declared.history.Reply.TheVariants as reply
use Rattle.stat_defs.specs.declared.history.Verdict.{Verdict}
use Rattle.stat_defs.specs.declared.history.Verdict.TheVariants as verdict
use Rattle.stat_defs.specs.declared.history.Entry.{Entry}
use Rattle.book_state.specs.State.{NameRules, Seat, State, seat_of}
use Rattle.book_state.specs.Finding.{scope_of}
use Rattle.book_state.specs.Step.{effect, change_at, on_seat, on_metric, found, made, hold, acknowledged, ended, is_live, Working, Works}
use Rattle.book_state.specs.Log.{empty, replay_from}
use Rattle.book_state.specs.Follows.{tag_of}
use Rattle.book_state.specs.declared.limits.TheConstants.{MAX_OPENINGS}
use Rattle.book_state.proofs.Lists.{eq_or, true_false, get_change_same, get_change_other}
use Rattle.book_state.proofs.Growing.{same_seats}
use Rattle.book_state.proofs.SeatStays.{may_ack as acks}
use Rattle.stat_book.specs.Calls.{rules_of, state_of, openings_by, is_opening}
use Rattle.book_state.specs.SeatLaws.{is_end}
use Rattle.book_tests.specs.Free.{uses_key, has_ended, has_used}
use Rattle.stat_book.proofs.CallerLemmas.{replicated}

other_seat : (a b : ℕ) (t : Bool) → a ≡ b → (a == b && t) ≡ false → t ≡ false
other_seat a b t same un = by (a == b) refl un where
  is : (a == b) ≡ true
  is = (Decides-eqb a b).1 same

  by : (u : Bool) → (a == b) ≡ u → (u && t) ≡ false → t ≡ false
  by true e h = h
  by false e h = absurd (true_false (sym is ∙ e))

-- what may be held, and the calls that would change that
module _ (May : List Held → Type 0) (changes : Call → Bool)
    (ends : changes call.End ≡ true)
    (more : (key : Key) (scope : ℕ) (v : Verdict) (held : List Held) → changes (call.Find key) ≡ false → May held → May (held ++ record { key = key; scope = scope; verdict = v } ∷ []))
    (less : (q : Held → Bool) (held : List Held) → May held → May (filter q held)) where
  abbrev IsFree : ℕ → State → Type 0
  IsFree seat s = Working s seat (λ row. May row.held)

  seats_free : (seat : ℕ) (s t : State) → t.seats ≡ s.seats → IsFree seat s → IsFree seat t
  seats_free seat s t same free = subst (λ o. IsSomeAnd o (λ row. (row.ended ≡ false) × May row.held)) (sym (same_seats t s seat same)) free

  row_free : (f : Seat → Seat) (o : Option Seat) → ((row : Seat) → (row.ended ≡ false) × May row.held → ((f row).ended ≡ false) × May (f row).held)
      → IsSomeAnd o (λ row. (row.ended ≡ false) × May row.held) → IsSomeAnd (option_map f o) (λ row. (row.ended ≡ false) × May row.held)
  row_free f None each free = absurd free
  row_free f (Some row) each free = each row free

  on_seat_free : (f : Seat → Seat) (by seat : ℕ) (s : State) → (by ≡ seat → (row : Seat) → (row.ended ≡ false) × May row.held → ((f row).ended ≡ false) × May (f row).held)
      → IsFree seat s → IsFree seat (on_seat f by s)
  on_seat_free f zero seat s each free = free
  on_seat_free f (suc at) zero s each free = absurd free
  on_seat_free f (suc at) (suc k) s each free = elim (eq_or k at) [
    | inl same ↦
        let got = ap (λ (i : ℕ). slice_get (change_at f at s.seats) i) same ∙ (get_change_same f at s.seats ∙ ap (λ (i : ℕ). option_map f (slice_get s.seats i)) (sym same)) in
        subst (λ o. IsSomeAnd o (λ row. (row.ended ≡ false) × May row.held)) (sym got) (row_free f (slice_get s.seats k) (each (ap suc (sym same))) free)
    | inr other ↦ subst (λ o. IsSomeAnd o (λ row. (row.ended ≡ false) × May row.held)) (sym (get_change_other f at s.seats k other)) free
  ]

  module _ (rules : NameRules) (seat : ℕ) where
    holds_more : (by : ℕ) (key : Key) (scope : ℕ) (v : Verdict) → (by == seat && changes (call.Find key)) ≡ false → by ≡ seat → (row : Seat) → (row.ended ≡ false) × May row.held
        → ((hold key scope v row).ended ≡ false) × May (hold key scope v row).held
    holds_more by key scope v un same row free = (free.0, more key scope v row.held (other_seat by seat (changes (call.Find key)) same un) free.1)

    step_free : (by : ℕ) (c : Call) (r : Reply) (s : State) → (by == seat && changes c) ≡ false → IsFree seat s → IsFree seat (effect rules by c r s)
    step_free by (call.OpenScope label prefix) (reply.Opened id) s un free = seats_free seat s (effect rules by (call.OpenScope label prefix) (reply.Opened id) s) refl free
    step_free by (call.Release label) (reply.Released id) s un free = seats_free seat s (effect rules by (call.Release label) (reply.Released id) s) refl free
    step_free by (call.Find key) (reply.Made id numbers) s un free =
        let one : State = record s { metrics = s.metrics ++ made rules s key numbers ∷ [] } in
        on_seat_free (hold key (scope_of s key) (verdict.Accepted id)) by seat one (holds_more by key (scope_of s key) (verdict.Accepted id) un) (seats_free seat s one refl free)
    step_free by (call.Find key) (reply.Found id) s un free =
        let one : State = on_metric (found (scope_of s key) key.mode) id.0 s in
        on_seat_free (hold key (scope_of s key) (verdict.Accepted id)) by seat one (holds_more by key (scope_of s key) (verdict.Accepted id) un) (seats_free seat s one refl free)
    step_free by (call.Find key) reply.Rejected s un free = on_seat_free (hold key (scope_of s key) verdict.Rejected) by seat s (holds_more by key (scope_of s key) verdict.Rejected un) free
    step_free by (call.SetText id text) reply.TextSet s un free = seats_free seat s (effect rules by (call.SetText id text) reply.TextSet s) refl free
    step_free by call.Ack (reply.Acked tag) s un free =
        on_seat_free (acknowledged s.scopes tag) by seat s (λ same row was. (was.0, less (λ h. is_live s.scopes h.scope) row.held was.1)) free
    step_free by call.Sweep (reply.Swept n) s un free = seats_free seat s (effect rules by call.Sweep (reply.Swept n) s) refl free
    step_free by call.End reply.Ended s un free =
        on_seat_free ended by seat s (λ same row was. absurd (true_false (sym ends ∙ other_seat by seat (changes call.End) same un))) free
    step_free by c r s un free = free

    any_parts : (a b : Bool) → (a || b) ≡ false → (a ≡ false) × (b ≡ false)
    any_parts true b un = absurd (true_false un)
    any_parts false b un = (refl, un)

    log_free : (s : State) (log : List Entry) → list_any (λ (entry : Entry). entry.seat == seat && changes entry.call) log ≡ false → IsFree seat s → IsFree seat (replay_from rules s log)
    log_free s [] un free = free
    log_free s (e ∷ log) un free =
        let parts = any_parts (e.seat == seat && changes e.call) (list_any (λ (entry : Entry). entry.seat == seat && changes entry.call) log) un in
        log_free (effect rules e.seat e.call e.reply s) log parts.1 (step_free e.seat e.call e.reply s parts.0 free)

  -- a seat of a worker, of which un such call stands in the log
  book_free : (book : BookHistory) (seat : ℕ) → May [] → 1 ≤ seat → seat ≤ book.workers → list_any (λ (entry : Entry). entry.seat == seat && changes entry.call) book.log ≡ false
      → IsFree seat (state_of book)
  book_free book zero first some few un = absurd (omega (arith, some))
  book_free book (suc at) first some few un =
      let begins = replicated book.workers at (record { tag = 0; held = []; ended = false }) (omega (arith, few)) in
      log_free (rules_of book) (suc at) (empty book.workers) book.log un
      (subst (λ o. IsSomeAnd o (λ row. (row.ended ≡ false) × May row.held)) (sym begins) (refl, first))

abbrev DoesNotHold : Key → List Held → Type 0
DoesNotHold key held = IsNone (held_under key held)

none_of : (o : Option Held) → IsNone o → o ≡ None
none_of None un = refl
none_of (Some h) un = absurd (true_false un)

holds_no_more : (key other : Key) (scope : ℕ) (v : Verdict) (held : List Held) → same_key other key ≡ false → DoesNotHold key held
    → DoesNotHold key (held ++ record { key = other; scope = scope; verdict = v } ∷ [])
holds_no_more key other scope v held differs none =
    let one : Held = record { key = other; scope = scope; verdict = v } in
    let last : find (λ (h : Held). same_key h.key key) (one ∷ []) ≡ None = ap (λ (b : Bool). cond b (Some one) None) differs in
    subst (λ (o : Option Held). IsNone o)
    (sym (find-append (λ (h : Held). same_key h.key key) held (one ∷ []) ∙ (λ i. option_or (none_of (held_under key held) none i) (last i)))) refl

found_step : (key : Key) (q : Held → Bool) (h : Held) (held : List Held) (t u : Bool) → q h ≡ t → same_key h.key key ≡ u → DoesNotHold key (h ∷ held)
    → (DoesNotHold key held → DoesNotHold key (filter q held)) → DoesNotHold key (filter q (h ∷ held))
found_step key q h held true true keeps same none rest = absurd (true_false (subst (λ (b : Bool). IsNone (cond b (Some h) (held_under key held))) same none))
found_step key q h held true false keeps same none rest = rw (keeps, same) (rest (subst (λ (b : Bool). IsNone (cond b (Some h) (held_under key held))) same none))
found_step key q h held false true keeps same none rest = absurd (true_false (subst (λ (b : Bool). IsNone (cond b (Some h) (held_under key held))) same none))
found_step key q h held false false keeps same none rest = rw keeps (rest (subst (λ (b : Bool). IsNone (cond b (Some h) (held_under key held))) same none))

holds_less : (key : Key) (q : Held → Bool) (held : List Held) → DoesNotHold key held → DoesNotHold key (filter q held)
holds_less key q [] none = none
holds_less key q (h ∷ held) none = found_step key q h held (q h) (same_key h.key key) refl refl none (holds_less key q held)

pub may_find : (book : BookHistory) (seat : ℕ) (key : Key) → 1 ≤ seat → seat ≤ book.workers → has_used seat key book.log ≡ false → Working (state_of book) seat (λ row. IsNone (held_under key row.held))
may_find book seat key some few un =
    book_free (DoesNotHold key) (uses_key key) refl (λ other scope v held differs. holds_no_more key other scope v held differs) (λ q held. holds_less key q held) book seat refl some few un

pub may_call : (book : BookHistory) (seat : ℕ) → 1 ≤ seat → seat ≤ book.workers → has_ended seat book.log ≡ false → Works (state_of book) seat
may_call book seat some few un = book_free (λ held. Unit {0}) is_end refl (λ other scope v held differs may. may) (λ q held may. may) book seat tt some few un

pub may_ack : (book : BookHistory) (seat : ℕ) → Works (state_of book) seat → tag_of (state_of book) seat < (state_of book).releases
    → Working (state_of book) seat (λ row. row.tag < (state_of book).releases)
may_ack book seat works due = acks (state_of book) seat works due

-- a short log has few openings
pub few_opened : (seat : ℕ) (log : List Entry) → length log < 1000 → openings_by seat log < MAX_OPENINGS
few_opened seat log few = omega (arith, few, count_by-le-length (λ (entry : Entry). is_opening entry.call && entry.seat == seat) log)
