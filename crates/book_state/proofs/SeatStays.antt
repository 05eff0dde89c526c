-- What stays of a seat, and when it may call.
use Rattle.std.proofs.Common.{◌≡◌, ◌≢◌, ℕ, ◌<◌, ◌==◌, ◌&&◌, ◌||◌, cond, Bool, true, false, Option, option_map, Some, None, IsNone, List, [], ◌∷◌, ◌++◌, refl, ap, sym, ◌∙◌, subst, inl, inr, ◌⊎◌}
use Rattle.std.proofs.lemmas.Bool.Decides.{Decides-eqb}
use Rattle.std.specs.List.{list_any}
use Rattle.std.specs.Option.{option_map_or, IsSomeAnd}
use Rattle.stat_defs.specs.declared.ids.Kind.{Kind}
use Rattle.stat_defs.specs.declared.ids.Kind.TheVariants.{Text}
use Rattle.stat_defs.specs.declared.ids.MetricId.{MetricId}
use Rattle.stat_defs.specs.declared.events.Key.{Key}
use Rattle.stat_defs.specs.declared.history.Verdict.{Verdict}
use Rattle.stat_defs.specs.declared.history.Verdict.TheVariants as verdict
use Rattle.stat_defs.specs.declared.history.Call.{Call}
use Rattle.stat_defs.specs.declared.history.Call.TheVariants as call
use Rattle.stat_defs.specs.declared.history.Reply.{Reply}
use Rattle.stat_defs.specs.declared.history.Reply.TheVariants as reply
use Rattle.stat_defs.specs.Keys.{Held, held_under, same_key, same_kind, same_mode, same_text}
use Rattle.book_state.specs.State.{NameRules, Seat, State, seat_of, held_in}
use Rattle.book_state.specs.Finding.{scope_of}
use Rattle.book_state.specs.Step.{effect, on_seat, on_metric, found, made, hold, acknowledged, ended, Working, Works, accepts, holds_text}
use Rattle.book_state.specs.Follows.{tag_of}
use Rattle.book_state.specs.SeatLaws.{is_end, is_ack, is_release}
use Rattle.book_state.proofs.Lists.{eq_or, not_some, some_same, true_false, both}
use Rattle.book_state.proofs.Members.{any_push}
use Rattle.stat_defs.proofs.KeyLemmas.{same_kind-is}
use Rattle.book_state.proofs.Growing.{same_seats, on_other, left_seat, releases_of}
use Rattle.book_state.proofs.OwnCalls.{at_seat}

-- a seat, after one was changed
one_seat : (f : Seat → Seat) (by seat : ℕ) (s : State) → (seat_of (on_seat f by s) seat ≡ seat_of s seat) ⊎ (seat_of (on_seat f by s) seat ≡ option_map f (seat_of s seat))
one_seat f by seat s = elim (eq_or seat by) [
  | inl same ↦ inr (subst (λ n. seat_of (on_seat f n s) seat ≡ option_map f (seat_of s seat)) same (at_seat f seat s))
  | inr other ↦ inl (on_other (record { admits = λ name. true; tagged = λ name. record { extracted = name; tags = [] } }) f by seat s other)
]

abbrev IsWorking : Option Seat → Type 0
IsWorking o = IsSomeAnd o (λ row. (row.ended ≡ false) × Unit {0})

mapped_works : (f : Seat → Seat) → ((row : Seat) → (f row).ended ≡ row.ended) → (o : Option Seat) → IsWorking o → IsWorking (option_map f o)
mapped_works f keeps None works = works
mapped_works f keeps (Some row) works = (keeps row ∙ works.0, tt)

works_on : (f : Seat → Seat) → ((row : Seat) → (f row).ended ≡ row.ended) → (by seat : ℕ) (s : State) → Works s seat → Works (on_seat f by s) seat
works_on f keeps by seat s works = elim (one_seat f by seat s) [
  | inl same ↦ subst IsWorking (sym same) works
  | inr changed ↦ subst IsWorking (sym changed) (mapped_works f keeps (seat_of s seat) works)
]

abbrev tag_in : Option Seat → ℕ
tag_in o = option_map_or (λ (row : Seat). row.tag) o 0

mapped_tag : (f : Seat → Seat) → ((row : Seat) → (f row).tag ≡ row.tag) → (o : Option Seat) → tag_in (option_map f o) ≡ tag_in o
mapped_tag f keeps None = refl
mapped_tag f keeps (Some row) = keeps row

tag_on : (f : Seat → Seat) → ((row : Seat) → (f row).tag ≡ row.tag) → (by seat : ℕ) (s : State) → tag_of (on_seat f by s) seat ≡ tag_of s seat
tag_on f keeps by seat s = elim (one_seat f by seat s) [
  | inl same ↦ ap tag_in same
  | inr changed ↦ ap tag_in changed ∙ mapped_tag f keeps (seat_of s seat)
]

other_than : (by seat : ℕ) → (by == seat) ≡ false → seat ≢ by
other_than by seat e same = true_false (sym ((Decides-eqb by seat).1 (sym same)) ∙ e)

module _ (rules : NameRules) (s : State) where
  same_works : (s' : State) (seat : ℕ) → s'.seats ≡ s.seats → Works s seat → Works s' seat
  same_works s' seat same works = subst IsWorking (sym (same_seats s' s seat same)) works

  pub seat_works : (by seat : ℕ) (c : Call) (r : Reply) → Works s seat → (is_end c && by == seat) ≡ false → Works (effect rules by c r s) seat
  seat_works by seat (call.OpenScope label prefix) (reply.Opened id) works on = same_works (effect rules by (call.OpenScope label prefix) (reply.Opened id) s) seat refl works
  seat_works by seat (call.Release label) (reply.Released id) works on = same_works (effect rules by (call.Release label) (reply.Released id) s) seat refl works
  seat_works by seat (call.Find key) (reply.Made id numbers) works on =
      let more : State = record s { metrics = s.metrics ++ made rules s key numbers ∷ [] } in
      works_on (hold key (scope_of s key) (verdict.Accepted id)) (λ row. refl) by seat more (same_works more seat refl works)
  seat_works by seat (call.Find key) (reply.Found id) works on =
      let live : State = on_metric (found (scope_of s key) key.mode) id.0 s in
      works_on (hold key (scope_of s key) (verdict.Accepted id)) (λ row. refl) by seat live (same_works live seat refl works)
  seat_works by seat (call.Find key) reply.Rejected works on = works_on (hold key (scope_of s key) verdict.Rejected) (λ row. refl) by seat s works
  seat_works by seat (call.SetText id text) reply.TextSet works on = same_works (effect rules by (call.SetText id text) reply.TextSet s) seat refl works
  seat_works by seat call.Ack (reply.Acked tag) works on = works_on (acknowledged s.scopes tag) (λ row. refl) by seat s works
  seat_works by seat call.Sweep (reply.Swept n) works on = same_works (effect rules by call.Sweep (reply.Swept n) s) seat refl works
  seat_works by seat call.End reply.Ended works on =
      subst IsWorking (sym (left_seat rules s seat (record { seat = by; call = call.End; reply = reply.Ended }) (other_than by seat on))) works
  seat_works by seat _ _ works on = works

  same_tag : (s' : State) (seat : ℕ) → s'.seats ≡ s.seats → tag_of s' seat ≡ tag_of s seat
  same_tag s' seat same = ap tag_in (same_seats s' s seat same)

  pub seat_tag : (by seat : ℕ) (c : Call) (r : Reply) → (is_ack c && by == seat) ≡ false → tag_of (effect rules by c r s) seat ≡ tag_of s seat
  seat_tag by seat (call.OpenScope label prefix) (reply.Opened id) on = same_tag (effect rules by (call.OpenScope label prefix) (reply.Opened id) s) seat refl
  seat_tag by seat (call.Release label) (reply.Released id) on = same_tag (effect rules by (call.Release label) (reply.Released id) s) seat refl
  seat_tag by seat (call.Find key) (reply.Made id numbers) on =
      let more : State = record s { metrics = s.metrics ++ made rules s key numbers ∷ [] } in
      tag_on (hold key (scope_of s key) (verdict.Accepted id)) (λ row. refl) by seat more ∙ same_tag more seat refl
  seat_tag by seat (call.Find key) (reply.Found id) on =
      let live : State = on_metric (found (scope_of s key) key.mode) id.0 s in
      tag_on (hold key (scope_of s key) (verdict.Accepted id)) (λ row. refl) by seat live ∙ same_tag live seat refl
  seat_tag by seat (call.Find key) reply.Rejected on = tag_on (hold key (scope_of s key) verdict.Rejected) (λ row. refl) by seat s
  seat_tag by seat (call.SetText id text) reply.TextSet on = same_tag (effect rules by (call.SetText id text) reply.TextSet s) seat refl
  seat_tag by seat call.Ack (reply.Acked tag) on = ap tag_in (left_seat rules s seat (record { seat = by; call = call.Ack; reply = reply.Acked tag }) (other_than by seat on))
  seat_tag by seat call.Sweep (reply.Swept n) on = same_tag (effect rules by call.Sweep (reply.Swept n) s) seat refl
  seat_tag by seat call.End reply.Ended on = tag_on ended (λ row. refl) by seat s
  seat_tag by seat _ _ on = refl

  acked_tag : (tag : ℕ) (o : Option Seat) → IsWorking o → tag_in (option_map (acknowledged s.scopes tag) o) ≡ tag
  acked_tag tag None works = absurd works
  acked_tag tag (Some row) works = refl

  pub seat_acked : (seat tag : ℕ) → Works s seat → tag_of (effect rules seat call.Ack (reply.Acked tag) s) seat ≡ tag
  seat_acked seat tag works = ap tag_in (at_seat (acknowledged s.scopes tag) seat s) ∙ acked_tag tag (seat_of s seat) works

  pub releases_stay : (by : ℕ) (c : Call) (r : Reply) → is_release c ≡ false → (effect rules by c r s).releases ≡ s.releases
  releases_stay by (call.OpenScope label prefix) (reply.Opened id) on = refl
  releases_stay by (call.Release label) (reply.Released id) on = absurd (true_false on)
  releases_stay by (call.Find key) (reply.Made id numbers) on =
      releases_of rules (hold key (scope_of s key) (verdict.Accepted id)) by (record s { metrics = s.metrics ++ made rules s key numbers ∷ [] })
  releases_stay by (call.Find key) (reply.Found id) on = releases_of rules (hold key (scope_of s key) (verdict.Accepted id)) by (on_metric (found (scope_of s key) key.mode) id.0 s)
  releases_stay by (call.Find key) reply.Rejected on = releases_of rules (hold key (scope_of s key) verdict.Rejected) by s
  releases_stay by (call.SetText id text) reply.TextSet on = refl
  releases_stay by call.Ack (reply.Acked tag) on = releases_of rules (acknowledged s.scopes tag) by s
  releases_stay by call.Sweep (reply.Swept n) on = refl
  releases_stay by call.End reply.Ended on = releases_of rules ended by s
  releases_stay by _ _ on = refl

-- when a seat may call
abbrev IsWorkingAs : (Seat → Type 0) → Option Seat → Type 0
IsWorkingAs May o = IsSomeAnd o (λ row. (row.ended ≡ false) × May row)

none_held : (o : Option Held) → o ≡ None → IsNone o
none_held None e = refl
none_held (Some h) e = absurd (not_some h (sym e))

find_row : (key : Key) (o : Option Seat) → IsWorking o → held_under key (option_map_or (λ (row : Seat). row.held) o []) ≡ None → IsWorkingAs (λ row. IsNone (held_under key row.held)) o
find_row key None works free = absurd works
find_row key (Some row) works free = (works.0, none_held (held_under key row.held) free)

ack_row : (n : ℕ) (o : Option Seat) → IsWorking o → tag_in o < n → IsWorkingAs (λ row. row.tag < n) o
ack_row n None works due = absurd works
ack_row n (Some row) works due = (works.0, due)

text_row : (id : ℕ) (o : Option Seat) → IsWorking o → list_any (λ h. accepts id h.verdict && same_kind h.key.kind Text) (option_map_or (λ (row : Seat). row.held) o []) ≡ true
    → IsWorkingAs (λ row. holds_text id row ≡ true) o
text_row id None works holds = absurd works
text_row id (Some row) works holds = (works.0, holds)

is_text : (id : MetricId) (h : Held) → h.verdict ≡ verdict.Accepted id → h.key.kind ≡ Text → (accepts id.0 h.verdict && same_kind h.key.kind Text) ≡ true
is_text id h told kind =
    ap (λ (v : Verdict). accepts id.0 v && same_kind h.key.kind Text) told
    ∙ (ap (λ (k : Kind). (id.0 == id.0) && same_kind k Text) kind ∙ ap (λ (b : Bool). b && true) ((Decides-eqb id.0 id.0).1 refl))

any_here : {X : Type 0} (p : X → Bool) (x : X) (xs : List X) → p x ≡ true → list_any p (x ∷ xs) ≡ true
any_here p x xs is = ap (λ (b : Bool). b || list_any p xs) is

any_later : (a b : Bool) → b ≡ true → (a || b) ≡ true
any_later true b e = refl
any_later false b e = e

-- what is found under a key has its kind
text_held : (id : MetricId) (key : Key) (h : Held) (held : List Held) → held_under key held ≡ Some h → h.verdict ≡ verdict.Accepted id → key.kind ≡ Text
    → list_any (λ x. accepts id.0 x.verdict && same_kind x.key.kind Text) held ≡ true
text_held id key h [] found told kind = absurd (not_some h found)
text_held id key h (x ∷ held) found told kind = by_key (same_key x.key key) refl found (λ rest. text_held id key h held rest told kind) where
  by_key : (t : Bool) → same_key x.key key ≡ t → cond t (Some x) (held_under key held) ≡ Some h
      → (held_under key held ≡ Some h → list_any (λ y. accepts id.0 y.verdict && same_kind y.key.kind Text) held ≡ true)
      → list_any (λ y. accepts id.0 y.verdict && same_kind y.key.kind Text) (x ∷ held) ≡ true
  by_key true is this rest =
      let parts = both (same_text x.key.label key.label) (same_kind x.key.kind key.kind && (same_mode x.key.mode key.mode && same_text x.key.name key.name)) is in
      let kinds = same_kind-is x.key.kind key.kind (both (same_kind x.key.kind key.kind) (same_mode x.key.mode key.mode && same_text x.key.name key.name) parts.1).0 in
      any_here (λ y. accepts id.0 y.verdict && same_kind y.key.kind Text) x held (is_text id x (ap (λ (y : Held). y.verdict) (some_same x h this) ∙ told) (kinds ∙ kind))
  by_key false is later rest = any_later (accepts id.0 x.verdict && same_kind x.key.kind Text) (list_any (λ y. accepts id.0 y.verdict && same_kind y.key.kind Text) held) (rest later)

module _ (s : State) (seat : ℕ) where
  pub may_find : (key : Key) → Works s seat → held_under key (held_in s seat) ≡ None → Working s seat (λ row. IsNone (held_under key row.held))
  may_find key works free = find_row key (seat_of s seat) works free

  pub may_ack : Works s seat → tag_of s seat < s.releases → Working s seat (λ row. row.tag < s.releases)
  may_ack works due = ack_row s.releases (seat_of s seat) works due

  pub may_set : (key : Key) (h : Held) (id : MetricId) → Works s seat → held_under key (held_in s seat) ≡ Some h → h.verdict ≡ verdict.Accepted id → key.kind ≡ Text
      → Working s seat (λ row. holds_text id.0 row ≡ true)
  may_set key h id works found told kind = text_row id.0 (seat_of s seat) works (text_held id key h (held_in s seat) found told kind)

  pub may_set_found : (held : List Held) (one : Held) (id : MetricId) → Works s seat → held_in s seat ≡ held ++ one ∷ [] → one.verdict ≡ verdict.Accepted id → one.key.kind ≡ Text
      → Working s seat (λ row. holds_text id.0 row ≡ true)
  may_set_found held one id works are told kind = text_row id.0 (seat_of s seat) works
      (ap (list_any (λ h. accepts id.0 h.verdict && same_kind h.key.kind Text)) are
      ∙ (any_push (λ h. accepts id.0 h.verdict && same_kind h.key.kind Text) held one
      ∙ any_later (list_any (λ h. accepts id.0 h.verdict && same_kind h.key.kind Text) held) (accepts id.0 one.verdict && same_kind one.key.kind Text) (is_text id one told kind)))
