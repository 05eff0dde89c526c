-- The seat beside its book, after each call of the book.
use Rattle.std.proofs.Common.{◌≡◌, ℕ, ◌≤◌, ◌==◌, ◌&&◌, Bool, true, false, cond, not, Option, option_map, Some, None, List, [], ◌∷◌, ◌++◌, filter, drop, All, refl, ap, sym, ◌∙◌, subst, arith}
use Rattle.std.specs.Option.{option_map_or, IsSomeAnd}
use Rattle.stat_defs.specs.Books.{BookHistory}
use Rattle.stat_defs.specs.Keys.{Held, held_under, same_key, is_through}
use Rattle.stat_defs.specs.declared.ids.ScopeId.{ScopeId}
use Rattle.stat_defs.specs.declared.ids.MetricId.{MetricId}
use Rattle.stat_defs.specs.declared.events.Key.{Key}
use Rattle.stat_defs.specs.declared.history.Call.{Call}
use Rattle.stat_defs.specs.declared.history.Call.TheVariants as call
use Rattle.stat_defs.specs.declared.history.Entry.{Entry}
use Rattle.stat_defs.specs.declared.history.Reply.{Reply}
use Rattle.stat_defs.specs.declared.history.Reply.TheVariants as reply
use Rattle.stat_defs.specs.declared.history.Verdict.{Verdict}
use Rattle.stat_defs.specs.declared.history.Verdict.TheVariants as verdict
use Rattle.stat_defs.specs.declared.ids.Kind.TheVariants.{Text}
use Rattle.book_state.specs.State.{State, Seat, seat_of, held_in}
use Rattle.book_state.specs.Finding.{scope_of}
use Rattle.book_state.specs.Step.{is_live, Works}
use Rattle.book_state.specs.Follows.{tag_of, held_verdict}
use Rattle.book_state.specs.SeatLaws.{is_held}
use Rattle.book_state.specs.Stored.{released_in}
use Rattle.book_state.proofs.Lists.{count_push, true_false, map_some}
use Rattle.book_state.proofs.Holding.{held_once, dead_scopes}
use Rattle.book_state.proofs.OwnCalls.{own_passed, own_opening, own_release, own_text, held_found, held_acked}
use Rattle.book_state.proofs.SeatStays.{seat_works, seat_tag, seat_acked, may_set}
use Rattle.thread_cache.specs.Held.{held_with, held_without}
use Rattle.thread_cache.specs.SameHeld.{SameHeld}
use Rattle.thread_cache.proofs.Agreeing.{last_held, held_left}
use Rattle.stat_defs.proofs.KeyLemmas.{same_key-refl}
use Rattle.stat_book.specs.Calls.{rules_of, state_of, IsLegal, Logged, Answers, is_opening, openings_by}
use Rattle.book_seat.specs.Naming.{MaySet}
use Rattle.book_seat.proofs.Sitting.{IsSeated}

abbrev IsWorking : Option Seat → Type 0
IsWorking o = IsSomeAnd o (λ row. (row.ended ≡ false) × Unit {0})

abbrev held_at : Option Seat → List Held
held_at o = option_map_or (λ (row : Seat). row.held) o []

abbrev tag_at : Option Seat → ℕ
tag_at o = option_map_or (λ (row : Seat). row.tag) o 0

module _ (old new : BookHistory) (by : ℕ) (c : Call) (r : Reply) (l : Logged old by c r new) where
  -- a call that leaves the seat as it is in the book
  pub left_sits : (seat : ℕ) (cached : List Held) (tag : ℕ) → seat_of (state_of new) seat ≡ seat_of (state_of old) seat → IsSeated old seat cached tag → IsSeated new seat cached tag
  left_sits seat cached tag same is = record {
    works = subst IsWorking (sym same) is.works;
    held = subst (λ (o : Option Seat). SameHeld cached (held_at o)) (sym same) is.held;
    tagged = is.tagged ∙ ap tag_at (sym same);
  }

  pub none_opened : (seat : ℕ) → is_opening c ≡ false → openings_by seat new.log ≤ openings_by seat old.log
  none_opened seat is_none =
      let e : Entry = record { seat = by; call = c; reply = r } in
      let more = ap (λ (b : BookHistory). openings_by seat b.log) l.logged ∙ count_push (λ (entry : Entry). is_opening entry.call && entry.seat == seat) old.log e in
      let none : ◌≡◌ {A = ℕ} (cond (is_opening c && by == seat) 1 0) 0 = ap (λ (t : Bool). cond (t && by == seat) 1 0) is_none in
      omega (arith, more, none)

-- what others do leaves it
pub found_sits : (old new : BookHistory) (seat : ℕ) (cached : List Held) (tag : ℕ) → seat_of (state_of new) seat ≡ seat_of (state_of old) seat → IsSeated old seat cached tag → IsSeated new seat cached tag
found_sits old new seat cached tag same is = record {
  works = subst IsWorking (sym same) is.works;
  held = subst (λ (o : Option Seat). SameHeld cached (held_at o)) (sym same) is.held;
  tagged = is.tagged ∙ ap tag_at (sym same);
}

module _ (old new : BookHistory) (seat : ℕ) (cached : List Held) (tag : ℕ) (is : IsSeated old seat cached tag) where
  abbrev s : State
  s = state_of old

  pub opened_sits : (label prefix : List ℕ) (v : Verdict) → Answers old seat (call.OpenScope label prefix) v new → IsSeated new seat cached tag
  opened_sits label prefix v a = left_sits old new seat (call.OpenScope label prefix) a.0 a.2 seat cached tag
      (ap (λ (t : State). seat_of t seat) a.2.step.after ∙ own_opening (rules_of old) s seat label prefix a.0) is

  pub released_sits : (label : List ℕ) (v : Verdict) → Answers old seat (call.Release label) v new → IsSeated new seat cached tag
  released_sits label v a = left_sits old new seat (call.Release label) a.0 a.2 seat cached tag
      (ap (λ (t : State). seat_of t seat) a.2.step.after ∙ own_release (rules_of old) s seat label a.0) is

  pub text_same : (id : MetricId) (text : List ℕ) → Logged old seat (call.SetText id text) reply.TextSet new → seat_of (state_of new) seat ≡ seat_of (state_of old) seat
  text_same id text l = ap (λ (t : State). seat_of t seat) l.step.after ∙ own_text (rules_of old) s seat id text reply.TextSet

  pub text_holds : (id : MetricId) (text : List ℕ) → Logged old seat (call.SetText id text) reply.TextSet new → held_in (state_of new) seat ≡ held_in s seat
  text_holds id text l = ap held_at (text_same id text l)

  pub text_sits : (id : MetricId) (text : List ℕ) → Logged old seat (call.SetText id text) reply.TextSet new → IsSeated new seat cached tag
  text_sits id text l = left_sits old new seat (call.SetText id text) reply.TextSet l seat cached tag (text_same id text l) is

  -- all releases are acknowledged, and their scopes were dropped
  pub acked_sits : (left : List Held) (acked : ℕ) (scopes : List ScopeId) → IsLegal old → Logged old seat call.Ack (reply.Acked acked) new
      → scopes ≡ drop (tag_of s seat) (released_in old.log) → ((key : Key) → held_under key left ≡ held_without scopes (held_under key cached)) → IsSeated new seat left acked
  acked_sits left acked scopes legal l are left_is = record {
    works = subst (λ (t : State). Works t seat) (sym l.step.after) (seat_works (rules_of old) s seat seat call.Ack (reply.Acked acked) is.works refl);
    held = subst (λ (t : State). SameHeld left (held_in t seat)) (sym l.step.after)
        (subst (λ (held : List Held). SameHeld left held) (sym (held_acked (rules_of old) s seat acked)) drops);
    tagged = sym (ap (λ (t : State). tag_of t seat) l.step.after ∙ seat_acked (rules_of old) s seat acked is.works);
  } where
    tells : All (λ h. is_live s.scopes h.scope ≡ not (is_through scopes h)) (held_in s seat)
    tells = subst (λ (ids : List ScopeId). All (λ h. is_live s.scopes h.scope ≡ not (is_through ids h)) (held_in s seat)) (sym are)
        (dead_scopes (rules_of old) old.workers seat old.log legal.steps)

    drops : SameHeld left (filter (λ h. is_live s.scopes h.scope) (held_in s seat))
    drops key = left_is key ∙ (ap (held_without scopes) (is.held key)
        ∙ sym (held_left key scopes (λ h. is_live s.scopes h.scope) (held_in s seat) (held_once (rules_of old) old.workers seat old.log legal.steps) tells))

  module _ (key : Key) (v : Verdict) (a : Answers old seat (call.Find key) v new) (free : held_under key cached ≡ None) where
    abbrev one : Held
    one = record { key = key; scope = scope_of s key; verdict = v }

    -- nothing that is held
    passed_sits : is_held v ≡ false → (now : List Held) → now ≡ cached → IsSeated new seat now tag
    passed_sits none now same = subst (λ (held : List Held). IsSeated new seat held tag) (sym same)
        (left_sits old new seat (call.Find key) a.0 a.2 seat cached tag (ap (λ (t : State). seat_of t seat) a.2.step.after ∙ own_passed (rules_of old) s seat key a.0 v a.1 none) is)

    held_more : is_held v ≡ true → held_in (state_of new) seat ≡ held_in s seat ++ one ∷ []
    held_more is_one = ap (λ (t : State). held_in t seat) a.2.step.after ∙ held_found (rules_of old) s seat key a.0 v is.works a.1 is_one

    filled_sits : is_held v ≡ true → (now : List Held) → ((k : Key) → held_under k now ≡ held_with one cached k) → IsSeated new seat now tag
    filled_sits is_one now filled = record {
      works = subst (λ (t : State). Works t seat) (sym a.2.step.after) (seat_works (rules_of old) s seat seat (call.Find key) a.0 is.works refl);
      held = λ k. filled k ∙ (ap (λ (o : Option Held). cond (same_key key k) (Some one) o) (is.held k)
          ∙ (sym (last_held k one (held_in s seat) (sym (is.held key) ∙ free)) ∙ ap (held_under k) (sym (held_more is_one))));
      tagged = is.tagged ∙ sym (ap (λ (t : State). tag_of t seat) a.2.step.after ∙ seat_tag (rules_of old) s seat seat (call.Find key) a.0 refl);
    }

    pub find_sits : (now : List Held) → (is_held v ≡ true → (k : Key) → held_under k now ≡ held_with one cached k) → (is_held v ≡ false → now ≡ cached) → IsSeated new seat now tag
    find_sits now filled left = by_verdict (is_held v) refl where
      by_verdict : (t : Bool) → is_held v ≡ t → IsSeated new seat now tag
      by_verdict true is_one = filled_sits is_one now (filled is_one)
      by_verdict false none = passed_sits none now (left none)

    pub find_held : is_held v ≡ true → held_verdict (state_of new) seat key ≡ Some v
    find_held is_one = ap (λ (o : Option Held). option_map (λ (h : Held). h.verdict) o)
        (ap (held_under key) (held_more is_one)
        ∙ (last_held key one (held_in s seat) (sym (is.held key) ∙ free)
        ∙ ap (λ (t : Bool). cond t (Some one) (held_under key (held_in s seat))) (same_key-refl key)))

-- what is held is accepted or rejected
pub not_held : (v : Verdict) → is_held v ≡ true → ((id : MetricId) → v ≡ verdict.Accepted id → ⊥) → (v ≡ verdict.Rejected → ⊥) → ⊥
not_held (verdict.Accepted id) held not_accepted not_rejected = not_accepted id refl
not_held verdict.Rejected held not_accepted not_rejected = not_rejected refl
not_held (verdict.Opened id) held not_accepted not_rejected = true_false (sym held)
not_held (verdict.Released id) held not_accepted not_rejected = true_false (sym held)
not_held verdict.LabelTaken held not_accepted not_rejected = true_false (sym held)
not_held verdict.NoScope held not_accepted not_rejected = true_false (sym held)
not_held verdict.OverLimit held not_accepted not_rejected = true_false (sym held)
not_held verdict.NoRoom held not_accepted not_rejected = true_false (sym held)

-- an accepted text that is held may be set
pub may_set_held : (s : State) (seat : ℕ) (key : Key) (v : Verdict) → Works s seat → key.kind ≡ Text → (is_held v ≡ true → held_verdict s seat key ≡ Some v) → MaySet s seat v
may_set_held s seat key (verdict.Accepted id) works kind held =
    let h = map_some (λ (x : Held). x.verdict) (held_under key (held_in s seat)) (verdict.Accepted id) (held refl) in
    may_set s seat key h.0 id works h.1 (sym h.2) kind
may_set_held s seat key (verdict.Opened id) works kind held = tt
may_set_held s seat key (verdict.Released id) works kind held = tt
may_set_held s seat key verdict.LabelTaken works kind held = tt
may_set_held s seat key verdict.NoScope works kind held = tt
may_set_held s seat key verdict.Rejected works kind held = tt
may_set_held s seat key verdict.OverLimit works kind held = tt
may_set_held s seat key verdict.NoRoom works kind held = tt
