-- The entries of a worker's seat stay those of its events.
use Rattle.std.proofs.Common.{◌≡◌, ◌≢◌, ◌≤◌, ℕ, suc, Option, None, Some, Bool, true, false, MatchBool, List, [], ◌∷◌, ◌++◌, refl, ap, sym, ◌∙◌, subst, arith}
use Rattle.std.proofs.lemmas.List.Elements.{All-cons, All-nil}
use Rattle.std.specs.Option.{IsSomeAnd}
use Rattle.stat_defs.specs.Books.{BookHistory}
use Rattle.stat_defs.specs.declared.events.Event.{Event}
use Rattle.stat_defs.specs.declared.history.Call.TheVariants as call
use Rattle.stat_defs.specs.declared.history.Entry.{Entry}
use Rattle.stat_defs.specs.declared.history.Reply.{Reply}
use Rattle.stat_defs.specs.declared.history.Reply.TheVariants as reply
use Rattle.stat_defs.specs.declared.history.Verdict.{Verdict}
use Rattle.book_state.specs.Follows.{own, MakesAcked, FollowsSoFar, Follows}
use Rattle.book_state.specs.Laws.{AreOfOthers, own_entry}
use Rattle.book_state.specs.Log.{openings, replay}
use Rattle.book_state.specs.State.{Row, Seat}
use Rattle.stat_defs.specs.declared.metrics.Metric.{Metric}
use Rattle.book_state.proofs.Growing.{chain_none, chain_others, chain_event, chain_ended, chain_left}
use Rattle.stat_defs.specs.declared.configs.Config.{Config}
use Rattle.stat_defs.specs.declared.configs.ScopeSpec.{ScopeSpec}
use Rattle.book_state.specs.Step.{Works}
use Rattle.book_access.specs.Owned.{owned_known}
use Rattle.book_seat.specs.SeatKept.{IsNewSeat}
use Rattle.book_seat.proofs.Followed.{seat_follows}
use Rattle.stat_defs.specs.declared.history.Call.{Call}
use Rattle.stat_book.specs.Calls.{rules_of, state_of, new_book, openings_by, Logged, IsLegal}
use Rattle.stat_book.proofs.CallerLemmas.{new_openings, other_seat_stays}
use Rattle.plain_store.specs.Entries.{Applies}

-- the entries of a book's seat 1 are those of the events, and an End where it has ended
abbrev pub FollowedIn : BookHistory → List Event → List Verdict → Bool → Type 0
FollowedIn book events verdicts ended = MatchBool ended (Follows (rules_of book) 1 1 events verdicts book.log) (FollowsSoFar (rules_of book) 1 1 events verdicts book.log)

module _ (old new : BookHistory) (events : List Event) (verdicts : List Verdict) where
  pub decided_follows : (ended : Bool) (e : Event) (v : Verdict) → ended ≡ false → old.workers ≡ 1 → Applies old e v new → FollowedIn old events verdicts ended
      → FollowedIn new (events ++ e ∷ []) (verdicts ++ v ∷ []) ended
  decided_follows ended e v works one applies so_far =
      let more : List Entry = applies.more in
      let before : FollowsSoFar (rules_of old) 1 1 events verdicts old.log = subst (λ (t : Bool). FollowedIn old events verdicts t) works so_far in
      let makes : MakesAcked 1 (replay (rules_of old) 1 old.log) e v (own (rules_of old) 1 (replay (rules_of old) 1 old.log) more)
      = subst (λ (n : ℕ). MakesAcked 1 (replay (rules_of old) n old.log) e v (own (rules_of old) 1 (replay (rules_of old) n old.log) more)) one applies.asked in
      subst (λ (t : Bool). FollowedIn new (events ++ e ∷ []) (verdicts ++ v ∷ []) t) (sym works)
      (subst (λ (b : BookHistory). FollowsSoFar (rules_of b) 1 1 (events ++ e ∷ []) (verdicts ++ v ∷ []) b.log) (sym applies.logged)
      (chain_event (rules_of old) 1 1 events verdicts old.log more e v before makes))

  pub swept_follows : (ended : Bool) (r : Reply) → Logged old 0 call.Sweep r new → FollowedIn old events verdicts ended → FollowedIn new events verdicts ended
  swept_follows ended r l so_far = subst (λ (b : BookHistory). FollowedIn b events verdicts ended) (sym l.logged) (by_end ended so_far) where
    others : AreOfOthers 1 (record { seat = 0; call = call.Sweep; reply = r } ∷ [])
    others = All-cons (λ (entry : Entry). 1 ≢ entry.seat) (record { seat = 0; call = call.Sweep; reply = r }) [] (λ same. omega (arith, same)) (All-nil (λ (entry : Entry). 1 ≢ entry.seat))

    by_end : (t : Bool) → FollowedIn old events verdicts t → FollowedIn (record old { log = old.log ++ record { seat = 0; call = call.Sweep; reply = r } ∷ [] }) events verdicts t
    by_end true so_far = chain_left (rules_of old) 1 1 events verdicts old.log (record { seat = 0; call = call.Sweep; reply = r } ∷ []) so_far others
    by_end false so_far = chain_others (rules_of old) 1 1 events verdicts old.log (record { seat = 0; call = call.Sweep; reply = r } ∷ []) so_far others

  pub ended_follows : (ended : Bool) → ended ≡ false → old.workers ≡ 1 → Logged old 1 call.End reply.Ended new → FollowedIn old events verdicts ended → FollowedIn new events verdicts true
  ended_follows ended works one l so_far =
      let e : Entry = record { seat = 1; call = call.End; reply = reply.Ended } in
      let before : FollowsSoFar (rules_of old) 1 1 events verdicts old.log = subst (λ (t : Bool). FollowedIn old events verdicts t) works so_far in
      subst (λ (b : BookHistory). Follows (rules_of b) 1 1 events verdicts b.log) (sym l.logged)
      (chain_ended (rules_of old) 1 1 events verdicts old.log (e ∷ []) (own_entry (rules_of old) (replay (rules_of old) 1 old.log) e) before refl refl)

-- the openings of the configuration are entries of the store
others_first : (id : ℕ) (scopes : List ScopeSpec) → AreOfOthers 1 (openings id scopes)
others_first id [] = All-nil (λ (entry : Entry). 1 ≢ entry.seat)
others_first id (scope ∷ scopes) = All-cons (λ (entry : Entry). 1 ≢ entry.seat) _ (openings (suc id) scopes) (λ same. omega (arith, same)) (others_first (suc id) scopes)

-- before its first event the seat is new
pub first_seat : (book : BookHistory) (config : Config) → book ≡ new_book config 1 → IsLegal book → IsNewSeat (owned_known 1 book)
first_seat book config book_is legal = record {
  worker = (omega arith, (let one = ap (λ (b : BookHistory). b.workers) book_is in omega (arith, one)));
  others = subst (λ (b : BookHistory). AreOfOthers 1 b.log) (sym book_is) (others_first 0 config.scopes);
  legal = legal;
  fewest = (omega arith);
}

pub first_works : (book : BookHistory) (config : Config) → book ≡ new_book config 1 → IsLegal book → Works (state_of book) 1
first_works book config book_is legal = (seat_follows.begins (owned_known 1 book) (first_seat book config book_is legal)).0

-- seat 0's calls leave the seat
pub swept_works : (old new : BookHistory) (r : Reply) → Logged old 0 call.Sweep r new → Works (state_of old) 1 → Works (state_of new) 1
swept_works old new r l works = subst (λ (o : Option Seat). IsSomeAnd o (λ row. (row.ended ≡ false) × Unit {0})) (sym (other_seat_stays old new 0 call.Sweep r l 1 (λ e. omega (arith, e)))) works

module _ (old new : BookHistory) (by : ℕ) (c : Call) (r : Reply) (l : Logged old by c r new) where
  pub workers_stay : new.workers ≡ old.workers
  workers_stay = ap (λ (b : BookHistory). b.workers) l.logged

pub first_follows : (book : BookHistory) (config : Config) → book ≡ new_book config 1 → FollowedIn book [] [] false
first_follows book config book_is =
    subst (λ (b : BookHistory). FollowedIn b [] [] false) (sym book_is) (chain_none (rules_of (new_book config 1)) 1 1 (openings 0 config.scopes) (others_first 0 config.scopes))

pub none_opened_first : (book : BookHistory) (config : Config) → book ≡ new_book config 1 → openings_by 1 book.log ≤ 0
none_opened_first book config book_is = let none = ap (λ (b : BookHistory). openings_by 1 b.log) book_is ∙ new_openings config 1 0 in omega (arith, none)

pub kind_of_row : (o : Option Row) (metric : Metric) → IsSomeAnd o (λ row. row.metric ≡ metric) → IsSomeAnd o (λ row. row.metric.kind ≡ metric.kind)
kind_of_row None metric is = is
kind_of_row (Some row) metric is = ap (λ (m : Metric). m.kind) is
