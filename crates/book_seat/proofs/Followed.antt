-- What a worker's seat did follows its events.
use Rattle.std.proofs.Common.{◌≡◌, ◌≢◌, ℕ, zero, suc, ◌≤◌, ◌<◌, false, Option, Some, List, [], ◌∷◌, ◌++◌, refl, ap, sym, ◌∙◌, subst, arith, inl, inr, append-nil}
use Rattle.std.proofs.lemmas.List.Elements.{All-weaker}
use Rattle.stat_defs.specs.Books.{BookHistory, releases_in}
use Rattle.stat_defs.specs.declared.events.Event.{Event}
use Rattle.stat_defs.specs.declared.history.Call.TheVariants as call
use Rattle.stat_defs.specs.declared.history.Entry.{Entry}
use Rattle.stat_defs.specs.declared.history.Reply.TheVariants as reply
use Rattle.stat_defs.specs.declared.history.Verdict.{Verdict}
use Rattle.std.specs.Option.{option_map_or, IsSomeAnd}
use Rattle.stat_defs.specs.Keys.{Held, held_under}
use Rattle.book_state.specs.Log.{empty}
use Rattle.book_state.specs.State.{State, Seat, seat_of}
use Rattle.book_state.specs.Follows.{Own, tag_of, Makes, MakesAcked, FollowsSoFar, Follows}
use Rattle.book_state.proofs.Growing.{left_seats, chain_none, chain_event, chain_ended, chain_left}
use Rattle.stat_book.specs.Calls.{rules_of, state_of, IsLegal}
use Rattle.stat_book.proofs.CallerLemmas.{releases_counted, replicated}
use Rattle.seat_history.specs.declared.known.LogKnown.{LogKnown}
use Rattle.seat_history.specs.History.{SeatHistory, known_history, loaded}
use Rattle.book_access.specs.Calling.{known_state, WorksUnder}
use Rattle.book_access.specs.Making.{LogsCall}
use Rattle.book_seat.specs.Growing.{Grows}
use Rattle.book_seat.specs.Deciding.{AddsEvent, AppliesEvent}
use Rattle.book_seat.specs.Polling.{LogsAck, Acknowledges, AcksIfDue, Ends}
use Rattle.book_seat.specs.SeatKept.{IsNewSeat}
use Rattle.book_seat.specs.Following.{HasFollowed, SeatFollows}
use Rattle.book_seat.proofs.Sitting.{Sits}
use Rattle.book_seat.proofs.PartLemmas.{one_grows, after_own, the_own}
use Rattle.book_seat.proofs.EntryLemmas.{grows_then, grown_history}

abbrev IsAck : LogKnown → List Own → Type 0
IsAck q made = (o : Own) × (made ≡ o ∷ []) × (o.call ≡ call.Ack) × (o.after ≡ known_state q)

-- a load before a call is no entry
pub grows_loaded : (p q : LogKnown) (n : ℕ) (A : List Own → Type 0) → p.seen ≤ n → Grows (loaded n p) A q → Grows p A q
grows_loaded p q n A more g = record {
  number = g.number;
  first = g.first;
  more = g.more;
  known = g.known;
  made = g.made;
  seen = (let s = g.seen in omega (arith, s, more));
  asked = g.asked;
}

pub polled_none : (p : LogKnown) (n tag : ℕ) → IsLegal (known_history p) → releases_in p.known ≤ p.seen → p.seen ≤ n → tag ≡ tag_of (known_state p) p.number → n ≤ tag → AcksIfDue p (loaded n p)
polled_none p n tag legal fewest more tagged few =
    inl (
      (let counted = releases_counted (known_history p) legal in omega (arith, counted, fewest, more, tagged, few)),
      record {
        number = refl;
        first = refl;
        more = [];
        known = sym (append-nil p.known);
        made = sym (append-nil p.made);
        seen = more;
        asked = refl;
      },
      refl,
    )

pub polled_ack : (p q : LogKnown) (n : ℕ) → p.seen ≤ n → Acknowledges (loaded n p) q → AcksIfDue p q
polled_ack p q n more under =
    let all = under.makes.0 in let l = under.makes.1 in let Makes : ℕ → BookHistory → BookHistory → Type 0 = LogsAck in
    inr (grows_loaded p q n (IsAck q) more (one_grows Makes (loaded n p) q under call.Ack (reply.Acked all) l (IsAck q)
    (the_own Makes (loaded n p) q under call.Ack (reply.Acked all) l, refl, refl, after_own Makes (loaded n p) q under call.Ack (reply.Acked all) l)))

pub event_applies : (p m q : LogKnown) (e : Event) (v : Verdict) → AcksIfDue p m → AddsEvent m e v q → AppliesEvent p e v q
event_applies p m q e v acks adds = elim acks [
  | inl none ↦ grows_then p m q (λ made. made ≡ []) (Makes m.number (known_state m) e v) (MakesAcked p.number (known_state p) e v)
      (λ first second nil makes. subst (λ (l : List Own). MakesAcked p.number (known_state p) e v (l ++ second)) (sym nil)
      (inl (none.0, subst (λ (k : ℕ). Makes k (known_state p) e v second) none.1.number (subst (λ (h : BookHistory). Makes m.number (state_of h) e v second) none.2 makes))))
      none.1 adds
  | inr ack ↦ grows_then p m q (IsAck m) (Makes m.number (known_state m) e v) (MakesAcked p.number (known_state p) e v)
      (λ first second o makes. subst (λ (l : List Own). MakesAcked p.number (known_state p) e v (l ++ second)) (sym o.1)
      (inr (o.0, second, refl, o.2, subst (λ (k : ℕ). Makes k o.0.after e v second) ack.number (subst (λ (s : State). Makes m.number s e v second) (sym o.3) makes))))
      ack adds
]

pub event_follows : (p m q : LogKnown) (events : List Event) (verdicts : List Verdict) (e : Event) (v : Verdict) → HasFollowed p events verdicts → AcksIfDue p m → AddsEvent m e v q
    → HasFollowed q (events ++ e ∷ []) (verdicts ++ v ∷ [])
event_follows p m q events verdicts e v so_far acks adds =
    let g = event_applies p m q e v acks adds in
    subst (λ (h : BookHistory). FollowsSoFar (rules_of h) h.workers q.number (events ++ e ∷ []) (verdicts ++ v ∷ []) h.log) (sym (grown_history p q (MakesAcked p.number (known_state p) e v) g))
    (subst (λ (k : ℕ). FollowsSoFar (rules_of (known_history p)) p.workers k (events ++ e ∷ []) (verdicts ++ v ∷ []) (p.known ++ g.more)) (sym g.number)
    (chain_event (rules_of (known_history p)) p.workers p.number events verdicts p.known g.more e v so_far g.asked))

abbrev IsEnd : List Own → Type 0
IsEnd made = (o : Own) × (made ≡ o ∷ []) × (o.call ≡ call.End)

ends_grow : (p q : LogKnown) → Ends p q → Grows p IsEnd q
ends_grow p q under = let Makes : ℕ → BookHistory → BookHistory → Type 0 = LogsCall call.End reply.Ended in
    one_grows Makes p q under call.End reply.Ended under.makes IsEnd (the_own Makes p q under call.End reply.Ended under.makes, refl, refl)

-- in the log that the seat left last
pub ended_known : (p q : LogKnown) (events : List Event) (verdicts : List Verdict) → HasFollowed p events verdicts → Ends p q → Follows (rules_of (known_history q)) q.workers q.number events verdicts q.known
ended_known p q events verdicts so_far ends =
    let g = ends_grow p q ends in let o = g.asked in
    subst (λ (h : BookHistory). Follows (rules_of h) h.workers q.number events verdicts h.log) (sym (grown_history p q IsEnd g))
    (subst (λ (k : ℕ). Follows (rules_of (known_history p)) p.workers k events verdicts (p.known ++ g.more)) (sym g.number)
    (chain_ended (rules_of (known_history p)) p.workers p.number events verdicts p.known g.more o.0 so_far o.1 o.2))

pub ended_follows : (p q : LogKnown) (events : List Event) (verdicts : List Verdict) (first : BookHistory) (log : List Entry) → HasFollowed p events verdicts → Ends p q → SeatHistory first log q
    → Follows (rules_of (known_history q)) q.workers q.number events verdicts log
ended_follows p q events verdicts first log so_far ends history =
    subst (λ (l : List Entry). Follows (rules_of (known_history q)) q.workers q.number events verdicts l) (sym history.known.1)
    (chain_left (rules_of (known_history q)) q.workers q.number events verdicts q.known history.known.0 (ended_known p q events verdicts so_far ends)
    (All-weaker (λ (entry : Entry). entry.seat ≢ q.number) (λ entry. q.number ≢ entry.seat) (λ entry other same. other (sym same)) history.known.0 history.known.2))

-- entries of others leave the seat as the book was made with it
new_seat : (k : LogKnown) → IsNewSeat k → seat_of (known_state k) k.number ≡ Some (record { tag = 0; held = []; ended = false })
new_seat k new = left_seats (rules_of (known_history k)) (empty k.workers) k.number k.known new.others ∙ by_number k.number new.worker.0 new.worker.1 where
  by_number : (n : ℕ) → 0 < n → n ≤ k.workers → seat_of (empty k.workers) n ≡ Some (record { tag = 0; held = []; ended = false })
  by_number zero more few = absurd (omega (arith, more))
  by_number (suc at) more few = replicated k.workers at (record { tag = 0; held = []; ended = false }) (omega (arith, few))

pub new_sits : (k : LogKnown) (cached : List Held) → IsNewSeat k → cached ≡ [] → Sits k cached 0
new_sits k cached new none = record {
  seated = record {
    works = subst (λ (o : Option Seat). IsSomeAnd o (λ row. (row.ended ≡ false) × Unit {0})) (sym (new_seat k new)) (refl, tt);
    held = λ key. ap (held_under key) none ∙ ap (λ (o : Option Seat). held_under key (option_map_or (λ (row : Seat). row.held) o [])) (sym (new_seat k new));
    tagged = ap (λ (o : Option Seat). option_map_or (λ (row : Seat). row.tag) o 0) (sym (new_seat k new));
  };
  legal = new.legal;
  fewest = new.fewest;
}

new_follows : (k : LogKnown) → IsNewSeat k → WorksUnder k × HasFollowed k [] []
new_follows k new = ((new_sits k [] new refl).seated.works, chain_none (rules_of (known_history k)) k.workers k.number k.known new.others)

pub seat_follows : SeatFollows
seat_follows = record { begins = new_follows; event = event_follows; ended = ended_follows }
