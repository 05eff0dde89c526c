-- What the code of every seat says of a seat on a book of its own.
use Rattle.std.proofs.Common.{◌≡◌, ℕ, ◌==◌, ◌&&◌, inl, inr, ◌<◌, Bool, true, false, cond, List, [], ◌∷◌, ◌++◌, filter, refl, ap, sym, ◌∙◌, subst, arith}
use Rattle.std.specs.List.{list_all}
use Rattle.std.proofs.lemmas.List.{append_cancel_left}
use Rattle.stat_defs.specs.Books.{BookHistory}
use Rattle.stat_defs.specs.declared.events.Event.{Event}
use Rattle.stat_defs.specs.declared.history.Entry.{Entry}
use Rattle.stat_defs.specs.declared.history.Verdict.{Verdict}
use Rattle.book_state.specs.Follows.{Own, own, MakesAcked}
use Rattle.book_state.specs.Step.{Works}
use Rattle.book_state.specs.declared.limits.TheConstants.{MAX_OPENINGS}
use Rattle.stat_book.specs.Calls.{rules_of, state_of, openings_by}
use Rattle.seat_history.specs.declared.known.LogKnown.{LogKnown}
use Rattle.seat_history.specs.History.{entries_by}
use Rattle.book_access.specs.Calling.{WorksUnder, opened}
use Rattle.book_access.specs.Owned.{owned_known}
use Rattle.book_access.specs.declared.owned.OwnedBook.{OwnedBook}
use Rattle.book_seat.specs.Growing.{Grows, MakesNothing, StaysAtWork}
use Rattle.book_seat.specs.Deciding.{DecidesEvent, CutsEvent, IsCutOff}
use Rattle.book_seat.specs.Polling.{Polls, PollsInVain, AcksIfDue}
use Rattle.book_seat.proofs.EntryLemmas.{grows_map, grows_then}
use Rattle.book_seat.proofs.Followed.{event_applies}
use Rattle.plain_store.specs.Seats.{StaysAlone, AppliesAlone, CutsAlone}
use Rattle.plain_store.specs.Entries.{Adds, IsLeftOf}

abbrev known : OwnedBook → LogKnown
known o = owned_known o.number o.book

filtered : (p : Entry → Bool) (xs : List Entry) → list_all p (filter p xs) ≡ true
filtered p [] = refl
filtered p (x ∷ xs) = by (p x) refl (filtered p xs) where
  by : (b : Bool) → p x ≡ b → list_all p (filter p xs) ≡ true → list_all p (cond b (x ∷ filter p xs) (filter p xs)) ≡ true
  by true is rest = ap (λ (b : Bool). b && list_all p (filter p xs)) is ∙ rest
  by false is rest = rest

module _ (a b : OwnedBook) (one : a.number ≡ 1) where
  -- where its calls alone lengthen the log, they do so by entries of its own
  pub adds_own : (A : List Own → Type 0) → Grows (known a) A (known b) → Adds a.book A b.book
  adds_own A g = record {
    more = g.more;
    logged = λ i. record { config = ap (λ (h : BookHistory). h.config) g.first i; workers = ap (λ (h : BookHistory). h.workers) g.first i; log = g.known i };
    mine = subst (λ (k : ℕ). list_all (λ entry. entry.seat == k) g.more ≡ true) one
        (ap (λ (l : List Entry). list_all (λ entry. entry.seat == a.number) l) (append_cancel_left a.book.log g.more (entries_by a.number g.more) (sym g.known ∙ g.made)) ∙ filtered (λ entry. entry.seat == a.number) g.more);
    asked = subst (λ (k : ℕ). A (own (rules_of a.book) k (state_of a.book) g.more)) one g.asked;
  }

  pub stays_own : (n : ℕ) (A : List Own → Type 0) → Grows (known a) A (known b) → StaysAtWork n (known a) (known b) → StaysAlone n a b
  stays_own n A g stays =
      let number = g.number ∙ one in
      let few = stays.opened in
      let before : openings_by a.number a.book.log ≡ openings_by 1 a.book.log = ap (λ (k : ℕ). openings_by k a.book.log) one in
      let after : openings_by b.number b.book.log ≡ openings_by 1 b.book.log = ap (λ (k : ℕ). openings_by k b.book.log) number in
      record {
        number = number;
        works = subst (λ (k : ℕ). Works (state_of b.book) k) number stays.works;
        openings = (omega (arith, few, before, after));
      }

  pub works_own : Works (state_of a.book) 1 → WorksUnder (known a)
  works_own works = subst (λ (k : ℕ). Works (state_of a.book) k) (sym one) works

  pub vain_own : (e : Event) → PollsInVain (known a) (known b) → CutsAlone e a b
  vain_own e vain = record {
    left = adds_own (IsLeftOf e) (grows_map (known a) (known b) MakesNothing (IsLeftOf e) (λ made none. inl (inl none)) vain.left);
    stays = stays_own 0 MakesNothing vain.left vain.stays;
  }

adds_map : (a b : BookHistory) (A B : List Own → Type 0) → ((made : List Own) → A made → B made) → Adds a A b → Adds a B b
adds_map a b A B to adds = record { more = adds.more; logged = adds.logged; mine = adds.mine; asked = to (own (rules_of a) 1 (state_of a) adds.more) adds.asked }

stays_then : (n : ℕ) (p m q : LogKnown) → StaysAtWork 0 p m → StaysAtWork n m q → StaysAtWork n p q
stays_then n p m q first second = record { works = second.works; legal = second.legal; opened = (let few = first.opened in let more = second.opened in omega (arith, few, more)) }

-- what is left of an event that was cut short behind its poll
left_grows : (e : Event) (p m q : LogKnown) → AcksIfDue p m → Grows m (IsCutOff e) q → Grows p (IsLeftOf e) q
left_grows e p m q acks cut = elim acks [
  | inl none ↦ grows_then p m q MakesNothing (IsCutOff e) (IsLeftOf e)
      (λ first second nil left. inl (subst (λ (l : List Own). IsCutOff e (l ++ second)) (sym nil) left)) none.1 cut
  | inr ack ↦ grows_then p m q _ (IsCutOff e) (IsLeftOf e)
      (λ first second one left. inr (one.0, second, ap (λ (l : List Own). l ++ second) one.1, one.2, left)) ack cut
]

-- an event behind a poll
module _ (a m b : OwnedBook) (one : a.number ≡ 1) (acked : Bool) (polls : Polls acked (known a) (known m)) where
  pub applies_own : (e : Event) (v : Verdict) → DecidesEvent e v (known m) (known b) → AppliesAlone e v a b
  applies_own e v decides =
      let g = event_applies (known a) (known m) (known b) e v polls.due decides.added in
      record {
        applied = adds_map a.book b.book (MakesAcked a.number (state_of a.book) e v) (MakesAcked 1 (state_of a.book) e v)
            (λ made is. subst (λ (k : ℕ). MakesAcked k (state_of a.book) e v made) one is) (adds_own a b one (MakesAcked a.number (state_of a.book) e v) g);
        names = decides.names;
        stays = stays_own a b one 1 _ g (stays_then 1 (known a) (known m) (known b) polls.stays decides.stays);
      }

  pub cuts_own : (e : Event) → CutsEvent e (known m) (known b) → CutsAlone e a b
  cuts_own e cuts =
      let g = left_grows e (known a) (known m) (known b) polls.due cuts.left in
      record { left = adds_own a b one (IsLeftOf e) g; stays = stays_own a b one 0 (IsLeftOf e) g (stays_then 0 (known a) (known m) (known b) polls.stays cuts.stays) }

  pub room_own : openings_by 1 a.book.log < MAX_OPENINGS → opened (known m) < MAX_OPENINGS
  room_own few =
      let more = polls.stays.opened in
      let before : openings_by a.number a.book.log ≡ openings_by 1 a.book.log = ap (λ (k : ℕ). openings_by k a.book.log) one in
      omega (arith, few, more, before)
