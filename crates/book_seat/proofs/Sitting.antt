-- A seat that works beside its book.
use Rattle.std.proofs.Common.{◌≡◌, ◌≤◌, ◌+◌, ℕ, List, ap, arith}
use Rattle.stat_defs.specs.Books.{BookHistory, releases_in}
use Rattle.stat_defs.specs.Keys.{Held}
use Rattle.book_state.specs.Follows.{tag_of}
use Rattle.book_state.specs.State.{held_in}
use Rattle.book_state.specs.Step.{Works}
use Rattle.stat_book.specs.Calls.{state_of, IsLegal, openings_by}
use Rattle.thread_cache.specs.SameHeld.{SameHeld}
use Rattle.seat_history.specs.declared.known.LogKnown.{LogKnown}
use Rattle.seat_history.specs.History.{known_history, first_history}
use Rattle.book_access.specs.Calling.{WorksUnder}
use Rattle.book_seat.specs.Growing.{StaysAtWork}
use Rattle.book_seat.specs.SeatKept.{IsKept}

-- the seat works; its cache gives what it holds by the log of the book, and its tag is that of the log
pub record IsSeated (book : BookHistory) (seat : ℕ) (cached : List Held) (tag : ℕ) : Type 0 where
  pub works : Works (state_of book) seat
  pub held : SameHeld cached (held_in (state_of book) seat)
  pub tagged : tag ≡ tag_of (state_of book) seat

-- so it is in the log that it knows, which is legal
pub record Sits (p : LogKnown) (cached : List Held) (tag : ℕ) : Type 0 where
  pub seated : IsSeated (known_history p) p.number cached tag
  pub legal : IsLegal (known_history p)
  pub fewest : releases_in p.known ≤ p.seen

pub sits_of : (p : LogKnown) (cached : List Held) (tag : ℕ) → IsKept p cached tag → WorksUnder p → Sits p cached tag
sits_of p cached tag kept works = record { seated = record { works = works; held = kept.held; tagged = kept.tagged }; legal = kept.legal; fewest = kept.fewest }

pub kept_of : (p : LogKnown) (cached : List Held) (tag : ℕ) → Sits p cached tag → IsKept p cached tag
kept_of p cached tag sits = record { held = sits.seated.held; tagged = sits.seated.tagged; legal = sits.legal; fewest = sits.fewest }

-- what each call keeps, refused or not: the seat, and that it opened no more than this number of scopes
pub record Keeps (opened : ℕ) (p q : LogKnown) : Type 0 where
  pub number : q.number ≡ p.number
  pub first : first_history q ≡ first_history p
  pub openings : openings_by p.number q.known ≤ openings_by p.number p.known + opened

pub stays_of : (n : ℕ) (p q : LogKnown) (cached : List Held) (tag : ℕ) → Keeps n p q → Sits q cached tag → StaysAtWork n p q
stays_of n p q cached tag kept sits = record {
  works = sits.seated.works;
  legal = sits.legal;
  opened = (let few = kept.openings in let e : openings_by q.number q.known ≡ openings_by p.number q.known = ap (λ (k : ℕ). openings_by k q.known) kept.number in omega (arith, few, e));
}
