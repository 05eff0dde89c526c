-- What clauses read of a lock and of its seats (this project's own).
use Rattle.std.specs.Prelude.{◌≡◌, ℕ, ◌+◌, ◌*◌, true, false, List, [], ◌∷◌, None, length, map, All}
use Rattle.atomic_table.specs.Seated.{TableId}
use Rattle.stat_defs.specs.declared.history.Entry.{Entry}
use Rattle.stat_defs.specs.declared.history.NameOp.{NameOp}
use Rattle.stat_defs.specs.Books.{BookHistory, releases_in}
use Rattle.seat_history.specs.declared.known.LogKnown.{LogKnown}
use Rattle.book_lock.specs.declared.view.LockPart.{LockPart}
use Rattle.book_lock.specs.declared.lock.BookLock.{BookLock}
use Rattle.book_lock.specs.declared.lock.LockSeat.{LockSeat}
use Rattle.book_lock.specs.declared.held.Held as held_type
use Rattle.book_lock.specs.declared.held.Try.{Try}
use Rattle.book_lock.specs.declared.held.Try.TheVariants.{Held, Busy}
use Rattle.book_lock.specs.Locked.{own_part, new_parts}

module _ {B : Type 0} where
  -- which lock it is, the book that it was made with, with how many seats, and for how many changes there is room
  abbrev pub lock_id : BookLock B → TableId
  lock_id l = l.table.shared.table_id

  abbrev pub first_book : BookLock B → B
  first_book l = l.table.shared.key.first.value

  abbrev pub seats_of : BookLock B → ℕ
  seats_of l = l.table.shared.key.seats

  abbrev pub room_of : BookLock B → ℕ
  room_of l = l.table.shared.key.room

  -- a seat: its lock, its part, what it knows of the log, and its number
  abbrev pub seat_lock : LockSeat B → TableId
  seat_lock s = s.place.table_id

  abbrev pub seat_part : LockSeat B → LockPart
  seat_part s = own_part s.place.me.0

  abbrev pub seat_known : LockSeat B → LogKnown
  seat_known s = (seat_part s).seat

  abbrev pub seat_number : LockSeat B → ℕ
  seat_number s = (seat_known s).number

  -- the seat is of the lock, and has not the book
  abbrev pub AtRest : TableId → LockSeat B → Type 0
  AtRest id s = (seat_lock s ≡ id) × (s.place.me.1 ≡ []) × ((seat_part s).holds ≡ false)
      × (id.words ≡ 17 + 2 * (seat_part s).room)

  -- the seat is of the lock, and the book is out with it
  abbrev pub HasBook : TableId → LockSeat B → Type 0
  HasBook id s = (seat_lock s ≡ id) × (s.place.me.1 ≡ (0, None) ∷ []) × ((seat_part s).holds ≡ true)
      × (id.words ≡ 17 + 2 * (seat_part s).room) × ((seat_part s).stored ≡ [])
      × ((seat_part s).reach ≡ length (seat_known s).known)

  -- the book in the hands of a seat
  abbrev pub held_book : held_type.Held B → B
  held_book held = held.book.value

  -- when it was taken it had as many changes as these, and as many releases as this log
  abbrev pub FoundWith : held_type.Held B → List NameOp → List Entry → Type 0
  FoundWith held names log = (held.changes ≡ length names) × (held.releases ≡ releases_in log)

  -- where a try got the book, a fact of the book, and else of the word that it found
  abbrev pub OnHeld : Try B → (B → Type 0) → Type 0
  OnHeld (Held held) P = P (held_book held)
  OnHeld (Busy word) P = Unit {0}

  abbrev pub OnHeldWhole : Try B → (held_type.Held B → Type 0) → Type 0
  OnHeldWhole (Held held) P = P held
  OnHeldWhole (Busy word) P = Unit {0}

  abbrev pub OnBusy : Try B → (ℕ → Type 0) → Type 0
  OnBusy (Held held) P = Unit {0}
  OnBusy (Busy word) P = P word

  -- the seats of a new lock, in the order of their numbers from 0 on
  pub record AreNew (id : TableId) (first : BookHistory) (room count : ℕ) (seats : List (LockSeat B)) : Type 0 where
    pub rest : All (AtRest id) seats
    pub parts : map seat_part seats ≡ new_parts first room 0 count

  -- every seat of the lock is given, and none has the book
  pub record AreAll (id : TableId) (count : ℕ) (seats : List (LockSeat B)) : Type 0 where
    pub rest : All (AtRest id) seats
    pub all : length seats ≡ count
