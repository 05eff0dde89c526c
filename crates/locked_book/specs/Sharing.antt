-- What clauses read of a shared book and of its seats (this project's own).
use Rattle.std.specs.Prelude.{◌≡◌, ℕ, zero, suc, List, [], ◌∷◌, length, map, All}
use Rattle.stat_defs.specs.Books.{BookHistory}
use Rattle.stat_defs.specs.declared.history.NameOp.{NameOp}
use Rattle.seat_history.specs.declared.known.LogKnown.{LogKnown}
use Rattle.seat_history.specs.History.{new_known}
use Rattle.book_lock.specs.declared.lock.LockSeat.{LockSeat}
use Rattle.book_lock.specs.declared.view.LockPart.{LockPart}
use Rattle.book_lock.specs.History.{Tells, told}
use Rattle.book_lock.specs.Seats.{lock_id, first_book, seats_of, seat_lock, seat_part, seat_known}
use Rattle.locked_book.specs.declared.shared.SharedBook.{SharedBook}
use Rattle.locked_book.specs.declared.shared.LockedBook.{LockedBook}

-- the history of the book that it was made with, and with how many seats
abbrev pub first_of : SharedBook → BookHistory
first_of book = first_book book.lock

abbrev pub seat_count : SharedBook → ℕ
seat_count book = seats_of book.lock

-- what a seat knows of the book and of its own steps, of the book's log, and of the changes of names: those that it
-- found, left or loaded last
abbrev pub part_of : LockedBook → LockPart
part_of seat = seat_part seat.seat

abbrev pub known_by : LockedBook → LogKnown
known_by seat = seat_known seat.seat

abbrev pub names_by : LockedBook → List NameOp
names_by seat = (part_of seat).names

-- one load of the number of changes, and no other step
pub record LooksOnly (p q : LockPart) : Type 0 where
  pub names : List NameOp
  pub tells : Tells p names
  pub part : q ≡ told names p

-- the seat is one of this book's
abbrev pub IsSeatOf : SharedBook → LockedBook → Type 0
IsSeatOf book seat = seat_lock seat.seat ≡ lock_id book.lock

-- the seat of the lock, without its number
abbrev pub bare_seat : LockedBook → LockSeat BookHistory
bare_seat seat = seat.seat

-- n seats that have made no call, numbered from `number` on
abbrev pub new_seats : BookHistory → ℕ → ℕ → List LogKnown
new_seats first number zero = []
new_seats first number (suc n) = new_known first number ∷ new_seats first (suc number) n

-- seats of a new book, in the order of their numbers from 0 on
pub record AreNewSeats (book : SharedBook) (count : ℕ) (seats : List LockedBook) : Type 0 where
  pub own : All (IsSeatOf book) seats
  pub known : map known_by seats ≡ new_seats (first_of book) 0 count

-- as many seats of the book as it was made with
pub record AreAllSeats (book : SharedBook) (seats : List LockedBook) : Type 0 where
  pub own : All (IsSeatOf book) seats
  pub all : length seats ≡ seat_count book
