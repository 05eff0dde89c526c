-- Seats of a lock with their numbers and without.
use Rattle.std.proofs.Common.{◌≡◌, ℕ, zero, suc, ◌+◌, ◌≤◌, List, [], ◌∷◌, ◌++◌, length, map, refl, ap, sym, ◌∙◌, subst, arith, append_assoc, length-append, All, Some}
use Rattle.std.proofs.lemmas.List.{map-append, length-map}
use Rattle.std.proofs.lemmas.List.Elements.{All-nil, All-cons, All-head, All-tail, All-pop}
use Rattle.atomic_table.specs.Seated.{TableId}
use Rattle.stat_defs.specs.Books.{BookHistory}
use Rattle.seat_history.specs.declared.known.LogKnown.{LogKnown}
use Rattle.seat_history.specs.History.{new_known}
use Rattle.book_lock.specs.declared.view.LockPart.{LockPart}
use Rattle.book_lock.specs.declared.lock.BookLock.{BookLock}
use Rattle.book_lock.specs.declared.lock.LockSeat.{LockSeat}
use Rattle.book_lock.specs.History.{new_part}
use Rattle.book_lock.specs.Locked.{new_parts}
use Rattle.book_lock.specs.Seats.{AtRest, AreNew, AreAll, lock_id, seat_lock, seat_part, seat_known, seat_number, seats_of}
use Rattle.locked_book.specs.declared.shared.SharedBook.{SharedBook}
use Rattle.locked_book.specs.declared.shared.LockedBook.{LockedBook}
use Rattle.locked_book.specs.Sharing.{known_by, bare_seat, IsSeatOf, new_seats, first_of, AreNewSeats, AreAllSeats}

abbrev Bare : Type 0
Bare = LockSeat BookHistory

first_or : LockPart → List LockPart → LockPart
first_or d [] = d
first_or d (p ∷ ps) = p

rest_of : List LockPart → List LockPart
rest_of [] = []
rest_of (p ∷ ps) = ps

-- the number of a new lock's seat is its place
part_at : (first : BookHistory) (room k n : ℕ) (before behind : List Bare) (x : Bare) → map seat_part (before ++ x ∷ behind) ≡ new_parts first room k n → seat_part x ≡ new_part first room (k + length before)
unfolding first_or rest_of
part_at first room k zero before behind x e = let a = ap length e in let b = length-map (before ++ x ∷ behind) (seat_part {B = BookHistory}) in let c = length-append before (x ∷ behind) in absurd (omega (arith, a, b, c))
part_at first room k (suc n) [] behind x e = let here : k ≡ k + 0 = omega arith in ap (first_or (seat_part x)) e ∙ ap (new_part first room) here
part_at first room k (suc n) (y ∷ before) behind x e = let here : suc k + length before ≡ k + suc (length before) = omega arith in part_at first room (suc k) n before behind x (ap rest_of e) ∙ ap (new_part first room) here

at_place : (P : Bare → Type 0) (before behind : List Bare) (x : Bare) → All P (before ++ x ∷ behind) → P x
at_place P [] behind x each = All-head P x behind each
at_place P (y ∷ before) behind x each = at_place P before behind x (All-tail P y (before ++ x ∷ behind) each)

-- a seat rests at its own lock
at_own : (lock : BookLock BookHistory) (x : Bare) → AtRest (lock_id lock) x → AtRest (seat_lock x) x
at_own lock x at = (refl, at.1, at.2, ap (λ (id : TableId). id.words) at.0 ∙ at.3)

-- the seat that a loop over a new lock's seats has come to
pub seat_at : (lock : BookLock BookHistory) (first : BookHistory) (room count : ℕ) (all done left behind : List Bare) (x : Bare) → AreNew (lock_id lock) first room count all → all ≡ done ++ left → left ≡ x ∷ behind
    → (seat_number x ≡ length done) × AtRest (seat_lock x) x × ((seat_part x).room ≡ room)
seat_at lock first room count all done left behind x new whole first_is =
    let e : all ≡ done ++ x ∷ behind = whole ∙ ap (λ (l : List Bare). done ++ l) first_is in
    let at = at_place (AtRest (lock_id lock)) done behind x (subst (λ (l : List Bare). All (AtRest (lock_id lock)) l) e new.rest) in
    let p = part_at first room 0 count done behind x (ap (map seat_part) (sym e) ∙ new.parts) in
    let n : seat_number x ≡ 0 + length done = ap (λ (z : LockPart). z.seat.number) p in
    (omega (arith, n), at_own lock x at, ap (λ (z : LockPart). z.room) p)

pub new_length : (first : BookHistory) (room k n : ℕ) → length (new_parts first room k n) ≡ n
new_length first room k zero = refl
new_length first room k (suc n) = let t = new_length first room (suc k) n in omega (arith, t)

pub seats_length : (lock : BookLock BookHistory) (first : BookHistory) (room count : ℕ) (all : List Bare) → AreNew (lock_id lock) first room count all → length all ≡ count
seats_length lock first room count all new = let l = length-map all (seat_part {B = BookHistory}) in let p = ap length new.parts in let n = new_length first room 0 count in omega (arith, l, p, n)

pub taken_one : {X : Type 0} (all done left rest : List X) (x : X) → all ≡ done ++ left → left ≡ x ∷ rest → all ≡ (done ++ x ∷ []) ++ rest
taken_one {X = X} all done left rest x whole first = whole ∙ (ap (λ (l : List X). done ++ l) first ∙ sym (append_assoc done (x ∷ []) rest))

pub longer : {X : Type 0} (xs : List X) (x : X) (n m : ℕ) → n ≡ length xs → m ≡ n + 1 → m ≡ length (xs ++ x ∷ [])
longer xs x n m here more = let long = length-append xs (x ∷ []) in omega (arith, here, more, long)

-- fewer were yielded than there are
pub fewer : {X : Type 0} (all done left rest : List X) (x : X) → all ≡ done ++ left → left ≡ x ∷ rest → length done + 1 ≤ length all
fewer all done left rest x whole first = let a = ap length whole in let b = length-append done left in let c = ap length first in omega (arith, a, b, c)

known_all : (seats : List LockedBook) → map known_by seats ≡ map (λ (p : LockPart). p.seat) (map seat_part (map bare_seat seats))
known_all [] = refl
known_all (s ∷ ss) = ap (λ (l : List LogKnown). known_by s ∷ l) (known_all ss)

known_parts : (first : BookHistory) (room k n : ℕ) → map (λ (p : LockPart). p.seat) (new_parts first room k n) ≡ new_seats first k n
known_parts first room k zero = refl
known_parts first room k (suc n) = ap (λ (l : List LogKnown). new_known first k ∷ l) (known_parts first room (suc k) n)

own_all : (book : SharedBook) (seats : List LockedBook) → All (AtRest (lock_id book.lock)) (map bare_seat seats) → All (IsSeatOf book) seats
own_all book [] rest = All-nil (IsSeatOf book)
own_all book (s ∷ ss) rest = All-cons (IsSeatOf book) s ss (All-head (AtRest (lock_id book.lock)) s.seat (map bare_seat ss) rest).0 (own_all book ss (All-tail (AtRest (lock_id book.lock)) s.seat (map bare_seat ss) rest))

-- the seats of a new lock, with their numbers
pub new_numbered : (book : SharedBook) (seats : List LockedBook) (bare : List Bare) (room count : ℕ) → map bare_seat seats ≡ bare → AreNew (lock_id book.lock) (first_of book) room count bare → AreNewSeats book count seats
new_numbered book seats bare room count is new = record {
  own = own_all book seats (subst (λ (l : List Bare). All (AtRest (lock_id book.lock)) l) (sym is) new.rest);
  known = known_all seats ∙ (ap (λ (l : List Bare). map (λ (p : LockPart). p.seat) (map seat_part l)) is ∙ (ap (map (λ (p : LockPart). p.seat)) new.parts ∙ known_parts (first_of book) room 0 count));
}

at_lock : (book : SharedBook) (s : LockedBook) → IsSeatOf book s → AtRest (lock_id book.lock) s.seat
at_lock book s own = (own, s.rests.1, s.rests.2, ap (λ (id : TableId). id.words) (sym own) ∙ s.rests.3)

rest_all : (book : SharedBook) (seats : List LockedBook) → All (IsSeatOf book) seats → All (AtRest (lock_id book.lock)) (map bare_seat seats)
rest_all book [] own = All-nil (AtRest (lock_id book.lock))
rest_all book (s ∷ ss) own = All-cons (AtRest (lock_id book.lock)) s.seat (map bare_seat ss) (at_lock book s (All-head (IsSeatOf book) s ss own)) (rest_all book ss (All-tail (IsSeatOf book) s ss own))

-- the seats of a book are those of its lock
pub all_bare : (book : SharedBook) (seats : List LockedBook) (bare : List Bare) → bare ≡ map bare_seat seats → AreAllSeats book seats → AreAll (lock_id book.lock) (seats_of book.lock) bare
all_bare book seats bare is all = record {
  rest = subst (λ (l : List Bare). All (AtRest (lock_id book.lock)) l) (sym is) (rest_all book seats all.own);
  all = ap length is ∙ (length-map seats bare_seat ∙ all.all);
}

pub known_bare : (seats : List LockedBook) → map seat_known (map bare_seat seats) ≡ map known_by seats
known_bare [] = refl
known_bare (s ∷ ss) = ap (λ (l : List LogKnown). known_by s ∷ l) (known_bare ss)

one_more : (first : BookHistory) (k n : ℕ) → new_seats first k (n + 1) ≡ new_seats first k n ++ new_known first (k + n) ∷ []
one_more first k zero = (let e : k ≡ k + 0 = omega arith in ap (λ (j : ℕ). new_known first j ∷ []) e)
one_more first k (suc n) = let e : suc k + n ≡ k + suc n = omega arith in let f : suc n + 1 ≡ suc (n + 1) = omega arith in
    ap (new_seats first k) f ∙ ap (λ (l : List LogKnown). new_known first k ∷ l) (one_more first (suc k) n ∙ ap (λ (j : ℕ). new_seats first (suc k) n ++ new_known first j ∷ []) e)

front : List LogKnown → List LogKnown
front [] = []
front (x ∷ []) = []
front (x ∷ y ∷ xs) = x ∷ front (y ∷ xs)

front_of : (xs : List LogKnown) (x : LogKnown) → front (xs ++ x ∷ []) ≡ xs
unfolding front
front_of [] x = refl
front_of (y ∷ []) x = refl
front_of (y ∷ z ∷ xs) x = ap (λ (l : List LogKnown). y ∷ l) (front_of (z ∷ xs) x)

last_or : LogKnown → List LogKnown → LogKnown
last_or d [] = d
last_or d (x ∷ xs) = last_or x xs

last_of : (d : LogKnown) (xs : List LogKnown) (x : LogKnown) → last_or d (xs ++ x ∷ []) ≡ x
unfolding last_or
last_of d [] x = refl
last_of d (y ∷ xs) x = last_of y xs x

-- the last seat is taken off the list of a new book's seats
pub new_last : (book : SharedBook) (n : ℕ) (all seats : List LockedBook) (s : LockedBook) → all ≡ seats ++ s ∷ [] → AreNewSeats book (n + 1) all
    → IsSeatOf book s × (known_by s ≡ new_known (first_of book) n) × AreNewSeats book n seats
new_last book n all seats s e new =
    let first = first_of book in let d = known_by s in let zero_plus : 0 + n ≡ n = omega arith in
    let known : map known_by seats ++ known_by s ∷ [] ≡ new_seats first 0 n ++ new_known first (0 + n) ∷ [] = sym (map-append known_by seats (s ∷ [])) ∙ (ap (map known_by) (sym e) ∙ (new.known ∙ one_more first 0 n)) in
    let own = All-pop (IsSeatOf book) all seats (Some s) e new.own in (
      own.1,
      sym (last_of d (map known_by seats) d) ∙ (ap (last_or d) known ∙ (last_of d (new_seats first 0 n) (new_known first (0 + n)) ∙ ap (new_known first) zero_plus)),
      record { own = own.0; known = sym (front_of (map known_by seats) d) ∙ (ap front known ∙ front_of (new_seats first 0 n) (new_known first (0 + n))) },
    )
