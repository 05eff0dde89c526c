-- What a seat that entered knows, what it may leave and knows once it has, what a call of the book adds to its log, and
-- how the seats of a new lock are taken off their list.
use Rattle.std.proofs.Common.{◌≡◌, ℕ, ◌+◌, ◌*◌, ◌<◌, ◌≤◌, length, subst, List, [], ◌∷◌, ◌++◌, map, sym, refl, ap, ◌∙◌, arith, eqb, Bool, true, false, if◌then◌else◌, Some, Result, Ok, Err, MatchResult, append-nil, length-append, All}
use Rattle.std.proofs.lemmas.List.{map-append}
use Rattle.std.proofs.lemmas.List.Elements.{All-nil, All-cons, All-pop, All-weaker}
use Rattle.atomic_table.specs.Seated.{TableId}
use Rattle.stat_defs.specs.declared.history.Entry.{Entry}
use Rattle.stat_defs.specs.Books.{BookHistory, releases_in}
use Rattle.seat_history.specs.History.{left_log}
use Rattle.book_lock.specs.declared.held.Held.{Held}
use Rattle.book_lock.specs.declared.view.LockPart.{LockPart}
use Rattle.book_lock.specs.declared.lock.LockSeat.{LockSeat}
use Rattle.stat_defs.specs.declared.history.NameOp.{NameOp}
use Rattle.stat_defs.specs.Changes.{at_of, id_of, NeverFalls}
use Rattle.book_lock.specs.Naming.{FindsNames, MayName}
use Rattle.book_lock.specs.History.{took, tried, Entered, named, logged, releases_stored, left, new_part}
use Rattle.book_lock.specs.Locked.{new_parts}
use Rattle.book_lock.specs.Seats.{FoundWith, AtRest, seat_part, AreNew}
use Rattle.book_lock.proofs.Deals.{one-more}

-- a seat that entered knows the changes and the releases that its book was found with
pub found-with : {B : Type 0} (held : Held B) (p q : LockPart) (log : List Entry) (names : List NameOp) → FoundWith held names log → Entered log names p q → FoundWith held q.names q.seat.known
found-with held p q log names f e = (f.0 ∙ ap (λ (z : LockPart). length z.names) (sym e.1), f.1 ∙ ap (λ (z : LockPart). releases_in z.seat.known) (sym e.1))

either-logged : (stood : Bool) (log : List Entry) (p : LockPart) → (if stood then logged log p else releases_stored log p).seat ≡ left_log log p.seat
either-logged true log p = refl
either-logged false log p = refl

-- and one that left knows that log, whether it stored the number of releases or not
pub left-known : (log : List Entry) (names : List NameOp) (p : LockPart) → (left log names p).seat ≡ left_log log p.seat
left-known log names p = either-logged (eqb (releases_in log) (releases_in p.seat.known)) log (named names (length log) p)

-- the changes of names may be left as they were found
pub names-as-found : (misses : ℕ) (p q : LockPart) (log log' : List Entry) (names : List NameOp) → q ≡ took log names (tried misses p) → FindsNames p log names → MayName q log' names
names-as-found misses p q log log' names e f = let room : q.room ≡ p.room = ap (λ (z : LockPart). z.room) e in record {
  more = [];
  goes_on = ap (λ (z : LockPart). z.names) (sym e) ∙ sym (append-nil q.names);
  few = (let a = f.lawful.few in omega arith);
  late = All-nil _;
  within = All-nil _;
  rising = tt;
  small = All-nil _;
}

-- and with a longer log
pub names-kept : (q : LockPart) (log log' more : List Entry) (names names' : List NameOp) → log' ≡ log ++ more → names' ≡ names → MayName q log names → MayName q log' names'
names-kept q log log' more names names' grown same m = let long = ap length grown in let sum = length-append log more in record {
  more = m.more;
  goes_on = same ∙ m.goes_on;
  few = subst (λ (l : List NameOp). length l ≤ q.room) (sym same) m.few;
  late = m.late;
  within = All-weaker (λ c. at_of c ≤ length log) (λ c. at_of c ≤ length log') (λ c h. omega arith) m.more m.within;
  rising = m.rising;
  small = m.small;
}

-- and with new ones that were made by entries past the log that was found
pub names-with-more : (misses : ℕ) (p q : LockPart) (log log' : List Entry) (names names' more : List NameOp) → q ≡ took log names (tried misses p) → names' ≡ names ++ more → length names' ≤ p.room
    → All (λ c. length log < at_of c) more → All (λ c. at_of c ≤ length log') more → NeverFalls more → All (λ c. 2 * id_of c < p.room) more → MayName q log' names'
names-with-more misses p q log log' names names' more e is few late within rising small = let room : q.room ≡ p.room = ap (λ (z : LockPart). z.room) e in record {
  more = more;
  goes_on = is ∙ ap (λ l. l ++ more) (ap (λ (z : LockPart). z.names) (sym e));
  few = omega arith;
  late = subst (λ (l : List Entry). All (λ c. length l < at_of c) more) (ap (λ (z : LockPart). z.seat.known) (sym e)) late;
  within = within;
  rising = rising;
  small = subst (λ n. All (λ c. 2 * id_of c < n) more) (sym room) small;
}

-- the entries that a call of the book added, by what it answered
pub added : {T E : Type 0} (r : Result T E) (e : Entry) (old new : List Entry) → MatchResult r (λ _. new ≡ old ++ e ∷ []) (λ _. new ≡ old)
    → (more : List Entry) × (new ≡ old ++ more) × ((k : ℕ) → e.seat ≡ k → All (λ x. x.seat ≡ k) more) × MatchResult r (λ _. more ≡ e ∷ []) (λ _. more ≡ [])
added (Ok x) e old new h = (e ∷ [], h, (λ k is. All-cons (λ x. x.seat ≡ k) e [] is (All-nil (λ x. x.seat ≡ k))), refl)
added (Err x) e old new h = ([], h ∙ sym (append-nil old), (λ k is. All-nil (λ x. x.seat ≡ k)), refl)

pub made-by : {T E : Type 0} (r : Result T E) (e : Entry) (made made' more : List Entry) → made' ≡ made ++ more → MatchResult r (λ _. more ≡ e ∷ []) (λ _. more ≡ []) → MatchResult r (λ _. made' ≡ made ++ e ∷ []) (λ _. made' ≡ made)
made-by (Ok x) e made made' more is m = is ∙ ap (λ ys. made ++ ys) m
made-by (Err x) e made made' more is m = is ∙ (ap (λ ys. made ++ ys) m ∙ append-nil made)

all-front : {X : Type 0} (P : X → Type 0) (all xs : List X) (x : X) → all ≡ xs ++ x ∷ [] → All P all → All P xs × P x
all-front P all xs x e a = let r = All-pop P all xs (Some x) e a in (r.0, r.1)

front : List LockPart → List LockPart
front [] = []
front (p ∷ []) = []
front (p ∷ q ∷ ps) = p ∷ front (q ∷ ps)

front-of : (ps : List LockPart) (p : LockPart) → front (ps ++ p ∷ []) ≡ ps
unfolding front
front-of [] p = refl
front-of (q ∷ []) p = refl
front-of (q ∷ r ∷ ps) p = ap (λ l. q ∷ l) (front-of (r ∷ ps) p)

last-or : LockPart → List LockPart → LockPart
last-or d [] = d
last-or d (p ∷ ps) = last-or p ps

last-of : (d : LockPart) (ps : List LockPart) (p : LockPart) → last-or d (ps ++ p ∷ []) ≡ p
unfolding last-or
last-of d [] p = refl
last-of d (q ∷ ps) p = last-of q ps p

-- the last seat is taken off the list of a new lock's seats
pub new-last : {B : Type 0} (id : TableId) (first : BookHistory) (room n : ℕ) (all seats : List (LockSeat B)) (s : LockSeat B) → all ≡ seats ++ s ∷ [] → AreNew id first room (n + 1) all
    → AtRest id s × (seat_part s ≡ new_part first room n) × AreNew id first room n seats
new-last {B} id first room n all seats s e a =
    let parts : map seat_part seats ++ seat_part s ∷ [] ≡ new_parts first room 0 n ++ new_part first room (0 + n) ∷ [] = sym (map-append seat_part seats (s ∷ [])) ∙ (ap (map seat_part) (sym e) ∙ (a.parts ∙ one-more first room 0 n)) in
    let d = seat_part s in let zero-plus : 0 + n ≡ n = omega arith in
    let rest = all-front (AtRest id) all seats s e a.rest in (
      rest.1,
      sym (last-of d (map seat_part seats) (seat_part s)) ∙ (ap (last-or d) parts ∙ (last-of d (new_parts first room 0 n) (new_part first room (0 + n)) ∙ ap (new_part first room) zero-plus)),
      record { rest = rest.0; parts = sym (front-of (map seat_part seats) (seat_part s)) ∙ (ap front parts ∙ front-of (new_parts first room 0 n) (new_part first room (0 + n))) },
    )
