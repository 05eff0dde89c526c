-- The names that the changes of a book's seats give.
use Rattle.std.proofs.Common.{◌≡◌, ℕ, List, [], ◌∷◌, ◌++◌, map, sym, ap, ◌∙◌, subst, arith, length-append, All}
use Rattle.std.proofs.lemmas.List.Elements.{All-nil, All-cons, All-head, All-tail, All-weaker}
use Rattle.std.proofs.lemmas.List.{take-append-le}
use Rattle.stat_defs.specs.Books.{BookHistory}
use Rattle.stat_defs.specs.Changes.{GoesOnLater}
use Rattle.stat_defs.specs.declared.history.Entry.{Entry}
use Rattle.stat_defs.specs.declared.history.NameOp.{NameOp}
use Rattle.seat_history.specs.History.{with_log}
use Rattle.seat_history.specs.declared.known.LogKnown.{LogKnown}
use Rattle.book_state.specs.Log.{replay}
use Rattle.name_changes.specs.Changes.{names_not_gone, newest}
use Rattle.name_changes.proofs.Folding.{known-changes-give-names}
use Rattle.stat_book.specs.Calls.{rules_of, IsLegal}
use Rattle.stat_book.specs.NameChanges.{changes_of}
use Rattle.book_lock.specs.declared.lock.LockSeat.{LockSeat}
use Rattle.book_lock.specs.declared.view.LockPart.{LockPart}
use Rattle.book_lock.specs.History.{IsOneHistory}
use Rattle.book_lock.specs.Seats.{seat_part}
use Rattle.locked_book.specs.declared.ending.BookEnd.{BookEnd}
use Rattle.locked_book.specs.declared.shared.LockedBook.{LockedBook}
use Rattle.locked_book.specs.Sharing.{names_by, bare_seat}
use Rattle.locked_book.specs.Ending.{GivesNames, IsLastOf}

-- changes that go on in the book's give the names of its first entries
gives : (book : BookHistory) (names : List NameOp) → IsLegal book → GoesOnLater names (changes_of book) → GivesNames book names
gives book names legal known = known-changes-give-names (rules_of book) book.config.scopes book.workers book.log names legal known

all_give : (book : BookHistory) (seats : List LockedBook) → IsLegal book → All (λ (p : LockPart). GoesOnLater p.names (changes_of book)) (map seat_part (map bare_seat seats)) → All (GivesNames book) (map names_by seats)
all_give book [] legal known = All-nil (GivesNames book)
all_give book (s ∷ ss) legal known =
    let P : LockPart → Type 0 = λ (p : LockPart). GoesOnLater p.names (changes_of book) in
    let here : GoesOnLater (names_by s) (changes_of book) = All-head P (seat_part s.seat) (map seat_part (map bare_seat ss)) known in
    All-cons (GivesNames book) (names_by s) (map names_by ss) (gives book (names_by s) legal here)
    (all_give book ss legal (All-tail P (seat_part s.seat) (map seat_part (map bare_seat ss)) known))

-- what the seats of a lock knew, whose book this is
pub seats_give : (book : BookHistory) (seats : List LockedBook) (bare : List (LockSeat BookHistory)) → bare ≡ map bare_seat seats → IsLegal book → All (λ (p : LockPart). GoesOnLater p.names (changes_of book)) (map seat_part bare)
    → All (GivesNames book) (map names_by seats)
seats_give book seats bare is legal known = all_give book seats legal (subst (λ (l : List (LockSeat BookHistory)). All (λ (p : LockPart). GoesOnLater p.names (changes_of book)) (map seat_part l)) is known)

-- a further entry leaves the first ones as they are
gives_on : (book : BookHistory) (e : Entry) (names : List NameOp) → GivesNames book names → GivesNames (record book { log = book.log ++ e ∷ [] }) names
gives_on book e names g = let few = g.0 in let long = length-append book.log (e ∷ []) in (
  omega (arith, few, long),
  g.1 ∙ ap (λ (l : List Entry). names_not_gone (replay (rules_of book) book.workers l)) (sym (take-append-le (newest names) book.log (e ∷ []) g.0)),
)

same_history : (found first : BookHistory) → found.config ≡ first.config → found.workers ≡ first.workers → found ≡ with_log found.log first
same_history found first c w = λ i. record { config = c i; workers = w i; log = found.log }

-- so what the book gave that the last sweep found, the log gives that it left
pub last_gives : (found first : BookHistory) (end : BookEnd) (seats : ℕ) (knowns : List LogKnown) (names : List (List NameOp)) → IsOneHistory first seats knowns found → IsLastOf found end → All (GivesNames found) names
    → All (GivesNames (with_log end.log first)) names
last_gives found first end seats knowns names one last given =
    let logged = last.sweeps.step.logged in
    let on : record found { log = found.log ++ _ ∷ [] } ≡ with_log end.log first = sym logged ∙ (same_history last.last first (ap (λ (h : BookHistory). h.config) logged ∙ one.config) (ap (λ (h : BookHistory). h.workers) logged ∙ one.workers) ∙ ap (λ (l : List Entry). with_log l first) (sym last.log)) in
    subst (λ (h : BookHistory). All (GivesNames h) names) on (All-weaker (GivesNames found) (GivesNames (record found { log = found.log ++ _ ∷ [] })) (λ n g. gives_on found _ n g) names given)
