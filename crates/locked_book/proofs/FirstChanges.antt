-- The changes that a book's seats knew are the first ones of the book's.
use Rattle.std.proofs.Common.{◌≡◌, ℕ, suc, ◌+◌, ◌<◌, ◌≤◌, List, [], ◌∷◌, ◌++◌, length, map, sym, refl, ap, ◌∙◌, subst, arith, append-nil, All}
use Rattle.std.proofs.lemmas.List.Elements.{All-nil, All-cons, All-head, All-tail, All-weaker}
use Rattle.stat_defs.specs.Books.{BookHistory}
use Rattle.stat_defs.specs.Changes.{at_of, GoesOnLater}
use Rattle.stat_defs.specs.declared.history.Entry.{Entry}
use Rattle.stat_defs.specs.declared.history.NameOp.{NameOp}
use Rattle.seat_history.specs.History.{with_log}
use Rattle.seat_history.specs.declared.known.LogKnown.{LogKnown}
use Rattle.book_state.specs.Log.{empty}
use Rattle.name_changes.specs.Changes.{changes_by}
use Rattle.name_changes.proofs.Cutting.{changes-grow}
use Rattle.stat_book.specs.Calls.{rules_of, state_of}
use Rattle.stat_book.specs.NameChanges.{changes_of}
use Rattle.stat_book.proofs.Changing.{changes-with}
use Rattle.book_lock.specs.declared.lock.LockSeat.{LockSeat}
use Rattle.book_lock.specs.declared.view.LockPart.{LockPart}
use Rattle.book_lock.specs.History.{IsOneHistory}
use Rattle.book_lock.specs.Seats.{seat_part}
use Rattle.book_lock.proofs.Standing.{later-far, later-by}
use Rattle.locked_book.specs.declared.ending.BookEnd.{BookEnd}
use Rattle.locked_book.specs.declared.shared.LockedBook.{LockedBook}
use Rattle.locked_book.specs.Sharing.{names_by, bare_seat}
use Rattle.locked_book.specs.Ending.{AreFirstOf, IsLastOf}

all_first : (book : BookHistory) (seats : List LockedBook) → All (λ (p : LockPart). GoesOnLater p.names (changes_of book)) (map seat_part (map bare_seat seats)) → All (AreFirstOf book) (map names_by seats)
all_first book [] known = All-nil (AreFirstOf book)
all_first book (s ∷ ss) known =
    let P : LockPart → Type 0 = λ (p : LockPart). GoesOnLater p.names (changes_of book) in
    let here : AreFirstOf book (names_by s) = All-head P (seat_part s.seat) (map seat_part (map bare_seat ss)) known in
    All-cons (AreFirstOf book) (names_by s) (map names_by ss) here
    (all_first book ss (All-tail P (seat_part s.seat) (map seat_part (map bare_seat ss)) known))

-- what the seats of a lock knew, whose book this is
pub seats_first : (book : BookHistory) (seats : List LockedBook) (bare : List (LockSeat BookHistory)) → bare ≡ map bare_seat seats → All (λ (p : LockPart). GoesOnLater p.names (changes_of book)) (map seat_part bare)
    → All (AreFirstOf book) (map names_by seats)
seats_first book seats bare is known = all_first book seats (subst (λ (l : List (LockSeat BookHistory)). All (λ (p : LockPart). GoesOnLater p.names (changes_of book)) (map seat_part l)) is known)

-- a further entry's changes are later than all before
first_on : (book : BookHistory) (e : Entry) (names : List NameOp) → AreFirstOf book names → AreFirstOf (record book { log = book.log ++ e ∷ [] }) names
first_on book e names first =
    let made : List NameOp = changes_by (state_of book) (suc (length book.log)) e.call e.reply in
    let late : All (λ x. length book.log < at_of x) made = subst (All (λ x. length book.log < at_of x)) (append-nil made) (changes-grow.late (rules_of book) (state_of book) (length book.log) (e ∷ [])) in
    let within : All (λ x. at_of x ≤ length book.log) (changes_of book) = All-weaker (λ x. at_of x ≤ 0 + length book.log) (λ x. at_of x ≤ length book.log) (λ x h. omega arith) (changes_of book) (changes-grow.within (rules_of book) (empty book.workers) 0 book.log) in
    later-far names (changes_of book) (changes_of (record book { log = book.log ++ e ∷ [] })) made (changes-with book e (book.log ++ e ∷ []) refl) (later-by (length book.log) (changes_of book) made within late) first

same_history : (found first : BookHistory) → found.config ≡ first.config → found.workers ≡ first.workers → found ≡ with_log found.log first
same_history found first c w = λ i. record { config = c i; workers = w i; log = found.log }

-- so those of the book that the last sweep found are the first ones of the log that it left
pub last_first : (found first : BookHistory) (end : BookEnd) (seats : ℕ) (knowns : List LogKnown) (names : List (List NameOp)) → IsOneHistory first seats knowns found → IsLastOf found end → All (AreFirstOf found) names
    → All (AreFirstOf (with_log end.log first)) names
last_first found first end seats knowns names one last known =
    let logged = last.sweeps.step.logged in
    let on : record found { log = found.log ++ _ ∷ [] } ≡ with_log end.log first = sym logged ∙ (same_history last.last first (ap (λ (h : BookHistory). h.config) logged ∙ one.config) (ap (λ (h : BookHistory). h.workers) logged ∙ one.workers) ∙ ap (λ (l : List Entry). with_log l first) (sym last.log)) in
    subst (λ (h : BookHistory). All (AreFirstOf h) names) on (All-weaker (AreFirstOf found) (AreFirstOf (record found { log = found.log ++ _ ∷ [] })) (λ n g. first_on found _ n g) names known)
