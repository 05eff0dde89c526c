-- What a call owes between `enter` and `leave`, and what its seat knows behind it.
use Rattle.std.proofs.Common.{◌≡◌, ℕ, ◌*◌, ◌<◌, ◌≤◌, length, arith, List, [], ◌∷◌, refl, ap, sym, ◌∙◌, subst, Result, Ok, Err, IfOk, OnErr, OnOk}
use Rattle.std.proofs.lemmas.List.Elements.{All-nil, All-cons}
use Rattle.stat_defs.specs.Books.{BookHistory, releases_in}
use Rattle.stat_defs.specs.declared.history.Entry.{Entry}
use Rattle.stat_defs.specs.declared.history.NameOp.{NameOp}
use Rattle.book_state.specs.declared.limits.TheConstants.{MAX_METRICS}
use Rattle.book_state.specs.State.{Seat}
use Rattle.book_state.specs.Step.{Working}
use Rattle.stat_book.specs.Calls.{state_of, IsLegal, openings_by}
use Rattle.stat_book.specs.NameChanges.{changes_of}
use Rattle.seat_history.specs.declared.known.LogKnown.{LogKnown}
use Rattle.seat_history.specs.History.{Finds, MayLeave, found_log, left_log}
use Rattle.seat_history.proofs.Leaves.{leaves-as-found, leaves-more}
use Rattle.book_lock.specs.declared.view.LockPart.{LockPart}
use Rattle.book_lock.specs.Naming.{FindsNames, MayName}
use Rattle.book_lock.specs.History.{Entered, left}
use Rattle.book_lock.proofs.Uses.{left-known, names-as-found}
use Rattle.locked_book.proofs.Leaving.{logged_may_name}
use Rattle.book_access.specs.Making.{IsAsFound, AddsOne}
use Rattle.book_access.specs.Calling.{Calls, WorkingUnder, opened}
use Rattle.book_access.proofs.Called.{told_calls, done_calls, kept_calls, working_found, due_found, openings_found}

-- a seat entered, and knows the log that it found
entered_seat : (p q : LockPart) (found : List Entry) (names : List NameOp) → Entered found names p q → q.seat ≡ found_log found p.seat
entered_seat p q found names e = ap (λ (z : LockPart). z.seat) e.1

-- and left another
left_seat : (p q r : LockPart) (found last : List Entry) (names names' : List NameOp) → Entered found names p q → r ≡ left last names' q → r.seat ≡ left_log last (found_log found p.seat)
left_seat p q r found last names names' e is = ap (λ (z : LockPart). z.seat) is ∙ (left-known last names' q ∙ ap (left_log last) (entered_seat p q found names e))

pub as_if : {T E : Type 0} (r : Result T E) (P : Type 0) → OnOk r P → IfOk r (λ _. P)
as_if (Ok x) P is = is
as_if (Err x) P is = tt

pub kept_same : {T E : Type 0} (r : Result T E) (book : BookHistory) → OnErr r (book ≡ book)
kept_same (Ok x) book = tt
kept_same (Err x) book = refl

may_leave : {T E : Type 0} (r : Result T E) (k : LogKnown) (old new : BookHistory) (number : ℕ) (Makes : T → ℕ → BookHistory → BookHistory → Type 0) → k.number ≡ number → MayLeave k old
    → ((x : T) → Makes x number old new → AddsOne number old new) → IfOk r (λ x. Makes x number old new) → OnErr r (new ≡ old) → MayLeave k new
may_leave (Ok x) k old new number Makes is may one makes err =
    let adds = one x makes in let l = adds.2.logged in let e : Entry = record { seat = number; call = adds.0; reply = adds.1 } in
    leaves-more k old new (e ∷ []) may (ap (λ (h : BookHistory). h.config) l) (ap (λ (h : BookHistory). h.workers) l) (ap (λ (h : BookHistory). h.log) l)
    (All-cons (λ (x : Entry). x.seat ≡ k.number) e [] (sym is) (All-nil (λ (x : Entry). x.seat ≡ k.number)))
may_leave (Err x) k old new number Makes is may one makes err = subst (λ (h : BookHistory). MayLeave k h) (sym err) may

may_name : {T E : Type 0} (r : Result T E) (q : LockPart) (old new : BookHistory) (number : ℕ) (Makes : T → ℕ → BookHistory → BookHistory → Type 0) → MayName q old.log (changes_of old) → 2 * MAX_METRICS ≤ q.room
    → length q.seat.known ≤ length old.log → IsLegal new → ((x : T) → Makes x number old new → AddsOne number old new) → IfOk r (λ x. Makes x number old new) → OnErr r (new ≡ old) → MayName q new.log (changes_of new)
may_name (Ok x) q old new number Makes may room known legal one makes err = let adds = one x makes in logged_may_name q old new number adds.0 adds.1 may adds.2 legal room known
may_name (Err x) q old new number Makes may room known legal one makes err = subst (λ (h : BookHistory). MayName q h.log (changes_of h)) (sym err) may

-- The seat found a book, which is lent to the call.
module _ (k : LogKnown) (found lent : BookHistory) (number : ℕ) (finds : Finds k found) (is : k.number ≡ number) (lends : lent ≡ found) where
  pub working_lent : (May : Seat → Type 0) → WorkingUnder k May → Working (state_of lent) number May
  working_lent May works = subst (λ (h : BookHistory). Working (state_of h) number May) (sym lends) (working_found k found number May finds is works)

  pub due_lent : WorkingUnder k (λ row. row.tag < k.seen) → Working (state_of lent) number (λ row. row.tag < releases_in lent.log)
  due_lent works = subst (λ (h : BookHistory). Working (state_of h) number (λ row. row.tag < releases_in h.log)) (sym lends) (due_found k found number finds is works)

  pub opened_lent : (max : ℕ) → opened k < max → openings_by number lent.log < max
  opened_lent max room =
      let same : openings_by number lent.log ≡ opened k = ap (λ (h : BookHistory). openings_by number h.log) lends ∙ (ap (λ (n : ℕ). openings_by n found.log) (sym is) ∙ openings_found k found finds) in
      subst (λ (n : ℕ). n < max) (sym same) room

-- A call by the seat of this number, between its entry and its leave.
module _ {T E : Type 0} (answer : Result T E) (p q : LockPart) (found lent last : BookHistory) (number : ℕ) (finds : Finds p.seat found)
    (entered : Entered found.log (changes_of found) p q) (is : p.seat.number ≡ number) (lends : lent ≡ found) where
  -- the book may be left as it is lent
  pub leaves_same : MayLeave q.seat lent
  leaves_same = subst (λ (h : BookHistory). MayLeave q.seat h) (sym lends) (leaves-as-found p.seat q.seat found (entered_seat p q found.log (changes_of found) entered) finds)

  -- and as the call made it
  pub leaves_made : (Makes : T → ℕ → BookHistory → BookHistory → Type 0) → ((x : T) → Makes x number lent last → AddsOne number lent last)
      → IfOk answer (λ x. Makes x number lent last) → OnErr answer (last ≡ lent) → MayLeave q.seat last
  leaves_made Makes one makes err = may_leave answer q.seat lent last number Makes (ap (λ (k : LogKnown). k.number) (entered_seat p q found.log (changes_of found) entered) ∙ is) leaves_same one makes err

  -- so may its changes of names, as they are lent
  pub names_same : FindsNames p found.log (changes_of found) → MayName q lent.log (changes_of lent)
  names_same names = subst (λ (h : BookHistory). MayName q h.log (changes_of h)) (sym lends) (names-as-found entered.0 p q found.log found.log (changes_of found) entered.1 names)

  -- and as the call made them, under a lock with room for two of each metric
  pub names_made : FindsNames p found.log (changes_of found) → p.room ≡ 2 * MAX_METRICS → IsLegal last → (Makes : T → ℕ → BookHistory → BookHistory → Type 0) → ((x : T) → Makes x number lent last → AddsOne number lent last)
      → IfOk answer (λ x. Makes x number lent last) → OnErr answer (last ≡ lent) → MayName q last.log (changes_of last)
  names_made names room legal Makes one makes err =
      let roomy : q.room ≡ p.room = ap (λ (z : LockPart). z.room) entered.1 in
      let known = ap (λ (k : LogKnown). length k.known) (entered_seat p q found.log (changes_of found) entered) in let long = ap (λ (h : BookHistory). length h.log) lends in
      may_name answer q lent last number Makes (names_same names) (omega arith) (omega arith) legal one makes err

  module _ (r : LockPart) (legal : IsLegal last) (leaves : r ≡ left last.log (changes_of last) q) where
    pub told : (Makes : T → ℕ → BookHistory → BookHistory → Type 0) → IfOk answer (λ x. Makes x number lent last) → IfOk answer (λ x. Calls (Makes x) p.seat r.seat)
    told Makes makes = told_calls answer p.seat r.seat found last finds legal (left_seat p q r found.log last.log (changes_of found) (changes_of last) entered leaves) Makes
        (subst (λ (h : BookHistory). IfOk answer (λ x. Makes x p.seat.number h last)) lends (subst (λ (n : ℕ). IfOk answer (λ x. Makes x n lent last)) (sym is) makes))

    pub done : (Makes : ℕ → BookHistory → BookHistory → Type 0) → OnOk answer (Makes number lent last) → OnOk answer (Calls Makes p.seat r.seat)
    done Makes makes = done_calls answer p.seat r.seat found last finds legal (left_seat p q r found.log last.log (changes_of found) (changes_of last) entered leaves) Makes
        (subst (λ (h : BookHistory). OnOk answer (Makes p.seat.number h last)) lends (subst (λ (n : ℕ). OnOk answer (Makes n lent last)) (sym is) makes))

    pub kept : OnErr answer (last ≡ lent) → OnErr answer (Calls IsAsFound p.seat r.seat)
    kept err = kept_calls answer p.seat r.seat found last finds legal (left_seat p q r found.log last.log (changes_of found) (changes_of last) entered leaves)
        (subst (λ (h : BookHistory). OnErr answer (last ≡ h)) lends err)
