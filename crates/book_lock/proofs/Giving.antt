-- A seat gives the turn back whether it stored the number of releases, or as many stood there.
use Rattle.std.proofs.Common.{◌≡◌, ◌≢◌, ℕ, ◌≤◌, true, List, [], ◌∷◌, ◌++◌, length, sym, refl, ap, ◌∙◌, subst, eq-eqb, ne_eqb, if◌then◌else◌, Option, Some, append-nil, le_refl}
use Rattle.seat_parts.specs.Parts.{first_or, first_changed, own_changed}
use Rattle.stat_defs.specs.declared.history.Entry.{Entry}
use Rattle.stat_defs.specs.declared.history.NameOp.{NameOp}
use Rattle.stat_defs.specs.Books.{BookHistory, releases_in}
use Rattle.seat_history.specs.declared.known.LogKnown.{LogKnown}
use Rattle.seat_history.specs.History.{MayLeave, past, left_log}
use Rattle.seat_history.proofs.Logs.{goes-on-not, past-none}
use Rattle.book_lock.specs.declared.view.LockPart.{LockPart}
use Rattle.book_lock.specs.History.{names_counted, logged, releases_stored, published, gave}
use Rattle.book_lock.specs.Locked.{Sat, blank_part, own_part}
use Rattle.book_lock.proofs.Keeps.{viewed, at-view, changed-own, then-changed, at-slot}

-- the log of a seat that left this one already
left-again : (log : List Entry) (k : LogKnown) → left_log log (left_log log k) ≡ left_log log k
left-again log k = let made : (k.made ++ past k.known log) ++ past log log ≡ k.made ++ past k.known log = ap (λ ys. (k.made ++ past k.known log) ++ ys) (past-none log) ∙ append-nil _ in
    λ i. record (left_log log k) { made = made i }

published-not : (log : List Entry) (p : LockPart) → releases_in log ≡ releases_in p.seat.known → logged log p ≡ published log p
published-not log p e = ap (λ b. if b then logged log p else releases_stored log p) (sym (eq-eqb (releases_in log) (releases_in p.seat.known) e))

published-new : (log : List Entry) (p : LockPart) → releases_in log ≢ releases_in p.seat.known → logged log (releases_stored log p) ≡ published log p
published-new log p ne = (λ i. record (releases_stored log p) { seat = left-again log p.seat i })
    ∙ ap (λ b. if b then logged log p else releases_stored log p) (sym (ne_eqb (releases_in log) (releases_in p.seat.known) ne))

-- two changes that make the own part the same
same-own : {B : Type 0} (f g : LockPart → LockPart) (ps : List LockPart) (c : List (ℕ × Option B)) → f (first_or blank_part ps) ≡ g (first_or blank_part ps) → viewed (first_changed f ps) c ≡ viewed (first_changed g ps) c
same-own f g [] c e = refl
same-own f g (p ∷ ps) c e = ap (λ q. viewed (q ∷ ps) c) e

-- The seat m0 has the turn, and its book lies in the slot again.
module _ {B : Type 0} (history_of : B → BookHistory) (changes_of : B → List NameOp) (book : B) (m0 : Sat B) (alone : length m0.0.parts ≡ 1) (holds : (own_part m0.0).holds ≡ true)
    (may : MayLeave (own_part m0.0).seat (history_of book)) where
  abbrev pub log : List Entry
  log = (history_of book).log

  abbrev pub out : List (ℕ × Option B)
  out = (0, Some book) ∷ []

  -- the seat with the number of the book's changes published
  abbrev pub named : LockPart → LockPart
  named p = names_counted (changes_of book) (length log) p

  abbrev pub given : LockPart → LockPart
  given p = gave (logged log p)

  -- it may give the book now, and is then as a seat that published the number of releases where it rose
  pub record MayGive (m : Sat B) : Type 0 where
    pub one : length m.0.parts ≡ 1
    pub slot : m.1 ≡ out
    pub turn : (own_part m.0).holds ≡ true
    pub leaves : MayLeave (own_part m.0).seat (history_of book)
    pub released : releases_in log ≡ releases_in (own_part m.0).seat.known
    pub names : changes_of book ≡ (own_part m.0).names
    pub reach : (own_part m.0).reach ≤ length log
    pub gives : at-view {B = B} (own_changed given m.0) [] ≡ at-view (own_changed (λ p. gave (published log (named p))) m0.0) []

  pub as-found : (m1 m2 : Sat B) → m1 ≡ at-view m0.0 out → m2 ≡ (own_changed named m1.0, m1.1) → releases_in log ≡ releases_in (own_part m0.0).seat.known → MayGive m2
  as-found m1 m2 e1 e2 same = let s = changed-own named m0 m1 m2 out alone e1 e2 in let back = sym s.2 in record {
    one = s.0;
    slot = s.1;
    turn = ap (λ (p : LockPart). p.holds) s.2 ∙ holds;
    leaves = subst (λ (p : LockPart). MayLeave p.seat (history_of book)) back may;
    released = same ∙ ap (λ (p : LockPart). releases_in p.seat.known) back;
    names = ap (λ (p : LockPart). p.names) back;
    reach = subst (λ (p : LockPart). p.reach ≤ length log) back (le_refl _);
    gives = then-changed named given m0 m2 (at-view (own_changed given m2.0) []) out [] s.3 refl
        ∙ same-own (λ p. given (named p)) (λ p. gave (published log (named p))) m0.0.parts [] (ap gave (published-not log (named (own_part m0.0)) same));
  }

  pub once-stored : (m1 m2 m3 : Sat B) → m1 ≡ at-view m0.0 out → m2 ≡ (own_changed named m1.0, m1.1) → m3 ≡ (own_changed (releases_stored log) m2.0, m2.1) → releases_in log ≢ releases_in (own_part m0.0).seat.known → MayGive m3
  once-stored m1 m2 m3 e1 e2 e3 new = let s = changed-own named m0 m1 m2 out alone e1 e2 in let t = changed-own (releases_stored log) m2 m2 m3 out s.0 (at-slot m2 out s.1) e3 in
      let is : own_part m3.0 ≡ releases_stored log (named (own_part m0.0)) = t.2 ∙ ap (releases_stored log) s.2 in let back = sym is in
      let both = then-changed named (releases_stored log) m0 m2 m3 out out s.3 t.3 in record {
        one = t.0;
        slot = t.1;
        turn = ap (λ (p : LockPart). p.holds) is ∙ holds;
        leaves = subst (λ (p : LockPart). MayLeave p.seat (history_of book)) back (record { config = may.config; workers = may.workers; log = goes-on-not (λ e. e.seat ≡ (own_part m0.0).seat.number) log });
        released = ap (λ (p : LockPart). releases_in p.seat.known) back;
        names = ap (λ (p : LockPart). p.names) back;
        reach = subst (λ (p : LockPart). p.reach ≤ length log) back (le_refl _);
        gives = then-changed (λ p. releases_stored log (named p)) given m0 m3 (at-view (own_changed given m3.0) []) out [] both refl
            ∙ same-own (λ p. given (releases_stored log (named p))) (λ p. gave (published log (named p))) m0.0.parts [] (ap gave (published-new log (named (own_part m0.0)) new));
      }
