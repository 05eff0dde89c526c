-- What joined seats keep, and what the last book is.
use Rattle.std.proofs.Common.{◌≡◌, ℕ, ◌<◌, List, [], ◌∷◌, ◌++◌, length, map, sym, refl, ap, ◌∙◌, subst, arith, Option, Some, None, append_assoc, All}
use Rattle.std.proofs.lemmas.List.Elements.{All-nil, All-cons, All-head, All-tail, All-weaker}
use Rattle.std.proofs.lemmas.List.{map-append, length-map}
use mathlib.Core.Option.{some, some-injective}
use lib.ListN.{get_elem?}
use Rattle.atomic_table.specs.Table.{State, Final, Seen}
use Rattle.atomic_table.specs.Seated.{TableId}
use Rattle.seat_parts.specs.Parts.{total}
use Rattle.seat_parts.proofs.Sums.{all-at, total-ones}
use Rattle.seat_parts.proofs.Cuts.{one-view, one-part}
use Rattle.stat_defs.specs.declared.history.Entry.{Entry}
use Rattle.stat_defs.specs.declared.history.NameOp.{NameOp}
use Rattle.stat_defs.specs.Changes.{GoesOnLater}
use Rattle.stat_defs.specs.Books.{BookHistory}
use Rattle.book_lock.specs.Naming.{NamesAreOne}
use Rattle.book_lock.specs.declared.view.LockPart.{LockPart}
use Rattle.book_lock.specs.declared.lock.LockSeat.{LockSeat}
use Rattle.seat_history.specs.declared.known.LogKnown.{LogKnown}
use Rattle.seat_history.specs.History.{SeatHistory, with_log}
use Rattle.book_lock.specs.History.{IsOneHistory}
use Rattle.book_lock.specs.Locked.{View, bit, holding, FitsLock, Locked, blank_part}
use Rattle.book_lock.specs.Seats.{AtRest, seat_part, seat_known}
use Rattle.seat_history.proofs.Logs.{goes-on-same}

-- the parts of a list of seats, the last of which is taken off
pub map-last : {B : Type 0} (all xs : List (LockSeat B)) (x : LockSeat B) (ps : List LockPart) → all ≡ xs ++ x ∷ [] → ps ≡ x.place.me.0.parts → map seat_part all ≡ map seat_part xs ++ ps
map-last all xs x ps e is = ap (map seat_part) e ∙ (map-append seat_part xs (x ∷ []) ∙ ap (λ l. map seat_part xs ++ l) (sym (is ∙ one-part blank_part x.place.me.0.parts x.alone)))

-- and the same where they are joined with the parts of the seats behind
pub map-joined : {B : Type 0} (all xs : List (LockSeat B)) (x : LockSeat B) (ps qs : List LockPart) → all ≡ xs ++ x ∷ [] → qs ≡ x.place.me.0.parts ++ ps → map seat_part all ++ ps ≡ map seat_part xs ++ qs
map-joined all xs x ps qs e is = ap (λ l. l ++ ps) (map-last all xs x x.place.me.0.parts e refl) ∙ (append_assoc (map seat_part xs) x.place.me.0.parts ps ∙ ap (λ l. map seat_part xs ++ l) (sym is))

none-hold : {B : Type 0} (id : TableId) (seats : List (LockSeat B)) → All (AtRest id) seats → total holding (map seat_part seats) ≡ 0
none-hold id [] a = refl
none-hold id (s ∷ ss) a = let h = ap bit (All-head (AtRest id) s ss a).2 in let r = none-hold id ss (All-tail (AtRest id) s ss a) in omega arith

abbrev pub known_of : LockPart → LogKnown
known_of p = p.seat

-- what the seats know, whose parts fit the lock
all-known : (first : BookHistory) (seats room : ℕ) (log : List Entry) (changes : List NameOp) (words : List ℕ) (ps : List LockPart) → All (FitsLock first seats room log changes words) ps → All (SeatHistory first log) (map known_of ps)
all-known first seats room log changes words [] fit = All-nil (SeatHistory first log)
all-known first seats room log changes words (p ∷ ps) fit = All-cons (SeatHistory first log) p.seat (map known_of ps) (All-head (FitsLock first seats room log changes words) p ps fit).history (all-known first seats room log changes words ps (All-tail (FitsLock first seats room log changes words) p ps fit))

pub known-seats : {B : Type 0} (seats : List (LockSeat B)) → map known_of (map seat_part seats) ≡ map seat_known seats
known-seats [] = refl
known-seats (s ∷ ss) = ap (λ l. seat_known s ∷ l) (known-seats ss)

book-in : {B : Type 0} → B → Option B → B
book-in d None = d
book-in d (Some b) = b

module _ {B : Type 0} (history_of : B → BookHistory) (changes_of : B → List NameOp) (first : BookHistory) (seats room : ℕ) where
  abbrev St : Type 0
  St = State (Option B) View

  abbrev L : St → Type 0
  L s = Locked history_of changes_of first seats room s

  -- the book that lies in the slot at the end
  abbrev pub LastBook : List LockPart → List (Option B) → B → Type 0
  LastBook parts slots book = (get_elem? slots 0 ≡ some (Some book)) × IsOneHistory first seats (map known_of parts) (history_of book) × NamesAreOne room parts (changes_of book)

  last-is : (s : St) (r : L s) (id : ℕ) (v : View) (book : B) → get_elem? s.views id ≡ some v → history_of book ≡ with_log r.log first → IsOneHistory first seats (map known_of v.parts) (history_of book)
  last-is s r id v book at is = let log : (history_of book).log ≡ r.log = ap (λ (z : BookHistory). z.log) is in record {
    config = ap (λ (z : BookHistory). z.config) is;
    workers = ap (λ (z : BookHistory). z.workers) is;
    log = goes-on-same (λ e. e.seat < seats) first.log r.log (history_of book).log log r.origin;
    each = subst (λ (l : List Entry). All (SeatHistory first l) (map known_of v.parts)) (sym log)
        (all-known first seats room r.log r.changes s.words v.parts (all-at (λ (z : View). All (FitsLock first seats room r.log r.changes s.words) z.parts) s.views id v r.each at));
  }

  last-names : (s : St) (r : L s) (id : ℕ) (v : View) (book : B) → get_elem? s.views id ≡ some v → changes_of book ≡ r.changes → NamesAreOne room v.parts (changes_of book)
  last-names s r id v book at is = subst (NamesAreOne room v.parts) (sym is) (record {
    lawful = r.names.lawful;
    each = All-weaker (FitsLock first seats room r.log r.changes s.words) (λ p. GoesOnLater p.names r.changes) (λ p f. f.names.known) v.parts
        (all-at (λ (z : View). All (FitsLock first seats room r.log r.changes s.words) z.parts) s.views id v r.each at);
  })

  pub ends : (id : ℕ) (v : View) (words : List ℕ) (slots : List (Option B)) → Final (Seen L id v) words slots → length v.parts ≡ seats → total holding v.parts ≡ 0 → (book : B) × LastBook v.parts slots book
  ends id v words slots (s, seen, is, long, homes) all none =
      let r = seen.0 in let at = seen.1 in let c = r.count in let o = total-ones v.parts in
      let sum = one-view holding (λ (_ : LockPart). 1) (FitsLock first seats room r.log r.changes s.words) (λ p f z. absurd (omega arith)) s.views r.each id v at (omega arith) in let t = r.turn in
      let h = r.home (omega arith) in (h.0, (homes 0 (Some h.0) h.1, last-is s r id v h.0 at h.2, last-names s r id v h.0 at h.3))

  pub taken-last : (parts : List LockPart) (slots : List (Option B)) (x : Option B) → get_elem? slots 0 ≡ some x → (t : (b : B) × LastBook parts slots b) → x ≡ Some t.0
  taken-last parts slots x e t = some-injective x (Some t.0) (sym e ∙ t.1.0)

  pub last-book : (parts : List LockPart) (slots : List (Option B)) (x : Option B) (book : B) → get_elem? slots 0 ≡ some x → x ≡ Some book → (b : B) × LastBook parts slots b → IsOneHistory first seats (map known_of parts) (history_of book) × NamesAreOne room parts (changes_of book)
  unfolding book-in
  last-book parts slots x book e is t = let same : t.0 ≡ book = ap (book-in t.0) (sym (taken-last parts slots x e t) ∙ is) in subst (λ (z : B). IsOneHistory first seats (map known_of parts) (history_of z) × NamesAreOne room parts (changes_of z)) same (t.1.1, t.1.2)

  -- the parts of all seats, none of which has the book
  pub all-ends : {C : Type 0} (id : ℕ) (v : View) (words : List ℕ) (slots : List (Option B)) (lock : TableId) (list : List (LockSeat C)) → Final (Seen L id v) words slots → v.parts ≡ map seat_part list → All (AtRest lock) list → length list ≡ seats
      → (book : B) × LastBook v.parts slots book
  all-ends id v words slots lock list final is rest all = ends id v words slots final (ap length is ∙ (length-map list seat_part ∙ all)) (ap (total holding) is ∙ none-hold lock list rest)
