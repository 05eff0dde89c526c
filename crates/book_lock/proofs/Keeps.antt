-- Each step of a lock keeps its rule.
use Rattle.std.proofs.Common.{◌≡◌, ◌≢◌, ℕ, ◌+◌, ◌*◌, ◌<◌, ◌≤◌, true, List, [], ◌∷◌, ◌++◌, length, get_or, set, sym, refl, ap, ◌∙◌, subst, arith, eqb, eq-eqb, ne_eqb, Option, Some, None, length-set, get_or-set_same, get_or-set_other, le_refl, append-nil, append_assoc, length-append, true≢false, All}
use Rattle.std.proofs.lemmas.List.{set-get_or}
use Rattle.std.proofs.lemmas.List.Elements.{All-weaker}
use mathlib.Core.Logic.{dite}
use mathlib.Core.Option.{none, some}
use native.Mathlib.Decide.{ℕ_discrete}
use prog.Atomic.{either}
use lib.ListN.{get_elem?}
use Rattle.atomic_table.specs.Table.{State, Act, step, keeps, takes, gives, stepped, homes_after, rest, Allows}
use Rattle.atomic_table.proofs.Lists.{set_here}
use Rattle.seat_parts.specs.Parts.{total, parts_total, led_by, first_changed, own_changed}
use Rattle.seat_parts.proofs.Sums.{term-le}
use Rattle.seat_parts.proofs.Cuts.{step-total, step-beside, own-fits, one-part, after-own}
use Rattle.stat_defs.specs.declared.history.Entry.{Entry}
use Rattle.stat_defs.specs.declared.history.NameOp.{NameOp}
use Rattle.stat_defs.specs.Books.{BookHistory, releases_in}
use Rattle.stat_defs.specs.Changes.{at_of, id_of, GoesOnLater}
use Rattle.book_lock.specs.declared.view.LockPart.{LockPart}
use Rattle.book_lock.specs.declared.view.LockStep.{LockStep}
use Rattle.book_lock.specs.Naming.{words_of, Stands, AreNames, NamesStand, KnowsNames, FindsNames, MayCount}
use Rattle.seat_history.specs.History.{GoesOn, SeatHistory, Finds, MayLeave, past, entries_by, left_log, with_log}
use Rattle.book_lock.specs.History.{Tells, with_step, took, missed, stored_word, names_counted, logged, releases_stored, gave, counted, told, read_word}
use Rattle.book_lock.specs.Locked.{View, Sat, bit, numbered, holding, FitsLock, Locked, blank_part, own_part, Taken, WordStored, Counted, Published, Given, Loaded, CountLoaded, WordLoaded}
use Rattle.seat_history.proofs.Logs.{goes-on-not, goes-on-same, goes-on-far, past-goes-on, past-longer, longer-than, by-append, by-own, by-others, releases-rise}
use Rattle.book_lock.proofs.Standing.{words-append, words-length, stands-same, stands-below, stands-more, later-not, later-same, later-far, later-by, names-more, stand-beside, stand-before, word-known, within-more}

bit-other : (i k : ℕ) → bit (eqb i k) ≡ 0 → i ≢ k
bit-other i k z e = let o = ap bit (eq-eqb i k e) in omega arith

one-of : (x : ℕ) → x ≤ 1 → x ≢ 0 → x ≡ 1
one-of x h n = grind arith

whole-history : (h first : BookHistory) (log : List Entry) → h.config ≡ first.config → h.workers ≡ first.workers → h.log ≡ log → h ≡ with_log log first
whole-history h first log c w l = λ i. record { config = c i; workers = w i; log = l i }

abbrev pub viewed : {B : Type 0} → List LockPart → List (ℕ × Option B) → Sat B
viewed ps c = (record { parts = ps }, c)

abbrev pub at-view : {B : Type 0} → View → List (ℕ × Option B) → Sat B
at-view v c = (v, c)

changed-twice : (f g : LockPart → LockPart) (ps : List LockPart) → first_changed f (first_changed g ps) ≡ first_changed (λ p. f (g p)) ps
changed-twice f g [] = refl
changed-twice f g (p ∷ ps) = refl

book-or : {B : Type 0} → B → List (ℕ × Option B) → B
book-or d [] = d
book-or d ((k, None) ∷ c) = d
book-or d ((k, Some b) ∷ c) = b

-- which book lies in the slot that is out
pub book-there : {B : Type 0} (b other : B) → let A : Type 0 = List (ℕ × Option B) in let x : A = (0, Some b) ∷ [] in let y : A = (0, Some other) ∷ [] in x ≡ y → b ≡ other
unfolding book-or
book-there b other e = ap (book-or b) e

-- the words of the changes are the same, or the seat has not the turn
knows-words : (room : ℕ) (words words' : List ℕ) (changes : List NameOp) (p : LockPart) → ((k : ℕ) → 17 ≤ k → get_or words' k 0 ≡ get_or words k 0) → KnowsNames room words changes p → KnowsNames room words' changes p
knows-words room words words' changes p same k = record {
  sized = k.sized;
  known = k.known;
  holder = λ h. let u = k.holder h in record { current = u.current; stored = stands-same words words' 17 (words_of changes ++ p.stored) same u.stored; within = u.within };
}

knows-resting : (room : ℕ) (words words' : List ℕ) (changes changes' : List NameOp) (p : LockPart) → holding p ≡ 0 → GoesOnLater p.names changes' → KnowsNames room words changes p → KnowsNames room words' changes' p
knows-resting room words words' changes changes' p rests known k = record {
  sized = k.sized;
  known = known;
  holder = λ h. absurd (let b = ap bit h in omega arith);
}

knows-step : (room : ℕ) (words : List ℕ) (changes : List NameOp) (st : LockStep) (p : LockPart) → KnowsNames room words changes p → KnowsNames room words changes (with_step st p)
knows-step room words changes st p k = record {
  sized = k.sized;
  known = k.known;
  holder = λ h. let u = k.holder h in record { current = u.current; stored = u.stored; within = u.within };
}

below : (words : List ℕ) (i y : ℕ) → i < 17 → (k : ℕ) → 17 ≤ k → get_or (set words i y) k 0 ≡ get_or words k 0
below words i y lt k le = get_or-set_other words i k y 0 (λ e. omega arith)

module _ {B : Type 0} (history_of : B → BookHistory) (changes_of : B → List NameOp) (first : BookHistory) (seats room : ℕ) where
  abbrev St : Type 0
  St = State (Option B) View

  abbrev L : St → Type 0
  L s = Locked history_of changes_of first seats room s

  abbrev F : List Entry → List NameOp → List ℕ → LockPart → Type 0
  F log changes words p = FitsLock first seats room log changes words p

  fits-words : (log : List Entry) (changes : List NameOp) (words words' : List ℕ) (x : LockPart) → ((k : ℕ) → 17 ≤ k → get_or words' k 0 ≡ get_or words k 0) → F log changes words x → F log changes words' x
  fits-words log changes words words' x same f = record { number = f.number; history = f.history; current = f.current; names = knows-words room words words' changes x same f.names }

  fits-resting : (log : List Entry) (changes changes' : List NameOp) (words words' : List ℕ) (x : LockPart) → holding x ≡ 0 → GoesOnLater x.names changes' → F log changes words x → F log changes' words' x
  fits-resting log changes changes' words words' x rests known f = record { number = f.number; history = f.history; current = f.current; names = knows-resting room words words' changes changes' x rests known f.names }

  module _ (s : St) (r : L s) where
    -- the seat id, whose part p becomes q, makes a step
    placed : (i y id : ℕ) (p q : LockPart) (c : List (ℕ × Option B)) (a : Act (Option B)) (log : List Entry) (changes : List NameOp) → get_elem? s.views id ≡ some (led_by p [])
        → q.seat.number ≡ p.seat.number → GoesOn (λ e. e.seat < seats) r.log log
        → get_or (set s.words i y) 0 0 + holding p ≡ get_or s.words 0 0 + holding q → get_or (set s.words i y) 0 0 ≤ 1
        → get_or (set s.words i y) 8 0 ≡ releases_in log
        → NamesStand room (set s.words i y) changes
        → length (homes_after s.homes c a) ≡ 1
        → (get_or (set s.words i y) 0 0 ≡ 0 → (book : B) × (get_elem? (homes_after s.homes c a) 0 ≡ some (some (Some book))) × (history_of book ≡ with_log log first) × (changes_of book ≡ changes))
        → (get_or (set s.words i y) 0 0 ≡ 0 → All (λ c'. at_of c' ≤ length log) changes)
        → ((x : LockPart) → F r.log r.changes s.words x → x.seat.number ≢ p.seat.number → holding p + holding x ≤ 1 → F log changes (set s.words i y) x)
        → F log changes (set s.words i y) q
        → L (stepped s i y id c (led_by q []) a)
    placed i y id p q c a log changes at number grows turn small released names slots home within up fits =
        let views : List View = set s.views id (led_by q []) in
        let moved : (f : LockPart → ℕ) → parts_total f views + f p ≡ parts_total f s.views + f q = λ f. step-total f s.views id p q [] at in
        let same : (k : ℕ) → numbered k p ≡ numbered k q = λ k. ap (λ (n : ℕ). bit (eqb n k)) (sym number) in
        let h = moved holding in let t = r.turn in
        let few : (k : ℕ) → parts_total (numbered k) views ≤ 1 = λ k. (let m = moved (numbered k) in let e = r.numbers k in let o = same k in omega arith) in
        let alone : parts_total holding views ≤ 1 = omega arith in record {
          log = log;
          changes = changes;
          words = length-set s.words i y ∙ r.words;
          slots = slots;
          origin = goes-on-far (λ e. e.seat < seats) first.log r.log log r.origin grows;
          turn = omega arith;
          one = alone;
          released = released;
          home = home;
          names = names;
          within = within;
          count = (let m = moved (λ _. 1) in let e = r.count in omega arith);
          numbers = few;
          each = step-beside (F r.log r.changes s.words) (F log changes (set s.words i y)) s.views id p q [] at
              (λ x fx le. up x fx
              (bit-other x.seat.number p.seat.number (let a = le (numbered p.seat.number) in let b = few p.seat.number in let o = same p.seat.number in let w = ap bit (eq-eqb p.seat.number p.seat.number refl) in omega arith))
              (let a = le holding in let o = r.one in omega arith)) r.each fits;
        }

    own : (id : ℕ) (p : LockPart) → get_elem? s.views id ≡ some (led_by p []) → F r.log r.changes s.words p
    own id p at = own-fits (F r.log r.changes s.words) s.views id p [] at r.each

    held-le : (id : ℕ) (p : LockPart) → get_elem? s.views id ≡ some (led_by p []) → holding p ≤ get_or s.words 0 0
    held-le id p at = let t = term-le (λ (v : View). total holding v.parts) s.views id (led_by p []) at in let e = r.turn in omega arith

    -- what the seat finds that takes the turn
    finds : (id : ℕ) (p : LockPart) (book : B) → get_elem? s.views id ≡ some (led_by p []) → history_of book ≡ with_log r.log first → Finds p.seat (history_of book)
    finds id p book at e = let h = (own id p at).history in let m = h.made_with in record {
      config = ap (λ (z : BookHistory). z.config) e ∙ sym (ap (λ (z : BookHistory). z.config) m);
      workers = ap (λ (z : BookHistory). z.workers) e ∙ sym (ap (λ (z : BookHistory). z.workers) m);
      log = goes-on-same (λ x. x.seat ≢ p.seat.number) p.seat.known r.log (history_of book).log (ap (λ (z : BookHistory). z.log) e) h.known;
      releases = (let n = ap (λ (z : BookHistory). releases_in z.log) e in let t = h.seen in omega arith);
    }

    lawful-for : (id : ℕ) (p : LockPart) → get_elem? s.views id ≡ some (led_by p []) → AreNames p.room r.changes
    lawful-for id p at = subst (λ n. AreNames n r.changes) (sym (own id p at).names.sized) r.names.lawful

    finds-names : (id : ℕ) (p : LockPart) (book : B) → get_elem? s.views id ≡ some (led_by p []) → get_or s.words 0 0 ≡ 0 → history_of book ≡ with_log r.log first → changes_of book ≡ r.changes → FindsNames p (history_of book).log (changes_of book)
    finds-names id p book at z e e' = let is : (history_of book).log ≡ r.log = ap (λ (x : BookHistory). x.log) e in record {
      known = later-same p.names r.changes (changes_of book) e' (own id p at).names.known;
      lawful = subst (AreNames p.room) (sym e') (lawful-for id p at);
      within = subst (All (λ c. at_of c ≤ length (history_of book).log)) (sym e') (subst (λ (l : List Entry). All (λ c. at_of c ≤ length l) r.changes) (sym is) (r.within z));
    }

    takes-home : (id : ℕ) (p : LockPart) (book : B) → get_elem? s.views id ≡ some (led_by p []) → get_or s.words 0 0 ≡ 0 → history_of book ≡ with_log r.log first → changes_of book ≡ r.changes
        → L (stepped s 0 1 id [] (led_by (took (history_of book).log (changes_of book) p) []) (takes 0 (Some book)))
    takes-home id p book at z e e' = let o = own id p at in let h = o.history in let log : List Entry = (history_of book).log in let le = held-le id p at in let w = r.words in
        let names : List NameOp = changes_of book in
        let is : log ≡ r.log = ap (λ (x : BookHistory). x.log) e in
        let one-there : get_or (set s.words 0 1) 0 0 ≡ 1 = get_or-set_same s.words 0 1 0 (omega arith) in
        let stand = stand-beside room s.words 0 1 r.changes r.names (omega arith) in
        placed 0 1 id p (took log names p) [] (takes 0 (Some book)) r.log r.changes at refl (goes-on-not (λ x. x.seat < seats) r.log)
        (omega arith) (omega arith)
        (get_or-set_other s.words 0 8 1 0 (λ e''. omega arith) ∙ r.released)
        stand
        (length-set s.homes 0 none ∙ r.slots)
        (λ e''. absurd (omega arith))
        (λ e''. absurd (omega arith))
        (λ x f _ _. fits-words r.log r.changes s.words (set s.words 0 1) x (below s.words 0 1 (omega arith)) f)
        (record {
          number = o.number;
          history = record {
            made_with = h.made_with;
            known = goes-on-same (λ x. x.seat ≢ p.seat.number) log log r.log (sym is) (goes-on-not (λ x. x.seat ≢ p.seat.number) log);
            made = h.made;
            seen = (let n = ap releases_in is in omega arith);
            fewest = le_refl _;
          };
          current = λ _. is;
          names = record {
            sized = o.names.sized;
            known = later-same names names r.changes (sym e') (later-not names);
            holder = λ _. record {
              current = e';
              stored = subst (Stands (set s.words 0 1) 17) (sym (append-nil (words_of r.changes))) stand.stored;
              within = subst (λ (l : List Entry). All (λ c. at_of c ≤ length l) r.changes) (sym is) (r.within z);
            };
          };
        })

    -- a step that changes no word, and leaves the seat without the turn or with it
    same-words : (i id : ℕ) (p q : LockPart) (c : List (ℕ × Option B)) → get_elem? s.views id ≡ some (led_by p []) → q.seat.number ≡ p.seat.number → q.holds ≡ p.holds → F r.log r.changes s.words q
        → L (stepped s i (get_or s.words i 0) id c (led_by q []) keeps)
    same-words i id p q c at number holds fits = let x : ℕ = get_or s.words i 0 in let all : set s.words i x ≡ s.words = set-get_or s.words i 0 in
        let w : (k : ℕ) → get_or (set s.words i x) k 0 ≡ get_or s.words k 0 = λ k. ap (λ l. get_or l k 0) all in let t = r.turn in let o = r.one in
        placed i x id p q c keeps r.log r.changes at number (goes-on-not (λ e. e.seat < seats) r.log)
        (let a = w 0 in let b = ap bit holds in omega arith)
        (let a = w 0 in omega arith)
        (w 8 ∙ r.released)
        (subst (λ l. NamesStand room l r.changes) (sym all) r.names)
        r.slots
        (λ e. r.home (sym (w 0) ∙ e))
        (λ e. r.within (sym (w 0) ∙ e))
        (λ x' f _ _. subst (λ l. F r.log r.changes l x') (sym all) f)
        (subst (λ l. F r.log r.changes l q) (sym all) fits)

    misses : (id n : ℕ) (p : LockPart) (c : List (ℕ × Option B)) → get_elem? s.views id ≡ some (led_by p []) → L (stepped s 0 (get_or s.words 0 0) id c (led_by (missed n p) []) keeps)
    misses id n p c at = let o = own id p at in let h = o.history in same-words 0 id p (missed n p) c at refl refl
        (record { number = o.number; history = record { made_with = h.made_with; known = h.known; made = h.made; seen = h.seen; fewest = h.fewest }; current = o.current; names = knows-step room s.words r.changes _ p o.names })

    sees : (id : ℕ) (p : LockPart) → get_elem? s.views id ≡ some (led_by p []) → p.seat.seen ≤ get_or s.words 8 0
    sees id p at = let o = (own id p at).history.seen in let e = r.released in omega arith

    loads : (id : ℕ) (p : LockPart) (c : List (ℕ × Option B)) → get_elem? s.views id ≡ some (led_by p []) → L (stepped s 8 (get_or s.words 8 0) id c (led_by (counted (get_or s.words 8 0) p) []) keeps)
    loads id p c at = let o = own id p at in let h = o.history in let e = r.released in same-words 8 id p (counted (get_or s.words 8 0) p) c at refl refl
        (record {
          number = o.number;
          history = record { made_with = h.made_with; known = h.known; made = h.made; seen = omega arith; fewest = (let a = h.seen in let b = h.fewest in omega arith) };
          current = o.current;
          names = record { sized = o.names.sized; known = o.names.known; holder = λ t. let u = o.names.holder t in record { current = u.current; stored = u.stored; within = u.within } };
        })

    counts-seen : (id : ℕ) (p : LockPart) (c : List (ℕ × Option B)) → get_elem? s.views id ≡ some (led_by p []) → L (stepped s 16 (get_or s.words 16 0) id c (led_by (told r.changes p) []) keeps)
    counts-seen id p c at = let o = own id p at in let h = o.history in same-words 16 id p (told r.changes p) c at refl refl
        (record {
          number = o.number;
          history = record { made_with = h.made_with; known = h.known; made = h.made; seen = h.seen; fewest = h.fewest };
          current = o.current;
          names = record { sized = o.names.sized; known = later-not r.changes; holder = λ t. let u = o.names.holder t in record { current = refl; stored = u.stored; within = u.within } };
        })

    tells : (id : ℕ) (p : LockPart) → get_elem? s.views id ≡ some (led_by p []) → Tells p r.changes
    tells id p at = record { known = (own id p at).names.known; lawful = lawful-for id p at }

    reads : (i id place n : ℕ) (p : LockPart) (c : List (ℕ × Option B)) → get_elem? s.views id ≡ some (led_by p []) → L (stepped s i (get_or s.words i 0) id c (led_by (read_word place n p) []) keeps)
    reads i id place n p c at = let o = own id p at in let h = o.history in same-words i id p (read_word place n p) c at refl refl
        (record { number = o.number; history = record { made_with = h.made_with; known = h.known; made = h.made; seen = h.seen; fewest = h.fewest }; current = o.current; names = knows-step room s.words r.changes _ p o.names })

    word-read : (id place : ℕ) (p : LockPart) → get_elem? s.views id ≡ some (led_by p []) → place < length (words_of p.names) → get_or s.words (17 + place) 0 ≡ get_or (words_of p.names) place 0
    word-read id place p at h = word-known s.words p.names r.changes place (own id p at).names.known r.names.stored h

    -- the seat that has the turn stores a word behind those of the changes
    stores : (id place y : ℕ) (p : LockPart) (c : List (ℕ × Option B)) → get_elem? s.views id ≡ some (led_by p []) → p.holds ≡ true → place ≡ 2 * length p.names + length p.stored → place < 2 * p.room
        → L (stepped s (17 + place) y id c (led_by (stored_word place y p) []) keeps)
    stores id place y p c at holds next small =
        let o = own id p at in let h = o.history in let w = r.words in let le = held-le id p at in let b = ap bit holds in let one-at-most = r.one in let t = r.turn in
        let u = o.names.holder holds in let sized = o.names.sized in
        let words' : List ℕ = set s.words (17 + place) y in
        let other : (k : ℕ) → k < 17 → get_or words' k 0 ≡ get_or s.words k 0 = λ k lt. get_or-set_other s.words (17 + place) k y 0 (λ e. omega arith) in
        let as-many : length p.names ≡ length r.changes = ap length u.current in
        let all : List ℕ = words_of r.changes ++ p.stored in
        let long : length all ≡ place = (let a = length-append (words_of r.changes) p.stored in let d = words-length r.changes in omega arith) in
        placed (17 + place) y id p (stored_word place y p) c keeps r.log r.changes at refl (goes-on-not (λ e. e.seat < seats) r.log)
        (let a = other 0 (omega arith) in omega arith)
        (let a = other 0 (omega arith) in omega arith)
        (other 8 (omega arith) ∙ r.released)
        (stand-before room s.words (17 + place) y r.changes r.names (let d = words-length r.changes in omega arith))
        r.slots
        (λ e. r.home (sym (other 0 (omega arith)) ∙ e))
        (λ e. r.within (sym (other 0 (omega arith)) ∙ e))
        (λ x f ne le'. fits-resting r.log r.changes r.changes s.words words' x (omega arith) f.names.known f)
        (record {
          number = o.number;
          history = record { made_with = h.made_with; known = h.known; made = h.made; seen = h.seen; fewest = h.fewest };
          current = o.current;
          names = record {
            sized = sized;
            known = o.names.known;
            holder = λ _. record {
              current = u.current;
              stored = subst (Stands words' 17) (append_assoc (words_of r.changes) p.stored (y ∷ [])) (stands-more s.words (17 + place) y 17 all (omega arith) (omega arith) u.stored);
              within = u.within;
            };
          };
        })

    -- and publishes the number of the changes, whose words all stand there
    counts : (id : ℕ) (p : LockPart) (book : B) → get_elem? s.views id ≡ some (led_by p []) → p.holds ≡ true → MayCount p (history_of book).log (changes_of book)
        → L (stepped s 16 (length (changes_of book)) id ((0, Some book) ∷ []) (led_by (names_counted (changes_of book) (length (history_of book).log) p) []) keeps)
    counts id p book at holds may =
        let names : List NameOp = changes_of book in let y : ℕ = length names in let reach : ℕ = length (history_of book).log in
        let o = own id p at in let h = o.history in let w = r.words in let le = held-le id p at in let b = ap bit holds in let one-at-most = r.one in let t = r.turn in
        let u = o.names.holder holds in let sized = o.names.sized in let more : List NameOp = may.more in
        let words' : List ℕ = set s.words 16 y in
        let other : (k : ℕ) → k < 16 → get_or words' k 0 ≡ get_or s.words k 0 = λ k lt. get_or-set_other s.words 16 k y 0 (λ e. omega arith) in
        let is : names ≡ r.changes ++ more = may.goes_on ∙ ap (λ l. l ++ more) u.current in
        let its-words : words_of r.changes ++ p.stored ≡ words_of names = ap (λ l. words_of r.changes ++ l) may.stored ∙ (sym (words-append r.changes more) ∙ ap words_of (sym is)) in
        let stand : Stands words' 17 (words_of names) = subst (Stands words' 17) its-words (stands-below s.words 16 y 17 (words_of r.changes ++ p.stored) (omega arith) u.stored) in
        let late = later-by p.reach r.changes more u.within may.late in
        let small = subst (λ n. All (λ c. 2 * id_of c < n) more) sized may.small in
        placed 16 y id p (names_counted names reach p) ((0, Some book) ∷ []) keeps r.log names at refl (goes-on-not (λ e. e.seat < seats) r.log)
        (let a = other 0 (omega arith) in omega arith)
        (let a = other 0 (omega arith) in omega arith)
        (other 8 (omega arith) ∙ r.released)
        (record {
          count = get_or-set_same s.words 16 y 0 (omega arith);
          stored = stand;
          lawful = names-more room p.reach r.changes names more is r.names.lawful (let f = may.few in omega arith) small may.rising u.within may.late;
        })
        r.slots
        (λ e. absurd (let a = other 0 (omega arith) in omega arith))
        (λ e. absurd (let a = other 0 (omega arith) in omega arith))
        (λ x f ne le'. fits-resting r.log r.changes names s.words words' x (omega arith) (later-far x.names r.changes names more is late f.names.known) f)
        (record {
          number = o.number;
          history = record { made_with = h.made_with; known = h.known; made = h.made; seen = h.seen; fewest = h.fewest };
          current = o.current;
          names = record {
            sized = sized;
            known = later-not names;
            holder = λ _. record {
              current = refl;
              stored = subst (Stands words' 17) (sym (append-nil (words_of names))) stand;
              within = within-more p.reach reach r.changes names more is may.reach u.within may.within;
            };
          };
        })

    -- to another seat the log that the holder leaves has further entries of the holder's number
    others-keep : (p x : LockPart) (log more : List Entry) (words' : List ℕ) → ((k : ℕ) → 17 ≤ k → get_or words' k 0 ≡ get_or s.words k 0) → log ≡ r.log ++ more → All (λ e. e.seat ≡ p.seat.number) more → F r.log r.changes s.words x → x.seat.number ≢ p.seat.number → holding x ≡ 0 → F log r.changes words' x
    others-keep p x log more words' same is all f ne rests = let h = f.history in
        let others : GoesOn (λ e. e.seat ≢ x.seat.number) r.log log = (more, is, All-weaker (λ e. e.seat ≡ p.seat.number) (λ e. e.seat ≢ x.seat.number) (λ e own-of own-x. ne (sym own-x ∙ own-of)) more all) in
        record {
          number = f.number;
          history = record {
            made_with = h.made_with;
            known = goes-on-far (λ e. e.seat ≢ x.seat.number) x.seat.known r.log log h.known others;
            made = ap (entries_by x.seat.number) (past-longer first.log r.log log more (longer-than first.log r.log r.origin.0 r.origin.1) is)
                ∙ (by-append x.seat.number (past first.log r.log) more ∙ (ap (λ ys. entries_by x.seat.number (past first.log r.log) ++ ys) (by-others x.seat.number more others.2) ∙ (append-nil _ ∙ h.made)));
            seen = (let a = releases-rise r.log log more is in let b = h.seen in omega arith);
            fewest = h.fewest;
          };
          current = λ holds. absurd (let b = ap bit holds in omega arith);
          names = knows-words room s.words words' r.changes x same f.names;
        }

    -- to the holder it goes on from the log so far, and is its own
    goes-on-left : (id : ℕ) (p : LockPart) (h : BookHistory) → get_elem? s.views id ≡ some (led_by p []) → p.holds ≡ true → MayLeave p.seat h → GoesOn (λ e. e.seat ≡ p.seat.number) r.log h.log
    goes-on-left id p h at holds may = (may.log.0, may.log.1 ∙ ap (λ xs. xs ++ may.log.0) ((own id p at).current holds), may.log.2)

    left-history : (id : ℕ) (p : LockPart) (h : BookHistory) → get_elem? s.views id ≡ some (led_by p []) → p.holds ≡ true → MayLeave p.seat h → SeatHistory first h.log (left_log h.log p.seat)
    unfolding goes-on-left
    left-history id p h at holds may = let log : List Entry = h.log in let known = (own id p at).history in let g = goes-on-left id p h at holds may in let more = g.0 in record {
      made_with = known.made_with;
      known = goes-on-not (λ e. e.seat ≢ p.seat.number) log;
      made = ap (entries_by p.seat.number) (past-longer first.log r.log log more (longer-than first.log r.log r.origin.0 r.origin.1) g.1)
          ∙ (by-append p.seat.number (past first.log r.log) more ∙ (ap (λ xs. xs ++ entries_by p.seat.number more) known.made
          ∙ (ap (λ ys. p.seat.made ++ ys) (by-own p.seat.number more g.2) ∙ ap (λ ys. p.seat.made ++ ys) (sym (past-goes-on p.seat.known log more may.log.1)))));
      seen = le_refl _;
      fewest = le_refl _;
    }

    publishes : (id : ℕ) (p : LockPart) (book : B) → get_elem? s.views id ≡ some (led_by p []) → p.holds ≡ true → MayLeave p.seat (history_of book)
        → L (stepped s 8 (releases_in (history_of book).log) id ((0, Some book) ∷ []) (led_by (releases_stored (history_of book).log p) []) keeps)
    publishes id p book at holds may = let log : List Entry = (history_of book).log in let y : ℕ = releases_in log in let o = own id p at in
        let w = r.words in let le = held-le id p at in let b = ap bit holds in let one-at-most = r.one in let t = r.turn in
        let g = goes-on-left id p (history_of book) at holds may in let h = left-history id p (history_of book) at holds may in
        let other : get_or (set s.words 8 y) 0 0 ≡ get_or s.words 0 0 = get_or-set_other s.words 8 0 y 0 (λ e. omega arith) in
        let same = below s.words 8 y (omega arith) in let k = knows-words room s.words (set s.words 8 y) r.changes p same o.names in
        let number = o.number in
        placed 8 y id p (releases_stored log p) ((0, Some book) ∷ []) keeps log r.changes at refl
        (g.0, g.1, All-weaker (λ e. e.seat ≡ p.seat.number) (λ e. e.seat < seats) (λ e own-of. omega arith) g.0 g.2)
        (omega arith) (omega arith)
        (get_or-set_same s.words 8 y 0 (omega arith))
        (stand-beside room s.words 8 y r.changes r.names (omega arith))
        r.slots
        (λ e. absurd (omega arith))
        (λ e. absurd (omega arith))
        (λ x f ne le'. others-keep p x log g.0 (set s.words 8 y) same g.1 g.2 f ne (omega arith))
        (record {
          number = number;
          history = h;
          current = λ _. refl;
          names = record { sized = k.sized; known = k.known; holder = λ t'. let u = k.holder t' in record { current = u.current; stored = u.stored; within = u.within } };
        })

    -- the book comes home, with as many releases as the log has so far
    gives-back : (id : ℕ) (p : LockPart) (book : B) → get_elem? s.views id ≡ some (led_by p []) → p.holds ≡ true → MayLeave p.seat (history_of book) → releases_in (history_of book).log ≡ releases_in p.seat.known → changes_of book ≡ p.names → p.reach ≤ length (history_of book).log
        → L (stepped s 0 0 id ((0, Some book) ∷ []) (led_by (gave (logged (history_of book).log p)) []) gives)
    gives-back id p book at holds may as-many named reach = let log : List Entry = (history_of book).log in let o = own id p at in let w = r.words in let le = held-le id p at in let b = ap bit holds in let one-at-most = r.one in let t = r.turn in let sl = r.slots in
        let g = goes-on-left id p (history_of book) at holds may in let h = left-history id p (history_of book) at holds may in
        let u = o.names.holder holds in let number = o.number in let m = o.history.made_with in
        let zero-there : get_or (set s.words 0 0) 0 0 ≡ 0 = get_or-set_same s.words 0 0 0 (omega arith) in
        let same = below s.words 0 0 (omega arith) in
        let as-first : history_of book ≡ with_log log first = whole-history (history_of book) first log (may.config ∙ ap (λ (z : BookHistory). z.config) m) (may.workers ∙ ap (λ (z : BookHistory). z.workers) m) refl in
        placed 0 0 id p (gave (logged log p)) ((0, Some book) ∷ []) gives log r.changes at refl
        (g.0, g.1, All-weaker (λ e. e.seat ≡ p.seat.number) (λ e. e.seat < seats) (λ e own-of. omega arith) g.0 g.2)
        (omega arith) (omega arith)
        (get_or-set_other s.words 0 8 0 0 (λ e. omega arith) ∙ (r.released ∙ sym (as-many ∙ ap releases_in (o.current holds))))
        (stand-beside room s.words 0 0 r.changes r.names (omega arith))
        (length-set s.homes 0 (some (Some book)) ∙ r.slots)
        (λ _. (book, set_here s.homes 0 (some (Some book)) (omega arith), as-first, named ∙ u.current))
        (λ _. All-weaker (λ c. at_of c ≤ p.reach) (λ c. at_of c ≤ length log) (λ c le'. omega arith) r.changes u.within)
        (λ x f ne le'. others-keep p x log g.0 (set s.words 0 0) same g.1 g.2 f ne (omega arith))
        (record {
          number = number;
          history = h;
          current = λ e. absurd (true≢false (sym e));
          names = record { sized = o.names.sized; known = o.names.known; holder = λ e. absurd (true≢false (sym e)) };
        })

  one : LockPart → List (ℕ × Option B) → Sat B
  one p c = (led_by p [], c)

  -- a seat whose view has one part
  alone-as : (m : Sat B) (c : List (ℕ × Option B)) → length m.0.parts ≡ 1 → m.1 ≡ c → m ≡ one (own_part m.0) c
  unfolding one
  alone-as m c alone e = ap (λ ps. viewed ps m.1) (one-part blank_part m.0.parts alone) ∙ ap (one (own_part m.0)) e

  module _ (slots id : ℕ) where
    pub allows-take : (m : Sat B) → length m.0.parts ≡ 1 → m.1 ≡ [] → Allows L slots id m 0 (λ x. either (eqb x 0) 1 x) (Taken history_of changes_of (step slots 0 0 1 none) m)
    unfolding one
    allows-take m alone free = let p = own_part m.0 in subst (λ (z : Sat B). Allows L slots id z 0 (λ x. either (eqb x 0) 1 x) (Taken history_of changes_of (step slots 0 0 1 none) z)) (sym (alone-as m [] alone free))
        (λ s r _ at _. let x : ℕ = get_or s.words 0 0 in dite (ℕ_discrete x 0)
        (λ hit. let f = r.home hit in let log : List Entry = (history_of f.0).log in let names : List NameOp = changes_of f.0 in (
          led_by (took log names p) [],
          takes 0 (Some f.0),
          f.1,
          subst (λ b. L (stepped s 0 (either b 1 x) id [] (led_by (took log names p) []) (takes 0 (Some f.0)))) (sym (eq-eqb x 0 hit)) (takes-home s r id p f.0 at hit f.2 f.3),
          ((λ _. (f.0, refl, finds s r id p f.0 at f.2, finds-names s r id p f.0 at hit f.2 f.3)), λ not. absurd (not hit)),
        ))
        (λ miss. let t = r.turn in let at-most = r.one in (
          led_by (missed x p) [],
          keeps,
          tt,
          subst (λ b. L (stepped s 0 (either b 1 x) id [] (led_by (missed x p) []) keeps)) (sym (ne_eqb x 0 miss)) (misses s r id x p [] at),
          ((λ hit. absurd (miss hit)), λ _. (one-of x (omega arith) miss, refl)),
        )))

    pub allows-load : (m : Sat B) → length m.0.parts ≡ 1 → m.1 ≡ [] → Allows L slots id m 8 (λ x. x) (Loaded (step slots 8 0 0 none) m)
    unfolding one
    allows-load m alone free = let p = own_part m.0 in subst (λ (z : Sat B). Allows L slots id z 8 (λ x. x) (Loaded (step slots 8 0 0 none) z)) (sym (alone-as m [] alone free))
        (λ s r _ at _. (led_by (counted (get_or s.words 8 0) p) [], keeps, tt, loads s r id p [] at, (refl, sees s r id p at)))

    pub allows-load-count : (m : Sat B) → length m.0.parts ≡ 1 → m.1 ≡ [] → Allows L slots id m 16 (λ x. x) (CountLoaded (step slots 16 0 0 none) m)
    unfolding one
    allows-load-count m alone free = let p = own_part m.0 in subst (λ (z : Sat B). Allows L slots id z 16 (λ x. x) (CountLoaded (step slots 16 0 0 none) z)) (sym (alone-as m [] alone free))
        (λ s r _ at _. (led_by (told r.changes p) [], keeps, tt, counts-seen s r id p [] at, (r.changes, refl, sym r.names.count, tells s r id p at)))

    pub allows-load-word : (m : Sat B) (word place : ℕ) → length m.0.parts ≡ 1 → m.1 ≡ [] → word ≡ 17 + place → Allows L slots id m word (λ x. x) (WordLoaded (step slots word 0 0 none) m)
    unfolding one
    allows-load-word m word place alone free is = let p = own_part m.0 in subst (λ (z : Sat B). Allows L slots id z word (λ x. x) (WordLoaded (step slots word 0 0 none) z)) (sym (alone-as m [] alone free))
        (λ s r _ at _. let x : ℕ = get_or s.words word 0 in (
          led_by (read_word place x p) [],
          keeps,
          tt,
          reads s r word id place x p [] at,
          λ k e. let same : place ≡ k = omega arith in (ap (λ (j : ℕ). one (read_word j x p) []) same, λ h. ap (λ (j : ℕ). get_or s.words j 0) e ∙ word-read s r id k p at h),
        ))

    pub allows-store : (m : Sat B) (c : List (ℕ × Option B)) (word place y : ℕ) → length m.0.parts ≡ 1 → m.1 ≡ c → (own_part m.0).holds ≡ true → word ≡ 17 + place
        → place ≡ 2 * length (own_part m.0).names + length (own_part m.0).stored → place < 2 * (own_part m.0).room → Allows L slots id m word (λ _. y) (λ _. WordStored (step slots word y 0 none) m y)
    unfolding one
    allows-store m c word place y alone out holds is next small = let p = own_part m.0 in
        subst (λ (z : Sat B). Allows L slots id z word (λ _. y) (λ _. WordStored (step slots word y 0 none) z y)) (sym (alone-as m c alone out))
        (λ s r _ at _. (
          led_by (stored_word place y p) [],
          keeps,
          tt,
          subst (λ j. L (stepped s j y id c (led_by (stored_word place y p) []) keeps)) (sym is) (stores s r id place y p c at holds next small),
          λ k e. let same : place ≡ k = omega arith in ap (λ (j : ℕ). one (stored_word j y p) c) same,
        ))

    pub allows-count : (m : Sat B) (book : B) → length m.0.parts ≡ 1 → m.1 ≡ (0, Some book) ∷ [] → (own_part m.0).holds ≡ true → MayCount (own_part m.0) (history_of book).log (changes_of book)
        → (n : ℕ) → n ≡ length (changes_of book) → Allows L slots id m 16 (λ _. n) (λ _. Counted history_of changes_of (step slots 16 n 0 none) m n)
    unfolding one
    allows-count m book alone out holds may n count = let p = own_part m.0 in let c : List (ℕ × Option B) = (0, Some book) ∷ [] in
        subst (λ (z : Sat B). Allows L slots id z 16 (λ _. n) (λ _. Counted history_of changes_of (step slots 16 n 0 none) z n)) (sym (alone-as m c alone out))
        (λ s r _ at _. (
          led_by (names_counted (changes_of book) (length (history_of book).log) p) [],
          keeps,
          tt,
          subst (λ k. L (stepped s 16 k id c (led_by (names_counted (changes_of book) (length (history_of book).log) p) []) keeps)) (sym count) (counts s r id p book at holds may),
          λ other e. ap (λ (b : B). one (names_counted (changes_of b) (length (history_of b).log) p) c) (book-there book other e),
        ))

    pub allows-publish : (m : Sat B) (book : B) → length m.0.parts ≡ 1 → m.1 ≡ (0, Some book) ∷ [] → (own_part m.0).holds ≡ true → MayLeave (own_part m.0).seat (history_of book)
        → (n : ℕ) → n ≡ releases_in (history_of book).log → Allows L slots id m 8 (λ _. n) (λ _. Published history_of (step slots 8 n 0 none) m n)
    unfolding one
    allows-publish m book alone out holds may n count = let p = own_part m.0 in let c : List (ℕ × Option B) = (0, Some book) ∷ [] in
        subst (λ (z : Sat B). Allows L slots id z 8 (λ _. n) (λ _. Published history_of (step slots 8 n 0 none) z n)) (sym (alone-as m c alone out))
        (λ s r _ at _. (
          led_by (releases_stored (history_of book).log p) [],
          keeps,
          tt,
          subst (λ k. L (stepped s 8 k id c (led_by (releases_stored (history_of book).log p) []) keeps)) (sym count) (publishes s r id p book at holds may),
          λ other e. ap (λ (b : B). one (releases_stored (history_of b).log p) c) (book-there book other e),
        ))

    pub allows-give : (m : Sat B) (book : B) → length m.0.parts ≡ 1 → m.1 ≡ (0, Some book) ∷ [] → (own_part m.0).holds ≡ true → MayLeave (own_part m.0).seat (history_of book)
        → releases_in (history_of book).log ≡ releases_in (own_part m.0).seat.known → changes_of book ≡ (own_part m.0).names → (own_part m.0).reach ≤ length (history_of book).log
        → Allows L slots id m 0 (λ _. 0) (λ _. Given history_of (step slots 0 0 0 none) m 0)
    unfolding one
    allows-give m book alone out holds may as-many named reach = let p = own_part m.0 in let c : List (ℕ × Option B) = (0, Some book) ∷ [] in
        subst (λ (z : Sat B). Allows L slots id z 0 (λ _. 0) (λ _. Given history_of (step slots 0 0 0 none) z 0)) (sym (alone-as m c alone out))
        (λ s r _ at _. (led_by (gave (logged (history_of book).log p)) [], gives, tt, gives-back s r id p book at holds may as-many named reach, λ other e. ap (λ (b : B). one (gave (logged (history_of b).log p)) []) (book-there book other e)))

head-found : {B : Type 0} → Option B → List (ℕ × Option B) → Option B
head-found d [] = d
head-found d (x ∷ c) = x.1

book-in : {B : Type 0} → B → Option B → B
book-in d None = d
book-in d (Some b) = b

module _ {B : Type 0} (history_of : B → BookHistory) (changes_of : B → List NameOp) where
  -- what a take that found 0 tells
  abbrev pub TookBook : Sat B → Sat B → Type 0
  TookBook m m1 = (b : B) × (m1 ≡ (own_changed (took (history_of b).log (changes_of b)) m.0, (0, Some b) ∷ m.1)) × Finds (own_part m.0).seat (history_of b) × FindsNames (own_part m.0) (history_of b).log (changes_of b)

  -- what the slot has that the seat took
  pub found-book : (m m1 : Sat B) (found : Option B) → (t : TookBook m m1) → m1.1 ≡ (0, found) ∷ rest m1.1 → found ≡ Some t.0
  unfolding head-found
  found-book m m1 found t x = ap (head-found found) (sym x) ∙ ap (λ (z : Sat B). head-found found z.1) t.1

  -- the seat once the book is out of its slot
  pub out-of-slot : (m m1 m2 : Sat B) (found : Option B) (book : B) → m.1 ≡ [] → (t : TookBook m m1)
      → m1.1 ≡ (0, found) ∷ rest m1.1 → found ≡ Some book → m2 ≡ (m1.0, (0, None) ∷ rest m1.1)
      → (m2 ≡ (own_changed (took (history_of book).log (changes_of book)) m.0, (0, None) ∷ [])) × Finds (own_part m.0).seat (history_of book) × FindsNames (own_part m.0) (history_of book).log (changes_of book)
  unfolding book-in
  out-of-slot m m1 m2 found book free t x is e2 = let b = t.0 in let same : b ≡ book = ap (book-in b) (sym (found-book m m1 found t x) ∙ is) in
      subst (λ (z : B). (m2 ≡ at-view (own_changed (took (history_of z).log (changes_of z)) m.0) ((0, None) ∷ [])) × Finds (own_part m.0).seat (history_of z) × FindsNames (own_part m.0) (history_of z).log (changes_of z)) same
      (e2 ∙ (ap (λ (z : Sat B). at-view z.0 ((0, None) ∷ rest z.1)) t.1 ∙ ap (λ c. at-view (own_changed (took (history_of b).log (changes_of b)) m.0) ((0, None) ∷ c)) free), t.2, t.3)

-- the seat once the book lies in its slot again
pub put-back : {B : Type 0} (m m1 : Sat B) (book : B) → m.1 ≡ (0, None) ∷ [] → m1 ≡ (m.0, (0, Some book) ∷ rest m.1) → m1 ≡ at-view m.0 ((0, Some book) ∷ [])
put-back m m1 book out e = e ∙ ap (λ c. at-view m.0 ((0, Some book) ∷ rest c)) out

-- and once its own part has become f of it
pub changed-own : {B : Type 0} (f : LockPart → LockPart) (m m1 m2 : Sat B) (c : List (ℕ × Option B)) → length m.0.parts ≡ 1 → m1 ≡ at-view m.0 c → m2 ≡ (own_changed f m1.0, m1.1)
    → (length m2.0.parts ≡ 1) × (m2.1 ≡ c) × (own_part m2.0 ≡ f (own_part m.0)) × (m2 ≡ at-view (own_changed f m.0) c)
changed-own f m m1 m2 c alone e1 e2 = let n = ap (λ (z : Sat _). length z.0.parts) e1 in
    let a = after-own f blank_part m1 m2 (omega arith) e2 in (
      omega (arith, a.0),
      ap (λ (z : Sat _). z.1) e2 ∙ ap (λ (z : Sat _). z.1) e1,
      a.1 ∙ ap (λ (z : Sat _). f (own_part z.0)) e1,
      e2 ∙ ap (λ (z : Sat _). at-view (own_changed f z.0) z.1) e1,
    )

-- one change of the own part after another
pub then-changed : {B : Type 0} (f g : LockPart → LockPart) (m m1 m2 : Sat B) (c c' : List (ℕ × Option B)) → m1 ≡ at-view (own_changed f m.0) c → m2 ≡ (own_changed g m1.0, c') → m2 ≡ at-view (own_changed (λ p. g (f p)) m.0) c'
then-changed f g m m1 m2 c c' e1 e2 = e2 ∙ (ap (λ (z : Sat _). at-view (own_changed g z.0) c') e1 ∙ ap (λ ps. viewed ps c') (changed-twice g f m.0.parts))

pub missed-free : {B : Type 0} (m m1 : Sat B) (r : ℕ) → m.1 ≡ [] → m1 ≡ (own_changed (missed r) m.0, m.1) → m1 ≡ (own_changed (missed r) m.0, [])
missed-free m m1 r free e = e ∙ ap (at-view (own_changed (missed r) m.0)) free

pub counted-free : {B : Type 0} (m m1 : Sat B) (r : ℕ) → m.1 ≡ [] → m1 ≡ (own_changed (counted r) m.0, m.1) → m1 ≡ (own_changed (counted r) m.0, [])
counted-free m m1 r free e = e ∙ ap (at-view (own_changed (counted r) m.0)) free

pub free-as : {B : Type 0} (f : LockPart → LockPart) (m m1 : Sat B) (c : List (ℕ × Option B)) → m.1 ≡ c → m1 ≡ (own_changed f m.0, m.1) → m1 ≡ (own_changed f m.0, c)
free-as f m m1 c free e = e ∙ ap (at-view (own_changed f m.0)) free

-- a seat with these slots out
pub at-slot : {B : Type 0} (m : Sat B) (c : List (ℕ × Option B)) → m.1 ≡ c → m ≡ at-view m.0 c
at-slot m c e = ap (at-view m.0) e

pub at-rest : {B : Type 0} {book : Option B} (f : LockPart → LockPart) (m : Sat B) → m.1 ≡ (0, book) ∷ [] → at-view (own_changed f m.0) (rest m.1) ≡ at-view (own_changed f m.0) []
at-rest f m e = ap (λ c. at-view (own_changed f m.0) (rest c)) e
