-- A lock begins under its rule, and splits and joins of seats keep it.
use Rattle.std.proofs.Common.{◌≡◌, ◌≢◌, ℕ, zero, suc, ◌+◌, ◌-◌, ◌*◌, ◌<◌, ◌≤◌, get_or, length-set, get_or-set_same, get_or-set_other, List, [], ◌∷◌, ◌++◌, length, map, set, sym, refl, ap, ◌∙◌, subst, arith, eqb, eq-eqb, ne_eqb, Option, Some, le_refl, true≢false, All}
use Rattle.std.proofs.lemmas.List.{map-append, get_or-replicate, length-replicate}
use Rattle.std.specs.Prelude.{replicate}
use Rattle.std.proofs.lemmas.List.Elements.{All-nil, All-cons}
use mathlib.Core.Logic.{dite}
use native.Mathlib.Decide.{ℕ_discrete}
use Rattle.atomic_table.specs.Table.{State, Splits, Joins, opening}
use Rattle.seat_parts.specs.Parts.{total, parts_total, AllParts, dealt, undealt, joined, spent}
use Rattle.seat_parts.proofs.Cuts.{split-total, split-all, join-total, join-all}
use Rattle.stat_defs.specs.Books.{BookHistory, releases_in}
use Rattle.book_lock.specs.declared.view.LockPart.{LockPart}
use Rattle.book_lock.specs.declared.lock.LockSeat.{LockSeat}
use Rattle.seat_history.specs.History.{entries_by}
use Rattle.book_lock.specs.History.{new_part}
use Rattle.book_lock.specs.Locked.{View, Sat, bit, numbered, holding, FitsLock, Locked, new_parts, lock_view, own_part}
use Rattle.book_lock.specs.Seats.{seat_part}
use Rattle.seat_history.proofs.Logs.{goes-on-not, past-none}
use Rattle.book_lock.specs.Naming.{AreFirst}
use Rattle.book_lock.proofs.Standing.{stands-none, names-none, later-not}
use Rattle.stat_defs.specs.declared.history.NameOp.{NameOp}

module _ (first : BookHistory) (room : ℕ) where
  none-hold : (k n : ℕ) → total holding (new_parts first room k n) ≡ 0
  none-hold k zero = refl
  none-hold k (suc n) = omega (arith, none-hold (suc k) n)

  so-many : (k n : ℕ) → total (λ (_ : LockPart). 1) (new_parts first room k n) ≡ n
  so-many k zero = refl
  so-many k (suc n) = omega (arith, so-many (suc k) n)

  bit-none : (i k : ℕ) → i ≢ k → bit (eqb i k) ≡ 0
  bit-none i k ne = ap bit (ne_eqb i k ne)

  each-once : (i k n : ℕ) → (total (numbered i) (new_parts first room k n) ≤ 1) × (i < k → total (numbered i) (new_parts first room k n) ≡ 0)
  each-once i k zero = (omega arith, λ _. refl)
  each-once i k (suc n) = let r = each-once i (suc k) n in let r0 = r.0 in let r1 = r.1 in dite (ℕ_discrete k i)
      (λ e. let b = ap bit (eq-eqb k i e) in let z = r1 (omega arith) in (omega arith, λ h. absurd (omega arith)))
      (λ ne. let b = bit-none k i ne in (omega arith, λ h. (let z = r1 (omega arith) in omega arith)))

  new-fits : (words : List ℕ) (seats k : ℕ) → k < seats → FitsLock first seats room first.log [] words (new_part first room k)
  new-fits words seats k h = record {
    number = h;
    history = record {
      made_with = refl;
      known = goes-on-not (λ e. e.seat ≢ k) first.log;
      made = ap (entries_by k) (past-none first.log);
      seen = le_refl _;
      fewest = le_refl _;
    };
    current = λ e. absurd (true≢false (sym e));
    names = record { sized = refl; known = later-not []; holder = λ e. absurd (true≢false (sym e)) };
  }

  all-fit : (words : List ℕ) (seats k n : ℕ) → k + n ≤ seats → All (FitsLock first seats room first.log [] words) (new_parts first room k n)
  all-fit words seats k zero h = All-nil (FitsLock first seats room first.log [] words)
  all-fit words seats k (suc n) h = All-cons (FitsLock first seats room first.log [] words) (new_part first room k) (new_parts first room (suc k) n) (new-fits words seats k (omega arith)) (all-fit words seats (suc k) n (omega arith))

  pub one-more : (k n : ℕ) → new_parts first room k (n + 1) ≡ new_parts first room k n ++ new_part first room (k + n) ∷ []
  one-more k zero = (let e : k ≡ k + 0 = omega arith in ap (λ j. new_part first room j ∷ []) e)
  one-more k (suc n) = let e : suc k + n ≡ k + suc n = omega arith in let f : suc n + 1 ≡ suc (n + 1) = omega arith in
      ap (new_parts first room k) f ∙ ap (λ l. new_part first room k ∷ l) (one-more (suc k) n ∙ ap (λ j. new_parts first room (suc k) n ++ new_part first room j ∷ []) e)

module _ {B : Type 0} (history_of : B → BookHistory) (changes_of : B → List NameOp) (first : BookHistory) (seats room : ℕ) where
  abbrev St : Type 0
  St = State (Option B) View

  abbrev L : St → Type 0
  L s = Locked history_of changes_of first seats room s

  pub opens : (book : B) (words : List ℕ) (slots : List (Option B)) (n : ℕ) → history_of book ≡ first → changes_of book ≡ [] → AreFirst room n words → n ≡ releases_in first.log → slots ≡ Some book ∷ [] → L (opening words slots (lock_view first seats room))
  opens book words slots n is none w count e = let free = w.free in subst (λ (z : List (Option B)). L (opening words z (lock_view first seats room))) (sym e) (record {
    log = first.log;
    changes = [];
    words = w.wide;
    slots = refl;
    origin = goes-on-not (λ e'. e'.seat < seats) first.log;
    turn = (let h = none-hold first room 0 seats in omega arith);
    one = (let h = none-hold first room 0 seats in omega arith);
    released = w.released ∙ count;
    home = λ _. (book, refl, is, none);
    names = record { count = w.none; stored = stands-none words 17; lawful = names-none room };
    within = λ _. All-nil _;
    count = (let h = so-many first room 0 seats in omega arith);
    numbers = λ k. (let h = (each-once first room k 0 seats).0 in omega arith);
    each = All-cons (λ (v : View). All (FitsLock first seats room first.log [] words) v.parts) (lock_view first seats room) [] (all-fit first room words seats 0 seats (omega arith)) (All-nil _);
  })

  -- views with the same sums keep the rule
  regrouped : (s : St) (views : List View) (r : L s) → ((f : LockPart → ℕ) → parts_total f views ≡ parts_total f s.views) → AllParts (FitsLock first seats room r.log r.changes s.words) views
      → L (record { words = s.words; homes = s.homes; views = views })
  regrouped s views r same each = record {
    log = r.log;
    changes = r.changes;
    words = r.words;
    slots = r.slots;
    origin = r.origin;
    turn = r.turn ∙ sym (same holding);
    one = (let a = same holding in let b = r.one in omega arith);
    released = r.released;
    home = r.home;
    names = r.names;
    within = r.within;
    count = same (λ _. 1) ∙ r.count;
    numbers = λ k. (let a = same (numbered k) in let b = r.numbers k in omega arith);
    each = each;
  }

  pub splits : (id : ℕ) (v : View) → Splits L id v (undealt v) (dealt v)
  splits id v s r at = regrouped s (set s.views id (undealt v) ++ dealt v ∷ []) r (λ f. split-total f s.views id v at) (split-all (FitsLock first seats room r.log r.changes s.words) s.views id v at r.each)

  pub joins : (id other : ℕ) (v w : View) → Joins L id v other w (joined v w) spent
  joins id other v w s r at ne at' = regrouped s (set (set s.views id (joined v w)) other spent) r (λ f. join-total f s.views id other v w at at')
      (join-all (FitsLock first seats room r.log r.changes s.words) s.views id other v w at ne at' r.each)

module _ {B : Type 0} where
  abbrev pub some_parts : BookHistory → ℕ → ℕ → ℕ → Sat B
  some_parts first room k n = (record { parts = new_parts first room k n }, [])

  abbrev pub one_of : LockPart → Sat B
  one_of p = (record { parts = p ∷ [] }, [])

  cut-first : (first : BookHistory) (room k n : ℕ) → 0 < n → let m : Sat B = some_parts first room k n in let a : Sat B = (dealt m.0, []) in let b : Sat B = (undealt m.0, []) in (a ≡ one_of (new_part first room k)) × (b ≡ some_parts first room (k + 1) (n - 1))
  cut-first first room k zero h = absurd (omega arith)
  cut-first first room k (suc n) h = (refl, (let e : suc k ≡ k + 1 = omega arith in let d : n ≡ suc n - 1 = omega arith in λ i. some_parts first room (e i) (d i)))

  abbrev viewed : View → List (ℕ × Option B) → Sat B
  viewed v c = (v, c)

  -- a seat is cut off
  pub cut : (first : BookHistory) (room : ℕ) (m : Sat B) (k n k' n' : ℕ) → m ≡ some_parts first room k n → 0 < n → k' ≡ k + 1 → n' ≡ n - 1 → (viewed (dealt m.0) [] ≡ one_of (new_part first room k)) × (viewed (undealt m.0) m.1 ≡ some_parts first room k' n')
  cut first room m k n k' n' e h ek en = let t = cut-first first room k n h in
      (ap (λ (z : Sat B). viewed (dealt z.0) []) e ∙ t.0, ap (λ (z : Sat B). viewed (undealt z.0) z.1) e ∙ (t.1 ∙ (λ i. some_parts first room (sym ek i) (sym en i))))

  pub last-part : (first : BookHistory) (room : ℕ) (m : Sat B) (k n : ℕ) → m ≡ some_parts first room k n → n ≡ 1 → m ≡ one_of (new_part first room k)
  last-part first room m k n e is = e ∙ ap (λ (j : ℕ). some_parts first room k j) is

  -- a seat with this part alone
  pub part-of : (m : Sat B) (p : LockPart) → m ≡ one_of p → (length m.0.parts ≡ 1) × (m.1 ≡ []) × (own_part m.0 ≡ p)
  part-of m p e = (ap (λ (z : Sat B). length z.0.parts) e, ap (λ (z : Sat B). z.1) e, ap (λ (z : Sat B). own_part z.0) e)

  pub parts-push : (first : BookHistory) (room : ℕ) (xs all : List (LockSeat B)) (x : LockSeat B) (n : ℕ) → map seat_part xs ≡ new_parts first room 0 n → all ≡ xs ++ x ∷ [] → seat_part x ≡ new_part first room n → map seat_part all ≡ new_parts first room 0 (n + 1)
  parts-push first room xs all x n is e part = let same : n ≡ 0 + n = omega arith in ap (map seat_part) e ∙ (map-append seat_part xs (x ∷ []) ∙ (ap (λ l. l ++ seat_part x ∷ []) is ∙ (ap (λ p. new_parts first room 0 n ++ p ∷ []) (part ∙ ap (new_part first room) same) ∙ sym (one-more first room 0 n))))

-- the words of a new lock's table
pub new-words : (words zeros : List ℕ) (room n : ℕ) → zeros ≡ replicate (17 + 2 * room) 0 → words ≡ set zeros 8 n → AreFirst room n words
new-words words zeros room n z e =
    let wide : length zeros ≡ 17 + 2 * room = ap length z ∙ length-replicate (17 + 2 * room) 0 in
    let at : (k : ℕ) → k ≢ 8 → k < 17 + 2 * room → get_or words k 0 ≡ 0 = λ k ne lt. ap (λ l. get_or l k 0) e ∙ (get_or-set_other zeros 8 k n 0 ne ∙ (ap (λ l. get_or l k 0) z ∙ get_or-replicate (17 + 2 * room) k 0 0 lt)) in record {
      wide = ap length e ∙ (length-set zeros 8 n ∙ wide);
      free = at 0 (λ h. omega arith) (omega arith);
      released = ap (λ l. get_or l 8 0) e ∙ get_or-set_same zeros 8 n 0 (omega arith);
      none = at 16 (λ h. omega arith) (omega arith);
    }
