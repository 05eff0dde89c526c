-- Each step of a counter bank keeps its rule.
use Rattle.std.proofs.Common.{◌≡◌, ℕ, ◌+◌, ◌*◌, ◌^◌, ◌%◌, ◌<◌, ◌≤◌, List, [], ◌∷◌, length, get_or, set, sym, refl, ap, ◌∙◌, subst, arith, eqb, eq-eqb, ne_eqb, length-set, get_or-set_same, get_or-set_other, le_refl, Bool, true, false, All}
use Rattle.std.proofs.lemmas.List.Elements.{All-cons, All-tail}
use mathlib.Core.Logic.{dite}
use mathlib.Core.Option.{none, some}
use native.Mathlib.Decide.{ℕ_discrete}
use lib.ListN.{get_elem?}
use Rattle.atomic_table.specs.Table.{State, Me, step, keeps, stepped, Allows}
use Rattle.seat_parts.specs.Parts.{total, parts_total, led_by}
use Rattle.seat_parts.proofs.Sums.{total-bound, total-none, all-at}
use Rattle.seat_parts.proofs.Cuts.{step-total, step-all, own-fits, parts_total-bound, one-view, led}
use Rattle.metric_words.specs.declared.limits.TheConstants.{MAX_UNITS}
use Rattle.metric_words.specs.declared.counter_view.SeatRole.{SeatRole}
use Rattle.metric_words.specs.declared.counter_view.SeatRole.TheVariants.{Worker, Flusher, Reader}
use Rattle.metric_words.specs.declared.counter_view.CountKind.{CountKind}
use Rattle.metric_words.specs.declared.counter_view.CountKind.TheVariants.{First, Second, Latch, Load}
use Rattle.metric_words.specs.declared.counter_view.CountStep.{CountStep}
use Rattle.metric_words.specs.declared.counter_view.CountPart.{CountPart}
use Rattle.metric_words.specs.declared.counter_view.BankKey.{BankKey}
use Rattle.metric_words.specs.Counters.{View, role_of, worker_weight, flusher_weight, reader_weight, when, choose, as_first, as_second, as_latch, as_load, step_of, first_by, second_by, latch_by, firsts, seconds, latches, seen_by, Rises, FitsBank, Counted, FirstAdded, SecondAdded, Latched, Loaded, longer, with_step, own_part, own_steps, taken_parts}

abbrev St : Type 0
St = State (Unit {0}) View

-- which role a weight tells
worker-role : (role : SeatRole) → worker_weight role ≡ 1 → Worker ≡ role
worker-role Worker e = refl
worker-role Flusher e = absurd (omega arith)
worker-role Reader e = absurd (omega arith)

flusher-role : (role : SeatRole) → flusher_weight role ≡ 1 → Flusher ≡ role
flusher-role Worker e = absurd (omega arith)
flusher-role Flusher e = refl
flusher-role Reader e = absurd (omega arith)

reader-role : (role : SeatRole) → reader_weight role ≡ 1 → Reader ≡ role
reader-role Worker e = absurd (omega arith)
reader-role Flusher e = absurd (omega arith)
reader-role Reader e = refl

-- a seat of another role adds nothing
none-of : (kind : CountKind) (n : ℕ) → (worker_weight (role_of kind) ≡ 0 → (as_first kind n ≡ 0) × (as_second kind n ≡ 0)) × (flusher_weight (role_of kind) ≡ 0 → as_latch kind n ≡ 0)
none-of First n = ((λ z. absurd (omega arith)), λ z. refl)
none-of Second n = ((λ z. absurd (omega arith)), λ z. refl)
none-of Latch n = ((λ z. (refl, refl)), λ z. absurd (omega arith))
none-of Load n = ((λ z. (refl, refl)), λ z. refl)

idle : (f : CountStep → ℕ) (role : SeatRole) → ((s : CountStep) → role_of s.kind ≡ role → f s ≡ 0) → (ss : List CountStep) → All (λ s. role_of s.kind ≡ role) ss → total f ss ≡ 0
idle f role each ss kinds = let b = total-bound f (λ _. 1) 0 (λ s. role_of s.kind ≡ role) (λ s e. let z = each s e in omega arith) ss kinds in omega arith

module _ {workers : ℕ} {words : List ℕ} (k : ℕ) (p : CountPart) (fits : FitsBank workers words p) where
  pub no-firsts : worker_weight p.role ≡ 0 → firsts k p.steps ≡ 0
  no-firsts z = idle (first_by k) p.role (λ s e. ((none-of s.kind (when (eqb s.id k) s.n)).0 (ap worker_weight e ∙ z)).0) p.steps fits.kinds

  pub no-seconds : worker_weight p.role ≡ 0 → seconds k p.steps ≡ 0
  no-seconds z = idle (second_by k) p.role (λ s e. ((none-of s.kind (when (eqb s.id k) s.n)).0 (ap worker_weight e ∙ z)).1) p.steps fits.kinds

  pub no-latches : flusher_weight p.role ≡ 0 → latches k p.steps ≡ 0
  no-latches z = idle (latch_by k) p.role (λ s e. (none-of s.kind (when (eqb s.id k) s.found)).1 (ap flusher_weight e ∙ z)) p.steps fits.kinds

capped : (role : SeatRole) (n : ℕ) → (worker_weight role ≡ 0 → n ≡ 0) → n ≤ MAX_UNITS → n ≤ worker_weight role * MAX_UNITS
capped Worker n is_zero h = omega arith
capped Flusher n is_zero h = let z = is_zero refl in omega arith
capped Reader n is_zero h = let z = is_zero refl in omega arith

pub firsts-cap : (workers : ℕ) (words : List ℕ) (k : ℕ) (p : CountPart) → FitsBank workers words p → firsts k p.steps ≤ worker_weight p.role * MAX_UNITS
firsts-cap workers words k p fits = capped p.role (firsts k p.steps) (no-firsts k p fits) (fits.units k)

seconds-cap : (workers : ℕ) (words : List ℕ) (k : ℕ) (p : CountPart) → FitsBank workers words p → seconds k p.steps ≤ worker_weight p.role * MAX_UNITS
seconds-cap workers words k p fits = capped p.role (seconds k p.steps) (no-seconds k p fits) (let u = fits.units k in let a = fits.ahead k in omega arith)

-- what a step has seen of the value rises with the word
seen-mono : (kind : CountKind) (b : Bool) (found low top : ℕ) → low ≤ top → as_load kind (choose b found low) low ≤ low → (as_load kind (choose b found top) top ≤ top) × (as_load kind (choose b found low) low ≤ as_load kind (choose b found top) top)
seen-mono First b found low top h p = (omega arith, h)
seen-mono Second b found low top h p = (omega arith, h)
seen-mono Latch b found low top h p = (omega arith, h)
seen-mono Load true found low top h p = (omega arith, omega arith)
seen-mono Load false found low top h p = (omega arith, h)

rises-mono : (id : ℕ) (ss : List CountStep) (low top : ℕ) → low ≤ top → Rises id ss low → Rises id ss top
rises-mono id [] low top h r = tt
rises-mono id (s ∷ ss) low top h r = let m = seen-mono s.kind (eqb s.id id) s.found low top h r.0 in (m.0, rises-mono id ss (seen_by id s low) (seen_by id s top) m.1 r.1)

pub when-same : (i k n : ℕ) → i ≡ k → when (eqb i k) n ≡ n
when-same i k n e = ap (λ b. when b n) (eq-eqb i k e)

pub when-other : (i k n : ℕ) → ¬ (i ≡ k) → when (eqb i k) n ≡ 0
when-other i k n e = ap (λ b. when b n) (ne_eqb i k e)

module _ (key : BankKey) (s : St) (r : Counted key s) where
  abbrev Whole : CountPart → Type 0
  Whole p = FitsBank key.workers s.words p

  -- a sum to which each worker's seat brings at most its units, after a step of a seat
  below-word : (f : CountPart → ℕ) → ((p : CountPart) → Whole p → f p ≤ worker_weight p.role * MAX_UNITS) → (id : ℕ) (l : CountPart) (x : CountStep) (ls : List CountPart) → get_elem? s.views id ≡ some (led_by l ls)
      → f (longer x l) ≤ worker_weight l.role * MAX_UNITS → parts_total f s.views + f (longer x l) < 2 ^ 64 + f l
  below-word f each id l x ls at own =
      let q : CountPart = longer x l in let views : List View = set s.views id (led_by q ls) in
      let t = step-total f s.views id l q ls at in let w = step-total (λ (p : CountPart). worker_weight p.role) s.views id l q ls at in
      let all : parts_total (λ (p : CountPart). worker_weight p.role) views ≡ key.workers = (let e = r.workers in omega arith) in
      let b = parts_total-bound f (λ p. worker_weight p.role) MAX_UNITS (λ p. f p ≤ worker_weight p.role * MAX_UNITS) (λ p h. h) views
      (step-all Whole (λ p. f p ≤ worker_weight p.role * MAX_UNITS) each s.views id l q ls at r.each own) in
      let b' : parts_total f views ≤ key.workers * MAX_UNITS = subst (λ (n : ℕ). parts_total f views ≤ n * MAX_UNITS) all b in
      let n = r.narrow in omega arith

  -- the seat id, whose own part is l, makes the step x, and the word i becomes y
  placed : (i y id : ℕ) (x : CountStep) (l : CountPart) (ls : List CountPart) (c : List (ℕ × Unit {0})) → get_elem? s.views id ≡ some (led_by l ls)
      → role_of x.kind ≡ l.role
      → ((k : ℕ) → get_or (set s.words i y) (8 * k) 0 ≡ get_or s.words (8 * k) 0 + first_by k x)
      → ((k : ℕ) → get_or (set s.words i y) (8 * k + 1) 0 + latch_by k x ≡ get_or s.words (8 * k + 1) 0 + second_by k x)
      → ((k : ℕ) → (firsts k (x ∷ l.steps) ≤ MAX_UNITS) × (firsts k (x ∷ l.steps) ≡ seconds k (x ∷ l.steps) + first_by k x) × Rises k (x ∷ l.steps) (get_or (set s.words i y) (8 * k) 0))
      → Counted key (stepped s i y id c (led_by (longer x l) ls) keeps)
  placed i y id x l ls c at role hv hp hf =
      let q : CountPart = longer x l in let words : List ℕ = set s.words i y in
      let moved : (f : CountStep → ℕ) → parts_total (λ (p : CountPart). total f p.steps) (set s.views id (led_by q ls)) ≡ parts_total (λ (p : CountPart). total f p.steps) s.views + f x =
      λ f. let t = step-total (λ (p : CountPart). total f p.steps) s.views id l q ls at in omega arith in
      let up : (p : CountPart) → Whole p → FitsBank key.workers words p =
      λ p f. record { knows = f.knows; kinds = f.kinds; units = f.units; ahead = f.ahead; loads = λ k. rises-mono k p.steps (get_or s.words (8 * k) 0) (get_or words (8 * k) 0) (let h = hv k in omega arith) (f.loads k) } in
      let own : Whole l = own-fits Whole s.views id l ls at r.each in
      record {
        wide = length-set s.words i y ∙ r.wide;
        narrow = r.narrow;
        workers = (let t = step-total (λ (p : CountPart). worker_weight p.role) s.views id l q ls at in let w = r.workers in omega arith);
        flusher = (let t = step-total (λ (p : CountPart). flusher_weight p.role) s.views id l q ls at in let w = r.flusher in omega arith);
        value = λ k. (let h = hv k in let m = moved (first_by k) in let e = r.value k in omega arith);
        pending = λ k. (let h = hp k in let m = moved (second_by k) in let n = moved (latch_by k) in let e = r.pending k in omega arith);
        each = step-all Whole (FitsBank key.workers words) up s.views id l q ls at r.each
            record { knows = own.knows; kinds = All-cons (λ a. role_of a.kind ≡ l.role) x l.steps role own.kinds; units = λ k. (hf k).0; ahead = λ k. (hf k).1; loads = λ k. (hf k).2 };
      }

  here : (k y : ℕ) → k < 8 * key.size → get_or (set s.words k y) k 0 ≡ y
  here k y h = get_or-set_same s.words k y 0 (let w = r.wide in omega arith)

  same-word : (i k : ℕ) → i < 8 * key.size → get_or (set s.words i (get_or s.words i 0)) k 0 ≡ get_or s.words k 0
  same-word i k h = dite (ℕ_discrete k i) (λ e. subst (λ (j : ℕ). get_or (set s.words i (get_or s.words i 0)) j 0 ≡ get_or s.words j 0) (sym e) (here i (get_or s.words i 0) h)) (λ ne. get_or-set_other s.words i k (get_or s.words i 0) 0 ne)

  first-placed : (i n id : ℕ) (l : CountPart) (ls : List CountPart) (c : List (ℕ × Unit {0})) → get_elem? s.views id ≡ some (led_by l ls)
      → i < key.size → firsts i l.steps + n ≤ MAX_UNITS → worker_weight l.role ≡ 1 → ((k : ℕ) → firsts k l.steps ≡ seconds k l.steps)
      → Counted key (stepped s (8 * i) ((get_or s.words (8 * i) 0 + n) % 2 ^ 64) id c (led_by (longer (step_of First i n (get_or s.words (8 * i) 0)) l) ls) keeps)
  first-placed i n id l ls c at small units worker even =
      let x : ℕ = get_or s.words (8 * i) 0 in let y : ℕ = (x + n) % 2 ^ 64 in let p : CountStep = step_of First i n x in
      let own : Whole l = own-fits Whole s.views id l ls at r.each in let one = when-same i i n refl in
      let below = below-word (λ (a : CountPart). firsts i a.steps) (firsts-cap key.workers s.words i) id l p ls at
      (subst (λ (w : ℕ). firsts i (p ∷ l.steps) ≤ w * MAX_UNITS) (sym worker) (omega arith)) in
      let value = r.value i in
      let is : y ≡ x + n = omega arith in
      let hv : (k : ℕ) → get_or (set s.words (8 * i) y) (8 * k) 0 ≡ get_or s.words (8 * k) 0 + first_by k p =
      λ k. dite (ℕ_discrete i k)
      (λ e. subst (λ (j : ℕ). get_or (set s.words (8 * i) y) (8 * j) 0 ≡ get_or s.words (8 * j) 0 + when (eqb i j) n) e (let a = here (8 * i) y (omega arith) in omega arith))
      (λ ne. let a = get_or-set_other s.words (8 * i) (8 * k) y 0 (λ q. ne (omega arith)) in let b = when-other i k n ne in omega arith) in
      placed (8 * i) y id p l ls c at (worker-role l.role worker) hv
      (λ k. ap (λ (m : ℕ). m + 0) (get_or-set_other s.words (8 * i) (8 * k + 1) y 0 (λ q. omega arith)))
      (λ k. let u = own.units k in let h = hv k in let e = even k in (
        dite (ℕ_discrete i k)
            (λ same. let units' : firsts k l.steps + n ≤ MAX_UNITS = subst (λ (j : ℕ). firsts j l.steps + n ≤ MAX_UNITS) same units in let b = when-same i k n same in omega arith)
            (λ ne. let b = when-other i k n ne in omega arith),
        omega arith,
        (le_refl _, rises-mono k l.steps (get_or s.words (8 * k) 0) (get_or (set s.words (8 * i) y) (8 * k) 0) (omega arith) (own.loads k)),
      ))

  -- the step after the first step of the same add
  second-placed : (i n was id : ℕ) (before : CountPart) (ls : List CountPart) (c : List (ℕ × Unit {0})) → get_elem? s.views id ≡ some (led_by (longer (step_of First i n was) before) ls)
      → i < key.size → worker_weight before.role ≡ 1
      → Counted key (stepped s (8 * i + 1) ((get_or s.words (8 * i + 1) 0 + n) % 2 ^ 64) id c (led_by (longer (step_of Second i n (get_or s.words (8 * i + 1) 0)) (longer (step_of First i n was) before)) ls) keeps)
  second-placed i n was id before ls c at small worker =
      let l : CountPart = longer (step_of First i n was) before in
      let x : ℕ = get_or s.words (8 * i + 1) 0 in let y : ℕ = (x + n) % 2 ^ 64 in let p : CountStep = step_of Second i n x in
      let own : Whole l = own-fits Whole s.views id l ls at r.each in let one = when-same i i n refl in let unit = own.units i in let ahead = own.ahead i in
      let below = below-word (λ (a : CountPart). seconds i a.steps) (seconds-cap key.workers s.words i) id l p ls at
      (subst (λ (w : ℕ). seconds i (p ∷ l.steps) ≤ w * MAX_UNITS) (sym worker) (omega arith)) in
      let pending = r.pending i in
      let is : y ≡ x + n = omega arith in
      let hv : (k : ℕ) → get_or (set s.words (8 * i + 1) y) (8 * k) 0 ≡ get_or s.words (8 * k) 0 = λ k. get_or-set_other s.words (8 * i + 1) (8 * k) y 0 (λ q. omega arith) in
      let hp : (k : ℕ) → get_or (set s.words (8 * i + 1) y) (8 * k + 1) 0 + 0 ≡ get_or s.words (8 * k + 1) 0 + when (eqb i k) n =
      λ k. dite (ℕ_discrete i k)
      (λ e. subst (λ (j : ℕ). get_or (set s.words (8 * i + 1) y) (8 * j + 1) 0 + 0 ≡ get_or s.words (8 * j + 1) 0 + when (eqb i j) n) e (let a = here (8 * i + 1) y (omega arith) in omega arith))
      (λ ne. let a = get_or-set_other s.words (8 * i + 1) (8 * k + 1) y 0 (λ q. ne (omega arith)) in let b = when-other i k n ne in omega arith) in
      placed (8 * i + 1) y id p l ls c at (worker-role before.role worker) (λ k. let h = hv k in omega arith) hp
      (λ k. let u = own.units k in let a = own.ahead k in let h = hv k in (
        omega arith,
        omega arith,
        (le_refl _, rises-mono k l.steps (get_or s.words (8 * k) 0) (get_or (set s.words (8 * i + 1) y) (8 * k) 0) (omega arith) (own.loads k)),
      ))

  latch-placed : (i id : ℕ) (l : CountPart) (ls : List CountPart) (c : List (ℕ × Unit {0})) → get_elem? s.views id ≡ some (led_by l ls)
      → i < key.size → flusher_weight l.role ≡ 1
      → Counted key (stepped s (8 * i + 1) 0 id c (led_by (longer (step_of Latch i 0 (get_or s.words (8 * i + 1) 0)) l) ls) keeps)
  latch-placed i id l ls c at small flusher =
      let x : ℕ = get_or s.words (8 * i + 1) 0 in let p : CountStep = step_of Latch i 0 x in let role = flusher-role l.role flusher in
      let own : Whole l = own-fits Whole s.views id l ls at r.each in
      let hv : (k : ℕ) → get_or (set s.words (8 * i + 1) 0) (8 * k) 0 ≡ get_or s.words (8 * k) 0 = λ k. get_or-set_other s.words (8 * i + 1) (8 * k) 0 0 (λ q. omega arith) in
      let hp : (k : ℕ) → get_or (set s.words (8 * i + 1) 0) (8 * k + 1) 0 + when (eqb i k) x ≡ get_or s.words (8 * k + 1) 0 + 0 =
      λ k. dite (ℕ_discrete i k)
      (λ e. subst (λ (j : ℕ). get_or (set s.words (8 * i + 1) 0) (8 * j + 1) 0 + when (eqb i j) x ≡ get_or s.words (8 * j + 1) 0 + 0) e
      (let a = here (8 * i + 1) 0 (omega arith) in let b = when-same i i x refl in omega arith))
      (λ ne. let a = get_or-set_other s.words (8 * i + 1) (8 * k + 1) 0 0 (λ q. ne (omega arith)) in let b = when-other i k x ne in omega arith) in
      placed (8 * i + 1) 0 id p l ls c at role (λ k. let h = hv k in omega arith) hp
      (λ k. let u = own.units k in let h = hv k in let f = no-firsts k l own (ap worker_weight (sym role)) in let d = no-seconds k l own (ap worker_weight (sym role)) in (
        omega arith,
        omega arith,
        (le_refl _, rises-mono k l.steps (get_or s.words (8 * k) 0) (get_or (set s.words (8 * i + 1) 0) (8 * k) 0) (omega arith) (own.loads k)),
      ))

  -- where the flusher's view has all workers, it has all second steps and all latches
  all-latched : (i id : ℕ) (l : CountPart) (ls : List CountPart) → get_elem? s.views id ≡ some (led_by l ls)
      → flusher_weight l.role ≡ 1 → total (λ (p : CountPart). worker_weight p.role) ls ≡ length ls → length ls ≡ l.workers
      → latches i l.steps + get_or s.words (8 * i + 1) 0 ≡ total (λ (p : CountPart). seconds i p.steps) ls
  all-latched i id l ls at flusher others count =
      let v : View = led_by l ls in let role = flusher-role l.role flusher in
      let all : All Whole (l ∷ ls) = all-at (λ (z : View). All Whole z.parts) s.views id v r.each at in
      let own : Whole l = own-fits Whole s.views id l ls at r.each in
      let one = r.flusher in let know = own.knows in let workers = r.workers in
      let weight = one-view (λ (p : CountPart). flusher_weight p.role) (λ (p : CountPart). flusher_weight p.role) Whole (λ p f z. z) s.views r.each id v at (omega arith) in
      let l-all = one-view (λ (p : CountPart). latches i p.steps) (λ (p : CountPart). flusher_weight p.role) Whole (λ p f z. no-latches i p f z) s.views r.each id v at (omega arith) in
      let s-all = one-view (λ (p : CountPart). seconds i p.steps) (λ (p : CountPart). worker_weight p.role) Whole (λ p f z. no-seconds i p f z) s.views r.each id v at (omega arith) in
      let no-latch = total-none (λ (p : CountPart). latches i p.steps) (λ (p : CountPart). flusher_weight p.role) Whole (λ p f z. no-latches i p f z) ls (All-tail Whole l ls all) (omega arith) in
      let own-seconds = no-seconds i l own (ap worker_weight (sym role)) in let pending = r.pending i in
      omega arith

  load-rises : (i k : ℕ) (l : CountPart) → Rises k l.steps (get_or s.words (8 * k) 0) → Rises k (step_of Load i 0 (get_or s.words (8 * i) 0) ∷ l.steps) (get_or s.words (8 * k) 0)
  load-rises i k l f = let x : ℕ = get_or s.words (8 * i) 0 in let top : ℕ = get_or s.words (8 * k) 0 in
      let is : choose (eqb i k) x top ≡ top = dite (ℕ_discrete i k) (λ e. ap (λ b. choose b x top) (eq-eqb i k e) ∙ ap (λ (j : ℕ). get_or s.words (8 * j) 0) e) (λ ne. ap (λ b. choose b x top) (ne_eqb i k ne)) in
      (subst (λ (z : ℕ). z ≤ top) (sym is) (le_refl top), subst (λ (z : ℕ). Rises k l.steps z) (sym is) f)

  load-placed : (i id : ℕ) (l : CountPart) (ls : List CountPart) (c : List (ℕ × Unit {0})) → get_elem? s.views id ≡ some (led_by l ls)
      → i < key.size → reader_weight l.role ≡ 1
      → Counted key (stepped s (8 * i) (get_or s.words (8 * i) 0) id c (led_by (longer (step_of Load i 0 (get_or s.words (8 * i) 0)) l) ls) keeps)
  load-placed i id l ls c at small reader =
      let x : ℕ = get_or s.words (8 * i) 0 in let p : CountStep = step_of Load i 0 x in let role = reader-role l.role reader in
      let own : Whole l = own-fits Whole s.views id l ls at r.each in
      let all : (k : ℕ) → get_or (set s.words (8 * i) x) k 0 ≡ get_or s.words k 0 = λ k. same-word (8 * i) k (omega arith) in
      placed (8 * i) x id p l ls c at role (λ k. let h = all (8 * k) in omega arith) (λ k. let h = all (8 * k + 1) in omega arith)
      (λ k. let u = own.units k in let f = no-firsts k l own (ap worker_weight (sym role)) in let d = no-seconds k l own (ap worker_weight (sym role)) in (
        omega arith,
        omega arith,
        subst (λ (z : ℕ). Rises k (p ∷ l.steps) z) (sym (all (8 * k))) (load-rises i k l (own.loads k)),
      ))

  own-rises : (i id : ℕ) (l : CountPart) (ls : List CountPart) → get_elem? s.views id ≡ some (led_by l ls) → Rises i l.steps (get_or s.words (8 * i) 0)
  own-rises i id l ls at = (own-fits Whole s.views id l ls at r.each).loads i

abbrev Sat : Type 0
Sat = Me (Unit {0}) View

-- What the table asks of each step, of a seat that has a part of its own.
module _ (key : BankKey) (slots id i : ℕ) where
  pub adds-first : (m : Sat) (n : ℕ) → 0 < length m.0.parts → length m.1 ≡ 0 → worker_weight (own_part m.0).role ≡ 1 → ((k : ℕ) → firsts k (own_steps m.0) ≡ seconds k (own_steps m.0)) → i < key.size → firsts i (own_steps m.0) + n ≤ MAX_UNITS
      → Allows (Counted key) slots id m (8 * i) (λ x. (x + n) % 2 ^ 64) (FirstAdded (step slots (8 * i) n 0 none) m)
  adds-first m n a b role even small units = let t = led m a b in let l = t.0 in let ls = t.1 in
      subst (λ (z : Sat). worker_weight (own_part z.0).role ≡ 1 → ((k : ℕ) → firsts k (own_steps z.0) ≡ seconds k (own_steps z.0)) → firsts i (own_steps z.0) + n ≤ MAX_UNITS → Allows (Counted key) slots id z (8 * i) (λ x. (x + n) % 2 ^ 64) (FirstAdded (step slots (8 * i) n 0 none) z)) (sym t.2)
      (λ role even units s r _ at _. (
        led_by (longer (step_of First i n (get_or s.words (8 * i) 0)) l) ls,
        keeps,
        tt,
        first-placed key s r i n id l ls [] at small units role even,
        λ j e. let same : i ≡ j = omega arith in ap (λ (z : ℕ). (led_by (longer (step_of First z n (get_or s.words (8 * i) 0)) l) ls, [])) same,
      )) role even units

  pub adds-second : (m m' : Sat) (n was : ℕ) → 0 < length m.0.parts → length m.1 ≡ 0 → worker_weight (own_part m.0).role ≡ 1 → m' ≡ (with_step (step_of First i n was) m.0, m.1) → i < key.size
      → Allows (Counted key) slots id m' (8 * i + 1) (λ x. (x + n) % 2 ^ 64) (SecondAdded (step slots (8 * i + 1) n 0 none) m')
  adds-second m m' n was a b role is small = let t = led m a b in let l = t.0 in let ls = t.1 in
      let is' : m' ≡ (led_by (longer (step_of First i n was) l) ls, []) = is ∙ ap (λ (z : Sat). (with_step (step_of First i n was) z.0, z.1)) t.2 in
      let role' : worker_weight l.role ≡ 1 = ap (λ (z : Sat). worker_weight (own_part z.0).role) (sym t.2) ∙ role in
      subst (λ (z : Sat). Allows (Counted key) slots id z (8 * i + 1) (λ x. (x + n) % 2 ^ 64) (SecondAdded (step slots (8 * i + 1) n 0 none) z)) (sym is')
      (λ s r _ at _. (
        led_by (longer (step_of Second i n (get_or s.words (8 * i + 1) 0)) (longer (step_of First i n was) l)) ls,
        keeps,
        tt,
        second-placed key s r i n was id l ls [] at small role',
        λ j e. let same : i ≡ j = omega arith in ap (λ (z : ℕ). (led_by (longer (step_of Second z n (get_or s.words (8 * i + 1) 0)) (longer (step_of First i n was) l)) ls, [])) same,
      ))

  pub latches-one : (m : Sat) → 0 < length m.0.parts → length m.1 ≡ 0 → flusher_weight (own_part m.0).role ≡ 1 → total (λ (p : CountPart). worker_weight p.role) (taken_parts m.0) ≡ length (taken_parts m.0) → i < key.size
      → Allows (Counted key) slots id m (8 * i + 1) (λ _. 0) (Latched (step slots (8 * i + 1) 0 0 none) m)
  latches-one m a b role others small = let t = led m a b in let l = t.0 in let ls = t.1 in
      subst (λ (z : Sat). flusher_weight (own_part z.0).role ≡ 1 → total (λ (p : CountPart). worker_weight p.role) (taken_parts z.0) ≡ length (taken_parts z.0) → Allows (Counted key) slots id z (8 * i + 1) (λ _. 0) (Latched (step slots (8 * i + 1) 0 0 none) z)) (sym t.2)
      (λ role others s r _ at _. (
        led_by (longer (step_of Latch i 0 (get_or s.words (8 * i + 1) 0)) l) ls,
        keeps,
        tt,
        latch-placed key s r i id l ls [] at small role,
        λ j e. let same : i ≡ j = omega arith in (
          ap (λ (z : ℕ). (led_by (longer (step_of Latch z 0 (get_or s.words (8 * i + 1) 0)) l) ls, [])) same,
          λ count. subst (λ (z : ℕ). latches z l.steps + get_or s.words (8 * i + 1) 0 ≡ total (λ (p : CountPart). seconds z p.steps) ls) same (all-latched key s r i id l ls at role others count),
        ),
      )) role others

  pub loads-one : (m : Sat) → 0 < length m.0.parts → length m.1 ≡ 0 → reader_weight (own_part m.0).role ≡ 1 → i < key.size
      → Allows (Counted key) slots id m (8 * i) (λ x. x) (Loaded (step slots (8 * i) 0 0 none) m)
  loads-one m a b role small = let t = led m a b in let l = t.0 in let ls = t.1 in
      subst (λ (z : Sat). reader_weight (own_part z.0).role ≡ 1 → Allows (Counted key) slots id z (8 * i) (λ x. x) (Loaded (step slots (8 * i) 0 0 none) z)) (sym t.2)
      (λ role s r _ at _. (
        led_by (longer (step_of Load i 0 (get_or s.words (8 * i) 0)) l) ls,
        keeps,
        tt,
        load-placed key s r i id l ls [] at small role,
        λ j e. let same : i ≡ j = omega arith in (
          ap (λ (z : ℕ). (led_by (longer (step_of Load z 0 (get_or s.words (8 * i) 0)) l) ls, [])) same,
          subst (λ (z : ℕ). Rises z l.steps (get_or s.words (8 * i) 0)) same (own-rises key s r i id l ls at),
        ),
      )) role
