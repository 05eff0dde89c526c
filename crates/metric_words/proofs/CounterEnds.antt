-- What joined seats keep, and what the last words are.
use Rattle.std.proofs.Common.{◌≡◌, ℕ, ◌+◌, ◌*◌, ◌<◌, ◌≤◌, List, [], ◌∷◌, ◌++◌, length, get_or, sym, refl, ap, ◌∙◌, subst, arith, length-append, All}
use Rattle.std.proofs.lemmas.List.Elements.{All-head}
use Rattle.std.proofs.lemmas.List.{get_or_append_left}
use Rattle.std.proofs.Math.Seq.{get_or-append_seam}
use mathlib.Core.Logic.{dite}
use mathlib.Core.Option.{some}
use native.Mathlib.Decide.{ℕ_discrete}
use lib.ListN.{get_elem?}
use Rattle.atomic_table.specs.Seated.{TableId}
use Rattle.atomic_table.specs.Table.{State, Me, Final, Seen}
use Rattle.seat_parts.specs.Parts.{total, parts_total, joined}
use Rattle.seat_parts.proofs.Sums.{total-append, all-at, at-or}
use Rattle.seat_parts.proofs.Cuts.{one-view, parts_total-bound}
use Rattle.metric_words.specs.declared.limits.TheConstants.{MAX_UNITS}
use Rattle.metric_words.specs.declared.counter_seats.WorkerSeat.{WorkerSeat}
use Rattle.metric_words.specs.declared.counter_seats.WordSeats.{WordSeats}
use Rattle.metric_words.specs.declared.counter_view.BankKey.{BankKey}
use Rattle.metric_words.specs.declared.counter_view.SeatRole.TheVariants.{Reader}
use Rattle.metric_words.specs.declared.counter_view.CountPart.{CountPart}
use Rattle.metric_words.specs.Counters.{View, new_part, worker_weight, flusher_weight, firsts, seconds, latches, Rises, FitsBank, Counted, own_part, own_steps, taken_parts}
use Rattle.metric_words.specs.CounterLedger.{worker_part, flush_steps, read_steps, AreAll, workers_total, seats_total, HasWords, IsLedger}
use Rattle.metric_words.proofs.Knowing.{behind-own}
use Rattle.metric_words.proofs.CounterKeeps.{no-firsts, no-seconds, no-latches, firsts-cap}

abbrev Sat : Type 0
Sat = Me (Unit {0}) View

-- one more place of a list that has what f says at each place
pub place-push : (f : ℕ → ℕ) (xs all : List ℕ) (x n : ℕ) → length xs ≡ n → ((k : ℕ) → k < n → get_or xs k 0 ≡ f k) → all ≡ xs ++ x ∷ [] → x ≡ f n → (k : ℕ) → k < n + 1 → get_or all k 0 ≡ f k
place-push f xs all x n l below e here k h = ap (λ z. get_or z k 0) e ∙ dite (ℕ_discrete k n)
    (λ i. ap (λ j. get_or (xs ++ x ∷ []) j 0) (i ∙ sym l) ∙ (get_or-append_seam xs x [] 0 ∙ (here ∙ ap f (sym i))))
    (λ ne. get_or_append_left xs (x ∷ []) 0 k (omega arith) ∙ below k (omega arith))

pub words-push : (n : ℕ) (words vs ps vs' ps' : List ℕ) (x y : ℕ) → HasWords n words vs ps → vs' ≡ vs ++ x ∷ [] → ps' ≡ ps ++ y ∷ [] → get_elem? words (8 * n) ≡ some x → get_elem? words (8 * n + 1) ≡ some y → HasWords (n + 1) words vs' ps'
words-push n words vs ps vs' ps' x y has e e' at at' = record {
  values_length = ap length e ∙ omega (arith, length-append vs (x ∷ []), has.values_length);
  pending_length = ap length e' ∙ omega (arith, length-append ps (y ∷ []), has.pending_length);
  value = place-push (λ k. get_or words (8 * k) 0) vs vs' x n has.values_length has.value e (sym (at-or words (8 * n) x 0 at));
  left = place-push (λ k. get_or words (8 * k + 1) 0) ps ps' y n has.pending_length has.left e' (sym (at-or words (8 * n + 1) y 0 at'));
}

pub one-total : (f : CountPart → ℕ) (ps : List CountPart) → length ps ≡ 1 → let v : View = record { parts = ps } in total f ps ≡ f (own_part v)
one-total f [] e = absurd (omega arith)
one-total f (p ∷ []) e = omega arith
one-total f (p ∷ q ∷ ps) e = absurd (omega arith)

pub view-total : (f : CountPart → ℕ) (ps : List CountPart) → 0 < length ps → let v : View = record { parts = ps } in total f ps ≡ f (own_part v) + total f (taken_parts v)
view-total f [] h = absurd (omega arith)
view-total f (p ∷ ps) h = refl

-- a seat that took in all of another's parts
pub joined-seat : (m : Sat) (v w : View) (c : List (ℕ × Unit {0})) → m ≡ (joined v w, c) → 0 < length v.parts
    → (own_part m.0 ≡ own_part v) × ((f : CountPart → ℕ) → total f m.0.parts ≡ total f v.parts + total f w.parts) × (0 < length m.0.parts) × (length m.1 ≡ length c)
joined-seat m v w c e h = let j = behind-own (new_part Reader 0 0) v.parts w.parts h in (
  ap (λ (z : Sat). own_part z.0) e ∙ j.0,
  (λ f. ap (λ (z : Sat). total f z.0.parts) e ∙ total-append f v.parts w.parts),
  (let n = ap (λ (z : Sat). length z.0.parts) e in let k = j.2 in omega arith),
  ap (λ (z : Sat). length z.1) e,
)

worker-count : (ws : List WorkerSeat) → total (λ (w : WorkerSeat). worker_weight (worker_part w).role) ws ≡ length ws
worker-count [] = refl
worker-count (w ∷ ws) = omega (arith, w.role, worker-count ws)

worker-even : (k : ℕ) (ws : List WorkerSeat) → total (λ (w : WorkerSeat). firsts k ((worker_part w).steps)) ws ≡ total (λ (w : WorkerSeat). seconds k ((worker_part w).steps)) ws
worker-even k [] = refl
worker-even k (w ∷ ws) = omega (arith, w.even k, worker-even k ws)

worker-latches : (k : ℕ) (ws : List WorkerSeat) → total (λ (w : WorkerSeat). latches k ((worker_part w).steps)) ws ≡ 0
worker-latches k [] = refl
worker-latches k (w ∷ ws) = omega (arith, w.kinds k, worker-latches k ws)

own-rises : (workers : ℕ) (words : List ℕ) (ps : List CountPart) (k : ℕ) → All (FitsBank workers words) ps → let v : View = record { parts = ps } in Rises k (own_steps v) (get_or words (8 * k) 0)
own-rises workers words [] k e = tt
own-rises workers words (p ∷ ps) k e = (All-head (FitsBank workers words) p ps e).loads k

-- The last words, where the view v has the parts of all seats.
module _ (key : BankKey) (id : ℕ) (v : View) (s : State (Unit {0}) View) (r : Counted key s) (at : get_elem? s.views id ≡ some v)
    (bank : TableId) (seats : WordSeats) (all : AreAll bank key.workers seats) (totals : (f : CountPart → ℕ) → total f v.parts ≡ seats_total f seats) where
  workers-here : parts_total (λ (p : CountPart). worker_weight p.role) s.views ≤ total (λ (p : CountPart). worker_weight p.role) v.parts
  workers-here = let t = totals (λ p. worker_weight p.role) in let n = worker-count seats.workers.items in let o = seats.flusher.others in let c = all.count in let w = r.workers in omega arith

  flusher-here : parts_total (λ (p : CountPart). flusher_weight p.role) s.views ≤ total (λ (p : CountPart). flusher_weight p.role) v.parts
  flusher-here = let t = totals (λ p. flusher_weight p.role) in let o = seats.flusher.role in let w = r.flusher in omega arith

  last-value : (k : ℕ) → get_or s.words (8 * k) 0 ≡ workers_total (λ p. firsts k p.steps) seats
  last-value k =
      let one = one-view (λ (p : CountPart). firsts k p.steps) (λ (p : CountPart). worker_weight p.role) (FitsBank key.workers s.words) (λ p f z. no-firsts k p f z) s.views r.each id v at workers-here in
      let t = totals (λ p. firsts k p.steps) in let f = (seats.flusher.kinds k).0 in let d = (seats.reader.kinds k).0 in let e = r.value k in omega arith

  last-pending : (k : ℕ) → get_or s.words (8 * k + 1) 0 + latches k (flush_steps seats) ≡ workers_total (λ p. seconds k p.steps) seats
  last-pending k =
      let one = one-view (λ (p : CountPart). seconds k p.steps) (λ (p : CountPart). worker_weight p.role) (FitsBank key.workers s.words) (λ p f z. no-seconds k p f z) s.views r.each id v at workers-here in
      let two = one-view (λ (p : CountPart). latches k p.steps) (λ (p : CountPart). flusher_weight p.role) (FitsBank key.workers s.words) (λ p f z. no-latches k p f z) s.views r.each id v at flusher-here in
      let t = totals (λ p. seconds k p.steps) in let u = totals (λ p. latches k p.steps) in let n = worker-latches k seats.workers.items in
      let f = (seats.flusher.kinds k).1 in let g = (seats.flusher.kinds k).2 in let d = (seats.reader.kinds k).1 in let l = (seats.reader.kinds k).2 in let e = r.pending k in omega arith

  last-units : (k : ℕ) → get_or s.words (8 * k) 0 ≤ key.workers * MAX_UNITS
  last-units k =
      let b = parts_total-bound (λ (p : CountPart). firsts k p.steps) (λ p. worker_weight p.role) MAX_UNITS (FitsBank key.workers s.words) (firsts-cap key.workers s.words k) s.views r.each in
      let b' = subst (λ (n : ℕ). parts_total (λ (p : CountPart). firsts k p.steps) s.views ≤ n * MAX_UNITS) r.workers b in let e = r.value k in omega arith

  last-loads : (k : ℕ) → own_steps v ≡ read_steps seats → Rises k (read_steps seats) (get_or s.words (8 * k) 0)
  last-loads k e = subst (λ ss. Rises k ss (get_or s.words (8 * k) 0)) e (own-rises key.workers s.words v.parts k (all-at (λ (z : View). All (FitsBank key.workers s.words) z.parts) s.views id v r.each at))

pub closes : (key : BankKey) (id : ℕ) (v : View) (words : List ℕ) (xs : List (Unit {0})) (size : ℕ) (bank : TableId) (seats : WordSeats) (values pending : List ℕ)
    → Final (Seen (Counted key) id v) words xs → AreAll bank key.workers seats → ((f : CountPart → ℕ) → total f v.parts ≡ seats_total f seats) → own_steps v ≡ read_steps seats
    → HasWords size words values pending → IsLedger size key.workers seats values pending
closes key id v words xs size bank seats values pending (s, seen, is, _, _) all totals reader has =
    let value : (k : ℕ) → k < size → get_or values k 0 ≡ get_or s.words (8 * k) 0 = λ k h. has.value k h ∙ ap (λ ws. get_or ws (8 * k) 0) (sym is) in
    let left : (k : ℕ) → k < size → get_or pending k 0 ≡ get_or s.words (8 * k + 1) 0 = λ k h. has.left k h ∙ ap (λ ws. get_or ws (8 * k + 1) 0) (sym is) in
    let accepted : (k : ℕ) → k < size → get_or pending k 0 + latches k (flush_steps seats) ≡ workers_total (λ p. seconds k p.steps) seats =
    λ k h. ap (λ n. n + latches k (flush_steps seats)) (left k h) ∙ last-pending key id v s seen.0 seen.1 bank seats all totals k in
    let valued : (k : ℕ) → k < size → get_or values k 0 ≡ workers_total (λ p. firsts k p.steps) seats = λ k h. value k h ∙ last-value key id v s seen.0 seen.1 bank seats all totals k in
    record {
      values_length = has.values_length;
      pending_length = has.pending_length;
      value = valued;
      accepted = accepted;
      even = λ k h. (let a = accepted k h in let b = valued k h in let c = worker-even k seats.workers.items in let d = seats.flusher.even k in omega arith);
      units = λ k h. subst (λ n. n ≤ key.workers * MAX_UNITS) (sym (value k h)) (last-units key id v s seen.0 seen.1 bank seats all totals k);
      loads = λ k h. subst (λ n. Rises k (read_steps seats) n) (sym (value k h)) (last-loads key id v s seen.0 seen.1 bank seats all totals k reader);
      latched = λ k h e. (let a = accepted k h in omega arith);
    }
