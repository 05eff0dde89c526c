-- What callers may conclude from a list of steps, and from the ledger at the end.
use Rattle.std.proofs.Common.{◌≡◌, ℕ, ◌<◌, ◌≤◌, Bool, true, false, ◌==◌, List, [], ◌∷◌, length, map, get_or, refl, ap, ◌∙◌, subst, arith, All}
use Rattle.std.proofs.lemmas.List.Elements.{All-nil, All-cons}
use Rattle.seat_parts.specs.Parts.{total, others_of}
use Rattle.seat_parts.proofs.Sums.{total-append, all-mapped}
use Rattle.metric_words.specs.declared.counter_view.CountKind.{CountKind}
use Rattle.metric_words.specs.declared.counter_view.CountKind.TheVariants.{First, Second, Latch, Load}
use Rattle.metric_words.specs.declared.counter_view.CountStep.{CountStep}
use Rattle.metric_words.specs.declared.counter_view.CountPart.{CountPart}
use Rattle.metric_words.specs.declared.counter_seats.WordSeats.{WordSeats}
use Rattle.metric_words.specs.Counters.{choose, as_load, firsts, seconds, seen_by, Rises}
use Rattle.metric_words.specs.CounterLedger.{worker_part, flush_known, flush_steps, read_steps, workers_total, IsLedger}
use Rattle.metric_words.specs.CounterLaws.{as_loaded, loads_of, SumsGrow, worker_parts, IsCounterEnd}

-- all of these words are at most `top`
abbrev AreBelow : ℕ → List ℕ → Type 0
AreBelow top words = All (λ found. found ≤ top) words

below-step : (kind : CountKind) (here : Bool) (found top : ℕ) (earlier : List ℕ) → as_load kind (choose here found top) top ≤ top
    → AreBelow (as_load kind (choose here found top) top) earlier → AreBelow top (as_loaded kind here found earlier)
below-step First here found top earlier h e = e
below-step Second here found top earlier h e = e
below-step Latch here found top earlier h e = e
below-step Load false found top earlier h e = e
below-step Load true found top earlier h e = All-cons (λ f. f ≤ top) found earlier h (all-mapped (λ f. f ≤ found) (λ f. f ≤ top) (λ f le. omega arith) earlier e)

pub loads-below : (id top : ℕ) (steps : List CountStep) → Rises id steps top → AreBelow top (loads_of id steps)
loads-below id top [] r = All-nil (λ f. f ≤ top)
loads-below id top (s ∷ ss) r = below-step s.kind (s.id == id) s.found top (loads_of id ss) r.0 (loads-below id (seen_by id s top) ss r.1)

newest-step : (kind : CountKind) (here : Bool) (word top found : ℕ) (loads earlier : List ℕ) → AreBelow (as_load kind (choose here word top) top) loads
    → (loads ≡ found ∷ earlier → AreBelow found earlier) → as_loaded kind here word loads ≡ found ∷ earlier → AreBelow found earlier
newest-step First here word top found loads earlier b next e = next e
newest-step Second here word top found loads earlier b next e = next e
newest-step Latch here word top found loads earlier b next e = next e
newest-step Load false word top found loads earlier b next e = next e
newest-step Load true word top found loads earlier b next e =
    subst (λ l. AreBelow found l) (ap (λ l. others_of l) e) (subst (λ w. AreBelow w loads) (ap (λ l. get_or l 0 0) e) b)

pub newest-load : (id top found : ℕ) (steps : List CountStep) (earlier : List ℕ) → Rises id steps top → loads_of id steps ≡ found ∷ earlier → AreBelow found earlier
newest-load id top found [] earlier r e = absurd (omega (arith, ap length e))
newest-load id top found (s ∷ ss) earlier r e =
    newest-step s.kind (s.id == id) s.found top found (loads_of id ss) earlier (loads-below id (seen_by id s top) ss r.1) (newest-load id (seen_by id s top) found ss earlier r.1) e

pub sums-grow : SumsGrow
sums-grow = record {
  add_firsts = λ k id n x y steps. omega arith;
  add_seconds = λ k id n x y steps. omega arith;
  add_latches = λ k id n x y steps. omega arith;
  latch = λ k id r steps. omega arith;
  load = λ k id r steps. refl;
  load_latches = λ k id r steps. omega arith;
}

module _ {A B : Type 0} (f : B → ℕ) (g : A → B) where
  total-map : (xs : List A) → total f (map g xs) ≡ total (λ x. f (g x)) xs
  total-map [] = refl
  total-map (x ∷ xs) = omega (arith, total-map xs)

-- the sum over the workers' seats is that over the list of their parts
pub workers-list : (f : CountPart → ℕ) (s : WordSeats) → workers_total f s ≡ total f (worker_parts s)
workers-list f s = omega (arith, total-append f (map worker_part s.workers.items) (flush_known s.flusher).taken, total-map f worker_part s.workers.items)

pub end-of-one : (size workers id : ℕ) (s : WordSeats) (values pending : List ℕ) → IsLedger size workers s values pending → id < size
    → IsCounterEnd id (worker_parts s) (flush_steps s) (read_steps s) (get_or values id 0) (get_or pending id 0)
end-of-one size workers id s values pending l h = record {
  firsts = l.value id h ∙ workers-list (λ p. firsts id p.steps) s;
  seconds = l.even id h ∙ (l.accepted id h ∙ workers-list (λ p. seconds id p.steps) s);
  latched = (let e = l.even id h in omega arith);
  loads = loads-below id (get_or values id 0) (read_steps s) (l.loads id h);
}
