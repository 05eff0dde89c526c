-- Each flush fits its sweep, and shows what it took.
use Rattle.std.proofs.Common.{◌≡◌, ◌==◌, ℕ, zero, suc, cond, Bool, true, false, Option, Some, List, [], ◌∷◌, ◌++◌, map, length, take, slice_get, refl, ap, sym, ◌∙◌, subst, arith}
use Rattle.std.specs.Prelude.{option_map}
use Rattle.std.proofs.lemmas.List.{take_at, length-map, length_push, append_assoc}
use Rattle.stat_defs.specs.declared.history.Entry.{Entry}
use Rattle.stat_defs.specs.declared.ids.Kind.{Kind}
use Rattle.stat_defs.specs.declared.ids.Kind.TheVariants.{Counter, Gauge}
use Rattle.stat_defs.specs.declared.reports.FlushRecord.{FlushRecord}
use Rattle.book_state.specs.State.{NameRules}
use Rattle.book_state.specs.Log.{replay}
use Rattle.ledger.specs.Flushes.{Fits, FitAll, ids_made, ids_not_gone, counters_shown, id_of_delta, id_of_reading}
use Rattle.ledger.specs.Lists.{EachNumbered}
use Rattle.ledger.specs.Segments.{segments_at}
use Rattle.ledger.specs.Work.{Work, Recording, recordings}
use Rattle.ledger.proofs.Names.{kinds}
use Rattle.run_ledger.specs.Told.{FlushTold, WorkerTold, taken_by, values_in, halves_of}
use Rattle.run_ledger.specs.Accounts.{FlushAccounts, listed}
use Rattle.ledger.proofs.Members.{each_mapped, each_of}
use Rattle.run_ledger.proofs.Halves.{segments_here}

get_here : {X : Type 0} (front : List X) (x : X) (back : List X) (n : ℕ) → n ≡ length front → slice_get (front ++ x ∷ back) n ≡ Some x
get_here [] x back zero e = refl
get_here [] x back (suc n) e = absurd (omega (arith, e))
get_here (y ∷ front) x back zero e = absurd (omega (arith, e))
get_here (y ∷ front) x back (suc n) e = get_here front x back n (omega (arith, e))

module _ (rules : NameRules) (workers : ℕ) (log : List Entry) where
  -- what stands before an entry of the log that was found
  pub found_before : (found : List Entry) (rest : List Entry) (at : ℕ) → at ≡ length found → log ≡ found ++ rest → take at log ≡ found
  found_before found rest at is whole = ap (λ (l : List Entry). take at l) whole ∙ take_at found rest at (sym is)

  pub listed_before : (kind : Kind) (found rest : List Entry) (at : ℕ) → at ≡ length found → log ≡ found ++ rest
      → listed kind (replay rules workers found) ≡ ids_not_gone kind (replay rules workers (take at log))
  listed_before kind found rest at is whole =
      kinds kind (replay rules workers found)
      ∙ ap (λ (l : List Entry). ids_not_gone kind (replay rules workers l)) (sym (found_before found rest at is whole))

  module _ (last : Bool) (told : FlushTold) (is : FlushAccounts rules workers log last told) where
    abbrev behind : List Entry
    behind = told.sweep ∷ is.behind

    number : length (taken_by told) ≡ workers
    number = length-map told.halves values_in ∙ is.each

    counters : (l : Bool) → l ≡ last → map id_of_delta told.shown.deltas ≡ counters_shown l (replay rules workers (take told.shown.at log)) (replay rules workers log)
    counters true e = is.counters ∙ ap (λ (l : Bool). cond l (ids_made Counter (replay rules workers log)) (listed Counter (replay rules workers told.found))) (sym e)
    counters false e =
        is.counters
        ∙ ap (λ (l : Bool). cond l (ids_made Counter (replay rules workers log)) (listed Counter (replay rules workers told.found))) (sym e)
        ∙ listed_before Counter told.found behind told.shown.at is.at is.whole

    pub fits : Fits rules log last (taken_by told) told.shown
    fits = record {
      sweep = ap (λ (o : Option Entry). option_map (λ (e : Entry). e.call) o)
          (ap (λ (l : List Entry). slice_get l told.shown.at) is.whole ∙ get_here told.found told.sweep is.behind told.shown.at is.at)
          ∙ ap (λ c. Some c) is.sweep.0;
      deltas = subst (λ (n : ℕ). map id_of_delta told.shown.deltas ≡ counters_shown last (replay rules n (take told.shown.at log)) (replay rules n log)) (sym number) (counters last refl);
      gauges = subst (λ (n : ℕ). map id_of_reading told.shown.gauges ≡ ids_not_gone Gauge (replay rules n (take told.shown.at log))) (sym number)
          (is.gauges ∙ listed_before Gauge told.found behind told.shown.at is.at is.whole);
      parts = is.parts;
    }

  module _ (workers_told : List WorkerTold) (flushes : List FlushTold) (same : length workers_told ≡ workers)
      (each : EachNumbered (λ k flush. FlushAccounts rules workers log (suc k == length flushes) flush) 0 flushes)
      (taken : EachNumbered (λ w worker. values_in (halves_of w flushes) ≡ recordings worker.work) 1 workers_told) where
    abbrev shown : List FlushRecord
    shown = map (λ (flush : FlushTold). flush.shown) flushes

    abbrev works : List Work
    works = map (λ (worker : WorkerTold). worker.work) workers_told

    each_fits : (k : ℕ) (before : List FlushTold) (rest : List FlushTold) → k ≡ length before → flushes ≡ before ++ rest
        → EachNumbered (λ n flush. FlushAccounts rules workers log (suc n == length flushes) flush) k rest
        → EachNumbered (λ n flush. Fits rules log (suc n == length shown) (segments_at n 1 works shown) flush.shown) k rest
    each_fits k before [] at are all = tt
    each_fits k before (flush ∷ rest) at are all =
        let parts = each_of _ (λ f. _) 0 flushes (λ n f is. is.parts) each in
        let segs : segments_at k 1 works shown ≡ taken_by flush =
        ap (λ (n : ℕ). segments_at n 1 works shown) at
        ∙ segments_here flushes parts before flush rest are workers_told (same ∙ sym (number (suc k == length flushes) flush all.0)) taken in (
          subst (λ (n : ℕ). Fits rules log (suc k == n) (segments_at k 1 works shown) flush.shown) (sym (length-map flushes (λ (f : FlushTold). f.shown)))
              (subst (λ (l : List (List Recording)). Fits rules log (suc k == length flushes) l flush.shown) (sym segs) (fits (suc k == length flushes) flush all.0)),
          each_fits (suc k) (before ++ flush ∷ []) rest (omega (arith, at, length_push before flush)) (are ∙ sym (append_assoc before (flush ∷ []) rest)) all.1,
        )

    pub all_fit : FitAll rules log works shown
    all_fit = each_mapped (λ (flush : FlushTold). flush.shown) (λ n flush. Fits rules log (suc n == length shown) (segments_at n 1 works shown) flush) 0 flushes
        (each_fits 0 [] flushes refl refl each)
