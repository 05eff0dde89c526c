-- Units that grow at the end.
use Rattle.std.proofs.Common.{◌≡◌, ℕ, zero, suc, ◌+◌, ◌<◌, List, [], ◌∷◌, ◌++◌, length, arith}
use Rattle.std.specs.Prelude.{sum_by}
use Rattle.std.proofs.lemmas.List.Sums.{sum_by-cons, sum_by_push}
use Rattle.stat_defs.specs.declared.events.Event.{Event}
use Rattle.stat_defs.specs.declared.history.Verdict.{Verdict}
use Rattle.stat_defs.specs.declared.reports.FlushRecord.{FlushRecord}
use Rattle.book_state.specs.Step.{change_at}
use Rattle.ledger.specs.Work.{Work, units_in, units_by, units_of}
use Rattle.ledger.specs.Flushes.{flushed, flushed_in}
use Rattle.ledger.specs.Laws.{with_event}

sum_change : {X : Type 0} (g : X → ℕ) (f : X → X) (n : ℕ) → ((x : X) → g (f x) ≡ g x + n) → (at : ℕ) (xs : List X) → at < length xs
    → sum_by g (change_at f at xs) ≡ sum_by g xs + n
sum_change g f n more at [] below = absurd (omega (arith, below))
sum_change g f n more zero (x ∷ xs) below = omega (arith, sum_by-cons g (f x) xs, sum_by-cons g x xs, more x)
sum_change g f n more (suc at) (x ∷ xs) below =
    omega (arith, sum_by-cons g x (change_at f at xs), sum_by-cons g x xs, sum_change g f n more at xs (omega (arith, below)))

pub units_event : (id at : ℕ) (told : Event × Verdict) (workers : List Work) → at < length workers
    → units_of id (with_event at told workers) ≡ units_of id workers + units_in id told
units_event id at told workers below =
    sum_change (units_by id) (λ (work : Work). work ++ told ∷ []) (units_in id told) (λ work. sum_by_push (units_in id) work told) at workers below

pub units_flush : (id : ℕ) (flushes : List FlushRecord) (flush : FlushRecord) → flushed id (flushes ++ flush ∷ []) ≡ flushed id flushes + flushed_in id flush
units_flush id flushes flush = sum_by_push (flushed_in id) flushes flush
