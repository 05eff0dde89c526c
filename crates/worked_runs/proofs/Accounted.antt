-- The parties of the worked run account for what they did.
use Rattle.std.proofs.Common.{◌≡◌, ◌≢◌, ℕ, zero, suc, ◌+◌, ◌<◌, ◌≤◌, Bool, cond, [], ◌∷◌, drop, take, map, refl, ap, sym, inr, arith}
use Rattle.std.specs.Prelude.{slice_index, slice_index_or}
use Rattle.std.specs.List.Sorted.{IsStrictlyIncreasing, IsNonDecreasing}
use Rattle.std.proofs.lemmas.List.Elements.{All-from_recursion}
use Rattle.stat_defs.specs.declared.history.Entry.{Entry}
use Rattle.stat_defs.specs.declared.reports.Part.{Part}
use Rattle.metric_words.specs.declared.gauge_view.GaugePart.{GaugePart}
use Rattle.metric_words.specs.declared.counter_view.CountKind.TheVariants as count
use Rattle.metric_words.specs.declared.counter_view.CountStep.{CountStep}
use Rattle.metric_words.specs.Counters.{step_of, latches}
use Rattle.metric_words.specs.Gauges.{written, fold_of}
use Rattle.seat_parts.specs.Parts.{total}
use Rattle.loglinear_bins.specs.Counts.{bins_of}
use Rattle.merge_round.specs.Rounds.{ArePartsOf}
use Rattle.book_state.specs.Worked.{ends}
use Rattle.ledger.specs.Segments.{bins_by_worker}
use Rattle.ledger.specs.Flushes.{flushed}
use Rattle.ledger.proofs.Lists.{nil_cons, number_apart}
use Rattle.ledger.proofs.WorkedParts.{bins_of_7, one_part, no_parts, one_nothing, nothing_of_two}
use Rattle.run_ledger.specs.Told.{words_loaded, words_read}
use Rattle.run_ledger.specs.Accounts.{LeftBy, CounterAtEnd, StoreAccounts}
use Rattle.run_ledger.proofs.Grows.{run_grows}
use Rattle.worked_runs.specs.Run.{log_of_run, part_of, first_told, second_told, first_taken, second_taken, last_taken, early_told, late_told, told_of_run, flushes_of_run, plan_of_run, events_of_run, report_of_run, TwoAccount}
use Rattle.worked_runs.proofs.Seats.{first_follows, second_follows, legal, first_did, second_did}

-- the second worker alone has a value, 7 on histogram 0
abbrev ByBoth : ℕ → ℕ → Type 0
ByBoth w id = (2 ≡ w) × (0 ≡ id)

second_has_7 : (w id : ℕ) → bins_by_worker ([] ∷ ((0, 7) ∷ []) ∷ []) w id ≢ [] → ByBoth w id
second_has_7 zero id some = absurd (some refl)
second_has_7 (suc zero) id some = absurd (some refl)
second_has_7 (suc (suc zero)) zero some = (refl, refl)
second_has_7 (suc (suc zero)) (suc id) some =
    absurd (some (ap (λ (t : Bool). bins_of (map (λ (p : ℕ × ℕ). p.1) (cond t ((0, 7) ∷ []) []))) (number_apart 0 (suc id) (λ e. omega (arith, e)))))
second_has_7 (suc (suc (suc w))) id some = absurd (some refl)

abbrev IsHeldPart : Part → Type 0
IsHeldPart part = (part.bins ≡ bins_by_worker ([] ∷ ((0, 7) ∷ []) ∷ []) part.worker part.id.0) × (part.bins ≢ [])

second_part : ArePartsOf (bins_by_worker ([] ∷ ((0, 7) ∷ []) ∷ [])) (part_of 2 ∷ [])
second_part = record {
  held = All-from_recursion IsHeldPart (part_of 2 ∷ []) ((sym bins_of_7, λ e. nil_cons _ [] (sym e)), tt);
  whole = λ w id some. (0, part_of 2, omega arith, refl, second_has_7 w id some);
  order = λ i j d low below. absurd (omega (arith, low, below));
}

pub rise_by : (first last : ℕ) → first < 6 → 6 < last → IsStrictlyIncreasing (first ∷ 6 ∷ last ∷ [])
rise_by first last below above = λ k within. by_place k (omega (arith, within)) where
  by_place : (k : ℕ) → k < 2 → slice_index (first ∷ 6 ∷ last ∷ []) k < slice_index (first ∷ 6 ∷ last ∷ []) (k + 1)
  by_place zero low = below
  by_place (suc zero) low = above
  by_place (suc (suc k)) low = absurd (omega (arith, low))

pub three_rise : IsStrictlyIncreasing (3 ∷ 6 ∷ 11 ∷ [])
three_rise = rise_by 3 11 (omega arith) (omega arith)

two_rise : IsNonDecreasing (4 ∷ 8 ∷ [])
two_rise = λ i j d below within. by_place i j d below within where
  by_place : (i j d : ℕ) → i ≤ j → j < 2 → slice_index_or (4 ∷ 8 ∷ []) i d ≤ slice_index_or (4 ∷ 8 ∷ []) j d
  by_place zero zero d below within = omega arith
  by_place zero (suc zero) d below within = omega arith
  by_place (suc zero) (suc zero) d below within = omega arith
  by_place (suc i) zero d below within = absurd (omega (arith, below))
  by_place (suc (suc i)) (suc zero) d below within = absurd (omega (arith, below))
  by_place i (suc (suc j)) d below within = absurd (omega (arith, within))

-- the seats made steps on counter 1 alone
each_count : (k : ℕ) → k < 3 → CounterAtEnd told_of_run k
each_count zero low = record { value = 0; pending = 0; end = record { firsts = refl; seconds = refl; latched = refl; loads = All-from_recursion _ [] tt }; rises = (omega arith, (omega arith, tt)) }
each_count (suc zero) low = record {
  value = 9;
  pending = 0;
  end = record { firsts = refl; seconds = refl; latched = refl; loads = All-from_recursion (λ n. n ≤ 9) (7 ∷ 3 ∷ []) (omega arith, (omega arith, tt)) };
  rises = (omega arith, (omega arith, tt));
}
each_count (suc (suc zero)) low = record { value = 0; pending = 0; end = record { firsts = refl; seconds = refl; latched = refl; loads = All-from_recursion _ [] tt }; rises = (omega arith, (omega arith, tt)) }
each_count (suc (suc (suc k))) low = absurd (omega (arith, low))

latch_of : ℕ → CountStep
latch_of n = step_of count.Latch 1 0 n

latched : (id : ℕ) → latches id told_of_run.flusher ≡ flushed id flushes_of_run
unfolding latch_of
latched id =
    run_grows.latches id (first_taken.shown ∷ second_taken.shown ∷ []) last_taken.shown (latch_of 4 ∷ latch_of 3 ∷ []) told_of_run.flusher
    (run_grows.latches id (first_taken.shown ∷ []) second_taken.shown (latch_of 3 ∷ []) (latch_of 4 ∷ latch_of 3 ∷ [])
    (run_grows.latches id [] first_taken.shown [] (latch_of 3 ∷ []) refl refl) refl) refl

loaded : (id : ℕ) → words_loaded id told_of_run.reader ≡ words_read id told_of_run.reads
loaded id =
    run_grows.loads id (early_told ∷ []) late_told (step_of count.Load 1 0 3 ∷ []) told_of_run.reader
    (run_grows.loads id [] early_told [] (step_of count.Load 1 0 3 ∷ []) refl refl) refl

word_left : LeftBy 2 (map (λ w. w.gauges) told_of_run.workers) 5
word_left = record {
  before = [];
  behind = [];
  idle = (refl, refl);
  left = record {
    value = refl;
    alone = All-from_recursion (λ (p : GaugePart). total (λ (q : GaugePart). written 2 q.steps) (first_told.gauges ∷ second_told.gauges ∷ []) ≡ written 2 p.steps → 5 ≡ fold_of 2 p.steps)
        (first_told.gauges ∷ second_told.gauges ∷ []) ((λ e. absurd (omega (arith, e))), ((λ e. absurd (omega (arith, e))), tt));
    last = inr (0, first_told.gauges, omega arith, refl, (omega arith, refl));
  };
}

two_parties : StoreAccounts plan_of_run events_of_run told_of_run report_of_run
two_parties = record {
  told_is = record { works = refl; flushes = refl; reads = refl; flush_number = refl; read_number = refl };
  log_is = record { legal = legal; last_sweep = refl; sweeps = refl; flushes_rise = three_rise; reads_rise = two_rise };
  each_worker = (
    record {
      number = refl;
      made = refl;
      before = take 10 log_of_run;
      ended = refl;
      known = ([], refl, All-from_recursion _ [] tt);
      did = first_did;
    },
    (
      record {
        number = refl;
        made = refl;
        before = take 9 log_of_run;
        ended = refl;
        known = (ends 1 ∷ [], refl, All-from_recursion (λ (e : Entry). e.seat ≢ 2) (ends 1 ∷ []) ((λ e. omega (arith, e)), tt));
        did = second_did;
      },
      tt,
    ),
  );
  each_flush = (
    record { behind = drop 4 log_of_run; whole = refl; at = refl; sweep = (refl, refl); counters = refl; gauges = refl; each = refl; parts = one_part ([] ∷ []) one_nothing },
    (
      record { behind = drop 7 log_of_run; whole = refl; at = refl; sweep = (refl, refl); counters = refl; gauges = refl; each = refl; parts = second_part },
      (record { behind = []; whole = refl; at = refl; sweep = (refl, refl); counters = refl; gauges = refl; each = refl; parts = no_parts ([] ∷ ([] ∷ [])) nothing_of_two }, tt),
    ),
  );
  each_read = (
    record { behind = drop 4 log_of_run; whole = refl; at = refl; counters = refl; gauges = refl },
    (record { behind = drop 8 log_of_run; whole = refl; at = refl; counters = refl; gauges = refl }, tt),
  );
  halves = (refl, (refl, tt));
  counters = record { latched = latched; loaded = loaded; counted = each_count; all_latched = (refl, tt) };
  words = (word_left, tt);
}

pub two_account : TwoAccount
two_account = record { parties = two_parties; follow = (first_follows, (second_follows, tt)) }
