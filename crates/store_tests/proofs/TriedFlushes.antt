-- A report that can be shown can be shown with the flushes that are tried, too.
use Rattle.std.proofs.Common.{◌≡◌, ◌==◌, ◌≤◌, ◌<◌, ◌^◌, ℕ, zero, suc, Bool, true, false, cond, List, [], ◌∷◌, length, map, refl, sym, subst, arith, lit<}
use Rattle.std.specs.Prelude.{sum_by}
use Rattle.std.specs.List.{flat_map, AllByRecursion}
use Rattle.std.specs.List.Sorted.{IsNonDecreasing, IsStrictlyIncreasing}
use Rattle.stat_defs.specs.declared.configs.Config.{Config}
use Rattle.stat_defs.specs.declared.history.Entry.{Entry}
use Rattle.stat_defs.specs.declared.reports.FlushRecord.{FlushRecord}
use Rattle.stat_defs.specs.declared.reports.Report.{Report}
use Rattle.loglinear_bins.specs.declared.place.TheConstants.{MAX_COUNT}
use Rattle.loglinear_bins.specs.Counts.{total}
use Rattle.book_state.specs.declared.limits.TheConstants.{MAX_WORKERS}
use Rattle.book_state.specs.Log.{Legal}
use Rattle.book_state.specs.Stored.{IsLawfulCall}
use Rattle.ledger.specs.Flushes.{flushed}
use Rattle.flush_view.specs.Showing.{IsShowable, HasLawfulParts, values_taken}
use Rattle.flush_view.specs.Views.{view_rules, ends_in}
use Rattle.flush_view.proofs.Showable.{never_falls}
use Rattle.store_tests.specs.TriedFlushes.{tried_part, tried_flushes}

one_of : (b : Bool) (n : ℕ) → cond b n 0 ≤ n
one_of true n = omega arith
one_of false n = omega arith

few_units : (id : ℕ) → flushed id tried_flushes < 2 ^ 63
few_units id =
    let zero_one : cond (0 == id) 1 0 ≤ 1 = one_of (0 == id) 1 in
    let zero_two : cond (0 == id) 2 0 ≤ 2 = one_of (0 == id) 2 in
    let zero_none : cond (0 == id) 0 0 ≤ 0 = one_of (0 == id) 0 in
    let four_three : cond (4 == id) 3 0 ≤ 3 = one_of (4 == id) 3 in
    let four_one : cond (4 == id) 1 0 ≤ 1 = one_of (4 == id) 1 in
    omega (arith, zero_one, zero_two, zero_none, four_three, four_one)

few_values : (id : ℕ) → values_taken id tried_flushes ≤ MAX_COUNT
few_values id = by_case (2 == id) where
  by_case : (b : Bool) → sum_by (λ part. total part.bins) (flat_map (λ part. cond b (part ∷ []) []) (tried_part 70 1 ∷ tried_part 20 4 ∷ [])) ≤ MAX_COUNT
  by_case true = omega arith
  by_case false = omega arith

rising : IsStrictlyIncreasing (9 ∷ 13 ∷ 15 ∷ [])
rising zero short = lit< tt
rising (suc zero) short = lit< tt
rising (suc (suc k)) short = absurd (omega (arith, short))

pub shows_with : (config : Config) (shown report : Report) → IsShowable config shown → report.log ≡ shown.log
    → report.flushes ≡ tried_flushes → IsShowable config report
shows_with config shown report shows log flushes = record {
  legal = subst (λ (l : List Entry). Legal (view_rules config).names config.scopes (ends_in l) l) (sym log) shows.legal;
  workers = subst (λ (l : List Entry). ends_in l ≤ MAX_WORKERS) (sym log) shows.workers;
  calls = subst (λ (l : List Entry). AllByRecursion (λ entry. IsLawfulCall entry.call) l) (sym log) shows.calls;
  rising = subst (λ (fs : List FlushRecord). IsNonDecreasing (map (λ flush. flush.at) fs)) (sym flushes) (never_falls (9 ∷ 13 ∷ 15 ∷ []) rising);
  units = λ id. subst (λ (fs : List FlushRecord). flushed id fs < 2 ^ 63) (sym flushes) (few_units id);
  lawful = subst (λ (fs : List FlushRecord). AllByRecursion HasLawfulParts fs) (sym flushes) ((refl, tt), (tt, ((refl, tt), tt)));
  values = λ id. subst (λ (fs : List FlushRecord). values_taken id fs ≤ MAX_COUNT) (sym flushes) (few_values id);
}
