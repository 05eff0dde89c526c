use Rattle.std.proofs.Common.{◌≡◌, ◌++◌, ◌∷◌, [], ℕ, suc, ◌+◌, min, List, map, take, drop, length, slice_get, Some, refl, ap, sym, ◌∙◌, subst, arith}
use Rattle.stat_defs.specs.declared.history.Entry.{Entry}
use Rattle.stat_defs.specs.declared.reports.FlushRecord.{FlushRecord}
use Rattle.stat_defs.specs.declared.reports.Report.{Report}
use Rattle.book_state.specs.Log.{replay}
use Rattle.book_state.proofs.Lists.{get_read}
use Rattle.flush_view.specs.Before.{Before, before_of}
use Rattle.flush_view.specs.Views.{view_rules, ends_in, state_before}
use Rattle.flush_view.specs.Walk.{AreRising, state_at}
use Rattle.flush_view.proofs.Befores.{all_rising, mapped_next, rising_next}
use Rattle.flush_view.proofs.Viewing.{taken_to}
use Rattle.flush_view.proofs.walk.befores_in.Goals as goal

pub loop-flush-init : goal.loop-flush-init
loop-flush-init c = record {
  there = record { within = omega arith; lefts = c.new.ensures.items; changes = c.requires.changes };
  report = refl;
  rising = all_rising c.args.report.now.flushes c.requires.showable.rising;
  befores = c.in_ok-befores.ensures.items;
}

pub loop-flush-preserved : goal.loop-flush-preserved
loop-flush-preserved c =
    let config = c.args._config.now in
    let report = c.args.report.now in
    let flushes = report.flushes in
    let k = c.loop-flush.flush-index in
    let flush = c.flush-item.result in
    let holds = c.loop-flush.invariant in
    let one_more : suc k ≡ k + 1 = omega arith in
    let long = ap (λ (l : List Entry). length l) c.items.ensures in
    let least = c.min-place.ensures in
    let place : c.min-place.result ≡ min flush.at (length report.log) = omega (arith, least, long) in
    let at : slice_get flushes k ≡ Some flush =
    subst (λ (l : List FlushRecord). slice_get l k ≡ Some flush) c.items-flushes.ensures
    (get_read c.items-flushes.result.now k flush c.loop-flush-test.true c.flush-item.is) in
    let behind = rising_next flushes k c.loop-flush.walk.at c.min-place.result flush at (omega (arith, place)) holds.rising in
    let went = c.in_ok-go_to.ensures in
    let there = ap (λ (r : Report). r) (ap (λ r. r.now) went.report ∙ holds.report) in
    let shown : FlushRecord → Before = λ f. before_of (state_before (view_rules config).names report.log f) in
    record {
      there = went.there;
      report = there;
      rising = subst (λ (n : ℕ). AreRising n (drop (k + 1) flushes)) (sym went.at)
          (subst (λ (n : ℕ). AreRising c.min-place.result (drop n flushes)) one_more behind.1);
      befores =
          c.in_ok-push.ensures.items
          ∙ (λ i. holds.befores i
          ++ (c.in_ok-copy_of_lefts.ensures ∙ c.deref.ensures.value ∙ went.there.lefts
          ∙ (λ j. before_of (state_at config (there j) (went.at j)))
          ∙ ap (λ (n : ℕ). before_of (state_at config report n)) place
          ∙ ap (λ (l : List Entry). before_of (replay (view_rules config).names (ends_in report.log) l))
          (taken_to flush.at report.log)) i ∷ [])
          ∙ sym (mapped_next shown flushes k flush at)
          ∙ ap (λ (n : ℕ). map shown (take n flushes)) one_more;
    }
