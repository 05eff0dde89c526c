use Rattle.std.proofs.Common.{◌≡◌, ◌≤◌, ◌+◌, ◌∙◌, List, [], ap, arith, drop, sym, subst}
use Rattle.std.proofs.lemmas.List.Elements.{All-get_or}
use Rattle.std.proofs.lemmas.List.Sums.{fold_more, sum_by-drop_more}
use Rattle.stat_defs.specs.declared.bins.BinCount.{BinCount}
use Rattle.stat_defs.specs.declared.views.HistRow.{HistRow}
use Rattle.text_parts.specs.Histograms.{AreHistograms}
use Rattle.loglinear_bins.specs.Counts.{IsBinList, merged, total}
use Rattle.loglinear_bins.proofs.Adding.{total-merged}
use Rattle.load_text.proofs.bins.all_bins.Goals as goal

pub merge-requires : goal.merge-requires
merge-requires c =
    let row = c.row-item.result in let rows = c.args.rows.now in let i = c.loop-row.row-index in
    let shown = subst AreHistograms (sym c.row-item.is) (All-get_or AreHistograms rows i row (omega arith) c.requires.histograms) in
    let is = c.in_ok-bins.ensures.same (subst IsBinList (sym c.items.ensures) shown.cumulative.bins) ∙ c.items.ensures in
    let rest = sum_by-drop_more (λ (r : HistRow). total r.cumulative) rows i row (omega arith) in
    let same = ap (λ (r : HistRow). total r.cumulative) c.row-item.is in
    omega (arith, rest, same, ap total is, c.loop-row.invariant.room)

pub loop-row-preserved : goal.loop-row-preserved
loop-row-preserved c =
    let row = c.row-item.result in let rows = c.args.rows.now in let i = c.loop-row.row-index in
    let shown = subst AreHistograms (sym c.row-item.is) (All-get_or AreHistograms rows i row (omega arith) c.requires.histograms) in
    let is = c.in_ok-bins.ensures.same (subst IsBinList (sym c.items.ensures) shown.cumulative.bins) ∙ c.items.ensures
    ∙ ap (λ (r : HistRow). r.cumulative) c.row-item.is in
    let rest = sum_by-drop_more (λ (r : HistRow). total r.cumulative) rows i row (omega arith) in
    let step = λ (bins : List BinCount) (r : HistRow). merged bins r.cumulative in
    let more = total-merged c.loop-row.all c.in_ok-bins.bins in
    record {
      bins = c.merge.ensures ∙ (λ k. merged (c.loop-row.invariant.bins k) (is k)) ∙ sym (fold_more step [] rows i row (omega arith));
      room = omega (arith, rest, more, ap total is, ap total c.merge.ensures, c.loop-row.invariant.room);
    }
