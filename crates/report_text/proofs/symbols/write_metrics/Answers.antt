use Rattle.std.proofs.Common.{ℕ, ◌+◌, List, subst, arith}
use Rattle.std.specs.Borrow.{Bor}
use Rattle.std.proofs.lemmas.Result.{err_from_is_err_and}
use Rattle.stat_defs.specs.declared.metrics.Metric.{Metric}
use Rattle.stats_io.specs.Push.{WritesFront}
use Rattle.text_parts.proofs.Gathering.{gathered_on}
use Rattle.text_parts.proofs.Lines.{line_put, lines_stopped, lines_cut}
use Rattle.flush_view.specs.Symbols.{symbol_line}
use Rattle.report_text.proofs.symbols.write_metrics.Goals as goal

abbrev line : Bor Metric → List ℕ
line metric = symbol_line metric.now

pub returns-in_err-put_metric-clause-answer : goal.returns-in_err-put_metric-clause-answer
returns-in_err-put_metric-clause-answer g c =
    let p = err_from_is_err_and c.from_residual.result c.from_residual.ensures.1 in
    rw (p.1, p.2)
    (lines_stopped line c.args.metrics.now c.loop-metric.metric-index _ _ _ c.loop-metric.invariant.gathered)

pub returns-in_err-push_full-clause-answer : goal.returns-in_err-push_full-clause-answer
returns-in_err-push_full-clause-answer g c =
    let p = err_from_is_err_and c.from_residual-in_err-push_full.result c.from_residual-in_err-push_full.ensures.1 in
    rw (p.1, p.2) (lines_cut line c.args.metrics.now (c.loop-metric.metric-index + 1) _ _ _ _
    (line_put line c.args.metrics.now c.loop-metric.metric-index c.metric-item.result _ _ _ _ c.loop-metric-test.true
    c.metric-item.is
    c.loop-metric.invariant.gathered c.in_ok-put_metric.ensures)
    c.in_err-push_full.ensures.front)

pub loop-metric-preserved : goal.loop-metric-preserved
loop-metric-preserved g c = record {
  gathered = gathered_on _ _ _ _ _ _
      (line_put line c.args.metrics.now c.loop-metric.metric-index c.metric-item.result _ _ _ _ c.loop-metric-test.true
      c.metric-item.is
      c.loop-metric.invariant.gathered c.in_ok-put_metric.ensures)
      c.in_ok-push_full.ensures.whole;
  later = omega (arith, c.loop-metric.invariant.later, c.in_ok-push_full.ensures.later);
}

pub returns-in_err-push_all-clause-answer : goal.returns-in_err-push_all-clause-answer
returns-in_err-push_all-clause-answer g c =
    let p = err_from_is_err_and c.from_residual-in_err-push_all.result c.from_residual-in_err-push_all.ensures.1 in
    rw (p.1, p.2) (lines_cut line c.args.metrics.now c.loop-metric.metric-index _ _ _ _ c.loop-metric.invariant.gathered
    (subst (λ (l : List ℕ). WritesFront (g.O.Sink.state c.loop-metric.out) (g.O.Sink.state c.push_all.new.out) l)
    c.deref.ensures.value c.in_err-push_all.ensures.front))
