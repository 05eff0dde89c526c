use Rattle.std.proofs.Common.{ℕ, ◌+◌, List, subst, arith}
use Rattle.std.proofs.lemmas.Result.{err_from_is_err_and}
use Rattle.stats_io.specs.Push.{WritesFront}
use Rattle.text_parts.proofs.Gathering.{gathered_on}
use Rattle.text_parts.proofs.Lines.{line_put, lines_stopped, lines_cut}
use Rattle.statsd_text.specs.Statsd.{gauge_line}
use Rattle.statsd_text.proofs.write_gauges.Goals as goal

pub returns-in_err-put_gauge-clause-answer : goal.returns-in_err-put_gauge-clause-answer
returns-in_err-put_gauge-clause-answer g c =
    let p = err_from_is_err_and c.from_residual.result c.from_residual.ensures.1 in
    rw (p.1, p.2)
    (lines_stopped (gauge_line c.args.prefix.now) c.args.rows.now c.loop-row.row-index _ _ _
    c.loop-row.invariant.gathered)

pub returns-in_err-push_full-clause-answer : goal.returns-in_err-push_full-clause-answer
returns-in_err-push_full-clause-answer g c =
    let p = err_from_is_err_and c.from_residual-in_err-push_full.result c.from_residual-in_err-push_full.ensures.1 in
    rw (p.1, p.2) (lines_cut (gauge_line c.args.prefix.now) c.args.rows.now (c.loop-row.row-index + 1) _ _ _ _
    (line_put _ _ _ c.row-item.result _ _ _ _ c.loop-row-test.true c.row-item.is c.loop-row.invariant.gathered
    c.in_ok-put_gauge.ensures)
    c.in_err-push_full.ensures.front)

pub loop-row-preserved : goal.loop-row-preserved
loop-row-preserved g c = record {
  gathered = gathered_on _ _ _ _ _ _
      (line_put _ _ _ c.row-item.result _ _ _ _ c.loop-row-test.true c.row-item.is c.loop-row.invariant.gathered
      c.in_ok-put_gauge.ensures)
      c.in_ok-push_full.ensures.whole;
  later = omega (arith, c.loop-row.invariant.later, c.in_ok-push_full.ensures.later);
}

pub returns-in_err-push_all-clause-answer : goal.returns-in_err-push_all-clause-answer
returns-in_err-push_all-clause-answer g c =
    let p = err_from_is_err_and c.from_residual-in_err-push_all.result c.from_residual-in_err-push_all.ensures.1 in
    rw (p.1, p.2)
    (lines_cut (gauge_line c.args.prefix.now) c.args.rows.now c.loop-row.row-index _ _ _ _ c.loop-row.invariant.gathered
    (subst (λ (l : List ℕ). WritesFront (g.O.Sink.state c.loop-row.out) (g.O.Sink.state c.push_all.new.out) l)
    c.deref.ensures.value c.in_err-push_all.ensures.front))
