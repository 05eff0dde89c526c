use Rattle.std.proofs.Common.{ℕ, ◌+◌, ◌++◌, List, ap, ◌∙◌, subst, arith}
use Rattle.std.specs.List.{enumerate_from}
use Rattle.std.proofs.lemmas.Result.{err_from_is_err_and}
use Rattle.stats_io.specs.Push.{WritesFront, WritesWhole}
use Rattle.text_parts.proofs.Gathering.{gathered_on}
use Rattle.text_parts.proofs.Lines.{line_put, lines_stopped, lines_cut, lines_whole}
use Rattle.flush_view.specs.Output.{worker_line}
use Rattle.report_text.proofs.Numbered.{numbered_within, numbered_at, numbered_past}
use Rattle.report_text.proofs.workers.write_workers.Goals as goal

pub returns-in_err-put_worker-clause-answer : goal.returns-in_err-put_worker-clause-answer
returns-in_err-put_worker-clause-answer g c =
    let p = err_from_is_err_and c.from_residual.result c.from_residual.ensures.1 in
    rw (p.1, p.2)
    (lines_stopped worker_line (enumerate_from 1 c.args.lists.now) c.loop-at.at _ _ _ c.loop-at.invariant.gathered)

pub returns-in_err-push_full-clause-answer : goal.returns-in_err-push_full-clause-answer
returns-in_err-push_full-clause-answer g c =
    let p = err_from_is_err_and c.from_residual-in_err-push_full.result c.from_residual-in_err-push_full.ensures.1 in
    rw (p.1, p.2) (lines_cut worker_line (enumerate_from 1 c.args.lists.now) (c.loop-at.at + 1) _ _ _ _
    (line_put worker_line (enumerate_from 1 c.args.lists.now) c.loop-at.at
    (c.loop-at.at + 1, c.index-lists-at.result) _ _ _ _
    (numbered_within c.args.lists.now c.loop-at.at c.loop-at-test.true)
    (numbered_at c.args.lists.now c.loop-at.at c.index-lists-at.result c.loop-at-test.true c.index-lists-at.is)
    c.loop-at.invariant.gathered
    (c.in_ok-put_worker.ensures ∙ ap (λ v. c.loop-at.text.items ++ worker_line (c.loop-at.at + 1, v)) c.items.ensures))
    c.in_err-push_full.ensures.front)

pub loop-at-preserved : goal.loop-at-preserved
loop-at-preserved g c = record {
  gathered = gathered_on _ _ _ _ _ _
      (line_put worker_line (enumerate_from 1 c.args.lists.now) c.loop-at.at
      (c.loop-at.at + 1, c.index-lists-at.result) _ _ _ _
      (numbered_within c.args.lists.now c.loop-at.at c.loop-at-test.true)
      (numbered_at c.args.lists.now c.loop-at.at c.index-lists-at.result c.loop-at-test.true c.index-lists-at.is)
      c.loop-at.invariant.gathered
      (c.in_ok-put_worker.ensures ∙ ap (λ v. c.loop-at.text.items
      ++ worker_line (c.loop-at.at + 1, v)) c.items.ensures))
      c.in_ok-push_full.ensures.whole;
  later = omega (arith, c.loop-at.invariant.later, c.in_ok-push_full.ensures.later);
}

pub returns-in_err-push_all-clause-answer : goal.returns-in_err-push_all-clause-answer
returns-in_err-push_all-clause-answer g c =
    let p = err_from_is_err_and c.from_residual-in_err-push_all.result c.from_residual-in_err-push_all.ensures.1 in
    rw (p.1, p.2)
    (lines_cut worker_line (enumerate_from 1 c.args.lists.now) c.loop-at.at _ _ _ _ c.loop-at.invariant.gathered
    (subst (λ (l : List ℕ). WritesFront (g.O.Sink.state c.loop-at.out) (g.O.Sink.state c.push_all.new.out) l)
    c.deref.ensures.value c.in_err-push_all.ensures.front))

pub returns-clause-answer : goal.returns-clause-answer
returns-clause-answer g c =
    lines_whole worker_line (enumerate_from 1 c.args.lists.now) c.loop-at.at _ _ _ _
    (numbered_past c.args.lists.now c.loop-at.at (omega (arith, c.loop-at-test.false))) c.loop-at.invariant.gathered
    (subst (λ (l : List ℕ). WritesWhole (g.O.Sink.state c.loop-at.out) (g.O.Sink.state c.push_all.new.out) l)
    c.deref.ensures.value c.in_ok-push_all.ensures.whole)
