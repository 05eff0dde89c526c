use Rattle.std.proofs.Common.{ℕ, ◌++◌, List, subst, arith}
use Rattle.std.specs.Option.{option_map}
use Rattle.std.proofs.lemmas.Result.{err_from_is_err_and}
use Rattle.stats_io.specs.Push.{WritesFront}
use Rattle.text_parts.proofs.Gathering.{gathered_on, gathered_put, stopped_within, cut_within}
use Rattle.prom_text.specs.Rows.{member_of, member_text}
use Rattle.prom_text.proofs.Steps.{rest_next}
use Rattle.prom_text.proofs.write_rows.Goals as goal

pub returns-in_err-put_member-clause-answer : goal.returns-in_err-put_member-clause-answer
returns-in_err-put_member-clause-answer g c =
    let p = err_from_is_err_and c.from_residual.result c.from_residual.ensures.1 in
    rw (p.1, p.2) (stopped_within _ _ _ _ _ _ c.loop-row.invariant.gathered c.loop-row.invariant.rest)

pub returns-in_err-push_full-clause-answer : goal.returns-in_err-push_full-clause-answer
returns-in_err-push_full-clause-answer g c =
    let p = err_from_is_err_and c.from_residual-in_err-push_full.result c.from_residual-in_err-push_full.ensures.1 in
    rw (p.1, p.2) (cut_within _ _ _ _ _ _ _
    (gathered_put _ _ _ _ _ _ c.loop-row.invariant.gathered c.in_ok-put_member.ensures)
    (rest_next (option_map member_of c.loop-row.before) c.args.rows.now c.loop-row.row-index c.row-item.result _ _ c.loop-row-test.true
    c.row-item.is c.loop-row.invariant.rest)
    c.in_err-push_full.ensures.front)

pub loop-row-preserved : goal.loop-row-preserved
loop-row-preserved g c = record {
  done = c.loop-row.invariant.done ++ member_text (option_map member_of c.loop-row.before) (member_of c.row-item.result);
  gathered = gathered_on _ _ _ _ _ _
      (gathered_put _ _ _ _ _ _ c.loop-row.invariant.gathered c.in_ok-put_member.ensures) c.in_ok-push_full.ensures.whole;
  rest = rest_next (option_map member_of c.loop-row.before) c.args.rows.now c.loop-row.row-index c.row-item.result _ _ c.loop-row-test.true
      c.row-item.is c.loop-row.invariant.rest;
  later = omega (arith, c.loop-row.invariant.later, c.in_ok-push_full.ensures.later);
}

pub returns-in_err-push_all-clause-answer : goal.returns-in_err-push_all-clause-answer
returns-in_err-push_all-clause-answer g c =
    let p = err_from_is_err_and c.from_residual-in_err-push_all.result c.from_residual-in_err-push_all.ensures.1 in
    rw (p.1, p.2) (cut_within _ _ _ _ _ _ _ c.loop-row.invariant.gathered c.loop-row.invariant.rest
    (subst (λ (l : List ℕ). WritesFront (g.O.Sink.state c.loop-row.out) (g.O.Sink.state c.push_all.new.out) l)
    c.deref.ensures.value c.in_err-push_all.ensures.front))
