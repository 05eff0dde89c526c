use Rattle.std.proofs.Common.{ℕ, ◌<◌, length, List, take, get_or, ap, sym, ◌∙◌, arith}
use Rattle.std.proofs.lemmas.List.{take_more}
use Rattle.std.proofs.Math.ListN.{length-set}
use Rattle.std.proofs.lemmas.List.Elements.{All-get_or}
use Rattle.book_state.specs.declared.metrics.MetricRow.{MetricRow}
use Rattle.book_state.specs.Step.{change_at}
use Rattle.book_state.specs.Metrics.{lose, change_all}
use Rattle.book_state.proofs.Lists.{set_read}
use Rattle.book_state.proofs.Changing.{change_push}
use Rattle.book_state.proofs.metrics.lose_each.Goals as goal

pub loop-id-preserved : goal.loop-id-preserved
loop-id-preserved c = record {
  same = simp length-set c.loop-id.invariant.same;
  done =
      let id = get_or c.args.ids.now c.loop-id.id-index 0 in
      let at : id < length c.args.rows.now.items = All-get_or (λ (id : ℕ). id < length c.args.rows.now.items) c.args.ids.now c.loop-id.id-index 0 c.loop-id-test.true c.requires in
      let within : id < length c.loop-id.rows.items = omega (arith, at, c.loop-id.invariant.same) in
      set_read (lose c.args.tag) c.loop-id.rows.items id c.index_mut.result.now c.lose_bearer.new.row within c.index_mut.ensures.value c.lose_bearer.ensures
      ∙ (ap (λ (rows : List MetricRow). change_at (lose c.args.tag) id rows) c.loop-id.invariant.done
      ∙ (sym (change_push (lose c.args.tag) (take c.loop-id.id-index c.args.ids.now) id c.args.rows.now.items)
      ∙ ap (λ (ids : List ℕ). change_all (lose c.args.tag) ids c.args.rows.now.items) (sym (take_more c.args.ids.now c.loop-id.id-index 0 c.loop-id-test.true))));
}
