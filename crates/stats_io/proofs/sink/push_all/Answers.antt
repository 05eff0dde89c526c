use Rattle.std.proofs.Common.{rules, ◌∙◌}
use Rattle.std.proofs.lemmas.List.{take_rest}
use Rattle.stats_io.proofs.Pieces.{appends_more}
use Rattle.stats_io.proofs.sink.push_all.Goals as goal

pub loop-at-preserved : goal.loop-at-preserved
loop-at-preserved g c = record {
  within = search rules;
  so_far = appends_more _ _ _ c.args.bytes.now c.loop-at.at c.in-Took.count c.loop-at.invariant.so_far (rw take_rest at c.in-Took.ensures.bytes);
  kept = c.in-Took.ensures.kept ∙ c.loop-at.invariant.kept;
}
