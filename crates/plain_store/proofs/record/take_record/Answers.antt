use Rattle.std.proofs.Common.{rules, refl, List, ◌∷◌, ◌++◌, [], sym, subst}
use Rattle.stat_defs.specs.declared.reports.Part.{Part}
use Rattle.merge_round.specs.Halves.{bins_by}
use Rattle.merge_round.specs.Rounds.{worker_values, ArePartsOf}
use Rattle.plain_store.proofs.record.take_record.Goals as goal

pub returns-clause-shows : goal.returns-clause-shows
returns-clause-shows c = let sums = c.args.sums.now in record {
  place = refl;
  deltas = search rules;
  gauges = search rules;
  parts = subst (λ (list : List Part). ArePartsOf (λ worker. bins_by (worker_values worker (sums.parents.round ++ (1, sums.half) ∷ []))) list) (sym c.of-3.ensures) c.in_ok-parts.ensures.parts;
}
