use Rattle.std.proofs.Common.{Bool, not, arith, refl}
use Rattle.std.proofs.lemmas.List.Filters.{length-filter_both}
use Rattle.std.proofs.lemmas.List.Sums.{length-filter}
use Rattle.stat_defs.specs.declared.history.Verdict.{Verdict}
use Rattle.flush_view.specs.Output.{took_effect}
use Rattle.report_text.proofs.workers.dropped.Goals as goal

pub returns : goal.returns
returns c =
    let xs = c.args.verdicts.now in
    let drops : Verdict → Bool = λ v. not (took_effect v) in
    omega (
      arith,
      c.requires,
      length-filter took_effect xs,
      length-filter drops xs,
      length-filter_both took_effect drops (λ v. refl) xs,
    )
