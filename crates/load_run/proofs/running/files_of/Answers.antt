use Rattle.std.proofs.Common.{◌+◌, rules, arith}
use Rattle.std.proofs.lemmas.List.FromFn.{map-range_with_len_more}
use Rattle.load_scripts.specs.Load.{script_text}
use Rattle.worker_run.specs.declared.given.Given.TheVariants.{Opened}
use Rattle.load_run.proofs.running.files_of.Goals as goal

pub loop-at-preserved : goal.loop-at-preserved
loop-at-preserved c =
    rw (map-range_with_len_more (λ script. Opened (script_text script c.args.events)) 1 c.loop-at.at (c.loop-at.at + 1)
    (omega arith)) (search rules)
