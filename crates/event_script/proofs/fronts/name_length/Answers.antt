use Rattle.std.proofs.Common.{◌∙◌, sym, arith}
use Rattle.stat_defs.specs.Names.{is_name_byte}
use Rattle.event_script.proofs.LaneRuns.{run_of}
use Rattle.event_script.proofs.fronts.name_length.Goals as goal

pub returns-else-is_name_byte : goal.returns-else-is_name_byte
returns-else-is_name_byte c =
    run_of is_name_byte c.args.text.now c.loop-end.end c.loop-end.invariant.0 c.loop-end.invariant.1 (λ _. sym c.is_name_byte.ensures ∙ c.if-is_name_byte.false)

pub returns-after-loop-end : goal.returns-after-loop-end
returns-after-loop-end c =
    run_of is_name_byte c.args.text.now c.loop-end.end c.loop-end.invariant.0 c.loop-end.invariant.1 (λ more. absurd (omega arith))
