use Rattle.std.proofs.Common.{◌∙◌, sym, arith}
use Rattle.stat_defs.specs.Names.{is_label_byte}
use Rattle.event_script.proofs.LaneRuns.{run_of}
use Rattle.event_script.proofs.fronts.label_length.Goals as goal

pub returns-else-is_label_byte : goal.returns-else-is_label_byte
returns-else-is_label_byte c =
    run_of is_label_byte c.args.text.now c.loop-end.end c.loop-end.invariant.0 c.loop-end.invariant.1 (λ _. sym c.is_label_byte.ensures ∙ c.if-is_label_byte.false)

pub returns-after-loop-end : goal.returns-after-loop-end
returns-after-loop-end c =
    run_of is_label_byte c.args.text.now c.loop-end.end c.loop-end.invariant.0 c.loop-end.invariant.1 (λ more. absurd (omega arith))
