use Rattle.std.proofs.Common.{rules, arith}
use Rattle.load_report.proofs.ScriptsSoFar.{no_scripts, room_for_script, one_script_more}
use Rattle.load_report.proofs.applying.apply_scripts.Goals as goal

pub loop-before-init : goal.loop-before-init
loop-before-init c = no_scripts c.args.events c.args.store.now c.new-verdicts.result.items c.new-verdicts.ensures.items

pub apply_script-requires-clause-room : goal.apply_script-requires-clause-room
apply_script-requires-clause-room c =
    room_for_script c.args.scripts c.loop-before.before c.args.events c.args.store.now c.loop-before.store
    c.loop-before.verdicts.items c.loop-before.invariant (omega arith) c.requires.room

pub loop-before-preserved : goal.loop-before-preserved
loop-before-preserved c =
    one_script_more c.loop-before.before c.args.events c.args.store.now c.loop-before.store c.apply_script.new.store
    c.loop-before.verdicts.items c.push.new.self.items _ c.loop-before.invariant c.in_ok-told.ensures (search rules)
