use Rattle.std.proofs.Common.{◌≡◌, ◌∙◌, rules, Err, List, map, ap}
use Rattle.stat_defs.specs.declared.reports.WorkerEnd.{WorkerEnd}
use Rattle.text_parts.specs.declared.fault.TextFault.TheVariants.{WriteFault}
use Rattle.stats_commands.specs.Outcome.{status_of_all}
use Rattle.stats_commands.proofs.Replayed.{ended_whole, ended_cut}
use Rattle.stats_commands.proofs.replay.end_as.Goals as goal

pub returns-in-Ok-clause-ends : goal.returns-in-Ok-clause-ends
returns-in-Ok-clause-ends g c =
    ended_whole (g.E.Sink.state c.args.err.now) (g.E.Sink.state c.say.new.err) c.args.report c.in-Ok.field-0 c.args.written c.args.faults.now
    c.status_of_all.result c.in-Ok.is c.requires
    (c.status_of_all.ensures ∙ ap (λ (ends : List WorkerEnd). status_of_all (map (λ (end : WorkerEnd). end.end) ends)) c.items.ensures) c.say.ensures.said

pub returns-in-Err-WriteFault-clause-ends : goal.returns-in-Err-WriteFault-clause-ends
returns-in-Err-WriteFault-clause-ends g c =
    let is : c.args.written ≡ Err WriteFault = search rules in
    ended_cut (g.E.Sink.state c.args.err.now) (g.E.Sink.state c.say-in-Err-WriteFault.new.err) (g.E.Sink.state c.say-in-Err-WriteFault-2.new.err)
    c.args.report c.args.written c.args.faults.now is c.requires c.say-in-Err-WriteFault.ensures.later c.say-in-Err-WriteFault-2.ensures.later
    c.say-in-Err-WriteFault.ensures.said c.say-in-Err-WriteFault-2.ensures.said
