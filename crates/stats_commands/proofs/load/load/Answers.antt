use Rattle.std.proofs.Common.{◌≢◌, rules, refl}
use Rattle.boot_load.specs.declared.fault.LoadFault.TheVariants.{NoMemory}
use Rattle.load_report.specs.LoadReport.{IsLoadOf}
use Rattle.stats_commands.specs.World.{world, sight}
use Rattle.stats_commands.proofs.Summed.{told_summary, summary_refused, summary_unstarted}
use Rattle.stats_commands.proofs.load.load.Goals as goal

pub returns-in-Ok-record : goal.returns-in-Ok-record
returns-in-Ok-record g c =
    let see = sight g.K.PatternMaker.memory g.F.Shelf.holds g.F.Shelf.state g.F.S.Source.state g.O.Sink.state g.E.Sink.state in
    let before = world c.args.maker.now c.args.shelf.now c.args.out.now c.args.err.now in
    let after = world c.load.new.maker c.load.new.shelf c.tell_summary.new.out c.tell_summary.new.err in
    told_summary see before after IsLoadOf c.args.asked.scripts c.args.asked.events c.in-Ok.boot c.in-Ok-record.recorded c.tell_summary.result
    c.in-Ok.ensures.loads (c.in-Ok.ensures.usual refl) c.in-Ok-record.ensures c.tell_summary.ensures.report c.tell_summary.ensures.boot_faults
    c.tell_summary.ensures.told

pub returns-in-Err-record : goal.returns-in-Err-record
returns-in-Err-record g c =
    let see = sight g.K.PatternMaker.memory g.F.Shelf.holds g.F.Shelf.state g.F.S.Source.state g.O.Sink.state g.E.Sink.state in
    let before = world c.args.maker.now c.args.shelf.now c.args.out.now c.args.err.now in
    let after = world c.load.new.maker c.load.new.shelf c.args.out.now c.give_up.new.err in
    summary_unstarted see before after IsLoadOf c.args.asked.scripts c.args.asked.events c.give_up.result c.give_up.ensures.outcome
    (c.in-Ok.ensures.usual refl) refl c.give_up.ensures.said

pub returns-in-Err-NoMemory : goal.returns-in-Err-NoMemory
returns-in-Err-NoMemory g c =
    let see = sight g.K.PatternMaker.memory g.F.Shelf.holds g.F.Shelf.state g.F.S.Source.state g.O.Sink.state g.E.Sink.state in
    let before = world c.args.maker.now c.args.shelf.now c.args.out.now c.args.err.now in
    let after = world c.load.new.maker c.load.new.shelf c.args.out.now c.give_up-in-Err-NoMemory.new.err in
    summary_unstarted see before after IsLoadOf c.args.asked.scripts c.args.asked.events c.give_up-in-Err-NoMemory.result c.give_up-in-Err-NoMemory.ensures.outcome
    (c.load.ensures.usual refl) refl c.give_up-in-Err-NoMemory.ensures.said

pub returns-in-Err : goal.returns-in-Err
returns-in-Err g c =
    let see = sight g.K.PatternMaker.memory g.F.Shelf.holds g.F.Shelf.state g.F.S.Source.state g.O.Sink.state g.E.Sink.state in
    let before = world c.args.maker.now c.args.shelf.now c.args.out.now c.args.err.now in
    let after = world c.load.new.maker c.load.new.shelf c.args.out.now c.refuse_boot.new.err in
    let has : c.in-Err.fault ≢ NoMemory = search rules in
    summary_refused see before after IsLoadOf c.args.asked.scripts c.args.asked.events c.in-Err.fault c.refuse_boot.result c.in-Err.ensures.loads
    has refl (c.in-Err.ensures.usual refl) c.refuse_boot.ensures
