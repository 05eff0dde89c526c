use Rattle.std.proofs.Common.{◌≢◌, rules, refl, inr}
use Rattle.boot_load.specs.declared.fault.LoadFault.TheVariants.{NoMemory}
use Rattle.stats_commands.specs.World.{world, sight}
use Rattle.stats_commands.proofs.Checked.{unstarted, check_loaded}
use Rattle.stats_commands.proofs.BootRefused.{check_refused, refused_without_report}
use Rattle.stats_commands.proofs.check.check.Goals as goal

pub returns-in-Ok-clause-checked : goal.returns-in-Ok-clause-checked
returns-in-Ok-clause-checked g c =
    let see = sight g.K.PatternMaker.memory g.F.Shelf.holds g.F.Shelf.state g.F.S.Source.state g.O.Sink.state g.E.Sink.state in
    let before = world c.args.maker.now c.args.shelf.now c.args.out.now c.args.err.now in
    let after = world c.load.new.maker c.load.new.shelf c.tell.new.out c.tell.new.err in
    check_loaded see before after c.args.boot.now c.in-Ok.loaded c.tell.result.status c.tell.result.boot_faults c.in-Ok.ensures.loads c.in-Ok.ensures.usual
    c.tell.ensures.boot_faults c.tell.ensures.printed

pub returns-in-Err-NoMemory-clause-checked : goal.returns-in-Err-NoMemory-clause-checked
returns-in-Err-NoMemory-clause-checked g c =
    inr (inr (unstarted c.args.out.now (g.E.Sink.state c.args.err.now) (g.E.Sink.state c.give_up.new.err) c.give_up.result c.give_up.ensures.outcome c.give_up.ensures.said))

pub returns-in-Err-clause-report : goal.returns-in-Err-clause-report
returns-in-Err-clause-report g c =
    refused_without_report (g.E.Sink.state c.args.err.now) (g.E.Sink.state c.refuse_boot.new.err) c.in-Err.fault c.refuse_boot.result c.refuse_boot.ensures

pub returns-in-Err-clause-checked : goal.returns-in-Err-clause-checked
returns-in-Err-clause-checked g c =
    let see = sight g.K.PatternMaker.memory g.F.Shelf.holds g.F.Shelf.state g.F.S.Source.state g.O.Sink.state g.E.Sink.state in
    let before = world c.args.maker.now c.args.shelf.now c.args.out.now c.args.err.now in
    let after = world c.load.new.maker c.load.new.shelf c.args.out.now c.refuse_boot.new.err in
    let has : c.in-Err.fault ≢ NoMemory = search rules in
    check_refused see before after c.args.boot.now c.in-Err.fault c.in-Err.ensures.loads has refl c.in-Err.ensures.usual c.refuse_boot.result c.refuse_boot.ensures
