use Rattle.std.proofs.Common.{◌≢◌, ℕ, List, String, Global, rules, refl, subst, map, string_bytes}
use Rattle.boot_load.specs.declared.fault.LoadFault.TheVariants.{NoMemory}
use Rattle.replay_files.specs.ReplayReport.{IsReplayOf}
use Rattle.stats_commands.specs.World.{world, sight}
use Rattle.stats_commands.specs.Outcome.{Reports}
use Rattle.stats_commands.proofs.HeldAlike.{records_alike}
use Rattle.stats_commands.proofs.Replayed.{reports_of}
use Rattle.stats_commands.proofs.BootRefused.{report_refused}
use Rattle.stats_commands.proofs.replay.replay.Goals as goal

pub returns-in-Ok-record : goal.returns-in-Ok-record
returns-in-Ok-record g c =
    let see = sight g.K.PatternMaker.memory g.F.Shelf.holds g.F.Shelf.state g.F.S.Source.state g.O.Sink.state g.E.Sink.state in
    let before = world c.args.maker.now c.args.shelf.now c.args.out.now c.args.err.now in
    let after = world c.load.new.maker c.record.new.shelf c.tell.new.out c.tell.new.err in
    let names = map string_bytes c.deref.result.now in
    subst (λ (files : List (String Global)). Reports see before after (IsReplayOf g.F.Shelf.state g.F.S.Source.state (g.F.Shelf.holds c.args.shelf.now)) c.args.asked.now.options
    (string_bytes c.args.asked.now.boot) (map string_bytes files) c.tell.result.status c.tell.result.report c.tell.result.boot_faults) c.deref.ensures.value
    (subst (λ (name : List ℕ). Reports see before after (IsReplayOf g.F.Shelf.state g.F.S.Source.state (g.F.Shelf.holds c.args.shelf.now)) c.args.asked.now.options name names c.tell.result.status
    c.tell.result.report c.tell.result.boot_faults) c.as_str.ensures.value
    (reports_of see before after (IsReplayOf g.F.Shelf.state g.F.S.Source.state (g.F.Shelf.holds c.args.shelf.now)) c.args.asked.now.options c.as_str.result.now names c.load.new.shelf c.in-Ok.boot c.in-Ok.ensures.loads c.in-Ok-record.recorded
    (records_alike g.F.Shelf.state g.F.S.Source.state (g.F.Shelf.holds c.load.new.shelf) (g.F.Shelf.holds c.args.shelf.now) c.in-Ok.ensures.contents
    c.in-Ok.boot.config names _ _ c.in-Ok-record.recorded c.in-Ok-record.ensures) c.tell.result.status c.tell.result.report
    c.tell.result.boot_faults c.tell.ensures.boot_faults c.tell.ensures.ends))

pub returns-in-Err : goal.returns-in-Err
returns-in-Err g c =
    let see = sight g.K.PatternMaker.memory g.F.Shelf.holds g.F.Shelf.state g.F.S.Source.state g.O.Sink.state g.E.Sink.state in
    let before = world c.args.maker.now c.args.shelf.now c.args.out.now c.args.err.now in
    let after = world c.load.new.maker c.load.new.shelf c.args.out.now c.refuse_boot.new.err in
    let has : c.in-Err.fault ≢ NoMemory = search rules in
    subst (λ (name : List ℕ). Reports see before after (IsReplayOf g.F.Shelf.state g.F.S.Source.state (g.F.Shelf.holds c.args.shelf.now)) c.args.asked.now.options name (map string_bytes c.args.asked.now.files.items)
    c.refuse_boot.result.status c.refuse_boot.result.report c.refuse_boot.result.boot_faults) c.as_str.ensures.value
    (report_refused see before after c.as_str.result.now c.in-Err.fault c.in-Err.ensures.loads has refl c.in-Err.ensures.usual
    (IsReplayOf g.F.Shelf.state g.F.S.Source.state (g.F.Shelf.holds c.args.shelf.now)) c.args.asked.now.options
    (map string_bytes c.args.asked.now.files.items) c.refuse_boot.result c.refuse_boot.ensures)
