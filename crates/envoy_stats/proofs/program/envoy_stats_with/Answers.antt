use Rattle.std.proofs.Common.{◌≡◌, ◌∙◌, Option, map, string_bytes, refl, sym, subst}
use Rattle.std.specs.Option.{option_and_then}
use Rattle.command_words.specs.Command.{Command}
use Rattle.stats_commands.specs.Quiet.{without_threads}
use Rattle.stats_commands.specs.World.{world, sight}
use Rattle.stats_commands.specs.Outcome.{IsCall}
use Rattle.stats_commands.specs.declared.outcome.Outcome.{Outcome}
use Rattle.envoy_stats.specs.Running.{IsProgramCall}
use Rattle.envoy_stats.proofs.RunCalls.{program_runs, program_loads, program_quiet, program_unread}
use Rattle.envoy_stats.proofs.program.envoy_stats_with.Goals as goal

pub returns-in-Run : goal.returns-in-Run
returns-in-Run g c =
    let see = sight g.K.PatternMaker.memory g.F.Shelf.holds g.F.Shelf.state g.F.S.Source.state g.O.Sink.state g.E.Sink.state in
    let before = world c.args.maker.now c.args.shelf.now c.args.out.now c.args.err.now in
    let after = world c.run.new.maker c.run.new.shelf c.run.new.out c.run.new.err in
    program_runs see before after (map string_bytes c.args.words.now) c.run.result c.in-Run.asked.options (string_bytes c.in-Run.asked.boot)
    (map string_bytes c.in-Run.asked.files.items) (sym c.in-Ok.ensures ∙ c.in-Run.ensures) c.run.ensures

pub returns-in-Load : goal.returns-in-Load
returns-in-Load g c =
    let see = sight g.K.PatternMaker.memory g.F.Shelf.holds g.F.Shelf.state g.F.S.Source.state g.O.Sink.state g.E.Sink.state in
    let before = world c.args.maker.now c.args.shelf.now c.args.out.now c.args.err.now in
    let after = world c.load.new.maker c.load.new.shelf c.load.new.out c.load.new.err in
    program_loads see before after (map string_bytes c.args.words.now) c.load.result c.in-Load.asked.scripts c.in-Load.asked.events
    (sym c.in-Ok.ensures ∙ c.in-Load.ensures) c.load.ensures

pub returns-in-Quiet : goal.returns-in-Quiet
returns-in-Quiet g c =
    let see = sight g.K.PatternMaker.memory g.F.Shelf.holds g.F.Shelf.state g.F.S.Source.state g.O.Sink.state g.E.Sink.state in
    let before = world c.args.maker.now c.args.shelf.now c.args.out.now c.args.err.now in
    let after = world c.serve_quiet.new.maker c.serve_quiet.new.shelf c.serve_quiet.new.out c.serve_quiet.new.err in
    program_quiet see before after (map string_bytes c.args.words.now) c.serve_quiet.result _ c.in-Ok.ensures c.in-Quiet.ensures.1
    (subst (λ (o : Option Command). IsCall see before after (option_and_then without_threads o) c.serve_quiet.result) c.in-Quiet.ensures.0
    c.serve_quiet.ensures)

pub returns-in_default : goal.returns-in_default
returns-in_default g c =
    let see = sight g.K.PatternMaker.memory g.F.Shelf.holds g.F.Shelf.state g.F.S.Source.state g.O.Sink.state g.E.Sink.state in
    let before = world c.args.maker.now c.args.shelf.now c.args.out.now c.args.err.now in
    let after = world c.args.maker.now c.args.shelf.now c.args.out.now c.give_up.new.err in
    subst (λ (o : Outcome). IsProgramCall see before after (map string_bytes c.args.words.now) o) (sym c.give_up.ensures.outcome)
    (program_unread see before after (map string_bytes c.args.words.now) refl refl refl c.give_up.ensures.said)
