use Rattle.std.proofs.Common.{Option, map, string_bytes, refl, sym, subst}
use Rattle.std.specs.Option.{option_and_then}
use Rattle.command_words.specs.Command.{Command as Told}
use Rattle.stats_commands.specs.Quiet.{without_threads, quiet_command}
use Rattle.stats_commands.specs.World.{world, sight}
use Rattle.stats_commands.specs.Outcome.{IsCall}
use Rattle.stats_commands.specs.declared.outcome.Outcome.{Outcome}
use Rattle.stats_commands.proofs.Calls.{call_unread}
use Rattle.stats_commands.proofs.quiet.quiet_stats_with.Goals as goal

pub returns-in-Ok : goal.returns-in-Ok
returns-in-Ok g c =
    let see = sight g.K.PatternMaker.memory g.F.Shelf.holds g.F.Shelf.state g.F.S.Source.state g.O.Sink.state g.E.Sink.state in
    let before = world c.args.maker.now c.args.shelf.now c.args.out.now c.args.err.now in
    let after = world c.serve_quiet.new.maker c.serve_quiet.new.shelf c.serve_quiet.new.out c.serve_quiet.new.err in
    subst (λ (o : Option Told). IsCall see before after (option_and_then without_threads o) c.serve_quiet.result) c.in-Ok.ensures c.serve_quiet.ensures

pub returns-in-Err : goal.returns-in-Err
returns-in-Err g c =
    let see = sight g.K.PatternMaker.memory g.F.Shelf.holds g.F.Shelf.state g.F.S.Source.state g.O.Sink.state g.E.Sink.state in
    let before = world c.args.maker.now c.args.shelf.now c.args.out.now c.args.err.now in
    let after = world c.args.maker.now c.args.shelf.now c.args.out.now c.give_up.new.err in
    subst (λ (o : Outcome). IsCall see before after (quiet_command (map string_bytes c.args.words.now)) o) (sym c.give_up.ensures.outcome)
    (call_unread see before after refl refl refl c.give_up.ensures.said (quiet_command (map string_bytes c.args.words.now)))
