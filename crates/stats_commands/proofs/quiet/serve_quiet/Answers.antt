use Rattle.std.proofs.Common.{◌≡◌, ◌∙◌, ℕ, Option, Some, None, List, map, string_bytes, option_map, refl, sym, ap, subst}
use Rattle.std.specs.Option.{option_and_then}
use Rattle.command_words.specs.Command.{Command as Told}
use Rattle.command_words.specs.Views.{said_as}
use Rattle.command_words.specs.declared.command.Command.{Command}
use Rattle.stats_commands.specs.Quiet.{without_threads}
use Rattle.stats_commands.specs.World.{world, sight}
use Rattle.stats_commands.specs.BinLines.{bin_lines}
use Rattle.stats_commands.specs.Outcome.{Prints, Checks, IsCall}
use Rattle.stats_commands.specs.declared.outcome.Outcome.{Outcome}
use Rattle.stats_commands.proofs.Calls.{call_refused, call_replayed, call_checked, call_binned}
use Rattle.stats_commands.proofs.quiet.serve_quiet.Goals as goal

-- what is served of a command that was read
abbrev served : Option Command → Option Told
served o = option_and_then without_threads (option_map said_as o)

pub returns-in-Run : goal.returns-in-Run
returns-in-Run g c =
    let see = sight g.K.PatternMaker.memory g.F.Shelf.holds g.F.Shelf.state g.F.S.Source.state g.O.Sink.state g.E.Sink.state in
    let before = world c.args.maker.now c.args.shelf.now c.args.out.now c.args.err.now in
    let after = world c.args.maker.now c.args.shelf.now c.args.out.now c.refuse_words-in-Run.new.err in
    let none : served c.args.command ≡ None = ap served (c.in-Some.is ∙ ap (λ (x : Command). Some x) c.in-Run.is) in
    subst (λ (o : Outcome). IsCall see before after (served c.args.command) o) (sym c.refuse_words-in-Run.ensures.outcome)
    (call_refused see before after (served c.args.command) none (record { maker = refl; shelf = refl; out = refl; said = c.refuse_words-in-Run.ensures.said }))

pub returns-in-Replay : goal.returns-in-Replay
returns-in-Replay g c =
    let see = sight g.K.PatternMaker.memory g.F.Shelf.holds g.F.Shelf.state g.F.S.Source.state g.O.Sink.state g.E.Sink.state in
    let before = world c.args.maker.now c.args.shelf.now c.args.out.now c.args.err.now in
    let after = world c.replay.new.maker c.replay.new.shelf c.replay.new.out c.replay.new.err in
    let says = ap served (c.in-Some.is ∙ ap (λ (x : Command). Some x) c.in-Replay.is) in
    call_replayed see before after (served c.args.command) c.in-Replay.asked.options (string_bytes c.in-Replay.asked.boot) (map string_bytes c.in-Replay.asked.files.items)
    c.replay.result says c.replay.ensures

pub returns-in-Check : goal.returns-in-Check
returns-in-Check g c =
    let see = sight g.K.PatternMaker.memory g.F.Shelf.holds g.F.Shelf.state g.F.S.Source.state g.O.Sink.state g.E.Sink.state in
    let before = world c.args.maker.now c.args.shelf.now c.args.out.now c.args.err.now in
    let after = world c.check.new.maker c.check.new.shelf c.check.new.out c.check.new.err in
    let says = ap served (c.in-Some.is ∙ ap (λ (x : Command). Some x) c.in-Check.is) in
    call_checked see before after (served c.args.command) (string_bytes c.in-Check.boot) c.check.result says
    c.check.ensures.report
    (subst (λ (name : List ℕ). Checks see before after name c.check.result.status c.check.result.boot_faults) c.as_str.ensures.value c.check.ensures.checked)

pub returns-in-Bins : goal.returns-in-Bins
returns-in-Bins g c =
    let see = sight g.K.PatternMaker.memory g.F.Shelf.holds g.F.Shelf.state g.F.S.Source.state g.O.Sink.state g.E.Sink.state in
    let before = world c.args.maker.now c.args.shelf.now c.args.out.now c.args.err.now in
    let after = world c.args.maker.now c.args.shelf.now c.bins.new.out c.bins.new.err in
    let says = ap served (c.in-Some.is ∙ ap (λ (x : Command). Some x) c.in-Bins.is) in
    call_binned see before after (served c.args.command) c.in-Bins.values.items
    c.bins.result says c.bins.ensures.report c.bins.ensures.boot_faults (record {
      maker = refl;
      shelf = refl;
      printed = subst (λ (values : List ℕ). Prints g.O.Sink.state c.args.out.now c.bins.new.out (g.E.Sink.state c.args.err.now) (g.E.Sink.state c.bins.new.err)
          (bin_lines values) c.bins.result.status) c.deref.ensures.value c.bins.ensures.printed;
    })

pub returns-in_default : goal.returns-in_default
returns-in_default g c =
    let see = sight g.K.PatternMaker.memory g.F.Shelf.holds g.F.Shelf.state g.F.S.Source.state g.O.Sink.state g.E.Sink.state in
    let before = world c.args.maker.now c.args.shelf.now c.args.out.now c.args.err.now in
    let after = world c.args.maker.now c.args.shelf.now c.args.out.now c.refuse_words.new.err in
    let none : served c.args.command ≡ None = ap served c.in_default.is in
    subst (λ (o : Outcome). IsCall see before after (served c.args.command) o) (sym c.refuse_words.ensures.outcome)
    (call_refused see before after (served c.args.command) none (record { maker = refl; shelf = refl; out = refl; said = c.refuse_words.ensures.said }))
