use Rattle.stats_commands.specs.World.{sight}
use Rattle.stats_commands.proofs.Causes.{calls_fail_by_cause}
use Rattle.stats_commands.proofs.laws.calls_fail_by_cause.Goals as goal

pub returns : goal.returns
returns g c =
    calls_fail_by_cause (sight g.K.PatternMaker.memory g.F.Shelf.holds g.F.Shelf.state g.F.S.Source.state g.O.Sink.state g.E.Sink.state)
