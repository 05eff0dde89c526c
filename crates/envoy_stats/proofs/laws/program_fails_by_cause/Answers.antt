use Rattle.stats_commands.specs.World.{sight}
use Rattle.envoy_stats.proofs.Causes.{program_fails_by_cause}
use Rattle.envoy_stats.proofs.laws.program_fails_by_cause.Goals as goal

pub returns : goal.returns
returns g c =
    program_fails_by_cause (sight g.K.PatternMaker.memory g.F.Shelf.holds g.F.Shelf.state g.F.S.Source.state g.O.Sink.state g.E.Sink.state)
