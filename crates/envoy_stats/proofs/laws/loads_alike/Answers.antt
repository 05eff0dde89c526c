use Rattle.stats_commands.specs.World.{sight}
use Rattle.envoy_stats.proofs.LoadRuns.{loads_alike}
use Rattle.envoy_stats.proofs.laws.loads_alike.Goals as goal

pub returns : goal.returns
returns g c =
    loads_alike (sight g.K.PatternMaker.memory g.F.Shelf.holds g.F.Shelf.state g.F.S.Source.state g.O.Sink.state g.E.Sink.state)
    c.same_summary.ensures
