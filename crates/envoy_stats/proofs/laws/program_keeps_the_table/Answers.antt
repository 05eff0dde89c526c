use Rattle.stats_commands.specs.World.{sight}
use Rattle.envoy_stats.proofs.Table.{program_keeps}
use Rattle.envoy_stats.proofs.laws.program_keeps_the_table.Goals as goal

pub returns : goal.returns
returns g c =
    program_keeps (sight g.K.PatternMaker.memory g.F.Shelf.holds g.F.Shelf.state g.F.S.Source.state g.O.Sink.state g.E.Sink.state)
