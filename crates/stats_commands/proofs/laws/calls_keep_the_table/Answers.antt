use Rattle.stats_commands.specs.World.{sight}
use Rattle.stats_commands.proofs.Table.{calls_keep}
use Rattle.stats_commands.proofs.laws.calls_keep_the_table.Goals as goal

pub returns : goal.returns
returns g c =
    calls_keep (sight g.K.PatternMaker.memory g.F.Shelf.holds g.F.Shelf.state g.F.S.Source.state g.O.Sink.state g.E.Sink.state)
