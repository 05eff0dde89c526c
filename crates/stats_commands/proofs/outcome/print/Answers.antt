use Rattle.std.proofs.Common.{refl, inl}
use Rattle.std.proofs.KnownBytes.{Appends-nil}
use Rattle.stats_commands.proofs.outcome.print.Goals as goal

pub returns-in-Ok : goal.returns-in-Ok
returns-in-Ok g c = record { written = inl (refl, c.in-Ok.ensures.whole); said = λ calm. Appends-nil (g.E.Sink.state c.args.err.now).written }
