use Rattle.std.proofs.Common.{◌≡◌, length}
use Rattle.std.specs.Io.KnownBytes.{Keeps}
use Rattle.stats_io.proofs.adapters.read_once.Given as goal

abbrev pub invariant-loop : goal.invariant-loop
invariant-loop g l =
    Keeps (g.F.Read.remaining l.fn.reader) (g.F.Read.remaining l.reader) × (length l.into ≡ length l.fn.into)
