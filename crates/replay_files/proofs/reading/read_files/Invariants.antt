use Rattle.std.proofs.Common.{◌≡◌, ℕ, List, map, take, string_bytes}
use Rattle.replay_files.specs.FileRun.{AreRuns}
use Rattle.replay_files.proofs.reading.read_files.Given as goal

abbrev pub invariant-loop-name : goal.invariant-loop-name
invariant-loop-name g l = record {
  runs : AreRuns g.F.Shelf.state g.F.S.Source.state (g.F.Shelf.holds l.fn.shelf)
      (map string_bytes (take l.name-index l.names)) l.fn.shelf l.shelf l.fn.store l.store l.runs;
  contents : (other : List ℕ) → g.F.Shelf.holds l.shelf other ≡ g.F.Shelf.holds l.fn.shelf other;
}
