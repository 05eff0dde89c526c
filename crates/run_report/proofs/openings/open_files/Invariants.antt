use Rattle.std.proofs.Common.{◌≡◌, ℕ, List, map, take, string_bytes}
use Rattle.run_report.specs.Opened.{AreOpened}
use Rattle.run_report.proofs.openings.open_files.Given as goal

abbrev pub invariant-loop-name : goal.invariant-loop-name
invariant-loop-name g l = record {
  opened : AreOpened g.F.Shelf.state g.F.S.Source.state (g.F.Shelf.holds l.fn.shelf)
      (map string_bytes (take l.name-index l.names)) l.fn.shelf l.shelf l.openings;
  contents : (other : List ℕ) → g.F.Shelf.holds l.shelf other ≡ g.F.Shelf.holds l.fn.shelf other;
}
