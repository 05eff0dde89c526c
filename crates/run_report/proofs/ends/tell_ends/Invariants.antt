use Rattle.std.proofs.Common.{◌≡◌, take}
use Rattle.run_report.specs.Opened.{with_told}
use Rattle.run_report.proofs.ends.tell_ends.Given as goal

abbrev pub invariant-loop-place : goal.invariant-loop-place
invariant-loop-place l = l.ends ≡ with_told (take l.place l.told) l.fn.ends
