use Rattle.std.proofs.Common.{◌≡◌, drop, map}
use Rattle.stats_commands.specs.Outcome.{status_of_all}
use Rattle.stats_commands.proofs.status.status_of_all.Given as goal

abbrev pub invariant-loop-end : goal.invariant-loop-end
invariant-loop-end l = status_of_all (map (λ end. end.end) (drop l.end-index l.ends)) ≡ status_of_all (map (λ end. end.end) l.ends)
