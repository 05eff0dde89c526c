use Rattle.shared_tests.specs.Parties.{AreParties}
use Rattle.shared_tests.proofs.scripts.told_by.Given as goal

abbrev pub invariant-loop-call : goal.invariant-loop-call
invariant-loop-call g l = AreParties l.parties
