use Rattle.flusher.specs.FlusherKept.{shown}
use Rattle.flusher.proofs.Accounts.{accounts-passed, passed-or-not}
use Rattle.flusher.proofs.flusher.Flusher.pass.Goals as goal

pub invariant_of-self : goal.invariant_of-self
invariant_of-self c =
    let pass = c.pass.ensures in
    accounts-passed (shown c.self.inside) c.pass.new.self.parents c.pass.new.self.tokens.items (passed-or-not c.pass.result pass.passes pass.err) pass.cells c.self.invariant
