use Rattle.ledger.proofs.ScopeEntries.{scopes_once}
use Rattle.ledger.proofs.laws.scopes_once.Goals as goal

pub returns : goal.returns
returns c = scopes_once
