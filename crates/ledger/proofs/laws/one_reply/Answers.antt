use Rattle.ledger.proofs.Replies.{one_reply}
use Rattle.ledger.proofs.Packed.{first_packed, stays_packed}
use Rattle.ledger.proofs.laws.one_reply.Goals as goal

pub returns : goal.returns
returns c = record { reply = one_reply; first = first_packed; packed = stays_packed }
