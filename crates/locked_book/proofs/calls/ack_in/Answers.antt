use Rattle.book_access.proofs.Called.{due_in}
use Rattle.locked_book.proofs.calls.ack_in.Goals as goal

pub ack-acked-requires : goal.ack-acked-requires
ack-acked-requires c = record { due = due_in c.args.book.now c.args.number c.has_legal_log.ensures c.requires.due }
