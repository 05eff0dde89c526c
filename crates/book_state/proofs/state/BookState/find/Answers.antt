use Rattle.book_state.proofs.Applying.{noted_find}
use Rattle.book_state.proofs.state.BookState.find.Goals as goal

pub note-requires : goal.note-requires
note-requires c = record { next = c.requires.next; noted = noted_find c.args.self.now c.args.entry.now c.args.key.now c.requires.call c.in_default.not-Found c.in_default.not-Made }
