use Rattle.std.proofs.Common.{◌++◌, ◌∙◌, refl, ap, sym, subst, length}
use Rattle.stat_defs.specs.Books.{BookHistory}
use Rattle.seat_history.proofs.Leaves.{leaves-more}
use Rattle.book_lock.specs.Locked.{blank_config}
use Rattle.book_lock.specs.Seats.{seat_part, seat_known}
use Rattle.thread_tests.specs.Noting.{AreNoted}
use Rattle.thread_tests.specs.declared.fake_book.FakeBook.{FakeBook}
use Rattle.thread_tests.proofs.Noted.{may_note, all_seat}
use Rattle.thread_tests.proofs.names.name_and_leave.Goals as goal

history : FakeBook → BookHistory
history b = record { config = blank_config; workers = 4; log = b.entries.items }

pub leave-requires-clause-book : goal.leave-requires-clause-book
unfolding history
leave-requires-clause-book c = let new = c.add_named-noted.new.book in let e = c.add_named-noted.ensures.entries in
    leaves-more (seat_known c.args.seat.now) (history c.args.held.book.value) (history new) e.0 c.requires.book refl refl (e.1 ∙ ap (λ b. b.entries.items ++ e.0) c.book.ensures.value)
    (all_seat e.0 0 _ (sym c.requires.seat.1) e.2)

pub leave-requires-clause-names : goal.leave-requires-clause-names
leave-requires-clause-names c = let new = c.add_named-noted.new.book in let held = c.args.held.book.value in let n = c.add_named-noted.ensures.changes in
    may_note (seat_part c.args.seat.now) held.entries.items new.entries.items held.changes.items new.changes.items n.0 c.requires.seat.2 c.requires.log c.requires.names
    (n.1 ∙ ap (λ b. b.changes.items ++ n.0) c.book.ensures.value) new.few (subst (λ b. AreNoted (length b.entries.items) (length new.entries.items) n.0) c.book.ensures.value n.2)
