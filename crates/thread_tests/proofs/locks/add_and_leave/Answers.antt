use Rattle.std.proofs.Common.{◌++◌, refl, ap, ◌∙◌, sym}
use Rattle.stat_defs.specs.Books.{BookHistory}
use Rattle.thread_tests.specs.declared.fake_book.FakeBook.{FakeBook}
use Rattle.book_lock.specs.Locked.{blank_config}
use Rattle.seat_history.proofs.Leaves.{leaves-more}
use Rattle.book_lock.specs.Seats.{seat_part, seat_known}
use Rattle.book_lock.proofs.Uses.{added, names-kept}
use Rattle.thread_tests.proofs.locks.add_and_leave.Goals as goal

history : FakeBook → BookHistory
history b = record { config = blank_config; workers = 4; log = b.entries.items }

pub leave-requires-clause-book : goal.leave-requires-clause-book
unfolding history
leave-requires-clause-book c = let new = c.add-added.new.self in
    let a = added c.add-added.result _ c.book.result.now.entries.items new.entries.items c.add-added.ensures.entries in
    leaves-more (seat_known c.args.seat.now) (history c.args.held.book.value) (history new) a.0 c.requires.book refl refl (a.1 ∙ ap (λ b. b.entries.items ++ a.0) c.book.ensures.value) (a.2 _ (ap (λ e. e.seat) c.entry_of.ensures ∙ sym c.requires.seat.1))

pub leave-requires-clause-names : goal.leave-requires-clause-names
leave-requires-clause-names c = let new = c.add-added.new.self in let held = c.args.held.book.value in
    let a = added c.add-added.result _ c.book.result.now.entries.items new.entries.items c.add-added.ensures.entries in
    names-kept (seat_part c.args.seat.now) held.entries.items new.entries.items a.0 held.changes.items new.changes.items (a.1 ∙ ap (λ b. b.entries.items ++ a.0) c.book.ensures.value)
    (c.add-added.ensures.changes ∙ ap (λ b. b.changes.items) c.book.ensures.value) c.requires.names
