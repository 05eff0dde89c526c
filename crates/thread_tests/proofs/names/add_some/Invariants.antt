use Rattle.std.proofs.Common.{◌≡◌}
use Rattle.seat_history.specs.History.{GoesOn}
use Rattle.thread_tests.proofs.names.add_some.Given as goal

abbrev pub invariant-loop : goal.invariant-loop
invariant-loop l = GoesOn (λ entry. entry.seat ≡ l.fn.number) l.fn.book.entries.items l.book.entries.items × (l.book.changes.items ≡ l.fn.book.changes.items)
