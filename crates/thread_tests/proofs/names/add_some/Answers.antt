use Rattle.std.proofs.Common.{◌≡◌, ◌∙◌, ap}
use Rattle.seat_history.proofs.Logs.{goes-on-far}
use Rattle.book_lock.proofs.Uses.{added}
use Rattle.thread_tests.proofs.names.add_some.Goals as goal

pub loop-preserved : goal.loop-preserved
loop-preserved c = let i = c.loop.invariant in let number = c.args.number in
    let a = added c.add.result _ c.loop.book.entries.items c.add.new.self.entries.items c.add.ensures.entries in
    (goes-on-far (λ e. e.seat ≡ number) c.args.book.now.entries.items c.loop.book.entries.items c.add.new.self.entries.items i.0 (a.0, a.1, a.2 number (ap (λ e. e.seat) c.entry_of.ensures)), c.add.ensures.changes ∙ i.1)
