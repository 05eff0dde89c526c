use Rattle.std.proofs.Common.{◌≡◌, []}
use Rattle.stat_defs.specs.declared.history.Call.TheVariants as call
use Rattle.locked_book.specs.Sharing.{known_by}
use Rattle.thread_tests.proofs.Fresh.{kept_answer, open_seats}
use Rattle.thread_tests.proofs.locked_books.open_own.Goals as goal

pub returns-clause-fresh : goal.returns-clause-fresh
returns-clause-fresh g c = let t = c.open-opened in
    kept_answer (known_by c.args.seat.now) (known_by t.new.self) (λ row. row.held ≡ []) t.result (call.OpenScope c.args.plan.now.label c.args.plan.now.prefix) (open_seats c.args.plan.now.label c.args.plan.now.prefix) t.ensures.step t.ensures.err c.requires.fresh
