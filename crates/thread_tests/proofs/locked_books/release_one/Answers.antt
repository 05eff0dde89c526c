use Rattle.std.proofs.Common.{◌≡◌, []}
use Rattle.stat_defs.specs.declared.history.Call.TheVariants as call
use Rattle.locked_book.specs.Sharing.{known_by}
use Rattle.thread_tests.proofs.Fresh.{kept_answer, release_seats}
use Rattle.thread_tests.proofs.locked_books.release_one.Goals as goal

pub returns-clause-fresh : goal.returns-clause-fresh
returns-clause-fresh g c = let t = c.release-released in
    kept_answer (known_by c.args.seat.now) (known_by t.new.self) (λ row. row.held ≡ []) t.result (call.Release c.args.label.now) (release_seats c.args.label.now) t.ensures.step t.ensures.err c.requires.fresh
