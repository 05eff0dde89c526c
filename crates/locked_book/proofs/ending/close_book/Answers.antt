use Rattle.std.proofs.Common.{map}
use Rattle.std.proofs.lemmas.Result.{IfOk-weaker}
use Rattle.locked_book.specs.Sharing.{first_of, seat_count, known_by, names_by}
use Rattle.locked_book.specs.Ending.{IsLastOf}
use Rattle.locked_book.proofs.NamesGiven.{last_gives}
use Rattle.locked_book.proofs.FirstChanges.{last_first}
use Rattle.locked_book.proofs.ending.close_book.Goals as goal

pub returns-clause-names : goal.returns-clause-names
returns-clause-names c = let found = c.in_ok-book.book in let e = c.in_ok-book.ensures in let first = first_of c.args.book in
    IfOk-weaker c.end_of.result (λ end. IsLastOf found end) _
    (λ end last. last_gives found first end (seat_count c.args.book) (map known_by c.args.seats.items) (map names_by c.args.seats.items) e.history last e.names) c.end_of.ensures

pub returns-clause-changes : goal.returns-clause-changes
returns-clause-changes c = let found = c.in_ok-book.book in let e = c.in_ok-book.ensures in let first = first_of c.args.book in
    IfOk-weaker c.end_of.result (λ end. IsLastOf found end) _
    (λ end last. last_first found first end (seat_count c.args.book) (map known_by c.args.seats.items) (map names_by c.args.seats.items) e.history last e.changes) c.end_of.ensures
