use Rattle.std.proofs.Common.{◌++◌, ap, ◌∙◌, sym}
use Rattle.std.specs.Option.{option_to_list}
use Rattle.locked_book.proofs.Numbered.{new_last}
use Rattle.thread_tests.proofs.Fresh.{worker_fresh, worker_room}
use Rattle.thread_tests.proofs.locked_books.take_last.Goals as goal

pub returns-clause-seat : goal.returns-clause-seat
returns-clause-seat c = let t = new_last c.args.book.now c.args.number _ c.pop.new.self.items c.unwrap.result (c.pop.ensures.items ∙ ap (λ r. c.pop.new.self.items ++ option_to_list r) c.unwrap.ensures) c.requires.seats in
    (t.0, ap (λ k. k.number) t.1)

pub returns-clause-fresh : goal.returns-clause-fresh
returns-clause-fresh c worker = let t = new_last c.args.book.now c.args.number _ c.pop.new.self.items c.unwrap.result (c.pop.ensures.items ∙ ap (λ r. c.pop.new.self.items ++ option_to_list r) c.unwrap.ensures) c.requires.seats in
    worker_fresh c.requires.first.0 _ _ c.args.number c.requires.first.1 t.1 worker.0 worker.1

pub returns-clause-room : goal.returns-clause-room
returns-clause-room c worker = let t = new_last c.args.book.now c.args.number _ c.pop.new.self.items c.unwrap.result (c.pop.ensures.items ∙ ap (λ r. c.pop.new.self.items ++ option_to_list r) c.unwrap.ensures) c.requires.seats in
    worker_room c.requires.first.0 _ _ c.args.number c.requires.first.1 t.1 worker.0

pub returns-clause-seats : goal.returns-clause-seats
returns-clause-seats c = let t = new_last c.args.book.now c.args.number _ c.pop.new.self.items c.unwrap.result (c.pop.ensures.items ∙ ap (λ r. c.pop.new.self.items ++ option_to_list r) c.unwrap.ensures) c.requires.seats in
    t.2
