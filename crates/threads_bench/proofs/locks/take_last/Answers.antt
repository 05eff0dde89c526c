use Rattle.std.proofs.Common.{◌++◌, ap, ◌∙◌}
use Rattle.std.specs.Option.{option_to_list}
use Rattle.book_lock.proofs.Uses.{new-last}
use Rattle.threads_bench.proofs.locks.take_last.Goals as goal

pub returns-clause-seat : goal.returns-clause-seat
returns-clause-seat c = let t = new-last _ c.requires.0 1 c.args.number _ c.pop.new.self.items c.unwrap.result (c.pop.ensures.items ∙ ap (λ r. c.pop.new.self.items ++ option_to_list r) c.unwrap.ensures) c.requires.1 in
    (t.0, ap (λ p. p.seat.number) t.1)

pub returns-clause-seats : goal.returns-clause-seats
returns-clause-seats c = let t = new-last _ c.requires.0 1 c.args.number _ c.pop.new.self.items c.unwrap.result (c.pop.ensures.items ∙ ap (λ r. c.pop.new.self.items ++ option_to_list r) c.unwrap.ensures) c.requires.1 in
    (c.requires.0, t.2)
