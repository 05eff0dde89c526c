use Rattle.std.proofs.Common.{◌∙◌, ap, ◌++◌, ◌∷◌, []}
use Rattle.turn_cell.specs.Tokens.{worker_known}
use Rattle.turn_cell.proofs.Seats.{weight-grown}
use Rattle.thread_tests.proofs.turns.poll.Goals as goal

pub returns-then-asked-clause-turned : goal.returns-then-asked-clause-turned
returns-then-asked-clause-turned c = λ _. let load = c.asked.ensures.load in
    weight-grown (λ b. b.values) (worker_known c.args.w.now).halves (worker_known c.turn.new.w).halves c.args.half
    (ap (λ k. k.halves) c.turn.ensures.turned ∙ ap (λ k. k.halves ++ c.args.half ∷ []) load.1)
