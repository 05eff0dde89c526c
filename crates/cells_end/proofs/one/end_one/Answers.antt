use Rattle.turn_cell.specs.Tokens.{note_known, flusher_known}
use Rattle.turn_cell.specs.Answers.{full_one}
use Rattle.cells_end.proofs.EndLemmas.{few_left}
use Rattle.cells_end.proofs.one.end_one.Goals as goal

pub returns-clause-count : goal.returns-clause-count
returns-clause-count c =
    let closed = c.close-rest.ensures in let rest = c.close-rest.result in let end = c.args.end in
    few_left c.merge_rest.result c.args.worker c.args.token (note_known end.note).halves (flusher_known c.in_ok-f.f).halves (full_one rest.full rest.half) end.half c.args.parents.now c.settle.new.parents
    c.merge_rest.new.parents c.in_ok-f.ensures.merged c.merge_rest.ensures c.requires.kept closed.halves closed.weights c.requires.end.few
