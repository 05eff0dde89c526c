use Rattle.std.proofs.Common.{◌≡◌, ◌∙◌, ap, None}
use Rattle.event_script.proofs.AnswerStep.{ends_by}
use Rattle.event_script.proofs.lines.Lines.read_more.Goals as goal

pub returns-clause-goes : goal.returns-clause-goes
returns-clause-goes g c =
    let i = c.self.inside in
    let none : i.ended ≡ None = ap (λ r. r.ended) c.self.view_is ∙ c.requires.going in
    let piece = rw (← c.self.view_is) at c.requires.piece in
    rw (← c.self.view_is, c.end_by.ensures) (ends_by g.S.Source.state i.source i.held i.window i.place i.first_faults i.stopped c.in-Some.stop c.in-Some.is i.ended none c.self.invariant piece)
