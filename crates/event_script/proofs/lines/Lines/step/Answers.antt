use Rattle.std.proofs.Common.{◌≡◌, ◌∙◌, ap, sym, None}
use Rattle.event_script.specs.Told.{answer_of}
use Rattle.event_script.proofs.AnswerStep.{read_of, read_none}
use Rattle.event_script.proofs.lines.Lines.step.Goals as goal

pub returns-in_err-step : goal.returns-in_err-step
returns-in_err-step g c =
    let i = c.self.inside in
    rw (← c.self.view_is) (read_none g.S.Source.state i.source i.held i.window i.place i.first_faults i.stopped i.ended c.self.invariant
    c.from_residual.result c.from_residual.ensures.0)

pub returns : goal.returns
returns g c =
    let i = c.self.inside in
    let none : i.ended ≡ None = ap (λ r. r.ended) c.self.view_is ∙ c.requires.going in
    let on = rw c.bytes.ensures at c.read_line-found.ensures in
    rw (← c.self.view_is, c.end_of-ended.ensures, c.in_ok-step.ensures) (read_of g.S.Source.state i.source i.held i.window i.place c.read_line-found.new.place i.first_faults i.stopped c.stop_of.result (sym c.stop_of.ensures)
    i.ended none c.self.invariant on.within (answer_of c.read_line-found.result) on.reads on.lawful)
