use Rattle.event_script.proofs.AnswerStep.{last_is}
use Rattle.event_script.proofs.lines.Lines.last_end.Goals as goal

pub returns : goal.returns
returns g c =
    let i = c.self.inside in
    rw (← c.self.view_is) (last_is g.S.Source.state i.source i.held i.window i.place i.first_faults i.stopped i.ended c.self.invariant
    c.in-Some.end c.step_of.result c.in-Some.is c.step_of.ensures)
