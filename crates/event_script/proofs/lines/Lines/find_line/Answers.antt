use Rattle.std.proofs.Common.{◌≡◌, ◌∙◌, ap, sym, None}
use Rattle.event_script.proofs.AnswerStep.{passes_of}
use Rattle.event_script.proofs.lines.Lines.find_line.Goals as goal

pub returns-clause-passes : goal.returns-clause-passes
returns-clause-passes g c =
    let i = c.self.inside in
    let none : i.ended ≡ None = ap (λ r. r.ended) c.self.view_is ∙ c.requires in
    let on = rw c.bytes-bytes.ensures at c.pass_over.ensures in
    rw (← c.self.view_is) (passes_of g.S.Source.state i.source i.held i.window i.place c.pass_over.new.place i.first_faults i.stopped c.stop_of-stop.result (sym c.stop_of-stop.ensures)
    i.ended none c.self.invariant on.within on.passes)
