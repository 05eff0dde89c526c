use Rattle.std.proofs.Common.{◌≡◌, ◌∙◌, ap, sym, None, refl}
use Rattle.event_script.specs.Told.{answer_of}
use Rattle.event_script.proofs.AnswerStep.{read_of}
use Rattle.event_script.proofs.lines.Lines.step_ref.Goals as goal

pub returns : goal.returns
returns g c =
    let i = c.self.inside in
    let none : i.ended ≡ None = ap (λ r. r.ended) c.self.view_is ∙ c.requires.going in
    let on = rw c.bytes.ensures at c.read_line-step.ensures in (
      (
        refl,
        λ _. tt,
        rw (← c.self.view_is, c.end_of-self-inside.ensures) (read_of g.S.Source.state i.source i.held i.window i.place c.read_line-step.new.place i.first_faults i.stopped c.stop_of.result (sym c.stop_of.ensures)
            i.ended none c.self.invariant on.within (answer_of c.read_line-step.result) on.reads on.lawful),
      ),
      record { answer = tt },
    )
