use Rattle.std.proofs.lemmas.Result.{err_from_is_err_and}
use Rattle.text_parts.proofs.Following.{answer_next, answer_first}
use Rattle.report_text.specs.ReportText.{view_text}
use Rattle.report_text.specs.Parts.{flush_head}
use Rattle.report_text.proofs.sections.write_section.Goals as goal

pub returns-in_err-write_head-clause-answer : goal.returns-in_err-write_head-clause-answer
returns-in_err-write_head-clause-answer g c =
    let p = err_from_is_err_and c.from_residual.result c.from_residual.ensures.1 in
    rw (p.1, p.2) (answer_first _ _ (flush_head c.args.number c.args.is_last)
    (view_text c.args.prefix.now c.args.format c.args.view.now)
    c.in_err-write_head.field-0.0 c.in_err-write_head.ensures.answer)

pub returns-clause-answer : goal.returns-clause-answer
returns-clause-answer g c =
    answer_next _ (g.O.Sink.state c.write_head.new.out) _ (flush_head c.args.number c.args.is_last)
    (view_text c.args.prefix.now c.args.format c.args.view.now) _ c.in_ok-write_head.ensures.answer
    c.write_view.ensures.answer
