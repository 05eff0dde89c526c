use Rattle.std.proofs.lemmas.Result.{err_from_is_err_and}
use Rattle.text_parts.proofs.Following.{answer_next, answer_first}
use Rattle.flush_view.specs.Views.{view_rules, last_state}
use Rattle.report_text.specs.Parts.{symbols_text, workers_text}
use Rattle.report_text.proofs.writing.write_rows.Goals as goal

pub returns-in_err-write_symbols-clause-answer : goal.returns-in_err-write_symbols-clause-answer
returns-in_err-write_symbols-clause-answer g c =
    let p = err_from_is_err_and c.from_residual.result c.from_residual.ensures.1 in
    rw (p.1, p.2) (answer_first _ _
    (symbols_text c.args.symbols (last_state (view_rules c.args.views.now.config).names c.args.views.now.report.log))
    (workers_text c.args.lists.now) c.in_err-write_symbols.field-0.0 c.in_err-write_symbols.ensures.answer)

pub returns-clause-answer : goal.returns-clause-answer
returns-clause-answer g c =
    answer_next _ (g.O.Sink.state c.write_symbols.new.out) _
    (symbols_text c.args.symbols (last_state (view_rules c.args.views.now.config).names c.args.views.now.report.log))
    (workers_text c.args.lists.now) _ c.in_ok-write_symbols.ensures.answer c.write_workers.ensures.answer
