use Rattle.std.proofs.Common.{◌++◌, ℕ, List, subst, Err}
use Rattle.std.proofs.lemmas.Result.{err_from_is_err_and}
use Rattle.stat_defs.specs.declared.reports.ReadRecord.{ReadRecord}
use Rattle.stats_io.specs.Push.{WritesWhole}
use Rattle.text_parts.specs.Answer.{IsTextAnswer}
use Rattle.text_parts.proofs.Following.{answer_next, answer_first}
use Rattle.flush_view.specs.Views.{view_rules, last_state}
use Rattle.report_text.specs.Parts.{reads_text, symbols_text, workers_text}
use Rattle.report_text.proofs.writing.write_behind.Goals as goal

pub returns-in_err-write_reads-clause-answer : goal.returns-in_err-write_reads-clause-answer
returns-in_err-write_reads-clause-answer g c =
    let p = err_from_is_err_and c.from_residual.result c.from_residual.ensures.1 in
    let report = c.args.report.now in
    rw (p.1, p.2) (answer_first _ _ (reads_text report.reads)
    (symbols_text c.args.symbols (last_state (view_rules c.args.views.now.config).names report.log)
    ++ workers_text report.verdicts)
    c.in_err-write_reads.field-0.0
    (subst (λ (l : List ReadRecord). IsTextAnswer {T = Unit {0}} (g.O.Sink.state c.args.out.now)
    (g.O.Sink.state c.write_reads.new.out)
    (reads_text l) (Err c.in_err-write_reads.field-0.0)) c.items.ensures c.in_err-write_reads.ensures.answer))

pub returns-clause-answer : goal.returns-clause-answer
returns-clause-answer g c =
    let report = c.args.report.now in
    let rules = view_rules c.args.views.now.config in
    answer_next (g.O.Sink.state c.args.out.now) (g.O.Sink.state c.write_reads.new.out)
    (g.O.Sink.state c.write_rows.new.out) (reads_text report.reads)
    (symbols_text c.args.symbols (last_state rules.names report.log)
    ++ workers_text report.verdicts) c.write_rows.result
    (subst (λ (l : List ReadRecord). WritesWhole (g.O.Sink.state c.args.out.now) (g.O.Sink.state c.write_reads.new.out)
    (reads_text l))
    c.items.ensures c.in_ok-write_reads.ensures.answer)
    (subst (λ (l : List ℕ). IsTextAnswer {T = Unit {0}} (g.O.Sink.state c.write_reads.new.out)
    (g.O.Sink.state c.write_rows.new.out) l c.write_rows.result)
    (λ k. symbols_text c.args.symbols (last_state rules.names (c.requires k).log) ++ workers_text (c.items-2.ensures k))
    c.write_rows.ensures.answer)
