use Rattle.std.proofs.Common.{◌≡◌, ℕ, List, ap, ◌∙◌, subst, Err}
use Rattle.std.proofs.lemmas.Result.{err_from_is_err_and}
use Rattle.stat_defs.specs.declared.configs.Config.{Config}
use Rattle.stats_io.specs.Push.{WritesWhole}
use Rattle.text_parts.specs.Answer.{IsTextAnswer}
use Rattle.text_parts.proofs.Following.{answer_next, answer_first}
use Rattle.flush_view.specs.Showing.{ViewHistory}
use Rattle.flush_view.specs.Views.{view_rules}
use Rattle.report_text.specs.ReportText.{view_text}
use Rattle.report_text.specs.Parts.{flushes_text, text_behind}
use Rattle.report_text.proofs.WholeText.{in_parts}
use Rattle.report_text.proofs.writing.write_report.Goals as goal

pub returns-in_err-write_flushes-clause-answer : goal.returns-in_err-write_flushes-clause-answer
returns-in_err-write_flushes-clause-answer g c =
    let p = err_from_is_err_and c.from_residual-in_err-write_flushes.result
    c.from_residual-in_err-write_flushes.ensures.1 in
    let text = view_text c.args.config.now.statsd_prefix c.args.options.format in
    let rules = view_rules c.args.config.now in
    let report = c.args.report.now in
    let x = g.O.Sink.state c.args.out.now in
    let y = g.O.Sink.state c.write_flushes.new.out in
    rw (p.1, p.2)
    (subst (λ (l : List ℕ). IsTextAnswer {T = Unit {0}} x y l (Err c.in_err-write_flushes.field-0.0))
    (in_parts text rules c.args.options.symbols report)
    (answer_first x y (flushes_text text rules report) (text_behind rules c.args.options.symbols report)
    c.in_err-write_flushes.field-0.0
    (subst (λ (v : ViewHistory). IsTextAnswer {T = Unit {0}} x y (flushes_text text (view_rules v.config) v.report)
    (Err c.in_err-write_flushes.field-0.0)) c.in_ok-views.ensures c.in_err-write_flushes.ensures.answer)))

pub returns-clause-answer : goal.returns-clause-answer
returns-clause-answer g c =
    let text = view_text c.args.config.now.statsd_prefix c.args.options.format in
    let rules = view_rules c.args.config.now in
    let report = c.args.report.now in
    let x = g.O.Sink.state c.args.out.now in
    let y = g.O.Sink.state c.write_flushes.new.out in
    let z = g.O.Sink.state c.write_behind.new.out in
    let config : c.write_flushes.new.views.config ≡ c.args.config.now =
    c.in_ok-write_flushes.ensures.config ∙ ap (λ (v : ViewHistory). v.config) c.in_ok-views.ensures in
    subst (λ (l : List ℕ). IsTextAnswer {T = Unit {0}} x z l c.write_behind.result)
    (in_parts text rules c.args.options.symbols report)
    (answer_next x y z (flushes_text text rules report)
    (text_behind rules c.args.options.symbols report) c.write_behind.result
    (subst (λ (v : ViewHistory). WritesWhole x y (flushes_text text (view_rules v.config) v.report))
    c.in_ok-views.ensures
    c.in_ok-write_flushes.ensures.answer)
    (subst (λ (k : Config). IsTextAnswer {T = Unit {0}} y z
    (text_behind (view_rules k) c.args.options.symbols report) c.write_behind.result)
    config c.write_behind.ensures.answer))
