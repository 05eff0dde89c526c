use Rattle.std.proofs.Common.{◌≡◌, ℕ, List, codes, sym, ap, ◌∙◌, subst}
use Rattle.std.specs.Borrow.{Bor}
use Rattle.std.specs.List.{flat_map}
use Rattle.std.proofs.lemmas.Result.{err_from_is_err_and}
use Rattle.std.proofs.lemmas.List.Folds.{flat_map-map}
use Rattle.stat_defs.specs.declared.metrics.Metric.{Metric}
use Rattle.stats_io.proofs.Front.{cut_first}
use Rattle.text_parts.specs.Answer.{IsTextAnswer}
use Rattle.text_parts.proofs.Following.{answer_next}
use Rattle.flush_view.specs.Symbols.{live_metrics, symbol_line}
use Rattle.flush_view.specs.Views.{view_rules, last_state}
use Rattle.report_text.proofs.writing.write_symbol_rows.Goals as goal

pub returns-in_err-push_all-clause-answer : goal.returns-in_err-push_all-clause-answer
returns-in_err-push_all-clause-answer g c =
    let p = err_from_is_err_and c.from_residual-in_err-push_all.result c.from_residual-in_err-push_all.ensures.1 in
    let views = c.args.views.now in
    rw (p.1, p.2) (cut_first _ _ (codes "# symbols\n")
    (flat_map symbol_line (live_metrics (last_state (view_rules views.config).names views.report.log)))
    c.in_err-push_all.ensures.front)

pub returns-clause-answer : goal.returns-clause-answer
returns-clause-answer g c =
    let views = c.args.views.now in
    let live = live_metrics (last_state (view_rules views.config).names views.report.log) in
    let lines : flat_map (λ (m : Bor Metric). symbol_line m.now) c.deref.result.now ≡ flat_map symbol_line live =
    ap (λ (l : List (Bor Metric)). flat_map (λ m. symbol_line m.now) l) c.deref.ensures.value
    ∙ sym (flat_map-map symbol_line (λ (m : Bor Metric). m.now) c.in_ok-metrics.metrics.items)
    ∙ ap (λ (l : List Metric). flat_map symbol_line l) c.in_ok-metrics.ensures in
    answer_next (g.O.Sink.state c.args.out.now) (g.O.Sink.state c.push_all.new.out)
    (g.O.Sink.state c.write_metrics.new.out)
    (codes "# symbols\n") (flat_map symbol_line live) c.write_metrics.result c.in_ok-push_all.ensures.whole
    (subst (λ (l : List ℕ). IsTextAnswer {T = Unit {0}} (g.O.Sink.state c.push_all.new.out)
    (g.O.Sink.state c.write_metrics.new.out) l
    c.write_metrics.result) lines c.write_metrics.ensures.answer)
