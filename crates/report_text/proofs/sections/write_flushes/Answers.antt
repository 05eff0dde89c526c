use Rattle.std.proofs.Common.{◌≡◌, ◌<◌, ◌==◌, ◌+◌, ◌++◌, ℕ, Option, List, length, sym, ap, ◌∙◌, subst, arith}
use Rattle.std.proofs.lemmas.Result.{err_from_is_err_and}
use Rattle.stat_defs.specs.declared.reports.Report.{Report}
use Rattle.stat_defs.specs.declared.views.FlushView.{FlushView}
use Rattle.stats_io.specs.Push.{WritesWhole}
use Rattle.stats_io.proofs.Front.{whole_next}
use Rattle.flush_view.specs.Views.{view_rules, view}
use Rattle.flush_view.specs.Showing.{ViewHistory, view_in_turn}
use Rattle.report_text.specs.ReportText.{view_text}
use Rattle.report_text.specs.Parts.{flush_text}
use Rattle.report_text.proofs.FlushTexts.{flush_next, flush_cut, flushes_done, after_given}
use Rattle.report_text.proofs.sections.write_flushes.Goals as goal

pub returns-in_err-write_flush-clause-answer : goal.returns-in_err-write_flush-clause-answer
returns-in_err-write_flush-clause-answer g c =
    let p = err_from_is_err_and c.from_residual.result c.from_residual.ensures.1 in
    let so_far = c.loop-at.invariant in
    let report = c.args.views.now.report in
    let within : c.loop-at.at < length report.flushes = omega (arith, c.loop-at-test.true, c.requires.count) in
    rw (p.1, p.2) (flush_cut (view_text c.args.prefix.now c.args.format)
    (view_rules c.args.views.now.config) report.log report.flushes
    _ (g.O.Sink.state c.loop-at.out) _ c.loop-at.at (c.loop-at.at + 1 == c.args.count)
    (view_in_turn c.loop-at.views) so_far.done _
    c.in_err-write_flush.field-0.0 within (ap (λ n. c.loop-at.at + 1 == n) c.requires.count)
    (λ k. view (view_rules (so_far.config k)) (so_far.report k).log (so_far.report k).flushes (so_far.given k))
    so_far.rest so_far.written c.in_err-write_flush.ensures.answer)

pub loop-at-preserved : goal.loop-at-preserved
loop-at-preserved g c =
    let so_far = c.loop-at.invariant in
    let report = c.args.views.now.report in
    let rules = view_rules c.args.views.now.config in
    let text = view_text c.args.prefix.now c.args.format in
    let last = c.loop-at.at + 1 == c.args.count in
    let within : c.loop-at.at < length report.flushes = omega (arith, c.loop-at-test.true, c.requires.count) in
    let shown : view_in_turn c.loop-at.views ≡ view rules report.log report.flushes c.loop-at.at =
    λ k. view (view_rules (so_far.config k)) (so_far.report k).log (so_far.report k).flushes (so_far.given k) in
    let piece = flush_text text (c.loop-at.at + 1) last (view rules report.log report.flushes c.loop-at.at) in
    record {
      config = ap (λ (v : ViewHistory). v.config) c.in_ok-write_flush.ensures.views ∙ so_far.config;
      report = ap (λ (v : ViewHistory). v.report) c.in_ok-write_flush.ensures.views ∙ so_far.report;
      given = ap (λ (v : ViewHistory). v.given) c.in_ok-write_flush.ensures.views
          ∙ after_given c.loop-at.views c.loop-at.at
          (subst (λ (r : Report). c.loop-at.at < length r.flushes) (sym so_far.report) within) so_far.given;
      whole = ap (λ (v : ViewHistory). v.whole) c.in_ok-write_flush.ensures.views ∙ so_far.whole;
      done = so_far.done ++ piece;
      written = whole_next _ (g.O.Sink.state c.loop-at.out) _ so_far.done piece so_far.written
          (subst (λ (v : Option FlushView). WritesWhole (g.O.Sink.state c.loop-at.out)
          (g.O.Sink.state c.write_flush.new.out)
          (flush_text text (c.loop-at.at + 1) last v)) shown c.in_ok-write_flush.ensures.answer);
      rest = flush_next text rules report.log report.flushes c.loop-at.at last so_far.done _ within
          (ap (λ n. c.loop-at.at + 1 == n) c.requires.count) so_far.rest;
      later = omega (arith, so_far.later, c.in_ok-write_flush.ensures.later);
    }

pub returns-clause-answer : goal.returns-clause-answer
returns-clause-answer g c =
    let so_far = c.loop-at.invariant in
    let report = c.args.views.now.report in
    subst (λ (l : List ℕ). WritesWhole (g.O.Sink.state c.args.out.now) (g.O.Sink.state c.loop-at.out) l)
    (flushes_done (view_text c.args.prefix.now c.args.format)
    (view_rules c.args.views.now.config) report.log report.flushes c.loop-at.at
    so_far.done _ (omega (arith, c.loop-at-test.false, c.requires.count)) so_far.rest)
    so_far.written
