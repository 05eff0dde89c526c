use Rattle.std.proofs.Common.{◌≡◌, List, fold, ap, sym, ◌∙◌, subst}
use Rattle.stat_defs.specs.declared.history.Entry.{Entry}
use Rattle.book_state.specs.State.{metrics_of}
use Rattle.book_state.specs.Stored.{StateView, after_entry}
use Rattle.flush_view.specs.Replaying.{AreNext, first_state}
use Rattle.flush_view.specs.Views.{view_rules, ends_in}
use Rattle.flush_view.specs.Walk.{changes_behind}
use Rattle.flush_view.proofs.Ready.{log_next, stored_is}
use Rattle.flush_view.proofs.Replayed.{tags_drawn}
use Rattle.flush_view.proofs.Walking.{drawn_changes}
use Rattle.flush_view.proofs.log_names.names_of_log.Goals as goal

pub changes_of-requires : goal.changes_of-requires
changes_of-requires c =
    let config = c.args._config.now in
    let report = c.args.report.now in
    let workers = c.workers_of.ensures ∙ ap ends_in c.items-log.ensures in
    let book_is : c.in_ok-book.book ≡ first_state config.tags (ends_in report.log) =
    c.in_ok-book.ensures ∙ (λ i. first_state (c.requires.rules i) (workers i)) in
    subst (λ (l : List Entry). AreNext c.in_ok-book.book l) (sym c.items-log.ensures)
    (subst (λ (v : StateView). AreNext v report.log) (sym book_is)
    (log_next config report c.requires.showable c.requires.showable.calls))

pub returns : goal.returns
returns c =
    let config = c.args._config.now in
    let report = c.args.report.now in
    let workers = c.workers_of.ensures ∙ ap ends_in c.items-log.ensures in
    let book_is : c.in_ok-book.book ≡ first_state config.tags (ends_in report.log) =
    c.in_ok-book.ensures ∙ (λ i. first_state (c.requires.rules i) (workers i)) in
    let metrics = c.of.ensures ∙ c.in_ok-metrics.ensures.metrics
    ∙ ap (λ (v : StateView). metrics_of v.state)
    (c.in_ok-changes.ensures.book ∙ (λ i. fold after_entry (book_is i) (c.items-log.ensures i)))
    ∙ ap metrics_of (stored_is config report report.log) in
    let changes = c.of-2.ensures ∙ c.in_ok-changes.ensures.changes
    ∙ (λ i. changes_behind (book_is i) 0 (c.items-log.ensures i))
    ∙ drawn_changes (view_rules config).names (first_state config.tags (ends_in report.log)) 0 report.log
    (tags_drawn config.matcher config.tags) in
    λ i. record { metrics = metrics i; changes = changes i }
