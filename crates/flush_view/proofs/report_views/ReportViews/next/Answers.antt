use Rattle.std.proofs.Common.{◌∙◌, ◌<◌, List, All, Some, length, slice_get, ap, sym, subst, rules, IsUtf8}
use Rattle.std.proofs.lemmas.List.Elements.{All-from_recursion}
use Rattle.stat_defs.specs.declared.configs.BucketSpec.{BucketSpec}
use Rattle.stat_defs.specs.declared.reports.FlushRecord.{FlushRecord}
use Rattle.stat_defs.specs.declared.views.FlushView.{FlushView}
use Rattle.book_state.proofs.Lists.{get_read}
use Rattle.tag_rules.specs.Bounds.{bounds_for}
use Rattle.flush_view.specs.Kept.{metrics_made, ordered_metrics, kept_of}
use Rattle.flush_view.specs.Rows.{view_kept}
use Rattle.flush_view.specs.Showing.{ViewHistory, view_in_turn}
use Rattle.flush_view.specs.Views.{NumberedMetric}
use Rattle.flush_view.proofs.Following.{countable, room_alone, room_beside}
use Rattle.flush_view.proofs.Ready.{ordered_texts, before_there, before_is, ready_next, view_shown}
use Rattle.flush_view.proofs.report_views.ReportViews.next.Goals as goal

pub follow-requires : goal.follow-requires
follow-requires c =
    let v = c.self.inside in
    let ready = c.self.invariant.ready (ap (λ (h : ViewHistory). h.whole) c.self.view_is ∙ c.requires.whole) in
    let look = c.in-Some.ensures.lookup in
    let at = get_read c.items.result.now v.given c.in-Some.flush.now look.3.0 look.1 in
    room_beside v.report.now.flushes (countable v.config.now v.report.now ready.showable) v.given c.in-Some.flush.now
    (ap (λ (l : List FlushRecord). slice_get l v.given) (sym c.items.ensures)
    ∙ at) (metrics_made v.config.now v.report.now) v.progress.cumulative.items ready.followed.slots ready.followed.bins

pub view-requires-clause-texts : goal.view-requires-clause-texts
view-requires-clause-texts c =
    let v = c.self.inside in
    let ready = c.self.invariant.ready (ap (λ (h : ViewHistory). h.whole) c.self.view_is ∙ c.requires.whole) in
    subst (All (λ (numbered : NumberedMetric). IsUtf8 numbered.1.name))
    (sym (c.deref.ensures.value ∙ c.self.invariant.metrics))
    (All-from_recursion (λ (numbered : NumberedMetric). IsUtf8 numbered.1.name)
    (ordered_metrics v.config.now v.report.now)
    (ordered_texts v.config.now v.report.now ready.next))

pub view-requires-clause-room : goal.view-requires-clause-room
view-requires-clause-room c =
    let v = c.self.inside in
    let ready = c.self.invariant.ready (ap (λ (h : ViewHistory). h.whole) c.self.view_is ∙ c.requires.whole) in
    let look = c.in-Some.ensures.lookup in
    let at = get_read c.items.result.now v.given c.in-Some.flush.now look.3.0 look.1 in
    room_alone v.report.now.flushes (countable v.config.now v.report.now ready.showable) v.given c.in-Some.flush.now
    (ap (λ (l : List FlushRecord). slice_get l v.given) (sym c.items.ensures) ∙ at) (length c.deref.result.now)

pub invariant_of-self-2 : goal.invariant_of-self-2
invariant_of-self-2 c =
    let v = c.self.inside in
    let ready = c.self.invariant.ready (ap (λ (h : ViewHistory). h.whole) c.self.view_is ∙ c.requires.whole) in
    let look = c.in-Some.ensures.lookup in
    let at = get_read c.items.result.now v.given c.in-Some.flush.now look.3.0 look.1 in
    record {
      metrics = c.self.invariant.metrics;
      befores = c.self.invariant.befores;
      buckets = c.self.invariant.buckets;
      ready = λ whole. ready_next v.config.now v.report.now v.given v.progress ready c.in-Some.flush.now
          (ap (λ (l : List FlushRecord). slice_get l v.given) (sym c.items.ensures) ∙ at)
          c.follow.new.self c.in_ok-follow.ensures;
    }

pub index-requires : goal.index-requires
index-requires c =
    let v = c.self.inside in
    let ready = c.self.invariant.ready (ap (λ (h : ViewHistory). h.whole) c.self.view_is ∙ c.requires.whole) in
    let look = c.in-Some.ensures.lookup in
    let at = get_read c.items.result.now v.given c.in-Some.flush.now look.3.0 look.1 in
    let there : v.given < length v.befores.items = before_there v.config.now v.report.now v.given v.progress ready c.in-Some.flush.now
    (ap (λ (l : List FlushRecord). slice_get l v.given) (sym c.items.ensures) ∙ at) v.befores.items c.self.invariant.befores in
    search (rules, there)

pub returns-clause-shown : goal.returns-clause-shown
returns-clause-shown c =
    let v = c.self.inside in
    let ready = c.self.invariant.ready (ap (λ (h : ViewHistory). h.whole) c.self.view_is ∙ c.requires.whole) in
    let look = c.in-Some.ensures.lookup in
    let at = get_read c.items.result.now v.given c.in-Some.flush.now look.3.0 look.1 in
    let there = before_there v.config.now v.report.now v.given v.progress ready c.in-Some.flush.now
    (ap (λ (l : List FlushRecord). slice_get l v.given) (sym c.items.ensures) ∙ at) v.befores.items c.self.invariant.befores in
    let known = c.items-before.ensures
    ∙ before_is v.config.now v.report.now v.given v.progress ready c.in-Some.flush.now
    (ap (λ (l : List FlushRecord). slice_get l v.given) (sym c.items.ensures) ∙ at) v.befores.items c.self.invariant.befores
    c.index.result.now (get_read v.befores.items v.given c.index.result.now there c.index.ensures) in
    ap (λ (view : FlushView). Some view) c.in_ok-view.ensures
    ∙ ap (λ (settings : List BucketSpec). Some (view_kept (bounds_for settings) c.items-before.result.now
    (kept_of (length c.deref.result.now) c.in-Some.flush.now c.follow.new.self.totals.items c.follow.new.self.cumulative.items) c.deref.result.now)) c.self.invariant.buckets
    ∙ view_shown v.config.now v.report.now v.given v.progress ready c.in-Some.flush.now
    (ap (λ (l : List FlushRecord). slice_get l v.given) (sym c.items.ensures) ∙ at)
    c.follow.new.self c.in_ok-follow.ensures
    c.items-before.result.now c.deref.result.now known (c.deref.ensures.value ∙ c.self.invariant.metrics)
    ∙ ap view_in_turn c.self.view_is
