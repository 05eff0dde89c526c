use Rattle.std.proofs.Common.{◌∙◌, List, [], length, get_or, ap, sym, subst}
use Rattle.stat_defs.specs.declared.history.Entry.{Entry}
use Rattle.stat_defs.specs.declared.reports.FlushRecord.{FlushRecord}
use Rattle.book_state.specs.declared.limits.TheConstants.{MAX_METRICS}
use Rattle.flush_view.specs.Kept.{HasSums}
use Rattle.flush_view.specs.Replaying.{state_after}
use Rattle.live_view.proofs.Showing.{next, room, room_for, sums_now, book_now, texts_now, page_shown, page_bins}
use Rattle.live_view.proofs.live_views.LiveViews.show.Goals as goal

pub carry_on-requires-clause-next : goal.carry_on-requires-clause-next
carry_on-requires-clause-next c =
    next c.self.inside c.self.invariant c.args.self.now c.self.view_is c.requires.whole c.args.log.now c.args.flush.now
    c.requires.follows c.requires.showable

pub follow-requires : goal.follow-requires
follow-requires c =
    room c.self.inside c.self.invariant c.args.self.now c.self.view_is c.requires.whole c.args.log.now c.args.flush.now
    c.requires.follows c.requires.showable

pub view-requires-clause-texts : goal.view-requires-clause-texts
view-requires-clause-texts c =
    texts_now c.self.inside c.self.invariant c.args.self.now c.self.view_is c.requires.whole c.args.log.now
    c.args.flush.now c.requires.follows c.requires.showable c.carry_on.new.book c.in_ok-before.ensures.book
    c.in_ok-copy_of_metrics.field-0.items c.deref.result.now c.in_ok-copy_of_metrics.ensures
    (c.deref.ensures.value ∙ c.in_ok-metrics.ensures)

pub view-requires-clause-room : goal.view-requires-clause-room
view-requires-clause-room c =
    room_for c.self.inside c.self.invariant c.args.self.now c.self.view_is c.requires.whole c.args.log.now
    c.args.flush.now c.requires.follows c.requires.showable (length c.deref.result.now)

pub invariant_of-self-2 : goal.invariant_of-self-2
invariant_of-self-2 c =
    let v = c.self.inside in
    record {
      buckets = c.self.invariant.buckets;
      ready = λ whole. record {
        book = book_now v c.self.invariant c.args.self.now c.self.view_is c.requires.whole c.args.log.now
            c.args.flush.now c.requires.follows c.requires.showable c.carry_on.new.book c.in_ok-before.ensures.book
            ∙ ap (λ (logs : List (List Entry)). state_after v.config.now.tags v.workers (get_or logs 0 []))
            (sym c.only-self-inside.ensures);
        followed = ap (λ (logs : List (List Entry)). length (get_or logs 0 [])) (sym c.only-self-inside.ensures);
        sums = subst (λ (flushes : List FlushRecord). HasSums MAX_METRICS flushes c.follow.new.self)
            (sym c.and-self-inside.ensures)
            (sums_now v c.self.invariant c.args.self.now c.self.view_is c.requires.whole c.args.log.now
            c.args.flush.now c.requires.follows c.requires.showable c.follow.new.self c.in_ok-follow.ensures);
      };
    }

pub returns-clause-shown : goal.returns-clause-shown
returns-clause-shown c =
    page_shown c.self.inside c.self.invariant c.args.self.now c.self.view_is c.requires.whole c.args.log.now
    c.args.flush.now c.requires.follows c.requires.showable c.carry_on.new.book c.in_ok-before.ensures.book
    c.in_ok-copy_of_metrics.field-0.items c.deref.result.now c.in_ok-copy_of_metrics.ensures
    (c.deref.ensures.value ∙ c.in_ok-metrics.ensures) c.follow.new.self c.in_ok-follow.ensures
    c.items-before.result.now (c.items-before.ensures ∙ c.in_ok-before.ensures.before)
    c.in_ok-view.view c.in_ok-view.ensures

pub returns-clause-bins : goal.returns-clause-bins
returns-clause-bins c =
    page_bins c.self.inside c.self.invariant c.args.self.now c.self.view_is c.requires.whole c.args.log.now
    c.args.flush.now c.requires.follows c.requires.showable c.carry_on.new.book c.in_ok-before.ensures.book
    c.in_ok-copy_of_metrics.field-0.items c.deref.result.now c.in_ok-copy_of_metrics.ensures
    (c.deref.ensures.value ∙ c.in_ok-metrics.ensures) c.follow.new.self c.in_ok-follow.ensures
    c.items-before.result.now (c.items-before.ensures ∙ c.in_ok-before.ensures.before)
    c.in_ok-view.view c.in_ok-view.ensures
