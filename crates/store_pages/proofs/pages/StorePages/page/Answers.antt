use Rattle.std.proofs.Common.{◌++◌, ◌∷◌, [], List, Bool, subst, sym, ap, ◌∙◌}
use Rattle.stat_defs.specs.declared.history.Entry.{Entry}
use Rattle.live_view.specs.Live.{CanBeShown}
use Rattle.store_pages.specs.PagesKept.{AreKept}
use Rattle.store_pages.proofs.InStep.{shows, in_step, has_histograms}
use Rattle.store_pages.proofs.pages.StorePages.page.Goals as goal

pub show-requires-clause-showable : goal.show-requires-clause-showable
show-requires-clause-showable c =
    let p = c.self.inside in
    let kept = subst (λ (w : Bool). AreKept p.store p.views w) c.if-not-self.false c.self.invariant in
    subst (λ (l : List Entry). CanBeShown p.views.config p.views.workers l (p.views.flushes ++ c.in_ok-flush.flush ∷ []))
    (sym c.log.ensures.log)
    (shows p.store c.flush.new.self p.views kept c.in_ok-flush.flush c.in_ok-flush.ensures.ok c.log.ensures.legal
    c.log.ensures.one_worker c.log.ensures.lawful c.log.ensures.accounts)

pub invariant_of-self-2 : goal.invariant_of-self-2
invariant_of-self-2 c =
    let p = c.self.inside in
    let kept = subst (λ (w : Bool). AreKept p.store p.views w) c.if-not-self.false c.self.invariant in
    in_step p.store c.flush.new.self p.views kept c.in_ok-flush.flush c.in_ok-flush.ensures.ok c.show.new.self
    (c.in_ok-shown.ensures.ok
    ∙ ap (λ (l : List Entry). record p.views { log = l; flushes = p.views.flushes ++ c.in_ok-flush.flush ∷ [] })
    c.log.ensures.log)

pub returns-clause-texts : goal.returns-clause-texts
returns-clause-texts c = has_histograms c.in_ok-shown.shown c.in_ok-shown.ensures.bins
