use Rattle.std.proofs.Common.{◌≡◌, All, ap, sym, subst, ◌∙◌, true}
use Rattle.thread_cache.specs.Scopes.{is_live}
use Rattle.thread_cache.specs.Held.{shown}
use Rattle.thread_cache.proofs.Shown.{shown-alike, shown-kept, all_live-kept}
use Rattle.thread_cache.proofs.table.purge.Goals as goal

pub returns-clause-shown : goal.returns-clause-shown
returns-clause-shown c =
    shown-alike _ _ c.keep_live.new.table.entries c.forget_dropped.ensures.live
    ∙ (ap (shown c.args.scopes.now.entries) c.keep_live.ensures.kept ∙ shown-kept c.args.scopes.now.entries c.args.table.now.entries)

pub returns-clause-all_live : goal.returns-clause-all_live
returns-clause-all_live c =
    subst (All (λ e. is_live c.forget_dropped.new.scopes.entries e.1.scope ≡ true)) (sym c.keep_live.ensures.kept)
    (all_live-kept _ _ c.args.table.now.entries c.forget_dropped.ensures.live)
