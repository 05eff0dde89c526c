use Rattle.std.proofs.Common.{◌∙◌, ap, not, filter}
use Rattle.stat_defs.specs.Keys.{held_under}
use Rattle.stat_defs.specs.Keys.{is_through}
use Rattle.thread_cache.specs.Held.{held_without}
use Rattle.thread_cache.proofs.Dropping.{shown-dropped, held-dropped}
use Rattle.thread_cache.proofs.cache.Cache.drop_released.Goals as goal

pub returns-clause-entries : goal.returns-clause-entries
returns-clause-entries c =
    c.tidy-self-inside.ensures.shown
    ∙ (shown-dropped _ _ c.args.released.now c.drop_scopes-self-inside.ensures.live c.self.inside.table.entries
    ∙ (λ i. filter (λ held. not (is_through c.args.released.now held)) (c.self.view_is i).entries))

pub returns-clause-held : goal.returns-clause-held
returns-clause-held c key =
    ap (held_under key) c.tidy-self-inside.ensures.shown
    ∙ (held-dropped _ _ c.args.released.now c.drop_scopes-self-inside.ensures.live c.self.inside.table.entries c.keys_differ.ensures key
    ∙ (λ i. held_without c.args.released.now (held_under key (c.self.view_is i).entries)))
