use Rattle.std.proofs.Common.{◌∙◌, Some}
use Rattle.thread_cache.specs.Held.{shown}
use Rattle.thread_cache.proofs.cache.Cache.reserve.Goals as goal

pub returns-clause-reserved : goal.returns-clause-reserved
returns-clause-reserved c =
    (λ i. record { entries = shown (c.reserve-2.ensures.entries i) (c.reserve.ensures.entries i); room = Some (c.in_ok-copy.ensures i) })
    ∙ (λ i. record { entries = (c.self.view_is i).entries; room = Some c.args.key.now })
