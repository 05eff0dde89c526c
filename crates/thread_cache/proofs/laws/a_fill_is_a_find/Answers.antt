use Rattle.std.proofs.Common.{◌∙◌, sym, ap, if◌then◌else◌, Some}
use Rattle.stat_defs.specs.Keys.{same_key}
use Rattle.thread_cache.proofs.Agreeing.{last_held}
use Rattle.thread_cache.proofs.laws.a_fill_is_a_find.Goals as goal

pub returns : goal.returns
returns c cached filled held one same free filled_is key =
    filled_is key ∙ (ap (λ o. if same_key one.key key then Some one else o) (same key) ∙ sym (last_held key one held free))
