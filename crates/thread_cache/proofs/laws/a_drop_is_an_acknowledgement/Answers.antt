use Rattle.std.proofs.Common.{◌∙◌, sym, ap}
use Rattle.thread_cache.specs.Held.{held_without}
use Rattle.thread_cache.proofs.Agreeing.{held_left}
use Rattle.thread_cache.proofs.laws.a_drop_is_an_acknowledgement.Goals as goal

pub returns : goal.returns
returns c cached left held released stays same apart tells left_is key =
    left_is key ∙ (ap (held_without released) (same key) ∙ sym (held_left key released stays held apart tells))
