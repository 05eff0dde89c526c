use Rattle.std.proofs.Common.{◌≡◌, ◌∙◌, ap, sym, take}
use Rattle.std.specs.Int.{from_le_bytes, to_le_bytes, w32}
use Rattle.thread_cache.proofs.TextLemmas.{last_decide}
use Rattle.thread_cache.proofs.texts.fours_equal.Goals as goal

pub returns-then-four_at : goal.returns-then-four_at
returns-then-four_at c =
    let first : take 4 c.args.a.now ≡ take 4 c.args.b.now =
    sym c.four_at.ensures.bytes ∙ (ap (to_le_bytes w32) c.if-four_at.true ∙ c.four_at-2.ensures.bytes) in
    let x = c.four_at-then-four_at in
    let y = c.four_at-then-four_at-2 in
    last_decide 4 c.args.a.now c.args.b.now c.requires.alike c.requires.within c.requires.covered (from_le_bytes w32)
    (to_le_bytes w32) x.result y.result first x.ensures.value y.ensures.value x.ensures.bytes y.ensures.bytes
