use Rattle.std.proofs.Common.{◌≡◌, ◌∙◌, ap, sym, take}
use Rattle.std.specs.Int.{from_le_bytes, to_le_bytes, w64}
use Rattle.thread_cache.proofs.TextLemmas.{last_decide}
use Rattle.thread_cache.proofs.texts.eights_equal.Goals as goal

pub returns-then-eight_at : goal.returns-then-eight_at
returns-then-eight_at c =
    let first : take 8 c.args.a.now ≡ take 8 c.args.b.now =
    sym c.eight_at.ensures.bytes ∙ (ap (to_le_bytes w64) c.if-eight_at.true ∙ c.eight_at-2.ensures.bytes) in
    let x = c.eight_at-then-eight_at in
    let y = c.eight_at-then-eight_at-2 in
    last_decide 8 c.args.a.now c.args.b.now c.requires.alike c.requires.within c.requires.covered (from_le_bytes w64)
    (to_le_bytes w64) x.result y.result first x.ensures.value y.ensures.value x.ensures.bytes y.ensures.bytes
