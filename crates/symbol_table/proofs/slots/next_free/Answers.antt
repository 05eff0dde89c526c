use Rattle.std.proofs.Common.{◌≡◌, ◌<◌, arith, ap, ◌∙◌}
use Rattle.symbol_table.specs.declared.slots.Slot.{Slot}
use Rattle.symbol_table.proofs.Counting.{get_here, used_more}
use Rattle.symbol_table.proofs.slots.next_free.Goals as goal

some_use : (x y : Slot) → x ≡ y → (y.uses ≡ 0 → ⊥) → 0 < x.uses
some_use x y e h = let same : x.uses ≡ y.uses = ap (λ (s : Slot). s.uses) e in omega arith

pub loop-at-preserved : goal.loop-at-preserved
loop-at-preserved c = record {
  after = omega arith;
  within = omega arith;
  used = used_more c.args.slots.now c.args.from c.loop-at.at c.index-slots-at.result c.loop-at.invariant.used (get_here c.args.slots.now c.loop-at.at c.index-slots-at.result c.loop-at-test.true c.index-slots-at.is) (some_use c.index-slots-at.result _ c.index-slots-at.is c.if-slots-at-eq0.false);
}

pub returns-then-slots-at-eq0-clause-free : goal.returns-then-slots-at-eq0-clause-free
returns-then-slots-at-eq0-clause-free c = λ within.
    (c.index-slots-at.result, get_here c.args.slots.now c.loop-at.at c.index-slots-at.result within c.index-slots-at.is, ap (λ (s : Slot). s.uses) c.index-slots-at.is ∙ c.if-slots-at-eq0.true)
