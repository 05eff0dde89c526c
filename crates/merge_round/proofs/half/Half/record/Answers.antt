use Rattle.std.proofs.Common.{arith, rules}
use Rattle.merge_round.specs.Slots.{bins_at}
use Rattle.merge_round.proofs.Totals.{same_at_most, now_warm}
use Rattle.merge_round.proofs.Holding.{half-same, half-more}
use Rattle.merge_round.proofs.half.Half.record.Goals as goal

pub invariant_of-self : goal.invariant_of-self
invariant_of-self c = half-same c.warm.new.self c.self.inside.tables c.self.inside.count _ c.warm.ensures.bins (search rules) c.self.invariant

pub record-requires-clause-warm : goal.record-requires-clause-warm
record-requires-clause-warm c = now_warm _ _ c.args.id.0 c.in_ok-warm.ensures.warm

pub record-requires-clause-room : goal.record-requires-clause-room
record-requires-clause-room c = let h = c.self.invariant in
    let few = same_at_most (bins_at c.warm.new.self) (bins_at c.self.inside.tables) c.self.inside.count c.warm.ensures.bins h.holds.few c.args.id.0 in omega (arith, few, h.limit)

pub invariant_of-self-2 : goal.invariant_of-self-2
invariant_of-self-2 c = let h = c.self.invariant in
    half-more c.record.new.self c.warm.new.self c.self.inside.tables c.self.inside.count c.args.id.0 c.args.v _ c.and-self-inside.result.items c.and-self-inside-2.result.items
    c.record.ensures.bins c.warm.ensures.bins c.record.ensures.warm c.in_ok-warm.ensures.warm c.and-self-inside.ensures c.and-self-inside-2.ensures (search rules) (search (rules, h.number)) h
