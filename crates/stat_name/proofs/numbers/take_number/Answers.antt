use Rattle.std.proofs.Common.{◌≡◌, ℕ, ◌<◌, ◌≤◌, ◌⊎◌, arith, sym, inl, inr}
use Rattle.stat_name.proofs.Reading.{none_read, five_read, all_read, only_last, last_read, length_read, one_more}
use Rattle.stat_name.proofs.numbers.take_number.Goals as goal

some_last : (i g : ℕ) → ((g ≡ 0) × (i ≤ 0)) ⊎ (g ≡ 0 → ⊥) → (i ≡ 0) ⊎ (0 < g)
some_last i g h = elim h [ inl z ↦ inl (omega arith) | inr n ↦ inr (omega arith) ]

pub loop-i-init : goal.loop-i-init
loop-i-init c = none_read c.args.bytes.now

pub returns-then-i-eq-MAX_SPELLING_BYTES : goal.returns-then-i-eq-MAX_SPELLING_BYTES
returns-then-i-eq-MAX_SPELLING_BYTES c = five_read c.args.bytes.now c.loop-i.i c.loop-i.sum c.loop-i.scale c.loop-i.invariant (omega arith)

pub returns-then-i-gt0 : goal.returns-then-i-gt0
returns-then-i-gt0 c = λ n b.
    let o = only_last c.args.bytes.now c.loop-i.i c.loop-i.sum c.loop-i.scale c.loop-i.invariant c.from-group.result c.loop-i-test.true (sym c.from-group.ensures) c.if-group-lt128.true n b in
    elim o.0 [ inl first ↦ absurd (omega arith) | inr above ↦ absurd (omega arith) ]

pub returns-then-n : goal.returns-then-n
returns-then-n c = λ n b.
    let o = only_last c.args.bytes.now c.loop-i.i c.loop-i.sum c.loop-i.scale c.loop-i.invariant c.from-group.result c.loop-i-test.true (sym c.from-group.ensures) c.if-group-lt128.true n b in
    let small = b.small in
    let is = o.1 in
    absurd (omega arith)

pub returns-then-group-lt128 : goal.returns-then-group-lt128
returns-then-group-lt128 c =
    let last = some_last _ _ c.else-group-eq0.either in (
      last_read c.args.bytes.now c.loop-i.i c.loop-i.sum c.loop-i.scale c.loop-i.invariant c.from-group.result c.loop-i-test.true (sym c.from-group.ensures) c.if-group-lt128.true last c.if-n.false,
      length_read c.args.bytes.now c.loop-i.i c.loop-i.sum c.loop-i.scale c.loop-i.invariant c.from-group.result c.loop-i-test.true (sym c.from-group.ensures) c.if-group-lt128.true last,
    )

pub loop-i-preserved : goal.loop-i-preserved
loop-i-preserved c = one_more c.args.bytes.now c.loop-i.i c.loop-i.sum c.loop-i.scale c.loop-i.invariant c.from-group.result c.loop-i-test.true (sym c.from-group.ensures) (omega arith) (omega (arith, c.type_inv.bytes c.loop-i.i, c.from-group.ensures)) (omega arith)

pub returns : goal.returns
returns c = all_read c.args.bytes.now c.loop-i.i c.loop-i.sum c.loop-i.scale c.loop-i.invariant (omega arith)
