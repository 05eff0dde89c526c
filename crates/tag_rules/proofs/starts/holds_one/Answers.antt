use Rattle.std.proofs.Common.{◌≡◌, ℕ, ◌<◌, [], map, Vec, Global, sym, ap, ◌∙◌, subst, arith, inl, inr, true≢false}
use Rattle.std.proofs.lemmas.Bool.{cases_lt}
use Rattle.std.proofs.lemmas.List.{get_or-map, length-map}
use Rattle.regex_literal.specs.Find.{OccursAt, needle_at}
use Rattle.tag_rules.proofs.starts.holds_one.Goals as goal

pub loop-needle-preserved : goal.loop-needle-preserved
loop-needle-preserved c n k below here = elim (cases_lt n c.loop-needle.needle-index) [
  | inl lt ↦ c.loop-needle.invariant n k lt here
  | inr ge ↦
      let same : n ≡ c.loop-needle.needle-index = omega (arith, below, ge) in
      let item =
      get_or-map (λ (v : Vec ℕ Global). v.items) c.args.needles.now c.loop-needle.needle-index c.needle-item.result [] c.loop-needle-test.true
      ∙ ap (λ v. v.items) (sym c.needle-item.is) in
      let stands = subst (λ part. OccursAt c.args.hay.now part k)
      (ap (needle_at (map (λ needle. needle.items) c.args.needles.now)) same ∙ item ∙ sym c.deref.ensures.value) here in
      absurd (true≢false (sym (c.occurs.ensures k stands) ∙ c.if-occurs.false))
]

pub returns : goal.returns
returns c holds =
    let below : holds.1.0 < c.loop-needle.needle-index =
    omega (arith, holds.1.1, length-map c.args.needles.now (λ v. v.items), c.loop-needle-test.false) in
    absurd (c.loop-needle.invariant holds.1.0 holds.0 below holds.1.2)
