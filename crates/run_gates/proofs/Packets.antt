-- What a worker has added by packets.
use Rattle.std.proofs.Common.{◌≡◌, ◌≢◌, bit_and, ◌+◌, ◌*◌, ◌<◌, ◌≤◌, ◌%◌, ◌-◌, ◌==◌, ◌^◌, ℕ, zero, suc, cond, Bool, refl, ap, sym, ◌∙◌, arith, inl, inr, eq-eqb, ne_eqb}
use Rattle.std.proofs.lemmas.Bool.Decides.{eqb_tells}
use Rattle.std.proofs.lemmas.Nat.{and_mask, mod-mul-add, pow_pos}
use Rattle.std.proofs.Math.Nat.{suc-mul, zero-mul}
use Rattle.run_gates.specs.Pacing.{added, counted, NeverEarly}

pub added-first : (bits event : ℕ) → event ≤ 1 → added bits event ≡ 0
added-first bits zero low = refl
added-first bits (suc zero) low = refl
added-first bits (suc (suc n)) low = absurd (omega (arith, low))

pub added-later : (bits event : ℕ) → 1 < event → added bits event ≡ cond ((event - 1) % 2 ^ bits == 0) (2 ^ bits) 0
added-later bits zero high = absurd (omega (arith, high))
added-later bits (suc zero) high = absurd (omega (arith, high))
added-later bits (suc (suc n)) high =
    let same : suc (suc n) - 1 ≡ suc n = omega arith in
    ap (λ (done : ℕ). cond (done % 2 ^ bits == 0) (2 ^ bits) 0) (sym same)

-- the bits of a number below a power of two are its remainder
bits-below : (done bits packet : ℕ) → packet ≡ 2 ^ bits → bit_and done (packet - 1) ≡ done % 2 ^ bits
bits-below done bits packet is = ap (λ (n : ℕ). bit_and done (n - 1)) is ∙ and_mask done bits

pub packet-full : (done bits packet : ℕ) → packet ≡ 2 ^ bits → bit_and done (packet - 1) ≡ 0 → packet ≡ cond (done % 2 ^ bits == 0) (2 ^ bits) 0
packet-full done bits packet is full =
    is ∙ sym (ap (λ (t : Bool). cond t (2 ^ bits) 0) (eq-eqb (done % 2 ^ bits) 0 (sym (bits-below done bits packet is) ∙ full)))

pub packet-part : (done bits packet : ℕ) → packet ≡ 2 ^ bits → bit_and done (packet - 1) ≢ 0 → 0 ≡ cond (done % 2 ^ bits == 0) (2 ^ bits) 0
packet-part done bits packet is part =
    sym (ap (λ (t : Bool). cond t (2 ^ bits) 0) (ne_eqb (done % 2 ^ bits) 0 (λ none. part (bits-below done bits packet is ∙ none))))

module _ (bits packet : ℕ) (is : packet ≡ 2 ^ bits) (some : 0 < packet) where
  -- what is done is whole packets, which are counted, and fewer events than one packet more
  pub record IsCut (done : ℕ) : Type 0 where
    pub packets : ℕ
    pub rest : ℕ
    pub short : rest < packet
    pub done_are : done ≡ packets * packet + rest
    pub counted_are : counted bits (suc done) ≡ packets * packet

  one_more : (done : ℕ) (cut : IsCut done) → suc cut.rest ≡ packet → suc done ≡ suc cut.packets * packet + 0
  one_more done cut e =
      let d = cut.done_are in
      let grown = suc-mul cut.packets packet in
      omega (arith, e, d, grown)

  next : (done : ℕ) → IsCut done → IsCut (suc done)
  next done cut = elim (eqb_tells (suc cut.rest) packet) [
    | inl full ↦ record {
      packets = suc cut.packets;
      rest = 0;
      short = some;
      done_are = one_more done cut full.1;
      counted_are =
          let e = full.1 in
          let d = cut.done_are in
          let c = cut.counted_are in
          let whole = one_more done cut e in
          let none : suc done % 2 ^ bits ≡ 0 = ap (λ (n : ℕ). suc done % n) (sym is) ∙ ap (λ (n : ℕ). n % packet) whole ∙ mod-mul-add (suc cut.packets) packet 0 some in
          let grown = suc-mul cut.packets packet in
          let one : added bits (suc (suc done)) ≡ 2 ^ bits = ap (λ (t : Bool). cond t (2 ^ bits) 0) (eq-eqb (suc done % 2 ^ bits) 0 none) in
          omega (arith, c, one, is, grown);
    }
    | inr part ↦ record {
      packets = cut.packets;
      rest = suc cut.rest;
      short = let s = cut.short in let n = part.1 in omega (arith, s, n);
      done_are = let d = cut.done_are in omega (arith, d);
      counted_are =
          let s = cut.short in
          let n = part.1 in
          let d = cut.done_are in
          let c = cut.counted_are in
          let low : suc cut.rest < packet = omega (arith, s, n) in
          let whole : suc done ≡ cut.packets * packet + suc cut.rest = omega (arith, d) in
          let left : suc done % 2 ^ bits ≡ suc cut.rest = ap (λ (n : ℕ). suc done % n) (sym is) ∙ ap (λ (n : ℕ). n % packet) whole ∙ mod-mul-add cut.packets packet (suc cut.rest) low in
          let none : added bits (suc (suc done)) ≡ 0 = ap (λ (t : Bool). cond t (2 ^ bits) 0) (ne_eqb (suc done % 2 ^ bits) 0 (λ e. omega (arith, e, left))) in
          omega (arith, c, none);
    }
  ]

  cut : (done : ℕ) → IsCut done
  cut zero = record { packets = 0; rest = 0; short = some; done_are = let none = zero-mul packet in omega (arith, none); counted_are = sym (zero-mul packet) }
  cut (suc done) = next done (cut done)

pub never_early : NeverEarly
never_early = record {
  not_above = λ bits done. let all = cut bits (2 ^ bits) refl (pow_pos bits) done in let d = all.done_are in let c = all.counted_are in omega (arith, d, c);
  not_far_below = λ bits done.
      let all = cut bits (2 ^ bits) refl (pow_pos bits) done in
      let d = all.done_are in
      let c = all.counted_are in
      let s = all.short in
      omega (arith, d, c, s);
}
