use Rattle.std.proofs.Common.{◌≡◌, ◌+◌, ◌-◌, ◌/◌, ◌%◌, ◌≤◌, ℕ, ℤ, pos, w8, to_z, sym, ap, ◌∙◌, arith}
use Rattle.std.proofs.lemmas.Int.{to_z_pos}
use Rattle.loglinear_bins.specs.Table.{bin_at as the_bin}
use Rattle.loglinear_bins.proofs.Places.{bin_at-first, bin_at-later}
use Rattle.loglinear_bins.proofs.Lawful.{is_lawful-bin_at}
use Rattle.loglinear_bins.proofs.place.bin_at.Goals as goal

pub returns-then-place-lt10 : goal.returns-then-place-lt10
returns-then-place-lt10 c =
    let is = bin_at-first c.args.place c.if-place-lt10.true in
    record { bin = sym is; lawful = rw is at (is_lawful-bin_at c.args.place c.requires) }

later : (place : ℕ) → 10 ≤ place → to_z w8 ((place - 10) / 90 + 1) ≡ pos ((place - 10) / 90 + 1) → the_bin place ≡ record { val = (place - 10) % 90 + 10; exp = to_z w8 ((place - 10) / 90 + 1) }
later place large exp = bin_at-later place large ∙ ap (λ (z : ℤ). record { val = (place - 10) % 90 + 10; exp = z }) (sym exp)

pub returns : goal.returns
returns c =
    let is = later c.args.place c.if-place-lt10.false (to_z_pos w8 _ (omega (arith, c.requires))) in
    record { bin = sym is; lawful = rw is at (is_lawful-bin_at c.args.place c.requires) }
