-- The bins of circllhist's log-linear histograms: two significant decimal digits and a power of ten.
-- The lawful bins, their order, low end, width, largest whole number and mark stand here alone.
use Rattle.std.specs.Prelude.{ℕ, ℤ, pos, negsuc, zero, suc, ◌+◌, ◌-◌, ◌*◌, ◌/◌, ◌%◌, ◌^◌, Bool, false, ◌&&◌, ◌||◌, ◌==◌}
use Rattle.std.specs.Prelude.{nat_le, nat_lt, if◌then◌else◌, List, [], ◌∷◌, length}
use Rattle.std.specs.Int.Digits.{digits_of}
use Rattle.std.specs.Ordering.{int_eq}
use Rattle.stat_defs.specs.declared.bins.Bin.{Bin}
use Rattle.loglinear_bins.specs.declared.place.TheConstants.{GREATEST_EXP, GREATEST_VAL}

-- the bin of a number with these decimal digits, the highest first: its first two digits, or ten times its one digit,
-- and how many digits follow the first one; the number 0 has no digits here
abbrev pub bin_of_digits : List ℕ → Bin
bin_of_digits [] = record { val = 0; exp = pos 0 }
bin_of_digits (first ∷ []) = record { val = 10 * first; exp = pos 0 }
bin_of_digits (first ∷ second ∷ others) = record { val = 10 * first + second; exp = pos (length others + 1) }

-- the bin that holds a value
unfoldable pub bin_of_value : ℕ → Bin
bin_of_value v = bin_of_digits (digits_of 10 v)

-- how far an exponent is above the least one, which is 0
abbrev pub steps : ℤ → ℕ
steps (pos e) = e
steps (negsuc e) = 0

-- at the least exponent val is a multiple of ten up to 90, and at any other it has two digits,
-- which are at most 18 at the greatest exponent: no value of 64 bits is above that
abbrev pub is_lawful_at : ℕ → ℤ → Bool
is_lawful_at val (negsuc e) = false
is_lawful_at val (pos zero) = val % 10 == 0 && nat_le val 90
is_lawful_at val (pos (suc e)) =
    nat_le 10 val && nat_le val 99
    && (nat_lt (suc e) GREATEST_EXP || (suc e == GREATEST_EXP && nat_le val GREATEST_VAL))

-- the bins that values of 64 bits meet
abbrev pub is_lawful : Bin → Bool
is_lawful bin = is_lawful_at bin.val bin.exp

abbrev pub is_same : Bin → Bin → Bool
is_same one other = one.val == other.val && int_eq one.exp other.exp

-- ten times the least value of a bin; bins are ordered by it
unfoldable pub low_tenths : Bin → ℕ
low_tenths bin = bin.val * 10 ^ steps bin.exp

-- a thousand times the least value of a bin
unfoldable pub low_thousandths : Bin → ℕ
low_thousandths bin = bin.val * 100 * 10 ^ steps bin.exp

-- a thousand times the width of a bin; that of 0 holds nothing else
unfoldable pub width_thousandths : Bin → ℕ
width_thousandths bin = if bin.val == 0 then 0 else 100 * 10 ^ steps bin.exp

abbrev pub largest_at : ℕ → ℕ → ℕ
largest_at val zero = val / 10
largest_at val (suc e) = (val + 1) * 10 ^ e - 1

-- the largest whole number in a bin
unfoldable pub largest_whole : Bin → ℕ
largest_whole bin = largest_at bin.val (steps bin.exp)

-- twenty times the middle of a bin, as which a sum counts each value in it; that of 0 is 0
unfoldable pub mark_twentieths : Bin → ℕ
mark_twentieths bin = if bin.val == 0 then 0 else (2 * bin.val + 1) * 10 ^ steps bin.exp
