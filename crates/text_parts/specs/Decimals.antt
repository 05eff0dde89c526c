-- Numbers with a decimal fraction, as texts print them. This project's own.
use Rattle.std.specs.Prelude.{ℕ, ◌+◌, ◌*◌, ◌/◌, ◌%◌, ◌==◌, if◌then◌else◌, List, [], ◌∷◌, ◌++◌}
use Rattle.std.specs.Fmt.{decimal}

-- the digits of so many hundredths, up to the last that is not 0
abbrev pub hundredth_digits : ℕ → List ℕ
hundredth_digits n = if n == 0 then [] else (48 + n / 10) ∷ (if n % 10 == 0 then [] else (48 + n % 10) ∷ [])

-- a fraction of so many thousandths: a dot and its digits up to the last that is not 0, or nothing where there are none
abbrev pub fraction : ℕ → List ℕ
fraction n = if n == 0 then [] else 46 ∷ (48 + n / 100) ∷ hundredth_digits (n % 100)

-- a number of thousandths, as `110.5` for 110,500
abbrev pub thousandths : ℕ → List ℕ
thousandths n = decimal (n / 1000) ++ fraction (n % 1000)

-- a number of twentieths, as `5100.45` for 102,009
abbrev pub twentieths : ℕ → List ℕ
twentieths n = decimal (n / 20) ++ fraction (50 * (n % 20))

-- a number of halves, as `0.5` for 1
abbrev pub halves : ℕ → List ℕ
halves n = decimal (n / 2) ++ fraction (500 * (n % 2))
