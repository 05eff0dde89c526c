-- What `bins` writes. The form of its lines is this project's own; the bins are those of circllhist.
use Rattle.std.specs.Prelude.{ℕ, List, ◌++◌, codes}
use Rattle.std.specs.List.{flat_map}
use Rattle.std.specs.Fmt.{decimal, signed_decimal}
use Rattle.stat_defs.specs.declared.bins.Bin.{Bin}
use Rattle.loglinear_bins.specs.Bins.{bin_of_value}

-- `V VAL EXP`
abbrev pub value_line : ℕ → Bin → List ℕ
value_line value bin = decimal value ++ (codes " " ++ (decimal bin.val ++ (codes " " ++ (signed_decimal bin.exp ++ codes "\n"))))

-- the line on a value, with its bin
abbrev pub bin_line : ℕ → List ℕ
bin_line value = value_line value (bin_of_value value)

-- a line for each value, in order
abbrev pub bin_lines : List ℕ → List ℕ
bin_lines values = flat_map bin_line values
