-- What the fields of a set of numbers keep. This project's own.
use Rattle.std.specs.Prelude.{ℕ, List}
use Rattle.book_state.specs.declared.numbers.FewOrMany.{FewOrMany}
use Rattle.book_state.specs.declared.numbers.FewOrMany.TheVariants as kept
use Rattle.book_state.specs.Bearing.{NoDoubles}

-- the numbers, in the order in which they came
abbrev pub listed : FewOrMany → List ℕ
listed (kept.Few few) = few.items
listed (kept.Many index) = index.keys

abbrev pub AreApart : FewOrMany → Type 0
AreApart numbers = NoDoubles (listed numbers)
