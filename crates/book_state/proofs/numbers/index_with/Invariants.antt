use Rattle.std.proofs.Common.{◌≡◌, take}
use Rattle.book_state.proofs.numbers.index_with.Given as goal

abbrev pub invariant-loop-number : goal.invariant-loop-number
invariant-loop-number l = l.index.keys ≡ take l.number-index l.numbers
