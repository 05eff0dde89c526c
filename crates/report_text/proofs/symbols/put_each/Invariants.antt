use Rattle.std.proofs.Common.{◌≡◌, ◌++◌, length, map, take}
use Rattle.std.specs.List.{flat_map, zip}
use Rattle.flush_view.specs.Symbols.{symbol_told}
use Rattle.report_text.proofs.symbols.put_each.Given as goal

abbrev pub invariant-loop-number : goal.invariant-loop-number
invariant-loop-number l =
    l.text.items ≡ l.fn.text.items ++ flat_map symbol_told
    (take (length l.yielded) (zip l.numbers (map (λ token. token.now) l.cut)))
