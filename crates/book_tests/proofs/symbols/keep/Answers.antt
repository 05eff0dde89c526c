use Rattle.std.proofs.Common.{arith}
use Rattle.symbol_table.proofs.Adding.{in_use_all}
use Rattle.book_tests.proofs.symbols.keep.Goals as goal

pub text_of-requires : goal.text_of-requires
text_of-requires g c = in_use_all c.drop_name.new.self c.in_ok-name.name (λ n. omega (arith, c.drop_name.ensures.uses n, c.hold.ensures.uses n, c.in_ok-name.ensures.uses n))
