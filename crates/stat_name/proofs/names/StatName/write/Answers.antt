use Rattle.std.proofs.Common.{length, arith, ap}
use Rattle.stat_name.proofs.names.StatName.write.Goals as goal

pub overflow_cast-len : goal.overflow_cast-len
overflow_cast-len c =
    omega (arith, c.in_ok-data.ensures.short, c.symbols.ensures.name.few, ap length c.symbols.ensures.numbers)
