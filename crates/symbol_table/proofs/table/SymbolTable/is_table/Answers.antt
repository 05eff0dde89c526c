use Rattle.std.proofs.Common.{subst}
use Rattle.symbol_table.specs.Table.{IsTable}
use Rattle.symbol_table.proofs.Whole.{is_table}
use Rattle.symbol_table.proofs.table.SymbolTable.is_table.Goals as goal

pub returns : goal.returns
returns c = subst IsTable c.self.view_is (is_table c.self.inside c.self.invariant)
