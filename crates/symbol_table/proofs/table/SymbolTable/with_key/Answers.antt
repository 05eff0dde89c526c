use Rattle.std.proofs.Common.{refl}
use Rattle.symbol_table.specs.declared.table.SymbolTable.TheInside.{Inside}
use Rattle.symbol_table.proofs.Whole.{empty_kept, total_empty, is_table}
use Rattle.symbol_table.proofs.table.SymbolTable.with_key.Goals as goal

pub invariant_of-result : goal.invariant_of-result
invariant_of-result c = empty_kept _ c.new.ensures.items c.name_map.ensures.empty refl refl

pub returns-clause-total : goal.returns-clause-total
returns-clause-total c = total_empty c.new.result.items c.new.ensures.items

pub returns-clause-table : goal.returns-clause-table
returns-clause-table c =
    let table : Inside = record { slots = c.new.result; index = c.name_map.result; free_from = 0; in_use = 0; recent = c.new-2.result } in
    is_table table (empty_kept table c.new.ensures.items c.name_map.ensures.empty refl refl)
