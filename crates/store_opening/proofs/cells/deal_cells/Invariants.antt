use Rattle.std.proofs.Common.{◌≡◌, vec_len, vec_capacity}
use Rattle.store_opening.specs.Cells.{IsCellDeal}
use Rattle.store_opening.proofs.cells.deal_cells.Given as goal

abbrev pub invariant-loop : goal.invariant-loop
invariant-loop l = IsCellDeal l.deal × (vec_len l.deal.cells ≡ l.counter) × (vec_capacity l.deal.cells ≡ l.fn.workers)
