use Rattle.ledger.proofs.PartLists.{counts, all, nothing_left, less}
use Rattle.ledger.proofs.laws.parts_take.Goals as goal

pub returns : goal.returns
returns c = record {
  counts = counts;
  all = all;
  nothing_left = nothing_left;
  less = λ work flushes flush before are. less work flushes flush are before;
}
