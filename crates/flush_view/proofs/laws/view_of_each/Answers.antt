use Rattle.std.proofs.Common.{[]}
use Rattle.flush_view.proofs.EachView.{each}
use Rattle.flush_view.proofs.laws.view_of_each.Goals as goal

pub returns : goal.returns
returns c = λ rules log flushes k. each rules log [] flushes k
