use Rattle.std.proofs.Common.{◌≡◌, ◌++◌}
use Rattle.stat_name.specs.Spelling.{spelling}
use Rattle.report_text.proofs.symbols.put_count.Given as goal

abbrev pub invariant-loop-left : goal.invariant-loop-left
invariant-loop-left l = l.form.items ++ spelling l.left ≡ l.fn.form.items ++ spelling l.count

abbrev pub decreases-loop-left : goal.decreases-loop-left
decreases-loop-left l = l.left
