use Rattle.std.proofs.Common.{◌≡◌, fold, drop}
use Rattle.flush_view.specs.Walk.{changed_left}
use Rattle.flush_view.proofs.walk.change_all.Given as goal

abbrev pub invariant-loop-change : goal.invariant-loop-change
invariant-loop-change l =
    fold changed_left l.lefts.items (drop l.change-index l.changes) ≡ fold changed_left l.fn.lefts.items l.changes
