use Rattle.std.proofs.Common.{◌≡◌, ◌-◌, ◌≤◌, length, vec_len, vec_capacity}
use Rattle.ledger.specs.Lists.{EachNumbered}
use Rattle.recorder.specs.Tied.{IsNewWorker}
use Rattle.store_opening.specs.Dealing.{AreLeft, HasLeft}
use Rattle.store_opening.proofs.dealing.deal_recorders.Given as goal

abbrev pub invariant-loop-place : goal.invariant-loop-place
invariant-loop-place l =
    EachNumbered (IsNewWorker l.store) 1 l.recorders.items
    × (length l.recorders.items ≡ l.place)
    × (vec_len l.recorders ≡ l.place)
    × AreLeft l.store l.place l.left
    × HasLeft (l.workers - l.place) l.left
    × (l.workers ≤ vec_capacity l.recorders)
