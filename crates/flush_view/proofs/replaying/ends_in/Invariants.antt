use Rattle.std.proofs.Common.{◌≡◌, ◌≤◌, take, count_by}
use Rattle.book_state.specs.SeatLaws.{is_end}
use Rattle.stat_defs.specs.declared.history.Entry.{Entry}
use Rattle.flush_view.proofs.replaying.ends_in.Given as goal

abbrev pub invariant-loop-entry : goal.invariant-loop-entry
invariant-loop-entry l = record {
  count : l.ends ≡ count_by (λ (e : Entry). is_end e.call) (take l.entry-index l.log);
  fits : l.ends ≤ l.entry-index;
}
