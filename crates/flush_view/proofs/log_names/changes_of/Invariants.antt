use Rattle.std.proofs.Common.{◌≡◌, ◌++◌, fold, drop}
use Rattle.book_state.specs.Stored.{after_entry}
use Rattle.flush_view.specs.Replaying.{AreNext}
use Rattle.flush_view.specs.Walk.{changes_behind}
use Rattle.flush_view.proofs.log_names.changes_of.Given as goal

abbrev pub invariant-loop-entry : goal.invariant-loop-entry
invariant-loop-entry l = record {
  at : l.at ≡ l.entry-index;
  next : AreNext l.book (drop l.entry-index l.log);
  same : fold after_entry l.book (drop l.entry-index l.log) ≡ fold after_entry l.fn.book l.log;
  changes : l.changes.items ++ changes_behind l.book l.at (drop l.entry-index l.log) ≡ changes_behind l.fn.book 0 l.log;
}
