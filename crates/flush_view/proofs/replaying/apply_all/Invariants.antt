use Rattle.std.proofs.Common.{◌≡◌, fold, drop}
use Rattle.book_state.specs.Stored.{after_entry}
use Rattle.flush_view.specs.Replaying.{AreNext}
use Rattle.flush_view.proofs.replaying.apply_all.Given as goal

abbrev pub invariant-loop-entry : goal.invariant-loop-entry
invariant-loop-entry l = record {
  next : AreNext l.book (drop l.entry-index l.entries);
  same : fold after_entry l.book (drop l.entry-index l.entries) ≡ fold after_entry l.fn.book l.entries;
}
