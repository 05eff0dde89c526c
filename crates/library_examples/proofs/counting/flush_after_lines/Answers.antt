use Rattle.std.proofs.Common.{◌∙◌, sym}
use Rattle.library_examples.proofs.counting.flush_after_lines.Goals as goal

pub flush_often-requires : goal.flush_often-requires
flush_often-requires g c = c.requires.flushes ∙ sym c.in_ok-apply_lines.ensures.flushes

pub returns-clause-kept : goal.returns-clause-kept
returns-clause-kept g c = λ config was. c.in_ok-flush_often.ensures.kept config (c.in_ok-apply_lines.ensures.kept config was)

pub returns-clause-counted : goal.returns-clause-counted
returns-clause-counted g c = record {
  verdicts = _;
  end = _;
  between = c.apply_lines.new.store;
  lines = c.in_ok-apply_lines.ensures.applied;
  flushed = c.in_ok-flush_often.ensures.often;
}
