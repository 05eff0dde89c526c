use Rattle.std.proofs.Common.{◌≡◌, ◌≤◌, ◌*◌, ◌-◌, ◌^◌, take, sum_by}
use Rattle.load_text.specs.Summary.{word_in}
use Rattle.load_text.proofs.counts.words_of.Given as goal

abbrev pub invariant-loop-row : goal.invariant-loop-row
invariant-loop-row l = record {
  sum : l.words ≡ sum_by word_in (take l.row-index l.rows);
  fits : l.words ≤ l.row-index * (2 ^ 64 - 1);
}
