use Rattle.book_state.proofs.OwnCalls.{own_find, own_ack, own_end, own_opening, own_release, own_text}
use Rattle.book_state.proofs.laws.own_calls_change_a_seat.Goals as goal

pub returns : goal.returns
returns c = record {
  find = λ rules s seat row key r v. own_find rules s seat row key r v;
  ack = λ rules s seat row tag. own_ack rules s seat row tag;
  ends = λ rules s seat row. own_end rules s seat row;
  opening = λ rules s seat label prefix r. own_opening rules s seat label prefix r;
  release = λ rules s seat label r. own_release rules s seat label r;
  text = λ rules s seat id text r. own_text rules s seat id text r;
}
