-- Texts that are written one behind another.
use Rattle.std.proofs.Common.{ℕ, List, ◌++◌, ◌∙◌, Result, Ok, Err}
use Rattle.stats_io.specs.States.{SinkState}
use Rattle.stats_io.specs.Push.{WritesWhole}
use Rattle.stats_io.proofs.Front.{front_first, front_next, cut_first, cut_next, whole_next}
use Rattle.text_parts.specs.Answer.{IsTextAnswer}
use Rattle.text_parts.specs.declared.fault.TextFault.{TextFault}
use Rattle.text_parts.specs.declared.fault.TextFault.TheVariants.{WriteFault, NoMemory}

-- the first text was written, and the second answered so
pub answer_next : {T : Type 0} (x y z : SinkState) (a b : List ℕ) (r : Result T TextFault) → WritesWhole x y a
    → IsTextAnswer y z b r → IsTextAnswer x z (a ++ b) r
answer_next x y z a b (Ok _) whole rest = whole_next x y z a b whole rest
answer_next x y z a b (Err WriteFault) whole rest = cut_next x y z a b whole rest
answer_next x y z a b (Err NoMemory) whole rest = record {
  front = front_next x.written y.written z.written a b whole.appended rest.front;
  count = rest.count ∙ whole.count;
}

-- the first text was not written whole
pub answer_first : (x y : SinkState) (a b : List ℕ) (fault : TextFault) → IsTextAnswer {T = Unit {0}} x y a (Err fault)
    → IsTextAnswer {T = Unit {0}} x y (a ++ b) (Err fault)
answer_first x y a b WriteFault cut = cut_first x y a b cut
answer_first x y a b NoMemory stop = record {
  front = front_first x.written y.written a b stop.front;
  count =
      stop.count;
}
