use Rattle.std.proofs.lemmas.Option.{IfSome_then}
use Rattle.tag_rules.proofs.starts.Starts.of.Goals as goal

pub returns : goal.returns
returns c hay bytes i j inside m = record {
  front = λ t. (c.is_anchored_start-anchored.ensures.anchored t).at hay i j inside m;
  near = IfSome_then c.reach_of-reach.result c.reach_of-reach.ensures (λ most reaches. reaches hay bytes i j inside m);
  leads = c.in_ok-lead.ensures hay bytes i j inside m;
  holds = IfSome_then c.in_ok-needed.needed c.in_ok-needed.ensures (λ needles needs. needs hay bytes i j m);
}
