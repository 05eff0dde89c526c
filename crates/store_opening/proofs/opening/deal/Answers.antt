use Rattle.std.proofs.Common.{◌∙◌}
use Rattle.std.specs.Vec.Iter.{into_iter_items}
use Rattle.store_opening.proofs.Dealt.{has_seats, all_left, has_left, nothing_made, token_for_each, banks_sized, is_new_flusher, is_new_reader}
use Rattle.store_opening.proofs.opening.deal.Goals as goal

pub queued-first-requires : goal.queued-first-requires
queued-first-requires c = has_seats c.args.made c.requires.made

pub deal_recorders-requires-clause-left : goal.deal_recorders-requires-clause-left
deal_recorders-requires-clause-left c =
    let made = c.args.made in let is = c.requires.made in let taken = c.queued-first in
    (all_left made is taken.result.0 taken.result.1 taken.ensures, has_left made is taken.result.0 taken.result.1 taken.ensures)

pub new_flusher-requires-clause-seat : goal.new_flusher-requires-clause-seat
new_flusher-requires-clause-seat c = let taken = c.queued-first in nothing_made c.args.made c.requires.made taken.result.0 taken.result.1 taken.ensures

pub new_flusher-requires-clause-workers : goal.new_flusher-requires-clause-workers
new_flusher-requires-clause-workers c = let taken = c.queued-first in token_for_each c.args.made c.requires.made taken.result.0 taken.result.1 taken.ensures

pub new_flusher-requires-clause-sized : goal.new_flusher-requires-clause-sized
new_flusher-requires-clause-sized c = let taken = c.queued-first in banks_sized c.args.made c.requires.made taken.result.0 taken.result.1 taken.ensures

pub returns-clause-parties : goal.returns-clause-parties
returns-clause-parties c =
    let made = c.args.made in let is = c.requires.made in let taken = c.queued-first in let dealt = c.deal_recorders in let last = c.next_of-last in
    record {
      recorders = dealt.ensures.each;
      count = dealt.ensures.count ∙ made.store.whole.cells;
      flusher = is_new_flusher made is taken.result.0 taken.result.1 taken.ensures c.new_flusher.result c.new_flusher.ensures;
      reader = is_new_reader made is last.result dealt.new.left (into_iter_items last.new.items) c.new.result dealt.ensures.left.0 last.ensures c.new.ensures;
    }
