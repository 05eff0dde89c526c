use Rattle.std.proofs.Common.{refl}
use Rattle.library_examples.proofs.LinesFlushed.{records_told, one_more_record, flush_stays}
use Rattle.library_examples.proofs.flushing.flush_once.Goals as goal

pub returns : goal.returns
returns c =
    let old = c.args.store.now in
    let new = c.flush.new.self in
    let flushes = c.in_ok-flush.ensures.ok in
    let pushed = c.in_ok-push.ensures.items in
    record {
      flushes = records_told old old new c.in_ok-flush.flush _ _ c.requires refl flushes pushed;
      flushed = (c.in_ok-flush.flush, flushes);
      kept = flush_stays old new c.in_ok-flush.flush flushes;
      one_more = one_more_record old old new c.in_ok-flush.flush _ _ c.requires refl flushes pushed;
    }
