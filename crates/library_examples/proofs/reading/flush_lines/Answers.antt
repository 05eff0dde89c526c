use Rattle.library_examples.proofs.LinesFlushed.{records_told, one_more_record, both_stay, as_few}
use Rattle.library_examples.proofs.reading.flush_lines.Goals as goal

pub returns : goal.returns
returns g c =
    let old = c.args.store.now in
    let mid = c.apply_lines.new.store in
    let new = c.flush.new.self in
    let lines = c.in_ok-lines.ensures in
    let flushes = c.in_ok-flush.ensures.ok in
    let told = c.requires.flushes in
    let pushed = c.in_ok-push.ensures.items in
    record {
      flushes = records_told old mid new c.in_ok-flush.flush _ _ told lines.flushes flushes pushed;
      counted = record { flush = c.in_ok-flush.flush; between = mid; lines = lines.applied; flushed = flushes };
      kept = both_stay old mid new c.in_ok-flush.flush _ _ told lines.flushes flushes pushed lines.kept;
      few = as_few old mid new c.in_ok-flush.flush _ _ told lines.flushes flushes pushed _ lines.few;
      one_more = one_more_record old mid new c.in_ok-flush.flush _ _ told lines.flushes flushes pushed;
    }
