use Rattle.store_opening.proofs.making.put_together.Goals as goal

pub invariant_of-result : goal.invariant_of-result
invariant_of-result c =
    let parts = c.requires in
    record {
      whole = record {
        new = parts.new;
        seats = parts.new_seats.count;
        workers = (parts.new_words.counter_words.1, parts.new_words.gauge_words.1);
        sizes = (parts.new_words.counter_words.0, parts.new_words.gauge_words.0);
        cells = parts.count.0;
      };
    }
