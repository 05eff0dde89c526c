-- What the views of a store that goes on keep. This project's own.
use Rattle.std.specs.Prelude.{◌≡◌, true, [], length, get_or}
use Rattle.book_state.specs.declared.limits.TheConstants.{MAX_METRICS}
use Rattle.flush_view.specs.Kept.{HasSums}
use Rattle.flush_view.specs.Replaying.{state_after}
use Rattle.live_view.specs.declared.live_views.LiveViews.TheInside.{Inside}
use Rattle.live_view.specs.Live.{LiveHistory}

abbrev pub shown : Inside → LiveHistory
shown v = record {
  config = v.config.now;
  workers = v.workers;
  log = get_or v.log.items 0 [];
  flushes = v.flushes.items;
  whole = v.whole;
}

-- the book is that of the log, all of whose entries were followed, and the sums are those of the flushes
pub record IsReady (v : Inside) : Type 0 where
  pub book : v.book ≡ state_after v.config.now.tags v.workers (shown v).log
  pub followed : v.followed ≡ length (shown v).log
  pub sums : HasSums MAX_METRICS v.flushes.items v.progress

-- where no view was cut short, all is ready for the next one
pub record Kept (v : Inside) : Type 0 where
  pub buckets : v.buckets.now ≡ v.config.now.buckets
  pub ready : v.whole ≡ true → IsReady v
