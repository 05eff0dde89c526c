-- Sources whose lines are applied in turn, with a flush behind each.
use Rattle.std.proofs.Common.{◌≡◌, ◌+◌, ◌*◌, ◌≤◌, List, [], ◌∷◌, ◌++◌, length, length-append, append_assoc, append-nil, refl, sym, ◌∙◌, subst, arith}
use Rattle.stat_defs.specs.declared.history.Verdict.{Verdict}
use Rattle.stat_defs.specs.declared.reports.FileEnd.{FileEnd}
use Rattle.stat_defs.specs.declared.reports.FlushRecord.{FlushRecord}
use Rattle.stats_io.specs.States.{SourceState}
use Rattle.event_script.specs.declared.limits.TheConstants as file
use Rattle.plain_store.specs.declared.worker.TheConstants as worker
use Rattle.plain_store.specs.Store.{StoreHistory}
use Rattle.library_examples.specs.Counting.{AreLinesFlushed, AreFlushedInTurn, Stays}
use Rattle.library_examples.proofs.LinesFlushed.{in_turn_push}

-- the sources so far, those that are left, and the records of the flushes
pub record FlushedSoFar {S : Type 0} (state : S → SourceState) (sources taken left : List S) (old now : StoreHistory)
    (before records : List FlushRecord) : Type 0 where
  pub whole : taken ++ left ≡ sources
  pub in_turn : AreFlushedInTurn state taken old now
  pub told : records ≡ now.flushes
  pub kept : Stays old now
  pub room : length now.worker.events + length left * file.MAX_EVENTS ≤ worker.MAX_EVENTS
  pub more : length records ≡ length before + length taken

module _ {S : Type 0} (state : S → SourceState) (sources : List S) (old : StoreHistory) (before : List FlushRecord) where
  pub flushed_none : (left : List S) → left ≡ sources → before ≡ old.flushes
      → length old.worker.events + length sources * file.MAX_EVENTS ≤ worker.MAX_EVENTS
      → FlushedSoFar state sources [] left old old before before
  flushed_none left all told room = record {
    whole = all;
    in_turn = refl;
    told = told;
    kept = λ config was. was;
    room = subst (λ (l : List S). length old.worker.events + length l * file.MAX_EVENTS ≤ worker.MAX_EVENTS) (sym all) room;
    more = omega arith;
  }

  module _ (taken left rest : List S) (source : S) (now : StoreHistory) (records : List FlushRecord)
      (so : FlushedSoFar state sources taken left old now before records) (first : left ≡ source ∷ rest) where
    room_for : length now.worker.events + length (source ∷ rest) * file.MAX_EVENTS ≤ worker.MAX_EVENTS
    room_for = rw first at so.room

    pub room_for_one : length now.worker.events + file.MAX_EVENTS ≤ worker.MAX_EVENTS
    room_for_one = let room = room_for in omega (arith, room)

    pub flushed_more : (new : StoreHistory) (verdicts : List Verdict) (end : FileEnd) (longer : List FlushRecord)
        → AreLinesFlushed state source now new verdicts end → longer ≡ new.flushes → Stays now new
        → length new.worker.events ≤ length now.worker.events + file.MAX_EVENTS
        → length longer ≡ length records + 1
        → FlushedSoFar state sources (taken ++ source ∷ []) rest old new before longer
    flushed_more new verdicts end longer lines told stays few one_more = record {
      whole = append_assoc taken (source ∷ []) rest ∙ rw first at so.whole;
      in_turn = in_turn_push state taken source old now new verdicts end so.in_turn lines;
      told = told;
      kept = λ config was. stays config (so.kept config was);
      room = (let room = room_for in omega (arith, room, few));
      more = (let was = so.more in let long = length-append taken (source ∷ []) in omega (arith, was, long, one_more));
    }

  pub flushed_all : (taken left : List S) (now : StoreHistory) (records : List FlushRecord)
      → FlushedSoFar state sources taken left old now before records → left ≡ [] → taken ≡ sources
  flushed_all taken left now records so none = sym (append-nil taken) ∙ rw none at so.whole
