-- What a store sums up: numbers by the metrics that they belong to. This project's own.
use Rattle.std.specs.Prelude.{◌≡◌, ◌≤◌, ◌<◌, ◌+◌, ◌^◌, ℕ, ◌==◌, if◌then◌else◌, Bool, true, false, Option, None, Some, List, [], ◌∷◌, ◌++◌, map}
use Rattle.std.specs.Prelude.{length, get_or, slice_get}
use Rattle.std.specs.List.{list_any}
use Rattle.std.specs.Option.{option_map_or}
use Rattle.stat_defs.specs.Keys.{same_kind}
use Rattle.stat_defs.specs.Books.{BookHistory}
use Rattle.stat_defs.specs.declared.ids.Kind.{Kind}
use Rattle.stat_defs.specs.declared.ids.Kind.TheVariants.{Counter, Gauge}
use Rattle.stat_defs.specs.declared.history.Call.TheVariants as call
use Rattle.stat_defs.specs.declared.history.Reply.TheVariants as reply
use Rattle.stat_book.specs.Calls.{state_of, IsLegal, Logged}
use Rattle.stat_book.specs.NameChanges.{names_of}
use Rattle.plain_store.specs.Worker.{WorkerHistory, IsFollowed}
use Rattle.ledger.specs.Flushes.{ids_made, ids_not_gone}
use Rattle.stat_defs.specs.declared.ids.MetricId.{MetricId}
use Rattle.stat_defs.specs.declared.events.Event.{Event}
use Rattle.stat_defs.specs.declared.history.Verdict.{Verdict}
use Rattle.stat_defs.specs.declared.history.Verdict.TheVariants as verdict
use Rattle.stat_defs.specs.declared.reports.Delta.{Delta}
use Rattle.stat_defs.specs.declared.reports.Reading.{Reading}
use Rattle.stat_defs.specs.declared.reports.FlushRecord.{FlushRecord}
use Rattle.stat_defs.specs.declared.reports.LastFlush.{LastFlush}
use Rattle.merge_round.specs.declared.half.TheConstants.{MAX_HALF_COUNT}
use Rattle.merge_round.specs.Halves.{new_half, bins_by}
use Rattle.merge_round.specs.Rounds.{new_parents, worker_values, all_values, ArePartsOf}
use Rattle.book_state.specs.State.{State, metrics_of}
use Rattle.ledger.specs.Work.{Recording, units_in, recording_in}
use Rattle.ledger.specs.Gauges.{move_in}
use Rattle.ledger.specs.Laws.{word_after_any, delta_by}
use Rattle.plain_store.specs.declared.sums.Sums.{Sums}

-- the number of a metric in such a list; a metric beyond its end has 0
abbrev pub number_at : List ℕ → ℕ → ℕ
number_at words id = get_or words id 0

-- the units of a counter since the flush before, and the word of a gauge
abbrev pub delta_in : Sums → ℕ → ℕ
delta_in sums id = number_at sums.deltas.items id

abbrev pub word_in : Sums → ℕ → ℕ
word_in sums id = number_at sums.words.items id

-- nothing was summed up
pub record AreZero (sums : Sums) : Type 0 where
  pub deltas : (id : ℕ) → delta_in sums id ≡ 0
  pub words : (id : ℕ) → word_in sums id ≡ 0
  pub half : sums.half ≡ new_half
  pub parents : sums.parents ≡ new_parents

-- values with what is recorded, if anything is
abbrev pub with_recording : List Recording → Option Recording → List Recording
with_recording values None = values
with_recording values (Some recording) = values ++ recording ∷ []

-- an event with its verdict was summed: its units, its move and its recording
pub record SumsUp (old : Sums) (told : Event × Verdict) (new : Sums) : Type 0 where
  pub units : (id : ℕ) → delta_in new id ≡ delta_in old id + units_in id told
  pub words : (id : ℕ) → word_in new id ≡ word_after_any (word_in old id) (move_in id told)
  pub values : new.half.values ≡ with_recording old.half.values (recording_in told)

-- nothing was summed: the units that wait for a flush, the words of the gauges and the values are as they were
pub record AreAlike (old new : Sums) : Type 0 where
  pub deltas : (id : ℕ) → delta_in new id ≡ delta_in old id
  pub words : (id : ℕ) → word_in new id ≡ word_in old id
  pub values : new.half.values ≡ old.half.values

-- there is room for one event more
pub record HasRoom (sums : Sums) : Type 0 where
  pub units : (id : ℕ) → delta_in sums id + 2 ^ 32 ≤ 2 ^ 64
  pub values : length sums.half.values < MAX_HALF_COUNT

-- an accepted verdict names one of so many metrics
abbrev pub IsMade : ℕ → Verdict → Type 0
IsMade made (verdict.Accepted id) = id.0 < made
IsMade made _ = Unit {0}

-- the metric of this number is of the kind
abbrev pub is_of_kind : Kind → State → MetricId → Bool
is_of_kind kind s id = option_map_or (λ metric. same_kind metric.kind kind) (slice_get (metrics_of s) id.0) false

abbrev pub as_id : ℕ → MetricId
as_id id = record { 0 = id }

abbrev pub delta_of : List ℕ → MetricId → Delta
delta_of deltas id = delta_by (number_at deltas) id

abbrev pub reading_of : List ℕ → MetricId → Reading
reading_of words id = record { id = id; word = number_at words id.0 }

-- the deltas have one of this counter
abbrev pub is_among : List Delta → ℕ → Bool
is_among deltas id = list_any (λ delta. delta.id.0 == id) deltas

-- how many values there are, of all flushes and since
abbrev pub value_count : Sums → ℕ
value_count sums = length (all_values sums.parents.all) + length sums.half.values

-- the record shows a delta of each of these counters, a reading of each of these gauges, and the values of the half
pub record Shows (sums : Sums) (at : ℕ) (counters moved : List MetricId) (flush : FlushRecord) : Type 0 where
  pub place : flush.at ≡ at
  pub deltas : flush.deltas ≡ map (delta_of sums.deltas.items) counters
  pub gauges : flush.gauges ≡ map (reading_of sums.words.items) moved
  pub parts : ArePartsOf (λ worker. bins_by (worker_values worker (sums.parents.round ++ (1, sums.half) ∷ [])))
      flush.parts

-- what the record shows begins anew: the deltas that it has are 0, and there are no values
pub record IsEmptied (old : Sums) (flush : FlushRecord) (new : Sums) : Type 0 where
  pub deltas : (id : ℕ) → delta_in new id ≡ (if is_among flush.deltas id then 0 else delta_in old id)
  pub words : (id : ℕ) → word_in new id ≡ word_in old id
  pub values : new.half.values ≡ []
  pub merged : new.parents.round ≡ []

-- a sweep was logged, and the record shows every counter ever made, the gauges that were not gone before, and the half
pub record SweepsLast (old : BookHistory) (sums : Sums) (at : ℕ) (new : BookHistory)
    (flush : FlushRecord) : Type 0 where
  pub gone : ℕ
  pub swept : Logged old 0 call.Sweep (reply.Swept gone) new
  pub shows : Shows sums at (ids_made Counter (state_of new)) (ids_not_gone Gauge (state_of old)) flush

-- the seat was ended, and then a last sweep was logged, whose record shows the sums
pub record Ends (old : WorkerHistory) (sums : Sums) (new : WorkerHistory) (flush : FlushRecord) : Type 0 where
  pub mid : BookHistory
  pub ended : Logged old.book 1 call.End reply.Ended mid
  pub one_worker : mid.workers ≡ 1
  pub sweeps : SweepsLast mid sums (length mid.log) new.book flush
  pub rest : new ≡ record old { book = new.book; ended = true }
  pub legal : IsLegal new.book
  pub followed : new.whole ≡ true → IsFollowed new

-- so it was, and the log and its names are those of the worker behind it
pub record EndsWith (old : WorkerHistory) (sums : Sums) (given : LastFlush) : Type 0 where
  pub new : WorkerHistory
  pub ends : Ends old sums new given.last
  pub log : given.log ≡ new.book.log
  pub names : given.names ≡ names_of new.book
