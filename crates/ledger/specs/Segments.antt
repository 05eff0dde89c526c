-- A worker's recordings, cut by what each flush took of them (Envoy's statistics overview: each flush interval of a
-- histogram has values of its own; workers and segments are this project's own).
use Rattle.std.specs.Prelude.{ℕ, zero, suc, ◌≤◌, ◌==◌, if◌then◌else◌, List, [], ◌∷◌, length, map, take, drop, sum_by}
use Rattle.std.specs.Prelude.{get_or}
use Rattle.stat_defs.specs.declared.bins.BinCount.{BinCount}
use Rattle.stat_defs.specs.declared.reports.Part.{Part}
use Rattle.stat_defs.specs.declared.reports.FlushRecord.{FlushRecord}
use Rattle.loglinear_bins.specs.Counts.{total}
use Rattle.merge_round.specs.Halves.{bins_by}
use Rattle.ledger.specs.Work.{Work, Recording, recordings}

-- how many values a part has of this worker
abbrev pub part_count : ℕ → Part → ℕ
part_count w part = if part.worker == w then total part.bins else 0

-- how many values a flush took of this worker
abbrev pub taken_from : ℕ → FlushRecord → ℕ
taken_from w flush = sum_by (part_count w) flush.parts

-- the list in pieces of these lengths, from the front
abbrev pub pieces : {X : Type 0} → List ℕ → List X → List (List X)
pieces [] xs = []
pieces (n ∷ ns) xs = take n xs ∷ pieces ns (drop n xs)

-- what each flush took of the recordings of worker w
abbrev pub segments : ℕ → Work → List FlushRecord → List (List Recording)
segments w work flushes = pieces (map (taken_from w) flushes) (recordings work)

-- what flush k took of them; flushes are numbered from 0
abbrev pub segment : ℕ → ℕ → Work → List FlushRecord → List Recording
segment k w work flushes = get_or (segments w work flushes) k []

-- what flush k took of each worker, where the first of these is worker w
abbrev pub segments_at : ℕ → ℕ → List Work → List FlushRecord → List (List Recording)
segments_at k w [] flushes = []
segments_at k w (work ∷ workers) flushes =
    segment k w work flushes ∷ segments_at k (suc w) workers flushes

-- what no flush took of the recordings of worker w
abbrev pub left_over : ℕ → Work → List FlushRecord → List Recording
left_over w work flushes = drop (sum_by (taken_from w) flushes) (recordings work)

-- the flushes took no more of the worker than it recorded
abbrev pub TakesLess : ℕ → Work → List FlushRecord → Type 0
TakesLess w work flushes = sum_by (taken_from w) flushes ≤ length (recordings work)

-- what one more flush takes of each worker behind these, where the first of the workers is worker w
abbrev pub taken_now : ℕ → List Work → List FlushRecord → FlushRecord → List (List Recording)
taken_now w [] flushes flush = []
taken_now w (work ∷ workers) flushes flush =
    take (taken_from w flush) (left_over w work flushes) ∷ taken_now (suc w) workers flushes flush

-- the segment of this worker; workers are numbered from 1
abbrev pub segment_of : List (List Recording) → ℕ → List Recording
segment_of segs zero = []
segment_of segs (suc at) = get_or segs at []

-- the bins of the values that a worker's segment has on a histogram
abbrev pub bins_by_worker : List (List Recording) → ℕ → ℕ → List BinCount
bins_by_worker segs worker id = bins_by (segment_of segs worker) id
