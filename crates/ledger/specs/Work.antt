-- What workers' events came to: the units of counters and the recordings of histograms (Envoy's statistics overview:
-- counters add up, histograms collect values; verdicts and files are this project's own).
use Rattle.std.specs.Prelude.{ℕ, ◌==◌, if◌then◌else◌, Option, None, Some, List, [], ◌∷◌, map, sum_by, filter_map}
use Rattle.std.specs.List.{zip, flat_map}
use Rattle.stat_defs.specs.declared.events.Event.{Event}
use Rattle.stat_defs.specs.declared.events.Event.TheVariants.{Inc, Rec}
use Rattle.stat_defs.specs.declared.history.Verdict.{Verdict}
use Rattle.stat_defs.specs.declared.history.Verdict.TheVariants.{Accepted}

-- the events of one worker in order, each with its verdict
abbrev pub Work : Type 0
Work = List (Event × Verdict)

abbrev pub event_told : Event × Verdict → Event
event_told told = told.0

abbrev pub verdict_told : Event × Verdict → Verdict
verdict_told told = told.1

abbrev pub events_in : Work → List Event
events_in work = map event_told work

abbrev pub verdicts_in : Work → List Verdict
verdicts_in work = map verdict_told work

-- the events of a file with their verdicts
abbrev pub work_of : List Event × List Verdict → Work
work_of file = zip file.0 file.1

-- each file is the work of a worker of its own
abbrev pub apart : List (List Event) → List (List Verdict) → List Work
apart events verdicts = map work_of (zip events verdicts)

-- all files, one after another, are the work of one worker
abbrev pub together : List (List Event) → List (List Verdict) → List Work
together events verdicts = flat_map work_of (zip events verdicts) ∷ []

-- the units that an event adds to the counter of this number: those of an accepted increment
abbrev pub units_in : ℕ → Event × Verdict → ℕ
units_in id (Inc label name n, Accepted given) = if given.0 == id then n else 0
units_in id other = 0

-- the units that a worker adds to it, and that all workers do
abbrev pub units_by : ℕ → Work → ℕ
units_by id work = sum_by (units_in id) work

abbrev pub units_of : ℕ → List Work → ℕ
units_of id workers = sum_by (units_by id) workers

-- a histogram's number, and a value that is recorded in it
abbrev pub Recording : Type 0
Recording = ℕ × ℕ

-- what an event records, where it is accepted
abbrev pub recording_in : Event × Verdict → Option Recording
recording_in (Rec label name v, Accepted given) = Some (given.0, v)
recording_in other = None

-- what a worker records, in order
abbrev pub recordings : Work → List Recording
recordings work = filter_map recording_in work
