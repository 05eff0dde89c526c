-- The scripts of events that the program makes as a load of its own: a counter, a histogram or a gauge by the bits of a
-- linear congruential generator (Knuth's multiplier for 64 bits; the rest is this project's own).
use Rattle.std.specs.Prelude.{ℕ, zero, suc, ◌+◌, ◌*◌, ◌/◌, ◌%◌, ◌^◌, ◌==◌, if◌then◌else◌, Option, Some, List, [], ◌∷◌, ◌++◌, codes, map}
use Rattle.std.specs.Fmt.{decimal}
use Rattle.std.specs.List.{range_with_len}
use Rattle.stat_defs.specs.declared.events.Event.{Event}
use Rattle.stat_defs.specs.declared.events.Event.TheVariants.{Inc, Gauge, Rec}
use Rattle.stat_defs.specs.declared.events.GaugeOp.TheVariants.{Add}
use Rattle.stat_defs.specs.declared.ids.Mode.TheVariants.{Accumulate}
use Rattle.event_script.specs.Grammar.{lines_for}

-- the state behind another one
abbrev pub next_state : ℕ → ℕ
next_state x = (6364136223846793005 * x + 1442695040888963407) % 2 ^ 64

-- the 31 bits of a state that an event is drawn by
abbrev pub drawn : ℕ → ℕ
drawn x = x / 2 ^ 33

abbrev pub counter_name : ℕ → List ℕ
counter_name i = codes "c" ++ decimal i

abbrev pub histogram_name : ℕ → List ℕ
histogram_name i = codes "h" ++ decimal i

-- each script has a gauge of its own
abbrev pub gauge_name : ℕ → List ℕ
gauge_name script = codes "g" ++ decimal script

-- half of the events are increments of one of 512 counters, a quarter are values of one of 16 histograms, and a quarter
-- add to the script's gauge
abbrev pub event_by : ℕ → ℕ → Event
event_by script r =
    if r % 4 == 2 then Rec (codes "root") (histogram_name (r / 4 % 16)) (r / 2048 % 100000)
    else (if r % 4 == 3 then Gauge (codes "root") (gauge_name script) Accumulate Add (r / 2048 % 1000)
    else Inc (codes "root") (counter_name (r / 4 % 512)) (r / 2048 % 1000))

-- the event of a state
abbrev pub event_at : ℕ → ℕ → Event
event_at script x = event_by script (drawn x)

-- the events of the states behind this one
abbrev pub events_behind : ℕ → ℕ → ℕ → List Event
events_behind script x zero = []
events_behind script x (suc n) = event_at script (next_state x) ∷ events_behind script (next_state x) n

-- a script begins with its own number as the state
abbrev pub script_events : ℕ → ℕ → List Event
script_events script n = events_behind script script n

-- so many scripts of so many events each; they are numbered from 1
abbrev pub scripts : ℕ → ℕ → List (List Event)
scripts count n = map (λ script. script_events script n) (range_with_len 1 count)

-- the state behind so many events
abbrev pub state_behind : ℕ → ℕ → ℕ
state_behind x zero = x
state_behind x (suc n) = state_behind (next_state x) n

-- the text of a script: a line for each event
abbrev pub script_text : ℕ → ℕ → List ℕ
script_text script n = lines_for (script_events script n)

-- the texts of all of them, as what files hold is told
abbrev pub script_texts : ℕ → ℕ → List (Option (List ℕ))
script_texts count n = map (λ script. Some (script_text script n)) (range_with_len 1 count)
