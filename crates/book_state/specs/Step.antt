-- One step of a book: which reply may be given to a seat's call, and the state after it. Only the symbol numbers of a
-- made metric are free, and they stand in its reply. (Envoy's design note on statistics; retired metrics,
-- acknowledgements and sweeps are this project's own.)
use Rattle.std.specs.Prelude.{◌≡◌, ◌⊎◌, ℕ, zero, suc, ◌+◌, ◌<◌, ◌&&◌, ◌==◌, if◌then◌else◌, not, Bool, true, false, None}
use Rattle.std.specs.Prelude.{Some, IsSome, IsNone, List, [], ◌∷◌, ◌++◌, map, filter, slice_get, length, count_by}
use Rattle.std.specs.List.{list_any}
use Rattle.std.specs.Option.{option_map_or, IsSomeAnd}
use Rattle.stat_defs.specs.declared.ids.Kind.TheVariants.{Text}
use Rattle.stat_defs.specs.declared.ids.MetricId.{MetricId}
use Rattle.stat_defs.specs.declared.ids.Mode.{Mode}
use Rattle.stat_defs.specs.declared.ids.Mode.TheVariants.{Uninit}
use Rattle.stat_defs.specs.declared.metrics.Life.{Life}
use Rattle.stat_defs.specs.declared.metrics.Life.TheVariants.{Live, Retired, Gone}
use Rattle.stat_defs.specs.declared.metrics.Metric.{Metric}
use Rattle.stat_defs.specs.declared.events.Key.{Key}
use Rattle.stat_defs.specs.declared.history.Verdict.{Verdict}
use Rattle.stat_defs.specs.declared.history.Verdict.TheVariants as verdict
use Rattle.stat_defs.specs.declared.history.Call.{Call}
use Rattle.stat_defs.specs.declared.history.Call.TheVariants as call
use Rattle.stat_defs.specs.declared.history.Reply.{Reply}
use Rattle.stat_defs.specs.declared.history.Reply.TheVariants as reply
use Rattle.stat_defs.specs.Names.{tokens}
use Rattle.symbol_table.specs.Drawing.{DrawsAll}
use Rattle.stat_defs.specs.Keys.{held_under}
use Rattle.book_state.specs.State.{NameRules, Scope, Row, Seat, State, same_kind, metrics_of, ids_from, live_scope}
use Rattle.book_state.specs.State.{Uses, seat_of, all_acknowledged, bears}
use Rattle.book_state.specs.Finding.{Outcome, NoScope, Rejected, Known, NoRoom, OverLimit, New, outcome, scope_of}
use Rattle.book_state.specs.Finding.{name_of}

-- the list with f at one place
abbrev pub change_at : {X : Type 0} → (X → X) → ℕ → List X → List X
change_at f i [] = []
change_at f zero (x ∷ xs) = f x ∷ xs
change_at f (suc i) (x ∷ xs) = x ∷ change_at f i xs

abbrev pub on_seat : (Seat → Seat) → ℕ → State → State
on_seat f zero s = s
on_seat f (suc at) s = record s { seats = change_at f at s.seats }

abbrev pub on_metric : (Row → Row) → ℕ → State → State
on_metric f id s = record s { metrics = change_at f id s.metrics }

-- the seat holds a verdict under a key besides
abbrev pub hold : Key → ℕ → Verdict → Seat → Seat
hold key scope verdict seat = record
    seat { held = seat.held ++ record { key = key; scope = scope; verdict = verdict } ∷ [] }

abbrev pub closed : Scope → Scope
closed scope = record scope { live = false }

-- a metric that lost its last bearer is retired at the tag of that release
abbrev pub left_to : ℕ → Metric → List ℕ → Row
left_to tag metric [] = record { metric = record metric { life = Retired tag }; bearers = [] }
left_to tag metric (b ∷ bs) = record { metric = metric; bearers = b ∷ bs }

-- a released scope bears nothing any more
abbrev pub released : ℕ → ℕ → Row → Row
released scope tag row = if bears scope row then left_to tag row.metric (filter (λ b. not (scope == b)) row.bearers)
    else row

-- the first mode other than `Uninit` stands for good
abbrev pub first_mode : Mode → Mode → Mode
first_mode Uninit mode = mode
first_mode mode _ = mode

-- a metric that is found is live, and is borne by the scope
abbrev pub found : ℕ → Mode → Row → Row
found scope mode row = record {
  metric = record row.metric { life = Live; mode = first_mode row.metric.mode mode };
  bearers = if bears scope row then row.bearers else row.bearers ++ scope ∷ [];
}

-- a metric with the next number, the empty text and one bearer
abbrev pub made : NameRules → State → Key → List ℕ → Row
made rules s key numbers = let name = name_of s key in record {
  metric = record {
    name = name;
    kind = key.kind;
    mode = key.mode;
    numbers = numbers;
    tagged = rules.tagged name;
    text = [];
    life = Live;
  };
  bearers = scope_of s key ∷ [];
}

-- a retired metric is overdue when every worker that has not ended has acknowledged its tag
abbrev pub overdue : List Seat → Life → Bool
overdue seats (Retired tag) = all_acknowledged seats tag
overdue seats Live = false
overdue seats Gone = false

abbrev pub swept : List Seat → Row → Row
swept seats row = if overdue seats row.metric.life then record row { metric = record row.metric { life = Gone } }
    else row

-- the metrics that a sweep makes gone, in the order of their numbers
abbrev pub overdue_in : State → List MetricId
overdue_in s = ids_from (λ metric. overdue s.seats metric.life) 0 (metrics_of s)

abbrev pub is_live : List Scope → ℕ → Bool
is_live scopes id = option_map_or (λ scope. scope.live) (slice_get scopes id) false

-- an acknowledgement drops the entries of dead scopes
abbrev pub acknowledged : List Scope → ℕ → Seat → Seat
acknowledged scopes tag seat = record seat { tag = tag; held = filter (λ h. is_live scopes h.scope) seat.held }

abbrev pub ended : Seat → Seat
ended seat = record seat { held = []; ended = true }

-- the state after a seat's call and its reply; what a case does not name stays, and a reply that is not named changes
-- nothing
abbrev pub effect : NameRules → ℕ → Call → Reply → State → State
effect rules seat (call.OpenScope label prefix)
    (reply.Opened id) s = record s { scopes = s.scopes ++ record { label = label; prefix = prefix; live = true } ∷ [] }
effect rules seat (call.Release label) (reply.Released id) s = record s {
  scopes = change_at closed id.0 s.scopes;
  metrics = map (released id.0 (s.releases + 1)) s.metrics;
  releases = s.releases + 1;
}
effect rules seat (call.Find key) (reply.Made id numbers) s =
    on_seat (hold key (scope_of s key) (verdict.Accepted id)) seat
    (record s { metrics = s.metrics ++ made rules s key numbers ∷ [] })
effect rules seat (call.Find key) (reply.Found id) s =
    on_seat (hold key (scope_of s key) (verdict.Accepted id)) seat (on_metric (found (scope_of s key) key.mode) id.0 s)
effect rules seat (call.Find key) reply.Rejected s = on_seat (hold key (scope_of s key) verdict.Rejected) seat s
effect rules seat (call.SetText id text) reply.TextSet s = on_metric
    (λ row. record row { metric = record row.metric { text = text } }) id.0 s
effect rules seat call.Ack (reply.Acked tag) s = on_seat (acknowledged s.scopes tag) seat s
effect rules seat call.Sweep (reply.Swept n) s = record s { metrics = map (swept s.seats) s.metrics }
effect rules seat call.End reply.Ended s = on_seat ended seat s
effect rules seat _ _ s = s

-- the seat is a worker's that has not ended, and this holds of it
abbrev pub Working : State → ℕ → (Seat → Type 0) → Type 0
Working s seat May = IsSomeAnd (seat_of s seat) (λ row. (row.ended ≡ false) × May row)

-- any call of a worker that has not ended
abbrev pub Works : State → ℕ → Type 0
Works s seat = Working s seat (λ row. Unit {0})

abbrev pub accepts : ℕ → Verdict → Bool
accepts id (verdict.Accepted held) = held.0 == id
accepts id _ = false

-- the seat holds the metric, a text readout
abbrev pub holds_text : ℕ → Seat → Bool
holds_text id seat = list_any (λ h. accepts id h.verdict && same_kind h.key.kind Text) seat.held

-- the reply that tells what a find comes to
abbrev pub Tells : State → Key → Outcome → Reply → Type 0
Tells s key NoScope reply.NoScope = Unit {0}
Tells s key Rejected reply.Rejected = Unit {0}
Tells s key (Known known) (reply.Found id) = id.0 ≡ known
Tells s key NoRoom reply.NoRoom = Unit {0}
Tells s key OverLimit reply.OverLimit = Unit {0}
Tells s key New (reply.Made id numbers) = (id.0 ≡ length s.metrics) × DrawsAll (Uses s) (tokens (name_of s key)) numbers
Tells s key _ _ = ⊥

-- the reply may be given to the seat's call in this state
abbrev pub Allowed : NameRules → ℕ → Call → Reply → State → Type 0
-- seat 0 opens the configuration's scopes
Allowed rules seat (call.OpenScope label prefix) (reply.Opened id) s = ((seat ≡ 0) ⊎ Works s seat)
    × (live_scope s label ≡ None) × (id.0 ≡ length s.scopes)
Allowed rules seat (call.OpenScope label prefix) reply.LabelTaken s = Works s seat × IsSome (live_scope s label)
Allowed rules seat (call.Release label) (reply.Released id) s = Works s seat × (live_scope s label ≡ Some id.0)
Allowed rules seat (call.Release label) reply.NoScope s = Works s seat × (live_scope s label ≡ None)
-- a seat finds only what it does not hold
Allowed rules seat (call.Find key) reply s = Working s seat (λ row. IsNone (held_under key row.held))
    × Tells s key (outcome rules s key) reply
Allowed rules seat (call.SetText id text) reply.TextSet s = Working s seat (λ row. holds_text id.0 row ≡ true)
-- a seat acknowledges only what it has not acknowledged yet
Allowed rules seat call.Ack (reply.Acked tag) s = Working s seat (λ row. row.tag < s.releases) × (tag ≡ s.releases)
Allowed rules seat call.Sweep (reply.Swept n) s = (seat ≡ 0)
    × (n ≡ count_by (λ row. overdue s.seats row.metric.life) s.metrics)
Allowed rules seat call.End reply.Ended s = Works s seat
Allowed rules seat _ _ s = ⊥

-- from the old state the book may give this reply to the seat's call, and goes on to the new one
pub record BookStep (rules : NameRules) (old : State) (seat : ℕ) (call : Call) (reply : Reply)
    (new : State) : Type 0 where
  pub allowed : Allowed rules seat call reply old
  pub after : new ≡ effect rules seat call reply old
