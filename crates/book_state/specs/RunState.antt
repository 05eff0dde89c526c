-- What is true of every state that a run comes to: why what a seat holds is not swept away. This project's own.
use Rattle.std.specs.Prelude.{◌≡◌, ◌↔◌, ℕ, ◌<◌, ◌≤◌, true, Some, List, [], length, slice_get}
use Rattle.stat_defs.specs.declared.ids.MetricId.{MetricId}
use Rattle.stat_defs.specs.declared.metrics.Life.{Life}
use Rattle.stat_defs.specs.declared.metrics.Life.TheVariants.{Live, Retired, Gone}
use Rattle.stat_defs.specs.declared.history.Verdict.TheVariants.{Accepted}
use Rattle.stat_defs.specs.Names.{tokens}
use Rattle.book_state.specs.declared.limits.TheConstants.{MAX_METRICS}
use Rattle.book_state.specs.State.{Scope, Row, Held, Seat, State, Uses, bears}
use Rattle.book_state.specs.Step.{is_live}
use Rattle.book_state.specs.Bearing.{NoDoubles}

-- the metric is live, or was retired by a release that a seat with this tag has not acknowledged
abbrev pub IsAbove : ℕ → Life → Type 0
IsAbove tag Live = Unit {0}
IsAbove tag (Retired release) = tag < release
IsAbove tag Gone = ⊥

-- a metric has a bearer exactly where it is live, and live scopes alone bear it
pub record IsRow (scopes : List Scope) (releases : ℕ) (row : Row) : Type 0 where
  pub live : (k : ℕ) → bears k row ≡ true → is_live scopes k ≡ true
  pub used : (k : ℕ) → bears k row ≡ true → row.metric.life ≡ Live
  pub borne : row.metric.life ≡ Live → (k : ℕ) × (bears k row ≡ true)
  pub past : (release : ℕ) → row.metric.life ≡ Retired release → release ≤ releases
  -- each scope bears it once
  pub apart : NoDoubles row.bearers
  -- each token of its name has a number
  pub numbers : length row.metric.numbers ≡ length (tokens row.metric.name)

-- an accepted entry that a seat with this tag holds
pub record IsHeld (scopes : List Scope) (metrics : List Row) (tag : ℕ) (h : Held) (id : ℕ) : Type 0 where
  pub row : Row
  pub at : slice_get metrics id ≡ Some row
  pub kind : row.metric.kind ≡ h.key.kind
  pub life : IsAbove tag row.metric.life
  pub within : h.scope < length scopes
  -- what is held through a live scope is borne by it
  pub borne : is_live scopes h.scope ≡ true → bears h.scope row ≡ true

pub record IsSeat (scopes : List Scope) (metrics : List Row) (releases : ℕ) (seat : Seat) : Type 0 where
  pub tag : seat.tag ≤ releases
  pub ended : seat.ended ≡ true → seat.held ≡ []
  pub held : (i : ℕ) (h : Held) (id : MetricId) → slice_get seat.held i ≡ Some h → h.verdict ≡ Accepted id
      → IsHeld scopes metrics seat.tag h id.0

-- tokens have equal numbers exactly where they are equal
abbrev pub Apart : (List ℕ → ℕ → Type 0) → Type 0
Apart uses = (t u : List ℕ) (m n : ℕ) → uses t m → uses u n → (t ≡ u) ↔ (m ≡ n)

pub record IsRunState (s : State) : Type 0 where
  pub rows : (i : ℕ) (row : Row) → slice_get s.metrics i ≡ Some row → IsRow s.scopes s.releases row
  pub seats : (j : ℕ) (seat : Seat) → slice_get s.seats j ≡ Some seat → IsSeat s.scopes s.metrics s.releases seat
  pub apart : Apart (Uses s)
  pub few : length s.metrics ≤ MAX_METRICS
