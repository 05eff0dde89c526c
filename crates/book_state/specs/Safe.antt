-- No symbol number is given again while a live name or a seat that holds one has it. This project's own.
use Rattle.std.specs.Prelude.{◌≡◌, ◌↔◌, ℕ, false, Some, List, length, take, slice_get, All}
use Rattle.std.specs.List.{zip}
use Rattle.std.specs.Option.{IsSomeAnd}
use Rattle.stat_defs.specs.declared.history.Verdict.{Verdict}
use Rattle.stat_defs.specs.declared.history.Verdict.TheVariants.{Accepted}
use Rattle.stat_defs.specs.declared.history.Call.{Call}
use Rattle.stat_defs.specs.declared.history.Call.TheVariants as call
use Rattle.stat_defs.specs.declared.history.Reply.{Reply}
use Rattle.stat_defs.specs.declared.history.Reply.TheVariants as reply
use Rattle.stat_defs.specs.declared.history.Entry.{Entry}
use Rattle.stat_defs.specs.Names.{tokens}
use Rattle.symbol_table.specs.Drawing.{InUse}
use Rattle.book_state.specs.State.{NameRules, State, Row, Seat, Uses, is_gone}
use Rattle.book_state.specs.Finding.{name_of}
use Rattle.book_state.specs.Log.{replay}

-- the metric is not gone, and each token of its name has a number in use
pub record IsThere (s : State) (row : Row) : Type 0 where
  pub life : is_gone row.metric.life ≡ false
  pub as_many : length row.metric.numbers ≡ length (tokens row.metric.name)
  pub in_use : All (InUse (Uses s)) row.metric.numbers

-- so is the metric of an accepted verdict
abbrev pub NamesSafe : State → Verdict → Type 0
NamesSafe s (Accepted id) = IsSomeAnd (slice_get s.metrics id.0) (IsThere s)
NamesSafe s _ = Unit {0}

pub record IsSafe (s : State) : Type 0 where
  -- what a seat holds is not gone, and its numbers are in use
  pub held : All (λ (seat : Seat). All (λ h. NamesSafe s h.verdict) seat.held) s.seats
  -- tokens in use have equal numbers exactly where they are equal
  pub apart : (t u : List ℕ) (m n : ℕ) → Uses s t m → Uses s u n → (t ≡ u) ↔ (m ≡ n)

-- a number that is drawn for a new token is in use by no name
abbrev pub DrawsUnused : State → Call → Reply → Type 0
DrawsUnused s (call.Find key) (reply.Made id numbers) = (at : ℕ) (t : List ℕ) (n : ℕ)
    → slice_get (zip (tokens (name_of s key)) numbers) at ≡ Some (t, n) → ((k : ℕ) → Uses s t k → ⊥) → InUse (Uses s) n
    → ⊥
DrawsUnused s _ _ = Unit {0}

pub record SymbolsSafe (rules : NameRules) (workers : ℕ) (log : List Entry) : Type 0 where
  -- after any number of entries
  pub states : (k : ℕ) → IsSafe (replay rules workers (take k log))
  -- and at the entry after them
  pub draws : (k : ℕ) (entry : Entry) → slice_get log k ≡ Some entry
      → DrawsUnused (replay rules workers (take k log)) entry.call entry.reply
