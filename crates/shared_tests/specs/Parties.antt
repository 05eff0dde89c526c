-- A store with its parties, as each call of a script finds and leaves them (this project's own).
use Rattle.std.specs.Prelude.{◌≡◌, ℕ, ◌+◌, None, IsSome, IfSome, All}
use Rattle.flush_cells.specs.declared.passing.Pass.TheVariants.{Done}
use Rattle.flush_cells.specs.Cells.{IsNotHolding}
use Rattle.flush_cells.specs.Late.{pass_from}
use Rattle.store_parts.specs.declared.store.Store.{Store}
use Rattle.recorder.specs.Knowing.{RecorderKnown}
use Rattle.recorder.specs.Tied.{IsWorkerOf, HasEnded}
use Rattle.admin_side.specs.Reader.{IsReaderOf}
use Rattle.flusher.specs.Flusher.{IsFlusherOf}
use Rattle.shared_tests.specs.declared.parties.Worker.{Worker}
use Rattle.shared_tests.specs.declared.parties.Worker.TheVariants.{AtWork, Left}
use Rattle.shared_tests.specs.declared.parties.Rounds.{Rounds}
use Rattle.shared_tests.specs.declared.parties.Rounds.TheVariants.{Between, Begun, Taken}
use Rattle.shared_tests.specs.declared.parties.Parties.{Parties}

-- the store's worker w was given so many events
pub record IsAtWork (store : Store) (w count : ℕ) (r : RecorderKnown) : Type 0 where
  pub worker : IsWorkerOf store w r
  pub given : r.given ≡ count

-- whatever worker it was, with however many events, it is so still
abbrev pub WorksOn : Store → RecorderKnown → RecorderKnown → Type 0
WorksOn store old new = (w count : ℕ) → IsAtWork store w count old → IsAtWork store w count new

-- and with one event more
abbrev pub WorksMore : Store → RecorderKnown → RecorderKnown → Type 0
WorksMore store old new = (w count : ℕ) → IsAtWork store w count old → IsAtWork store w (count + 1) new

abbrev pub IsPartyOf : Store → ℕ → Worker → Type 0
IsPartyOf store w (AtWork r count) = IsAtWork store w count r
IsPartyOf store w (Left ended) = HasEnded store w ended

abbrev pub IsAtRound : Store → Rounds → Type 0
IsAtRound store (Between f) = IsFlusherOf store f × (f.round ≡ None)
IsAtRound store (Begun f) = IsFlusherOf store f × IsSome f.round
IsAtRound store (Taken f) =
    IsFlusherOf store f × IsSome f.round × (pass_from 1 f.tokens ≡ Done) × All IsNotHolding f.tokens

pub record AreParties (p : Parties) : Type 0 where
  pub first : IsPartyOf p.store 1 p.first
  pub second : IfSome p.second (IsPartyOf p.store 2)
  pub rounds : IsAtRound p.store p.rounds
  pub admin : IsReaderOf p.store.book p.store.counters p.store.gauges p.admin
