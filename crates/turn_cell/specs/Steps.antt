-- The kinds of step on the word of a cell, each as one relation between what its seat knew and held before
-- and what it knows and holds after it (this project's own).
-- The number `found` is the word that the step found; where a step stores, it is the word that it stored.
-- With a split, by which a new cell's one seat becomes two, and a join, by which the last two become one,
-- there are nine kinds.
use Rattle.std.specs.Prelude.{◌≡◌, ℕ, ◌≤◌, Bool, true, false, ◌==◌, [], ◌∷◌, ◌++◌, ◌⊎◌, Option, Some}
use Rattle.atomic_table.specs.Table.{Me, Step}
use Rattle.seat_parts.specs.declared.Parts.{Parts}
use Rattle.seat_parts.specs.Parts.{total, own_changed}
use Rattle.turn_cell.specs.declared.limits.TheConstants.{MAX_TURNED}
use Rattle.turn_cell.specs.declared.view.WorkerStage.{WorkerStage}
use Rattle.turn_cell.specs.declared.view.WorkerStage.TheVariants.{Working, MayTurn, Turning, Departed}
use Rattle.turn_cell.specs.declared.view.FlusherStage.{FlusherStage}
use Rattle.turn_cell.specs.declared.view.FlusherStage.TheVariants.{Resting, Waiting, Found, Alone, Holding}
use Rattle.turn_cell.specs.declared.view.Party.{Party}
use Rattle.turn_cell.specs.declared.view.Party.TheVariants.{Worker, Flusher}
use Rattle.turn_cell.specs.declared.view.TurnKind.{TurnKind}
use Rattle.turn_cell.specs.declared.view.TurnKind.TheVariants.{Load, Begin, Give, Leave, Ask, Collect, Return}
use Rattle.turn_cell.specs.declared.view.TurnStep.{TurnStep}
use Rattle.turn_cell.specs.declared.view.TurnPart.{TurnPart}
use Rattle.turn_cell.specs.Turned.{own_turn}

abbrev pub turn_step : TurnKind → ℕ → TurnStep
turn_step kind found = record { kind = kind; found = found }

-- a worker's load finds that it may turn exactly where it finds 1
abbrev pub stage_at : Bool → WorkerStage
stage_at true = MayTurn
stage_at false = Working

-- a request has the flusher wait exactly where it finds 0
abbrev pub asked_at : Bool → FlusherStage
asked_at true = Waiting
asked_at false = Resting

-- a full half is there in phases 3 and 11
abbrev pub TellsFull : ℕ → Type 0
TellsFull word = (word ≡ 3) ⊎ (word ≡ 11)

-- in phases 1 and 2 the worker has not turned yet
abbrev pub TellsNotYet : ℕ → Type 0
TellsNotYet word = (word ≡ 1) ⊎ (word ≡ 2)

-- the words at which a load of a flusher that waits leaves it at this stage
abbrev pub ShowsStage : FlusherStage → ℕ → Type 0
ShowsStage Waiting word = TellsNotYet word
ShowsStage Found word = TellsFull word
ShowsStage Alone word = word ≡ 9
ShowsStage stage word = ⊥

-- what a seat knows, and the slots that it holds
abbrev pub Sat : Type 0 → Type 0
Sat H = Me (Option H) (Parts (TurnPart H))

module _ {H : Type 0} where
  -- the seat is at this stage, and has made one step more
  abbrev pub moved : Party → TurnKind → ℕ → TurnPart H → TurnPart H
  moved party kind found p = record { party = party; halves = p.halves; steps = turn_step kind found ∷ p.steps }

  -- the same, and it turned or took one half more
  abbrev pub grown : H → Party → TurnKind → ℕ → TurnPart H → TurnPart H
  grown half party kind found p = record {
    party = party;
    halves = p.halves ++ half ∷ [];
    steps = turn_step kind found
        ∷ p.steps;
  }

  -- 1. A load, of the worker: it changes no word.
  abbrev pub WorkerLoads : Step (Option H) → Sat H → ℕ → Sat H → Type 0
  WorkerLoads st m found m' = m' ≡ (own_changed (moved (Worker (stage_at (found == 1))) Load found) m.0, m.1)

  -- ... and of the flusher, while it waits.
  abbrev pub FlusherLoads : Step (Option H) → Sat H → ℕ → Sat H → Type 0
  FlusherLoads st m found m' = (stage : FlusherStage) × ShowsStage stage found
      × (m' ≡ (own_changed (moved (Flusher stage) Load found) m.0, m.1))

  -- 2. A request, from 0 to 1. Where it finds 8, the worker left, and the word stays.
  abbrev pub Asks : Step (Option H) → Sat H → ℕ → Sat H → Type 0
  Asks st m found m' = ((found ≡ 0) ⊎ (found ≡ 8))
      × (m' ≡ (own_changed (moved (Flusher (asked_at (found == 0))) Ask found) m.0, m.1))

  -- 3. The worker takes the slot, from 1 to 2. It has the spare, whose weight is 0.
  abbrev pub Begins : (H → ℕ) → Step (Option H) → Sat H → ℕ → Sat H → Type 0
  Begins weighs st m found m' = (spare : H) × (weighs spare ≡ 0)
      × (m' ≡ (own_changed (moved (Worker Turning) Begin 1) m.0, (0, Some spare) ∷ []))

  -- 4. The worker gives the slot with a full half, from 2 to 3. The half is turned from here on.
  abbrev pub Gives : Step (Option H) → Sat H → ℕ → Sat H → Type 0
  Gives st m found m' = (half : H) → m.1 ≡ (0, Some half) ∷ []
      → m' ≡ (own_changed (grown half (Worker Working) Give 2) m.0, [])

  -- 5. The flusher takes the slot with its full half, which adds 1 to 3 or 11. The half is taken from here
  -- on.
  abbrev pub Collects : (H → ℕ) → Step (Option H) → Sat H → ℕ → Sat H → Type 0
  Collects weighs st m found m' = (half : H) × TellsFull found
      × (m' ≡ (own_changed (grown half (Flusher Holding) Collect found) m.0, (0, Some half) ∷ []))
      × (total weighs (own_turn m'.0).halves ≤ MAX_TURNED)

  -- 6. The flusher gives the slot back with a spare, which takes 4 from 4 or 12 ...
  abbrev pub Returns : Step (Option H) → Sat H → ℕ → Sat H → Type 0
  Returns st m found m' = ((found ≡ 4) ⊎ (found ≡ 12))
      × (m' ≡ (own_changed (moved (Flusher Resting) Return found) m.0, []))

  -- ... or takes its request back, which takes 1 from 9.
  abbrev pub TakesBack : Step (Option H) → Sat H → ℕ → Sat H → Type 0
  TakesBack st m found m' = (found ≡ 9) × (m' ≡ (own_changed (moved (Flusher Resting) Return found) m.0, m.1))

  -- 7. The worker leaves, which adds 8. It holds no slot then, and steps no more.
  abbrev pub Leaves : Step (Option H) → Sat H → ℕ → Sat H → Type 0
  Leaves st m found m' = m' ≡ (own_changed (moved (Worker Departed) Leave found) m.0, m.1)
