-- Which stages and phases fit, before and after each step.
use Rattle.std.proofs.Common.{◌≡◌, ◌+◌, ◌-◌, ◌%◌, ◌^◌, ◌⊎◌, inl, inr, Bool, true, false, sym, refl, true≢false, arith}
use Rattle.std.specs.Prelude.{◌==◌}
use Rattle.turn_cell.specs.declared.view.Phase.{Phase}
use Rattle.turn_cell.specs.declared.view.Phase.TheVariants.{Idle, Asked, WorkerHolds, Full, FlusherHolds}
use Rattle.turn_cell.specs.declared.view.WorkerStage.{WorkerStage}
use Rattle.turn_cell.specs.declared.view.WorkerStage.TheVariants.{Working, MayTurn, Turning, Departed}
use Rattle.turn_cell.specs.declared.view.FlusherStage.{FlusherStage}
use Rattle.turn_cell.specs.declared.view.FlusherStage.TheVariants.{Resting, Waiting, Found, Alone, Holding}
use Rattle.turn_cell.specs.declared.view.Party.{Party}
use Rattle.turn_cell.specs.declared.view.Party.TheVariants.{Worker, Flusher}
use Rattle.turn_cell.specs.Turned.{word_of, WorkerFits, FlusherFits, is_there, has_left, can_turn, is_resting, is_waiting, is_holding}
use Rattle.turn_cell.specs.Steps.{stage_at, ShowsStage, TellsFull}

-- the stages of the tokens
abbrev pub IsThere : WorkerStage → Type 0
IsThere Working = Unit {0}
IsThere MayTurn = Unit {0}
IsThere stage = ⊥

pub there : (party : Party) → is_there party ≡ true → (stage : WorkerStage) × (party ≡ Worker stage) × IsThere stage
there (Worker Working) e = (Working, refl, tt)
there (Worker MayTurn) e = (MayTurn, refl, tt)
there party e = absurd (true≢false (sym e))

pub turner : (party : Party) → can_turn party ≡ true → party ≡ Worker MayTurn
turner (Worker MayTurn) e = refl
turner party e = absurd (true≢false (sym e))

pub leaver : (party : Party) → has_left party ≡ true → party ≡ Worker Departed
leaver (Worker Departed) e = refl
leaver party e = absurd (true≢false (sym e))

pub rester : (party : Party) → is_resting party ≡ true → party ≡ Flusher Resting
rester (Flusher Resting) e = refl
rester party e = absurd (true≢false (sym e))

pub waiter : (party : Party) → is_waiting party ≡ true → party ≡ Flusher Waiting
waiter (Flusher Waiting) e = refl
waiter party e = absurd (true≢false (sym e))

pub holder : (party : Party) → is_holding party ≡ true → party ≡ Flusher Holding
holder (Flusher Holding) e = refl
holder party e = absurd (true≢false (sym e))

-- a worker's load
pub worker-loads : (stage : WorkerStage) (left : Bool) (phase : Phase) → IsThere stage → WorkerFits stage left phase → WorkerFits (stage_at (word_of left phase == 1)) left phase
worker-loads Working false Idle i x = tt
worker-loads Working false Asked i x = tt
worker-loads Working false Full i x = tt
worker-loads Working false FlusherHolds i x = tt
worker-loads MayTurn false Asked i x = tt
worker-loads Turning left phase i x = absurd i
worker-loads Departed left phase i x = absurd i
worker-loads stage left phase i x = absurd x

-- a turn
pub may-turn-at : (left : Bool) (phase : Phase) → WorkerFits MayTurn left phase → (left ≡ false) × (phase ≡ Asked)
may-turn-at false Asked x = (refl, refl)
may-turn-at left phase x = absurd x

pub begins : (stage : FlusherStage) → FlusherFits stage false Asked → FlusherFits stage false WorkerHolds
begins Waiting x = tt
begins stage x = absurd x

pub turning-at : (left : Bool) (phase : Phase) → WorkerFits Turning left phase → (left ≡ false) × (phase ≡ WorkerHolds)
turning-at false WorkerHolds x = (refl, refl)
turning-at left phase x = absurd x

pub gives : (stage : FlusherStage) → FlusherFits stage false WorkerHolds → FlusherFits stage false Full
gives Waiting x = tt
gives stage x = absurd x

-- the worker leaves
pub leaves : (stage : WorkerStage) (left : Bool) (phase : Phase) → IsThere stage → WorkerFits stage left phase
    → (left ≡ false) × WorkerFits Departed true phase × ((word_of left phase + 8) % 2 ^ 64 ≡ word_of true phase)
leaves Working false Idle i x = (refl, tt, omega arith)
leaves Working false Asked i x = (refl, tt, omega arith)
leaves Working false Full i x = (refl, tt, omega arith)
leaves Working false FlusherHolds i x = (refl, tt, omega arith)
leaves MayTurn false Asked i x = (refl, tt, omega arith)
leaves Turning left phase i x = absurd i
leaves Departed left phase i x = absurd i
leaves stage left phase i x = absurd x

pub left-alone : (stage : FlusherStage) (phase : Phase) → FlusherFits stage false phase → FlusherFits stage true phase
left-alone Resting Idle x = tt
left-alone Waiting Asked x = tt
left-alone Waiting WorkerHolds x = tt
left-alone Waiting Full x = tt
left-alone Found Full x = tt
left-alone Holding FlusherHolds x = tt
left-alone stage phase x = absurd x

-- a request
pub resting-at : (left : Bool) (phase : Phase) → FlusherFits Resting left phase → phase ≡ Idle
resting-at left Idle x = refl
resting-at left phase x = absurd x

pub asks : (stage : WorkerStage) → WorkerFits stage false Idle → WorkerFits stage false Asked
asks Working x = tt
asks stage x = absurd x

-- a flusher's load
left-moves-none : (worker : WorkerStage) → WorkerFits worker true WorkerHolds → ⊥
left-moves-none Working x = x
left-moves-none worker x = x

pub flusher-loads : (worker : WorkerStage) (left : Bool) (phase : Phase) → WorkerFits worker left phase → FlusherFits Waiting left phase
    → (stage : FlusherStage) × ShowsStage stage (word_of left phase) × FlusherFits stage left phase
flusher-loads worker false Asked w x = (Waiting, inl refl, tt)
flusher-loads worker true Asked w x = (Alone, refl, tt)
flusher-loads worker false WorkerHolds w x = (Waiting, inr refl, tt)
flusher-loads worker false Full w x = (Found, inl refl, tt)
flusher-loads worker true Full w x = (Found, inr refl, tt)
flusher-loads worker true WorkerHolds w x = absurd (left-moves-none worker w)
flusher-loads worker left phase w x = absurd x

-- a full half is taken
pub found-at : (left : Bool) (phase : Phase) → FlusherFits Found left phase → phase ≡ Full
found-at left Full x = refl
found-at left phase x = absurd x

pub full-word : (left : Bool) → TellsFull (word_of left Full) × ((word_of left Full + 1) % 2 ^ 64 ≡ word_of left FlusherHolds)
full-word false = (inl refl, omega arith)
full-word true = (inr refl, omega arith)

pub collects : (left : Bool) (stage : WorkerStage) → WorkerFits stage left Full → WorkerFits stage left FlusherHolds
collects false Working x = tt
collects true Departed x = tt
collects false stage x = absurd x
collects true stage x = absurd x

-- the slot is given back
pub holding-at : (left : Bool) (phase : Phase) → FlusherFits Holding left phase → phase ≡ FlusherHolds
holding-at left FlusherHolds x = refl
holding-at left phase x = absurd x

pub held-word : (left : Bool) → ((word_of left FlusherHolds ≡ 4) ⊎ (word_of left FlusherHolds ≡ 12)) × ((word_of left FlusherHolds + (2 ^ 64 - 4)) % 2 ^ 64 ≡ word_of left Idle)
held-word false = (inl refl, omega arith)
held-word true = (inr refl, omega arith)

pub returns : (left : Bool) (stage : WorkerStage) → WorkerFits stage left FlusherHolds → WorkerFits stage left Idle
returns false Working x = tt
returns true Departed x = tt
returns false stage x = absurd x
returns true stage x = absurd x

-- a request is taken back
pub alone-at : (left : Bool) (phase : Phase) → FlusherFits Alone left phase → (left ≡ true) × (phase ≡ Asked)
alone-at true Asked x = (refl, refl)
alone-at left phase x = absurd x

pub takes-back : (stage : WorkerStage) → WorkerFits stage true Asked → WorkerFits stage true Idle
takes-back Departed x = tt
takes-back stage x = absurd x
