-- The rule of a cell's word and slot (this project's own).
--
-- The word is a phase, and 8 more once the worker left: 0 idle, 1 asked, 2 the worker moves the slot, 3
-- full, 4 the flusher moves the slot.
-- The slot has the spare, of weight 0, in phases 0, 1, 8 and 9, and a full half in phases 3 and 11. In 2 it
-- is out with the worker, in 4 and 12 with the flusher.
--
-- What holds at every moment of every interleaving: the halves that the flusher took, and the full one in
-- the slot, are together the halves that the worker turned, in order.
-- What a party's last step told it, its stage, stays true whatever the other party does: a worker that
-- found 1 finds 1 until it turns or leaves,
-- and a flusher that found a full half finds it until it takes it.
use Rattle.std.specs.Prelude.{◌≡◌, ℕ, ◌+◌, ◌≤◌, Bool, true, false, List, [], ◌∷◌, ◌++◌, Option, Some, length}
use Rattle.std.specs.Prelude.{slice_index}
use mathlib.Core.Option.{none, some}
use lib.ListN.{get_elem?}
use Rattle.atomic_table.specs.Table.{State}
use Rattle.seat_parts.specs.declared.Parts.{Parts}
use Rattle.seat_parts.specs.Parts.{total, parts_total, AllParts, first_or}
use Rattle.turn_cell.specs.declared.limits.TheConstants.{MAX_TURNED}
use Rattle.turn_cell.specs.declared.view.Phase.{Phase}
use Rattle.turn_cell.specs.declared.view.Phase.TheVariants.{Idle, Asked, WorkerHolds, Full, FlusherHolds}
use Rattle.turn_cell.specs.declared.view.WorkerStage.{WorkerStage}
use Rattle.turn_cell.specs.declared.view.WorkerStage.TheVariants.{Working, MayTurn, Turning, Departed}
use Rattle.turn_cell.specs.declared.view.FlusherStage.{FlusherStage}
use Rattle.turn_cell.specs.declared.view.FlusherStage.TheVariants.{Resting, Waiting, Found, Alone, Holding}
use Rattle.turn_cell.specs.declared.view.Party.{Party}
use Rattle.turn_cell.specs.declared.view.Party.TheVariants.{Worker, Flusher}
use Rattle.turn_cell.specs.declared.view.TurnPart.{TurnPart}

abbrev pub phase_number : Phase → ℕ
phase_number Idle = 0
phase_number Asked = 1
phase_number WorkerHolds = 2
phase_number Full = 3
phase_number FlusherHolds = 4

-- the word, by its phase and by whether the worker left
abbrev pub word_of : Bool → Phase → ℕ
word_of false phase = phase_number phase
word_of true phase = 8 + phase_number phase

-- the phases in which the worker may be at this stage, and whether it left
abbrev pub WorkerFits : WorkerStage → Bool → Phase → Type 0
WorkerFits Working false Idle = Unit {0}
WorkerFits Working false Asked = Unit {0}
WorkerFits Working false Full = Unit {0}
WorkerFits Working false FlusherHolds = Unit {0}
WorkerFits MayTurn false Asked = Unit {0}
WorkerFits Turning false WorkerHolds = Unit {0}
WorkerFits Departed true Idle = Unit {0}
WorkerFits Departed true Asked = Unit {0}
WorkerFits Departed true Full = Unit {0}
WorkerFits Departed true FlusherHolds = Unit {0}
WorkerFits stage left phase = ⊥

-- the phases in which the flusher may be at this stage, by whether the worker left
abbrev pub FlusherFits : FlusherStage → Bool → Phase → Type 0
FlusherFits Resting left Idle = Unit {0}
FlusherFits Waiting left Asked = Unit {0}
FlusherFits Waiting left WorkerHolds = Unit {0}
FlusherFits Waiting left Full = Unit {0}
FlusherFits Found left Full = Unit {0}
FlusherFits Alone true Asked = Unit {0}
FlusherFits Holding left FlusherHolds = Unit {0}
FlusherFits stage left phase = ⊥

-- 1 for the part of the worker, and for that of the flusher
abbrev pub worker_weight : Party → ℕ
worker_weight (Worker stage) = 1
worker_weight (Flusher stage) = 0

abbrev pub flusher_weight : Party → ℕ
flusher_weight (Worker stage) = 0
flusher_weight (Flusher stage) = 1

-- the stages between the calls of a party
abbrev pub is_there : Party → Bool
is_there (Worker Working) = true
is_there (Worker MayTurn) = true
is_there party = false

abbrev pub has_left : Party → Bool
has_left (Worker Departed) = true
has_left party = false

abbrev pub can_turn : Party → Bool
can_turn (Worker MayTurn) = true
can_turn party = false

abbrev pub is_resting : Party → Bool
is_resting (Flusher Resting) = true
is_resting party = false

abbrev pub is_waiting : Party → Bool
is_waiting (Flusher Waiting) = true
is_waiting party = false

abbrev pub has_no_slot : Party → Bool
has_no_slot (Flusher Resting) = true
has_no_slot (Flusher Waiting) = true
has_no_slot party = false

abbrev pub is_holding : Party → Bool
is_holding (Flusher Holding) = true
is_holding party = false

module _ {H : Type 0} where
  -- the own part of a view that has one
  abbrev pub own_turn : Parts (TurnPart H) → TurnPart H
  own_turn v = first_or (record { party = Worker Working; halves = []; steps = [] }) v.parts

  -- a part of the worker knows its stage and the halves that were turned, and one of the flusher its stage
  -- and those that were taken
  abbrev pub Knows : WorkerStage → List H → FlusherStage → List H → Party → List H → Type 0
  Knows worker turned flusher taken (Worker stage) halves = (stage ≡ worker) × (halves ≡ turned)
  Knows worker turned flusher taken (Flusher stage) halves = (stage ≡ flusher) × (halves ≡ taken)

  module _ (weighs : H → ℕ) where
    -- what the slot has: the spare, where each half that was turned was taken, or the one that was turned
    -- and not taken. While a party moves it, it is out
    abbrev pub SlotFits : Phase → List H → List H → List (mathlib.Core.Option.Option (Option H)) → Type 0
    SlotFits Idle turned taken homes = (spare : H) × (get_elem? homes 0 ≡ some (some (Some spare)))
        × (weighs spare ≡ 0) × (turned ≡ taken)
    SlotFits Asked turned taken homes = (spare : H) × (get_elem? homes 0 ≡ some (some (Some spare)))
        × (weighs spare ≡ 0) × (turned ≡ taken)
    SlotFits WorkerHolds turned taken homes = (get_elem? homes 0 ≡ some none) × (turned ≡ taken)
    SlotFits Full turned taken homes = (half : H) × (get_elem? homes 0 ≡ some (some (Some half)))
        × (turned ≡ taken ++ half ∷ [])
    SlotFits FlusherHolds turned taken homes = (get_elem? homes 0 ≡ some none) × (turned ≡ taken)

    pub record Turned (s : State (Option H) (Parts (TurnPart H))) : Type 0 where
      pub phase : Phase
      pub left : Bool
      pub worker : WorkerStage
      pub flusher : FlusherStage
      pub turned : List H
      pub taken : List H
      pub wide : length s.words ≡ 1
      pub slots : length s.homes ≡ 1
      pub word : slice_index s.words 0 ≡ word_of left phase
      pub worker_fits : WorkerFits worker left phase
      pub flusher_fits : FlusherFits flusher left phase
      pub slot : SlotFits phase turned taken s.homes
      pub bound : total weighs turned ≤ MAX_TURNED
      pub one_worker : parts_total (λ (p : TurnPart H). worker_weight p.party) s.views ≤ 1
      pub one_flusher : parts_total (λ (p : TurnPart H). flusher_weight p.party) s.views ≤ 1
      pub parts : AllParts (λ (p : TurnPart H). Knows worker turned flusher taken p.party p.halves) s.views

  abbrev pub new_turn : Party → TurnPart H
  new_turn party = record { party = party; halves = []; steps = [] }

  -- the first seat has both parts, the flusher's before the worker's
  abbrev pub turn_view : Parts (TurnPart H)
  turn_view = record { parts = new_turn (Flusher Resting) ∷ new_turn (Worker Working) ∷ [] }

-- the number of the slot that was taken last
abbrev pub held_slot : {S : Type 0} → List (ℕ × S) → ℕ
held_slot [] = 1
held_slot (x ∷ xs) = x.0
