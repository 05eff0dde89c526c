-- The rule of a counter bank's words (this project's own, after the counters of Envoy's design note
-- `source/docs/stats.md`, which have a value and a pending increment).
--
-- Each counter has a cache line of eight words, of which it uses two, so that threads that add to different counters do
-- not take the line away from each other. The word 8 * id is the value of the counter `id`, and the word 8 * id + 1 is
-- what of it is pending: accepted, and not yet latched.
-- A worker's add of n is two steps, first n to the value and then n to the pending word, where its units count as
-- accepted. The flusher's latch swaps the pending word with 0.
-- The reader's reading loads the value.
--
-- Why the ledger is exact at every moment of every interleaving. Each seat has the list of its own steps, which that
-- seat's steps alone lengthen; it is kept for the proof alone, and the newest step stands first.
-- `Counted` is a fact of the words and of all these lists. It is what the table's rule `holds`, so it holds when the
-- bank is made, and a step is only allowed where it keeps it, whatever the other seats did before.
-- So it holds at every moment, which is any point between two atomic steps, and the steps have one order, since all of
-- them are sequentially consistent.
-- An add's first step raises the value and its seat's first steps by the same n, and its second step raises the pending
-- word and the second steps alike.
-- A latch moves the whole pending word into the latches in one step. So an add that comes before the swap is in the
-- latch, one that comes after it is pending, and none is in between.
-- A load changes no word. A split or a join moves lists from view to view, and no sum over all lists can tell.
-- No add wraps, since all workers together stay below 2^64.
use Rattle.std.specs.Prelude.{◌≡◌, ℕ, zero, suc, ◌+◌, ◌*◌, ◌^◌, ◌<◌, ◌≤◌, Bool, true, false, ◌==◌, List, [], ◌∷◌}
use Rattle.std.specs.Prelude.{length, slice_index, All}
use Rattle.atomic_table.specs.Table.{State, Me, Step}
use Rattle.seat_parts.specs.declared.Parts.{Parts}
use Rattle.seat_parts.specs.Parts.{total, parts_total, AllParts, first_or, others_of, own_changed}
use Rattle.metric_words.specs.declared.limits.TheConstants.{MAX_UNITS}
use Rattle.metric_words.specs.declared.counter_view.SeatRole.{SeatRole}
use Rattle.metric_words.specs.declared.counter_view.SeatRole.TheVariants.{Worker, Flusher, Reader}
use Rattle.metric_words.specs.declared.counter_view.CountKind.{CountKind}
use Rattle.metric_words.specs.declared.counter_view.CountKind.TheVariants.{First, Second, Latch, Load}
use Rattle.metric_words.specs.declared.counter_view.CountStep.{CountStep}
use Rattle.metric_words.specs.declared.counter_view.CountPart.{CountPart}
use Rattle.metric_words.specs.declared.counter_view.BankKey.{BankKey}

abbrev pub View : Type 0
View = Parts CountPart

-- who makes steps of this kind
abbrev pub role_of : CountKind → SeatRole
role_of First = Worker
role_of Second = Worker
role_of Latch = Flusher
role_of Load = Reader

abbrev pub worker_weight : SeatRole → ℕ
worker_weight Worker = 1
worker_weight Flusher = 0
worker_weight Reader = 0

abbrev pub flusher_weight : SeatRole → ℕ
flusher_weight Worker = 0
flusher_weight Flusher = 1
flusher_weight Reader = 0

abbrev pub reader_weight : SeatRole → ℕ
reader_weight Worker = 0
reader_weight Flusher = 0
reader_weight Reader = 1

abbrev pub step_of : CountKind → ℕ → ℕ → ℕ → CountStep
step_of kind id n found = record { kind = kind; id = id; n = n; found = found }

abbrev pub when : Bool → ℕ → ℕ
when true n = n
when false n = 0

abbrev pub choose : Bool → ℕ → ℕ → ℕ
choose true n m = n
choose false n m = m

abbrev pub as_first : CountKind → ℕ → ℕ
as_first First n = n
as_first Second n = 0
as_first Latch n = 0
as_first Load n = 0

abbrev pub as_second : CountKind → ℕ → ℕ
as_second First n = 0
as_second Second n = n
as_second Latch n = 0
as_second Load n = 0

abbrev pub as_latch : CountKind → ℕ → ℕ
as_latch First n = 0
as_latch Second n = 0
as_latch Latch n = n
as_latch Load n = 0

abbrev pub as_load : CountKind → ℕ → ℕ → ℕ
as_load First n m = m
as_load Second n m = m
as_load Latch n m = m
as_load Load n m = n

-- the units that a step adds as a first step of this counter, those that it adds as a second step, and those that it
-- latches
abbrev pub first_by : ℕ → CountStep → ℕ
first_by id s = as_first s.kind (when (s.id == id) s.n)

abbrev pub second_by : ℕ → CountStep → ℕ
second_by id s = as_second s.kind (when (s.id == id) s.n)

abbrev pub latch_by : ℕ → CountStep → ℕ
latch_by id s = as_latch s.kind (when (s.id == id) s.found)

-- the same over a list of steps
abbrev pub firsts : ℕ → List CountStep → ℕ
firsts id steps = total (first_by id) steps

abbrev pub seconds : ℕ → List CountStep → ℕ
seconds id steps = total (second_by id) steps

abbrev pub latches : ℕ → List CountStep → ℕ
latches id steps = total (latch_by id) steps

-- the units of the add that has made its first step and not yet its second: those of the newest step, where that is a
-- first step
abbrev pub under_way : ℕ → List CountStep → ℕ
under_way id [] = 0
under_way id (s ∷ ss) = first_by id s

-- the value word as a load of this counter found it; any other step leaves the bound that later loads gave
abbrev pub seen_by : ℕ → CountStep → ℕ → ℕ
seen_by id s top = as_load s.kind (choose (s.id == id) s.found top) top

-- the loads of this counter never fall, and the newest is at most `top`
abbrev pub Rises : ℕ → List CountStep → ℕ → Type 0
Rises id [] top = Unit {0}
Rises id (s ∷ ss) top = (seen_by id s top ≤ top) × Rises id ss (seen_by id s top)

-- What a seat of the bank is: it makes the steps of its role alone, its units on a counter keep their bound, its first
-- steps are ahead of its second ones by the add under way, and its loads rise.
pub record FitsBank (workers : ℕ) (words : List ℕ) (p : CountPart) : Type 0 where
  pub knows : p.workers ≡ workers
  pub kinds : All (λ s. role_of s.kind ≡ p.role) p.steps
  pub units : (id : ℕ) → firsts id p.steps ≤ MAX_UNITS
  pub ahead : (id : ℕ) → firsts id p.steps ≡ seconds id p.steps + under_way id p.steps
  pub loads : (id : ℕ) → Rises id p.steps (slice_index words (8 * id))

-- The rule. Each seat's steps stand in some view, and those of one worker or of the flusher in no two. The sums over
-- all seats' first and second steps are the workers', and the latches are the flusher's.
pub record Counted (key : BankKey) (s : State (Unit {0}) View) : Type 0 where
  pub wide : length s.words ≡ 8 * key.size
  pub narrow : key.workers * MAX_UNITS < 2 ^ 64
  pub workers : parts_total (λ p. worker_weight p.role) s.views ≡ key.workers
  pub flusher : parts_total (λ p. flusher_weight p.role) s.views ≡ 1
  pub value : (id : ℕ) → slice_index s.words (8 * id) ≡ parts_total (λ p. firsts id p.steps) s.views
  pub pending : (id : ℕ) → slice_index s.words (8 * id + 1) +
      parts_total (λ p. latches id p.steps) s.views ≡ parts_total (λ p. seconds id p.steps) s.views
  pub each : AllParts (FitsBank key.workers s.words) s.views

-- a seat that has made no step
abbrev pub new_part : SeatRole → ℕ → ℕ → CountPart
new_part role workers seat = record { role = role; seat = seat; workers = workers; steps = [] }

-- n workers' seats, numbered from `seat` on, and the reader's behind them
abbrev pub later_parts : ℕ → ℕ → ℕ → List CountPart
later_parts workers seat zero = new_part Reader workers seat ∷ []
later_parts workers seat (suc n) = new_part Worker workers seat ∷ later_parts workers (suc seat) n

-- a new bank: the flusher has the number 0, the workers 1 to W, and the reader W + 1
abbrev pub bank_view : BankKey → View
bank_view key = record { parts = new_part Flusher key.workers 0 ∷ later_parts key.workers 1 key.workers }

-- a view's own part; each seat of a bank has one
abbrev pub own_part : View → CountPart
own_part v = first_or (new_part Reader 0 0) v.parts

abbrev pub own_steps : View → List CountStep
own_steps v = (own_part v).steps

-- the parts of the seats that were taken in
abbrev pub taken_parts : View → List CountPart
taken_parts v = others_of v.parts

abbrev pub longer : CountStep → CountPart → CountPart
longer s p = record { role = p.role; seat = p.seat; workers = p.workers; steps = s ∷ p.steps }

-- the seat's own list is longer by a step
abbrev pub with_step : CountStep → View → View
with_step s v = own_changed (longer s) v

abbrev Sat : Type 0
Sat = Me (Unit {0}) View

-- What each kind of step leaves of its seat: its own list is longer by just that step.
abbrev pub FirstAdded : Step (Unit {0}) → Sat → ℕ → Sat → Type 0
FirstAdded st m r m' = (id : ℕ) → st.word ≡ 8 * id → m' ≡ (with_step (step_of First id st.first r) m.0, m.1)

abbrev pub SecondAdded : Step (Unit {0}) → Sat → ℕ → Sat → Type 0
SecondAdded st m r m' = (id : ℕ) → st.word ≡ 8 * id + 1 → m' ≡ (with_step (step_of Second id st.first r) m.0, m.1)

-- all seats of workers stand behind the own part
abbrev pub HasAllWorkers : View → Type 0
HasAllWorkers v = length (taken_parts v) ≡ (own_part v).workers

-- where the flusher has taken in all workers, its latches of this counter and the latch that finds r are together all
-- second steps
abbrev pub Latched : Step (Unit {0}) → Sat → ℕ → Sat → Type 0
Latched st m r m' = (id : ℕ) → st.word ≡ 8 * id + 1 →
    (m' ≡ (with_step (step_of Latch id 0 r) m.0, m.1))
    × (HasAllWorkers m.0 → latches id (own_steps m.0) + r ≡ total (λ p. seconds id p.steps) (taken_parts m.0))

-- a load found at least what the loads before it found
abbrev pub Loaded : Step (Unit {0}) → Sat → ℕ → Sat → Type 0
Loaded st m r m' = (id : ℕ) → st.word ≡ 8 * id → (m' ≡ (with_step (step_of Load id 0 r) m.0, m.1))
    × Rises id (own_steps m.0) r
