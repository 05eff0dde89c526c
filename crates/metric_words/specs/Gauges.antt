-- The rule of a gauge bank's words (this project's own, after the gauges of Envoy's design note `source/docs/stats.md`,
-- which are added to, subtracted from and set).
--
-- The word 8 * id is the gauge `id`, in two's complement; each gauge has a cache line of eight words, as a counter has. Each step is one atomic step on that word: an add, a
-- subtraction, a swap for a set, or a load.
--
-- What holds at every moment of every interleaving, of the words and of all seats' step lists, which are kept as those
-- of the counters:
-- the word is the net of all steps modulo 2^64, since a set counts its number less the word that it displaced, so that
-- the steps before it cancel out.
-- Where one seat alone has written the gauge, its word is the fold of that seat's steps, since no other step came in
-- between. The seat that wrote last is some seat. Where its newest write is a set, the word is the number of that set;
-- so where each seat that wrote has a set as its newest write, the word is the number of one of these.
-- A seat that took all others in has the steps of all, so a load by it finds the word that all of them left.
use Rattle.std.specs.Prelude.{◌≡◌, ℕ, zero, suc, ◌+◌, ◌-◌, ◌*◌, ◌%◌, ◌^◌, ◌≤◌, Bool, true, false, ◌==◌, List, [], ◌∷◌, ◌⊎◌}
use Rattle.std.specs.Prelude.{length, slice_index, All}
use Rattle.std.specs.List.{Any}
use Rattle.atomic_table.specs.Table.{State, Me, Step}
use Rattle.seat_parts.specs.declared.Parts.{Parts}
use Rattle.seat_parts.specs.Parts.{total, parts_total, AllParts, AnyPart, first_or, others_of, own_changed}
use Rattle.metric_words.specs.declared.gauge_view.GaugeKind.{GaugeKind}
use Rattle.metric_words.specs.declared.gauge_view.GaugeKind.TheVariants.{Add, Sub, Set, Load}
use Rattle.metric_words.specs.declared.gauge_view.GaugeStep.{GaugeStep}
use Rattle.metric_words.specs.declared.gauge_view.GaugePart.{GaugePart}
use Rattle.metric_words.specs.declared.gauge_view.GaugeKey.{GaugeKey}
use Rattle.metric_words.specs.Counters.{when, choose}

abbrev pub View : Type 0
View = Parts GaugePart

abbrev pub gauge_step : GaugeKind → ℕ → ℕ → ℕ → GaugeStep
gauge_step kind id n found = record { kind = kind; id = id; n = n; found = found }

-- what a step counts, modulo 2^64
abbrev pub counts : GaugeKind → ℕ → ℕ → ℕ
counts Add n found = n
counts Sub n found = 2 ^ 64 - n
counts Set n found = n + (2 ^ 64 - found)
counts Load n found = 0

abbrev pub net_by : ℕ → GaugeStep → ℕ
net_by id s = when (s.id == id) (counts s.kind s.n s.found)

-- the net of a list of steps, modulo 2^64
abbrev pub net : ℕ → List GaugeStep → ℕ
net id steps = total (net_by id) steps

-- 1 for a step that writes the gauge
abbrev pub writes : GaugeKind → ℕ
writes Add = 1
writes Sub = 1
writes Set = 1
writes Load = 0

abbrev pub write_by : ℕ → GaugeStep → ℕ
write_by id s = when (s.id == id) (writes s.kind)

-- how many steps of the list write the gauge
abbrev pub written : ℕ → List GaugeStep → ℕ
written id steps = total (write_by id) steps

-- the word that a step leaves
abbrev pub left_by : GaugeKind → ℕ → ℕ → ℕ
left_by Add n found = (found + n) % 2 ^ 64
left_by Sub n found = (found + (2 ^ 64 - n)) % 2 ^ 64
left_by Set n found = n
left_by Load n found = found

-- the fold of a list of steps from 0: what they leave where none comes in between
abbrev pub fold_of : ℕ → List GaugeStep → ℕ
fold_of id [] = 0
fold_of id (s ∷ ss) = choose (s.id == id) (left_by s.kind s.n (fold_of id ss)) (fold_of id ss)

abbrev pub set_or : GaugeKind → ℕ → ℕ → Type 0 → Type 0
set_or Add n word earlier = Unit {0}
set_or Sub n word earlier = Unit {0}
set_or Set n word earlier = word ≡ n
set_or Load n word earlier = earlier

abbrev pub if_same : Bool → Type 0 → Type 0 → Type 0
if_same true here earlier = here
if_same false here earlier = earlier

-- where the newest step that writes the gauge is a set, the word is its number
abbrev pub LastSet : ℕ → List GaugeStep → ℕ → Type 0
LastSet id [] word = Unit {0}
LastSet id (s ∷ ss) word = if_same (s.id == id) (set_or s.kind s.n word (LastSet id ss word)) (LastSet id ss word)

-- where this seat alone has written a gauge, which the number of writes of all seats tells, the word is the fold of its
-- steps
abbrev pub Alone : List ℕ → (ℕ → ℕ) → GaugePart → Type 0
Alone words writes_of p = (id : ℕ) → writes_of id ≡ written id p.steps → slice_index words (8 * id) ≡ fold_of id p.steps

-- this seat has written the gauge, and where its newest write is a set, the word is its number
abbrev pub WroteLast : ℕ → ℕ → GaugePart → Type 0
WroteLast id word p = (1 ≤ written id p.steps) × LastSet id p.steps word

-- What the word of a gauge is after all steps of these seats, which are all seats of the bank: the net of the
-- steps modulo 2^64; where one seat alone has written, the fold of its steps; and where each seat that wrote has
-- a set as its newest write, the number of one of these.
pub record IsGaugeWord (id : ℕ) (seats : List GaugePart) (word : ℕ) : Type 0 where
  pub value : word ≡ total (λ p. net id p.steps) seats % 2 ^ 64
  pub alone : All (λ p. total (λ q. written id q.steps) seats ≡ written id p.steps
      → word ≡ fold_of id p.steps) seats
  pub last : (total (λ p. written id p.steps) seats ≡ 0) ⊎ Any (WroteLast id word) seats

pub record Gauged (key : GaugeKey) (s : State (Unit {0}) View) : Type 0 where
  pub wide : length s.words ≡ 8 * key.size
  pub seats : parts_total (λ _. 1) s.views ≡ key.workers + 2
  pub knows : AllParts (λ p. p.workers ≡ key.workers) s.views
  pub value : (id : ℕ) → slice_index s.words (8 * id) ≡ parts_total (λ p. net id p.steps) s.views % 2 ^ 64
  pub alone : AllParts (Alone s.words (λ id. parts_total (λ p. written id p.steps) s.views)) s.views
  pub last : (id : ℕ) → (parts_total (λ p. written id p.steps) s.views ≡ 0)
      ⊎ AnyPart (WroteLast id (slice_index s.words (8 * id))) s.views

-- a seat that has made no step
abbrev pub new_gauge : ℕ → ℕ → GaugePart
new_gauge workers seat = record { seat = seat; workers = workers; steps = [] }

-- n seats, numbered from `seat` on
abbrev pub new_gauges : ℕ → ℕ → ℕ → List GaugePart
new_gauges workers seat zero = []
new_gauges workers seat (suc n) = new_gauge workers seat ∷ new_gauges workers (suc seat) n

-- a new bank: the flusher has the number 0, the workers 1 to W, and the reader W + 1
abbrev pub gauge_view : GaugeKey → View
gauge_view key = record { parts = new_gauges key.workers 0 (key.workers + 2) }

-- a view's own part; each seat of a bank has one
abbrev pub own_gauge : View → GaugePart
own_gauge v = first_or (new_gauge 0 0) v.parts

-- the parts of the seats that were taken in
abbrev pub taken_gauges : View → List GaugePart
taken_gauges v = others_of v.parts

abbrev pub longer_gauge : GaugeStep → GaugePart → GaugePart
longer_gauge s p = record { seat = p.seat; workers = p.workers; steps = s ∷ p.steps }

abbrev pub with_gauge_step : GaugeStep → View → View
with_gauge_step s v = own_changed (longer_gauge s) v

abbrev Sat : Type 0
Sat = Me (Unit {0}) View

-- What each kind of step leaves of its seat: its list is longer by just that step.
abbrev pub Added : Step (Unit {0}) → Sat → ℕ → Sat → Type 0
Added st m r m' = (id : ℕ) → st.word ≡ 8 * id → m' ≡ (with_gauge_step (gauge_step Add id st.first r) m.0, m.1)

abbrev pub Subtracted : Step (Unit {0}) → Sat → ℕ → Sat → Type 0
Subtracted st m r m' = (id : ℕ) → st.word ≡ 8 * id → m' ≡ (with_gauge_step (gauge_step Sub id st.first r) m.0, m.1)

abbrev pub SetTo : Step (Unit {0}) → Sat → ℕ → Sat → Type 0
SetTo st m r m' = (id : ℕ) → st.word ≡ 8 * id → m' ≡ (with_gauge_step (gauge_step Set id st.first r) m.0, m.1)

-- all other seats stand behind the own part
abbrev pub HasAllSeats : View → Type 0
HasAllSeats v = length (taken_gauges v) ≡ (own_gauge v).workers + 1

-- a load by a seat that has taken in all others finds the word that all steps left
abbrev pub Read : Step (Unit {0}) → Sat → ℕ → Sat → Type 0
Read st m r m' = (id : ℕ) → st.word ≡ 8 * id → (m' ≡ (with_gauge_step (gauge_step Load id 0 r) m.0, m.1))
    × (HasAllSeats m.0 → IsGaugeWord id m.0.parts r)
