-- What the last word of a gauge can be, as far as the order of one worker's events tells it (Envoy's statistics
-- overview: gauges are added to, subtracted from and set; words of 64 bits and their order are this project's own).
use Rattle.std.specs.Prelude.{◌≡◌, ◌≤◌, ℕ, ◌+◌, ◌-◌, ◌%◌, ◌^◌, ◌==◌, if◌then◌else◌, not, Bool, true, false, Option}
use Rattle.std.specs.Prelude.{None, Some, is_some, List, [], ◌∷◌, length, map, fold, filter, sum_by, filter_map}
use Rattle.std.specs.Prelude.{Contains}
use Rattle.std.specs.List.{list_all, flat_map}
use Rattle.stat_defs.specs.declared.events.GaugeOp.{GaugeOp}
use Rattle.stat_defs.specs.declared.events.GaugeOp.TheVariants.{Add, Sub, Set}
use Rattle.stat_defs.specs.declared.events.Event.{Event}
use Rattle.stat_defs.specs.declared.events.Event.TheVariants.{Gauge}
use Rattle.stat_defs.specs.declared.history.Verdict.{Verdict}
use Rattle.stat_defs.specs.declared.history.Verdict.TheVariants.{Accepted}
use Rattle.ledger.specs.Work.{Work}

-- what is done to a gauge, and with which number
abbrev pub GaugeMove : Type 0
GaugeMove = GaugeOp × ℕ

-- what an event does to the gauge of this number, where it is accepted
abbrev pub move_in : ℕ → Event × Verdict → Option GaugeMove
move_in id (Gauge label name mode op n, Accepted given) = if given.0 == id then Some (op, n) else None
move_in id other = None

-- what a worker does to it, in order
abbrev pub moves_of : ℕ → Work → List GaugeMove
moves_of id work = filter_map (move_in id) work

abbrev pub is_empty : List GaugeMove → Bool
is_empty [] = true
is_empty (m ∷ ms) = false

-- the same of each worker that does something to it
abbrev pub movers : ℕ → List Work → List (List GaugeMove)
movers id workers = filter (λ ms. not (is_empty ms)) (map (moves_of id) workers)

abbrev pub all_moves : List (List GaugeMove) → List GaugeMove
all_moves by = flat_map (λ ms. ms) by

abbrev pub is_set : GaugeMove → Bool
is_set (Set, n) = true
is_set (Add, n) = false
is_set (Sub, n) = false

-- what an addition or a subtraction adds modulo 2^64
abbrev pub added_by : GaugeMove → ℕ
added_by (Add, n) = n
added_by (Sub, n) = 2 ^ 64 - n
added_by (Set, n) = 0

-- the word after a move
abbrev pub word_after : ℕ → GaugeMove → ℕ
word_after word (Add, n) = (word + n) % 2 ^ 64
word_after word (Sub, n) = (word + (2 ^ 64 - n)) % 2 ^ 64
word_after word (Set, n) = n

-- the word after these moves, from 0 on
abbrev pub word_of_moves : List GaugeMove → ℕ
word_of_moves ms = fold word_after 0 ms

-- the word of a gauge that one worker alone moves
abbrev pub gauge_word : ℕ → Work → ℕ
gauge_word id work = word_of_moves (moves_of id work)

abbrev pub number_if_set : GaugeMove → Option ℕ
number_if_set (Set, n) = Some n
number_if_set (Add, n) = None
number_if_set (Sub, n) = None

-- the number of the last move, where that is a set
abbrev pub last_set : List GaugeMove → Option ℕ
last_set [] = None
last_set (m ∷ []) = number_if_set m
last_set (m ∷ (next ∷ ms)) = last_set (next ∷ ms)

-- the word that these workers' moves leave, as far as it is told
pub record IsLastWord (by : List (List GaugeMove)) (word : ℕ) : Type 0 where
  -- where none is a set, it is their sum modulo 2^64
  pub no_set : list_all (λ m. not (is_set m)) (all_moves by) ≡ true
      → word ≡ sum_by added_by (all_moves by) % 2 ^ 64
  -- where one worker at most makes any, it is their fold from 0, in order
  pub one_mover : length by ≤ 1 → word ≡ word_of_moves (all_moves by)
  -- where there are some, and the last of each worker that makes any is a set, it is the number of one of these
  pub last_sets : 1 ≤ length by → list_all (λ ms. is_some (last_set ms)) by ≡ true
      → Contains (filter_map last_set by) word

-- the last word of the gauge of this number
abbrev pub GaugeFits : ℕ → ℕ → List Work → Type 0
GaugeFits id word workers = IsLastWord (movers id workers) word
