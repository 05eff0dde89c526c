-- What is known of metrics before a sweep. This project's own.
use Rattle.std.specs.Prelude.{ℕ, if◌then◌else◌, Bool, Option, Some, None, is_some, List, [], map, get_or}
use Rattle.stat_defs.specs.declared.metrics.Metric.{Metric}
use Rattle.book_state.specs.State.{State, is_gone}

-- of each metric that was made, by its number: the text that it held, or nothing where it was gone
abbrev pub Before : Type 0
Before = List (Option (List ℕ))

-- what is known of one metric
abbrev pub left_of : Metric → Option (List ℕ)
left_of metric = if is_gone metric.life then None else Some metric.text

-- what is known of a book before its sweep
abbrev pub before_of : State → Before
before_of s = map (λ row. left_of row.metric) s.metrics

-- the metric of this number was made and was not gone
abbrev pub is_left : Before → ℕ → Bool
is_left before id = is_some (get_or before id None)

-- a text that is known; of what is gone there is none
abbrev pub text_in : Option (List ℕ) → List ℕ
text_in None = []
text_in (Some text) = text

-- the text that the metric of this number held
abbrev pub text_left : Before → ℕ → List ℕ
text_left before id = text_in (get_or before id None)
