-- The words behind the name of a command: options, which may stand anywhere before the first `--`, and operands. This
-- project's own.
use Rattle.std.specs.Prelude.{ℕ, Bool, true, false, not, ◌==◌, ◌&&◌, if◌then◌else◌, Option, Some, None, is_some, option_map}
use Rattle.std.specs.Prelude.{List, [], ◌∷◌, take, drop, codes}
use Rattle.std.specs.Option.{option_and_then}
use Rattle.std.specs.Str.{bytes_eq}

-- the words by what they are
pub record Sorted : Type 0 where
  -- whether `--symbols` stands among them
  pub symbols : Bool
  -- whether `--run` stands among them
  pub run : Bool
  -- what `--format` names, where it stands among them
  pub format : Option (List ℕ)
  pub operands : List (List ℕ)

abbrev pub only_operands : List (List ℕ) → Sorted
only_operands words = record { symbols = false; run = false; format = None; operands = words }

-- begins with `-` and has more bytes
abbrev pub is_dashed : List ℕ → Bool
is_dashed (b ∷ c ∷ bs) = b == 45
is_dashed word = false

-- `--symbols` in front of other words, among which it may not stand again
abbrev pub with_symbols : Sorted → Option Sorted
with_symbols rest = if rest.symbols then None else Some (record rest { symbols = true })

-- `--run` in front of other words, among which it may not stand again
abbrev pub with_run : Sorted → Option Sorted
with_run rest = if rest.run then None else Some (record rest { run = true })

-- `--format` with its name in front of other words, among which it may not stand again
abbrev pub with_format : List ℕ → Sorted → Option Sorted
with_format name rest = if is_some rest.format then None else Some (record rest { format = Some name })

abbrev pub with_operand : List ℕ → Sorted → Sorted
with_operand word rest = record rest { operands = word ∷ rest.operands }

-- a word in front of others, which are sorted as `rest`: `--` ends the options, and no other option is known
abbrev pub sorted_behind : List ℕ → List (List ℕ) → Option Sorted → Option Sorted
sorted_behind word words rest =
    if bytes_eq word (codes "--") then Some (only_operands words)
    else (if bytes_eq word (codes "--symbols") then option_and_then with_symbols rest
    else (if bytes_eq word (codes "--run") then option_and_then with_run rest
    else (if bytes_eq (take 9 word) (codes "--format=") then option_and_then (with_format (drop 9 word)) rest
    else (if is_dashed word then None
    else option_map (with_operand word) rest))))

-- the words, sorted; None where an option is unknown, stands twice, or lacks its name
abbrev pub sorted : List (List ℕ) → Option Sorted
sorted [] = Some (only_operands [])
sorted (word ∷ []) = sorted_behind word [] (Some (only_operands []))
sorted (word ∷ next ∷ words) =
    if bytes_eq word (codes "--format") && not (is_dashed next) then option_and_then (with_format next) (sorted words)
    else sorted_behind word (next ∷ words) (sorted (next ∷ words))
