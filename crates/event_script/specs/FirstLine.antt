-- What the reader finds in the first line of the bytes that are left.
use Rattle.std.specs.Prelude.{◌≡◌, ◌≢◌, ◌<◌, ◌≤◌, ◌==◌, ℕ, Bool, true, false, Option, None, Some, List, [], ◌∷◌, ◌++◌}
use Rattle.std.specs.Prelude.{length, take, drop, slice_index}
use Rattle.std.specs.Char.{digit_value}
use Rattle.std.specs.Str.Parse.{AllDigits, digits_value}
use Rattle.stat_defs.specs.declared.events.Event.{Event}
use Rattle.event_script.specs.EventIn.{first_line, behind_line, part_then, metric_in}

-- the first part reads as this, and these bytes stand behind its space
pub record HasPart {X : Type 0} (read : List ℕ → Option X) (text : List ℕ) (x : X) (rest : List ℕ) : Type 0 where
  pub found : (more : X → List ℕ → Option Event) → part_then read more (first_line text) ≡ more x (first_line rest)
  pub behind : behind_line text ≡ behind_line rest

-- the first part does not read
abbrev pub LacksPart : {X : Type 0} → (List ℕ → Option X) → List ℕ → Type 0
LacksPart {X} read text = (more : X → List ℕ → Option Event) → part_then read more (first_line text) ≡ None

-- a label and a local name stand first, and these bytes behind their spaces
pub record HasMetric (text label name rest : List ℕ) : Type 0 where
  pub found : (more : List ℕ → List ℕ → List ℕ → Option Event) → metric_in more (first_line text)
      ≡ more label name (first_line rest)
  pub behind : behind_line text ≡ behind_line rest

abbrev pub LacksMetric : List ℕ → Type 0
LacksMetric text = (more : List ℕ → List ℕ → List ℕ → Option Event) → metric_in more (first_line text) ≡ None

-- the line as a whole reads as this, and these bytes stand behind it
pub record HasLine {X : Type 0} (read : List ℕ → Option X) (text : List ℕ) (x : X) (after : List ℕ) : Type 0 where
  pub found : read (first_line text) ≡ Some x
  pub behind : behind_line text ≡ after

abbrev pub LacksLine : {X : Type 0} → (List ℕ → Option X) → List ℕ → Type 0
LacksLine read text = read (first_line text) ≡ None

-- a line ends there: no byte is left, or a newline stands first
abbrev pub is_end : List ℕ → Bool
is_end [] = true
is_end (b ∷ bs) = b == 10

-- so many digits stand first, and this is what they write
pub record HasDigits (text : List ℕ) (n count : ℕ) : Type 0 where
  pub within : count ≤ length text
  pub digits : AllDigits 10 (take count text)
  pub value : digits_value 10 (take count text) ≡ n
  pub longest : count < length text → 10 ≤ digit_value (slice_index text count)

-- digits stand first that write more than that
pub record HasMoreThan (text : List ℕ) (most : ℕ) : Type 0 where
  pub count : ℕ
  pub within : count ≤ length text
  pub digits : AllDigits 10 (take count text)
  pub over : most < digits_value 10 (take count text)

-- the text's first bytes, 1 to so many, and those behind the space that ends them
pub record IsPart (text : List ℕ) (at most : ℕ) (part rest : List ℕ) : Type 0 where
  pub first : part ≡ take at text
  pub some : 1 ≤ length part
  pub few : length part ≤ most
  pub parted : text ≡ part ++ 32 ∷ rest

-- no space stands at that place, or there are none or too many bytes before it
abbrev pub IsNoPart : List ℕ → ℕ → ℕ → Type 0
IsNoPart text at most = 1 ≤ at → at ≤ most → at < length text → slice_index text at ≢ 32

-- the text's first bytes, 1 to so many, with which a line ends, and those behind it
pub record IsLast (text : List ℕ) (at most : ℕ) (part after : List ℕ) : Type 0 where
  pub first : part ≡ take at text
  pub behind : after ≡ drop at text
  pub some : 1 ≤ length part
  pub few : length part ≤ most
  pub ends : is_end after ≡ true

-- no line ends at that place, or there are none or too many bytes before it
abbrev pub IsNoLast : List ℕ → ℕ → ℕ → Type 0
IsNoLast text at most = 1 ≤ at → at ≤ most → is_end (drop at text) ≡ false
