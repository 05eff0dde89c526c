-- The lines of an event file. This project's own.
use Rattle.std.specs.Prelude.{◌≡◌, ◌≢◌, ◌<◌, ◌≤◌, ◌^◌, ◌==◌, ℕ, if◌then◌else◌, List, [], ◌∷◌, ◌++◌, length, slice_index}
use Rattle.std.specs.Prelude.{codes}
use Rattle.std.specs.List.{flat_map, ends_with}
use Rattle.std.specs.Str.{bytes_eq}
use Rattle.std.specs.Fmt.{decimal}
use Rattle.stat_defs.specs.declared.events.Event.{Event}
use Rattle.stat_defs.specs.declared.events.Event.TheVariants.{Inc, Gauge, Rec, SetText, OpenScope, Release}
use Rattle.stat_defs.specs.declared.events.GaugeOp.{GaugeOp}
use Rattle.stat_defs.specs.declared.events.GaugeOp.TheVariants.{Add, Sub, Set}
use Rattle.stat_defs.specs.declared.ids.Mode.{Mode}
use Rattle.stat_defs.specs.declared.ids.Mode.TheVariants.{Uninit, Accumulate, Never}
use Rattle.stat_defs.specs.Names.{IsLabel, IsLocalName, without_dot}
use Rattle.stat_defs.specs.Events.{IsReadout}
use Rattle.event_script.specs.declared.limits.TheConstants.{MAX_LINE_BYTES}

-- `WORD L N TAIL`: a label and a local name, each part behind exactly one space
pub record IsMetricLine (word tail line label name : List ℕ) : Type 0 where
  pub label_fits : IsLabel label
  pub name_fits : IsLocalName name
  pub parts : line ≡ word ++ 32 ∷ (label ++ 32 ∷ (name ++ 32 ∷ tail))

-- `inc L N n`; numbers are decimal, without a sign and without leading zeros
pub record IsIncLine (line label name : List ℕ) (n : ℕ) : Type 0 where
  pub n_fits : n < 2 ^ 32
  pub metric : IsMetricLine (codes "inc") (decimal n) line label name

abbrev pub op_word : GaugeOp → List ℕ
op_word Add = codes "add"
op_word Sub = codes "sub"
op_word Set = codes "set"

abbrev pub mode_word : Mode → List ℕ
mode_word Uninit = codes "uninit"
mode_word Accumulate = codes "acc"
mode_word Never = codes "never"

-- `add L N MODE n`, `sub L N MODE n` and `set L N MODE n`
pub record IsGaugeLine (line label name : List ℕ) (mode : Mode) (op : GaugeOp) (n : ℕ) : Type 0 where
  pub n_fits : n < 2 ^ 63
  pub metric : IsMetricLine (op_word op) (mode_word mode ++ 32 ∷ decimal n) line label name

-- `rec L N v`
pub record IsRecLine (line label name : List ℕ) (v : ℕ) : Type 0 where
  pub v_fits : v < 2 ^ 64
  pub metric : IsMetricLine (codes "rec") (decimal v) line label name

-- `text L N TEXT`; the text is the rest of the line behind its space, and may be empty
pub record IsTextLine (line label name text : List ℕ) : Type 0 where
  pub text_fits : IsReadout text
  pub metric : IsMetricLine (codes "text") text line label name

-- the prefix that a line gives: one final dot is dropped, and a `-` is then the empty prefix
abbrev pub given_prefix : List ℕ → List ℕ
given_prefix given = if bytes_eq (without_dot given) (codes "-") then [] else without_dot given

-- `open L PREFIX`; what stands for the prefix has 1 to 255 bytes, as a local name has
pub record IsOpenLine (line label prefix : List ℕ) : Type 0 where
  pub label_fits : IsLabel label
  pub given : List ℕ
  pub given_fits : IsLocalName given
  pub means : prefix ≡ given_prefix given
  pub parts : line ≡ codes "open" ++ 32 ∷ (label ++ 32 ∷ given)

-- `release L`
pub record IsReleaseLine (line label : List ℕ) : Type 0 where
  pub label_fits : IsLabel label
  pub parts : line ≡ codes "release" ++ 32 ∷ label

-- the line says this event
abbrev pub IsLineOf : List ℕ → Event → Type 0
IsLineOf line (Inc label name n) = IsIncLine line label name n
IsLineOf line (Gauge label name mode op n) = IsGaugeLine line label name mode op n
IsLineOf line (Rec label name v) = IsRecLine line label name v
IsLineOf line (SetText label name text) = IsTextLine line label name text
IsLineOf line (OpenScope label prefix) = IsOpenLine line label prefix
IsLineOf line (Release label) = IsReleaseLine line label

-- an event is lawful where a line says it that is no longer than a line may be
abbrev pub IsLawful : Event → Type 0
IsLawful e = (line : List ℕ) × ((length line ≤ MAX_LINE_BYTES) × IsLineOf line e)

-- the text for a prefix: `-` for the empty one, and one more dot behind a final one
abbrev pub given_for : List ℕ → List ℕ
given_for [] = codes "-"
given_for (b ∷ bs) = if ends_with ◌==◌ (b ∷ bs) (46 ∷ []) then (b ∷ bs) ++ 46 ∷ [] else b ∷ bs

-- the line that is written for an event
abbrev pub line_for : Event → List ℕ
line_for (Inc label name n) = codes "inc " ++ (label ++ 32 ∷ (name ++ 32 ∷ decimal n))
line_for (Gauge label name mode op n) = op_word op ++ 32
    ∷ (label ++ 32 ∷ (name ++ 32 ∷ (mode_word mode ++ 32 ∷ decimal n)))
line_for (Rec label name v) = codes "rec " ++ (label ++ 32 ∷ (name ++ 32 ∷ decimal v))
line_for (SetText label name text) = codes "text " ++ (label ++ 32 ∷ (name ++ 32 ∷ text))
line_for (OpenScope label prefix) = codes "open " ++ (label ++ 32 ∷ given_for prefix)
line_for (Release label) = codes "release " ++ label

-- the lines of events, each with its newline
abbrev pub lines_for : List Event → List ℕ
lines_for events = flat_map (λ e. line_for e ++ 10 ∷ []) events

-- an empty line, or a comment: it begins with `#`
abbrev pub IsPassedOver : List ℕ → Type 0
IsPassedOver [] = Unit {0}
IsPassedOver (b ∷ bs) = b ≡ 35

-- a line of no meaning: neither passed over nor an event's
pub record IsNoLine (line : List ℕ) : Type 0 where
  pub not_passed : ¬ IsPassedOver line
  pub no_event : (e : Event) → ¬ IsLineOf line e

-- the byte stands nowhere in it
abbrev pub Lacks : ℕ → List ℕ → Type 0
Lacks byte xs = (k : ℕ) → k < length xs → slice_index xs k ≢ byte
