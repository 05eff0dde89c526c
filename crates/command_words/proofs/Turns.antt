-- One word, as `clap` reads it.
use Rattle.std.proofs.Common.{◌≡◌, ℕ, Bool, true, false, List, [], ◌∷◌, ◌++◌, Option, Some, None, codes, refl, slice_get}
use Rattle.std.specs.Prelude.{⊤}
use Rattle.std.specs.Str.{bytes_eq, chars}
use Rattle.clap.specs.declared.error.kind.ErrorKind.TheVariants as kind
use Rattle.clap.specs.Lexer.{long_of, short_of}
use Rattle.clap.specs.Words.{Row, Text}
use Rattle.clap.specs.Simple.{Shape, built}
use Rattle.clap.specs.Walk.{Waiting, Walk, has_row, idle, option, positional, settled_rows, walked, with_values, without}
use Rattle.clap.specs.declared.builder.value_parser.Reading.TheVariants.{AsWritten}
use Rattle.clap.specs.declared.parser.matches.ValueSource.TheVariants.{CommandLine}
use Rattle.clap.specs.Faults.{turn_fault}
use Rattle.clap.proofs.OnLiterals.{clap_on_literals}
use Rattle.command_words.specs.Options.{app}

abbrev pub shape : Shape
shape = (built app).top

-- what stands directly in front: nothing that waits, an operand, or the value of `--format`
pub data Place : Type 0 where
  fresh : Place
  behind_operand : Text → Place
  behind_format : Text → Place

abbrev pub waiting_at : Place → Waiting
waiting_at fresh = idle
waiting_at (behind_operand v) = positional
waiting_at (behind_format v) = idle

abbrev pub pending_at : Place → Option (Text × List Text)
pending_at fresh = None
pending_at (behind_operand v) = Some (codes "operands", v ∷ [])
pending_at (behind_format v) = Some (codes "format", v ∷ [])

abbrev pub walk_at : Place → List Row → Bool → Walk
walk_at p rows is_trailing = record {
  held = record { rows = rows; pending = pending_at p; skip = 0 };
  waiting = waiting_at p;
  position = 1;
  is_trailing = is_trailing;
  stopped = None;
}

-- behind `--format`, which has no value yet
abbrev pub asking : List Row → Bool → Walk
asking rows is_trailing = record {
  held = record { rows = rows; pending = Some (codes "format", []); skip = 0 };
  waiting = option (codes "format");
  position = 1;
  is_trailing = is_trailing;
  stopped = None;
}

-- the rows with what waits taken in
abbrev pub rows_at : Place → List Row → List Row
rows_at p rows = settled_rows shape.rules (pending_at p) rows

pub dashes_turn : (p : Place) (rows : List Row) → turn_fault shape [] (walk_at p rows false) (codes "--") ≡ []
unfolding clap_on_literals
dashes_turn fresh rows = refl
dashes_turn (behind_operand v) rows = refl
dashes_turn (behind_format v) rows = refl

pub dashes_walk : (p : Place) (rows : List Row) → walked shape.rules [] (walk_at p rows false) (codes "--") ≡ walk_at p rows true
unfolding clap_on_literals
dashes_walk fresh rows = refl
dashes_walk (behind_operand v) rows = refl
dashes_walk (behind_format v) rows = refl

-- an option was used with this value; an operand was given
abbrev pub chosen : Text → Text → List Row → List Row
chosen id v rows = with_values id AsWritten CommandLine (v ∷ []) (without id rows)

abbrev pub given : Text → Text → List Row → List Row
given id v rows = with_values id AsWritten CommandLine (v ∷ []) rows

-- what stands in front is no second `--format`
abbrev pub IsCalm : Place → List Row → Type 0
IsCalm (behind_format v) rows = has_row (codes "format") rows ≡ false
IsCalm p rows = ⊤

-- an option that has no value
pub data Flag : Type 0 where
  symbols : Flag
  run : Flag

abbrev pub name_of : Flag → Text
name_of symbols = codes "symbols"
name_of run = codes "run"

pub flag_twice : (f : Flag) (p : Place) (rows : List Row) → IsCalm p rows → has_row (name_of f) (rows_at p rows) ≡ true
    → turn_fault shape [] (walk_at p rows false) (codes "--" ++ name_of f) ≡ kind.ArgumentConflict ∷ []
unfolding clap_on_literals
flag_twice symbols fresh rows calm e = rw e refl
flag_twice symbols (behind_operand v) rows calm e = rw e refl
flag_twice symbols (behind_format v) rows calm e = rw (calm, e) refl
flag_twice run fresh rows calm e = rw e refl
flag_twice run (behind_operand v) rows calm e = rw e refl
flag_twice run (behind_format v) rows calm e = rw (calm, e) refl

pub flag_turn : (f : Flag) (p : Place) (rows : List Row) → IsCalm p rows → has_row (name_of f) (rows_at p rows) ≡ false
    → turn_fault shape [] (walk_at p rows false) (codes "--" ++ name_of f) ≡ []
unfolding clap_on_literals
flag_turn symbols fresh rows calm e = rw e refl
flag_turn symbols (behind_operand v) rows calm e = rw e refl
flag_turn symbols (behind_format v) rows calm e = rw (calm, e) refl
flag_turn run fresh rows calm e = rw e refl
flag_turn run (behind_operand v) rows calm e = rw e refl
flag_turn run (behind_format v) rows calm e = rw (calm, e) refl

pub flag_walk : (f : Flag) (p : Place) (rows : List Row)
    → walked shape.rules [] (walk_at p rows false) (codes "--" ++ name_of f) ≡ walk_at fresh (chosen (name_of f) (codes "true") (rows_at p rows)) false
unfolding clap_on_literals
flag_walk symbols fresh rows = refl
flag_walk symbols (behind_operand v) rows = refl
flag_walk symbols (behind_format v) rows = refl
flag_walk run fresh rows = refl
flag_walk run (behind_operand v) rows = refl
flag_walk run (behind_format v) rows = refl

-- a flag with a value
pub valued_flag_turn : (f : Flag) (p : Place) (rows : List Row) (w v : Text) → bytes_eq w (45 ∷ 45 ∷ []) ≡ false → long_of w ≡ Some (name_of f, Some v)
    → turn_fault shape [] (walk_at p rows false) w ≡ kind.TooManyValues ∷ []
unfolding clap_on_literals
valued_flag_turn symbols fresh rows w v dashes long = rw (dashes, long) refl
valued_flag_turn symbols (behind_operand x) rows w v dashes long = rw (dashes, long) refl
valued_flag_turn symbols (behind_format x) rows w v dashes long = rw (dashes, long) refl
valued_flag_turn run fresh rows w v dashes long = rw (dashes, long) refl
valued_flag_turn run (behind_operand x) rows w v dashes long = rw (dashes, long) refl
valued_flag_turn run (behind_format x) rows w v dashes long = rw (dashes, long) refl

pub format_turn : (p : Place) (rows : List Row) → IsCalm p rows → turn_fault shape [] (walk_at p rows false) (codes "--format") ≡ []
unfolding clap_on_literals
format_turn fresh rows calm = refl
format_turn (behind_operand v) rows calm = refl
format_turn (behind_format v) rows calm = rw calm refl

pub format_walk : (p : Place) (rows : List Row) → walked shape.rules [] (walk_at p rows false) (codes "--format") ≡ asking (rows_at p rows) false
unfolding clap_on_literals
format_walk fresh rows = refl
format_walk (behind_operand v) rows = refl
format_walk (behind_format v) rows = refl

pub attached_twice : (p : Place) (rows : List Row) (v : Text) → IsCalm p rows → has_row (codes "format") (rows_at p rows) ≡ true
    → turn_fault shape [] (walk_at p rows false) (codes "--format=" ++ v) ≡ kind.ArgumentConflict ∷ []
unfolding clap_on_literals
attached_twice fresh rows v calm e = rw e refl
attached_twice (behind_operand w) rows v calm e = rw e refl
attached_twice (behind_format w) rows v calm e = rw (calm, e) refl

pub attached_turn : (p : Place) (rows : List Row) (v : Text) → IsCalm p rows → has_row (codes "format") (rows_at p rows) ≡ false
    → turn_fault shape [] (walk_at p rows false) (codes "--format=" ++ v) ≡ []
unfolding clap_on_literals
attached_turn fresh rows v calm e = rw e refl
attached_turn (behind_operand w) rows v calm e = rw e refl
attached_turn (behind_format w) rows v calm e = rw (calm, e) refl

pub attached_walk : (p : Place) (rows : List Row) (v : Text)
    → walked shape.rules [] (walk_at p rows false) (codes "--format=" ++ v) ≡ walk_at fresh (chosen (codes "format") v (rows_at p rows)) false
unfolding clap_on_literals
attached_walk fresh rows v = refl
attached_walk (behind_operand w) rows v = refl
attached_walk (behind_format w) rows v = refl

-- a word that is no option
abbrev pub IsPlainWord : Text → Type 0
IsPlainWord w = (bytes_eq w (45 ∷ 45 ∷ []) ≡ false) × (long_of w ≡ None) × (short_of w ≡ None)

pub operand_turn : (p : Place) (rows : List Row) (w : Text) → IsCalm p rows → IsPlainWord w → turn_fault shape [] (walk_at p rows false) w ≡ []
unfolding clap_on_literals
operand_turn fresh rows w calm plain = rw (plain.0, plain.1, plain.2) refl
operand_turn (behind_operand v) rows w calm plain = rw (plain.0, plain.1, plain.2) refl
operand_turn (behind_format v) rows w calm plain = rw (plain.0, plain.1, plain.2, calm) refl

pub operand_walk : (p : Place) (rows : List Row) (w : Text) → IsPlainWord w
    → walked shape.rules [] (walk_at p rows false) w ≡ walk_at (behind_operand w) (rows_at p rows) false
unfolding clap_on_literals
operand_walk fresh rows w plain = rw (plain.0, plain.1, plain.2) refl
operand_walk (behind_operand v) rows w plain = rw (plain.0, plain.1, plain.2) refl
operand_walk (behind_format v) rows w plain = rw (plain.0, plain.1, plain.2) refl

pub short_turn : (p : Place) (rows : List Row) (w : Text) (x : ℕ) (xs : Text) (c : ℕ)
    → bytes_eq w (45 ∷ 45 ∷ []) ≡ false → long_of w ≡ None → short_of w ≡ Some (x ∷ xs) → slice_get (chars (x ∷ xs)) 0 ≡ Some c
    → turn_fault shape [] (walk_at p rows false) w ≡ kind.UnknownArgument ∷ []
unfolding clap_on_literals
short_turn fresh rows w x xs c dashes long short first = rw (dashes, long, short, first) refl
short_turn (behind_operand v) rows w x xs c dashes long short first = rw (dashes, long, short, first) refl
short_turn (behind_format v) rows w x xs c dashes long short first = rw (dashes, long, short, first) refl

pub unknown_turn : (p : Place) (rows : List Row) (w : Text) (name : Text) (v : Option Text) → bytes_eq w (45 ∷ 45 ∷ []) ≡ false → long_of w ≡ Some (name, v)
    → bytes_eq (codes "symbols") name ≡ false → bytes_eq (codes "run") name ≡ false → bytes_eq (codes "format") name ≡ false
    → turn_fault shape [] (walk_at p rows false) w ≡ kind.UnknownArgument ∷ []
unfolding clap_on_literals
unknown_turn fresh rows w name v dashes long a b c = rw (dashes, long, a, b, c) refl
unknown_turn (behind_operand x) rows w name v dashes long a b c = rw (dashes, long, a, b, c) refl
unknown_turn (behind_format x) rows w name v dashes long a b c = rw (dashes, long, a, b, c) refl

-- behind the first `--`
pub trailing_turn : (p : Place) (rows : List Row) (w : Text) → IsCalm p rows → turn_fault shape [] (walk_at p rows true) w ≡ []
unfolding clap_on_literals
trailing_turn fresh rows w calm = refl
trailing_turn (behind_operand v) rows w calm = refl
trailing_turn (behind_format v) rows w calm = rw calm refl

pub trailing_walk : (p : Place) (rows : List Row) (w : Text) → walked shape.rules [] (walk_at p rows true) w ≡ walk_at (behind_operand w) (rows_at p rows) true
unfolding clap_on_literals
trailing_walk fresh rows w = refl
trailing_walk (behind_operand v) rows w = refl
trailing_walk (behind_format v) rows w = refl

-- the word behind `--format`
pub named_turn : (rows : List Row) (w : Text) → IsPlainWord w → turn_fault shape [] (asking rows false) w ≡ []
unfolding clap_on_literals
named_turn rows w plain = rw (plain.0, plain.1, plain.2) refl

pub named_walk : (rows : List Row) (w : Text) → IsPlainWord w → walked shape.rules [] (asking rows false) w ≡ walk_at (behind_format w) rows false
unfolding clap_on_literals
named_walk rows w plain = rw (plain.0, plain.1, plain.2) refl

pub unnamed_dashes_turn : (rows : List Row) → turn_fault shape [] (asking rows false) (codes "--") ≡ []
unfolding clap_on_literals
unnamed_dashes_turn rows = refl

pub unnamed_dashes_walk : (rows : List Row) → walked shape.rules [] (asking rows false) (codes "--") ≡ asking rows true
unfolding clap_on_literals
unnamed_dashes_walk rows = refl

pub unnamed_trailing_turn : (rows : List Row) (w : Text) → turn_fault shape [] (asking rows true) w ≡ kind.InvalidValue ∷ []
unfolding clap_on_literals
unnamed_trailing_turn rows w = refl

pub unnamed_short_turn : (rows : List Row) (w : Text) (x : ℕ) (xs : Text) (c : ℕ)
    → bytes_eq w (45 ∷ 45 ∷ []) ≡ false → long_of w ≡ None → short_of w ≡ Some (x ∷ xs) → slice_get (chars (x ∷ xs)) 0 ≡ Some c
    → turn_fault shape [] (asking rows false) w ≡ kind.UnknownArgument ∷ []
unfolding clap_on_literals
unnamed_short_turn rows w x xs c dashes long short first = rw (dashes, long, short, first) refl

pub unnamed_unknown_turn : (rows : List Row) (w : Text) (name : Text) (v : Option Text) → bytes_eq w (45 ∷ 45 ∷ []) ≡ false → long_of w ≡ Some (name, v)
    → bytes_eq (codes "symbols") name ≡ false → bytes_eq (codes "run") name ≡ false → bytes_eq (codes "format") name ≡ false
    → turn_fault shape [] (asking rows false) w ≡ kind.UnknownArgument ∷ []
unfolding clap_on_literals
unnamed_unknown_turn rows w name v dashes long a b c = rw (dashes, long, a, b, c) refl

pub unnamed_flag_turn : (f : Flag) (rows : List Row) (w : Text) → bytes_eq w (45 ∷ 45 ∷ []) ≡ false → long_of w ≡ Some (name_of f, None)
    → turn_fault shape [] (asking rows false) w ≡ kind.InvalidValue ∷ []
unfolding clap_on_literals
unnamed_flag_turn symbols rows w dashes long = rw (dashes, long) refl
unnamed_flag_turn run rows w dashes long = rw (dashes, long) refl

pub unnamed_valued_flag_turn : (f : Flag) (rows : List Row) (w v : Text) → bytes_eq w (45 ∷ 45 ∷ []) ≡ false → long_of w ≡ Some (name_of f, Some v)
    → turn_fault shape [] (asking rows false) w ≡ kind.TooManyValues ∷ []
unfolding clap_on_literals
unnamed_valued_flag_turn symbols rows w v dashes long = rw (dashes, long) refl
unnamed_valued_flag_turn run rows w v dashes long = rw (dashes, long) refl

pub unnamed_format_turn : (rows : List Row) (w : Text) (v : Option Text) → bytes_eq w (45 ∷ 45 ∷ []) ≡ false → long_of w ≡ Some (codes "format", v)
    → turn_fault shape [] (asking rows false) w ≡ kind.InvalidValue ∷ []
unfolding clap_on_literals
unnamed_format_turn rows w None dashes long = rw (dashes, long) refl
unnamed_format_turn rows w (Some v) dashes long = rw (dashes, long) refl

-- behind a second `--format`
module _ (v : Text) (rows : List Row) (again : has_row (codes "format") rows ≡ true) where
  pub again_flag_turn : (f : Flag) → turn_fault shape [] (walk_at (behind_format v) rows false) (codes "--" ++ name_of f) ≡ kind.ArgumentConflict ∷ []
  unfolding clap_on_literals
  again_flag_turn symbols = rw again refl
  again_flag_turn run = rw again refl

  pub again_format_turn : turn_fault shape [] (walk_at (behind_format v) rows false) (codes "--format") ≡ kind.ArgumentConflict ∷ []
  unfolding clap_on_literals
  again_format_turn = rw again refl

  pub again_attached_turn : (w : Text) → turn_fault shape [] (walk_at (behind_format v) rows false) (codes "--format=" ++ w) ≡ kind.ArgumentConflict ∷ []
  unfolding clap_on_literals
  again_attached_turn w = rw again refl

  pub again_operand_turn : (w : Text) → IsPlainWord w → turn_fault shape [] (walk_at (behind_format v) rows false) w ≡ kind.ArgumentConflict ∷ []
  unfolding clap_on_literals
  again_operand_turn w plain = rw (plain.0, plain.1, plain.2, again) refl

  pub again_trailing_turn : (w : Text) → turn_fault shape [] (walk_at (behind_format v) rows true) w ≡ kind.ArgumentConflict ∷ []
  unfolding clap_on_literals
  again_trailing_turn w = rw again refl
