-- What the matches have after one use more.
use Rattle.std.proofs.Common.{◌≡◌, Bool, true, false, List, [], ◌∷◌, ◌++◌, Option, Some, None, is_some, codes, refl, ap, ◌∙◌}
use Rattle.std.specs.Str.{bytes_eq}
use Rattle.clap.specs.Words.{Row, Text}
use Rattle.clap.specs.Walk.{has_row}
use Rattle.clap.specs.declared.parser.matches.ValueSource.TheVariants.{CommandLine}
use Rattle.command_words.specs.Sorted.{Sorted, only_operands}
use Rattle.command_words.proofs.Rows.{row_at, held_row, has_row_is, nothing_to_take, put_value, put_other}
use Rattle.command_words.proofs.Turns.{Flag, symbols, run, name_of, chosen, given}
use Rattle.command_words.proofs.Ends.{Holds, flag_values, named_values}

-- whether the flag was used before
abbrev pub used_before : Flag → Sorted → Bool
used_before symbols s = s.symbols
used_before run s = s.run

abbrev pub with_flag : Flag → Sorted → Sorted
with_flag symbols s = record s { symbols = true }
with_flag run s = record s { run = true }

flag_row : (f : Flag) (rows : List Row) (s : Sorted) → Holds rows s → row_at (name_of f) rows ≡ held_row (name_of f) (flag_values (used_before f s))
flag_row symbols rows s holds = holds.0
flag_row run rows s holds = holds.1

pub flag_known : (f : Flag) (rows : List Row) (s : Sorted) → Holds rows s → has_row (name_of f) rows ≡ used_before f s
flag_known f rows s holds = has_row_is (name_of f) rows ∙ ap is_some (flag_row f rows s holds) ∙ by (used_before f s)
  where
    by : (b : Bool) → is_some (held_row (name_of f) (flag_values b)) ≡ b
    by true = refl
    by false = refl

chosen_put : (id v : Text) (rows : List Row) → bytes_eq id id ≡ true → row_at id rows ≡ None → row_at id (chosen id v rows) ≡ held_row id (v ∷ [])
chosen_put id v rows own none = rw (nothing_to_take id rows none) (put_value id v [] rows own none)

chosen_other : (id v other : Text) (rows : List Row) → bytes_eq id other ≡ false → row_at id rows ≡ None → row_at other (chosen id v rows) ≡ row_at other rows
chosen_other id v other rows apart none = rw (nothing_to_take id rows none) (put_other id other CommandLine (v ∷ []) rows apart)

unused : (f : Flag) (rows : List Row) (s : Sorted) → Holds rows s → used_before f s ≡ false → row_at (name_of f) rows ≡ None
unused f rows s holds e = flag_row f rows s holds ∙ ap (λ (b : Bool). held_row (name_of f) (flag_values b)) e

pub flag_held : (f : Flag) (rows : List Row) (s : Sorted) → Holds rows s → used_before f s ≡ false → Holds (chosen (name_of f) (codes "true") rows) (with_flag f s)
flag_held symbols rows s holds e =
    let none = unused symbols rows s holds e in (
      chosen_put (codes "symbols") (codes "true") rows refl none,
      chosen_other (codes "symbols") (codes "true") (codes "run") rows refl none ∙ holds.1,
      chosen_other (codes "symbols") (codes "true") (codes "format") rows refl none ∙ holds.2,
      chosen_other (codes "symbols") (codes "true") (codes "operands") rows refl none ∙ holds.3,
    )
flag_held run rows s holds e =
    let none = unused run rows s holds e in (
      chosen_other (codes "run") (codes "true") (codes "symbols") rows refl none ∙ holds.0,
      chosen_put (codes "run") (codes "true") rows refl none,
      chosen_other (codes "run") (codes "true") (codes "format") rows refl none ∙ holds.2,
      chosen_other (codes "run") (codes "true") (codes "operands") rows refl none ∙ holds.3,
    )

value_other : (id other v : Text) (rows : List Row) → bytes_eq id other ≡ false → row_at other (given id v rows) ≡ row_at other rows
value_other id other v rows apart = put_other id other CommandLine (v ∷ []) rows apart

format_row : (rows : List Row) (s : Sorted) → Holds rows s → s.format ≡ None → row_at (codes "format") rows ≡ None
format_row rows s holds e = holds.2 ∙ ap (λ (o : Option Text). held_row (codes "format") (named_values o)) e

pub format_known : (rows : List Row) (s : Sorted) → Holds rows s → has_row (codes "format") rows ≡ is_some s.format
format_known rows s holds = has_row_is (codes "format") rows ∙ ap is_some holds.2 ∙ by s.format
  where
    by : (o : Option Text) → is_some (held_row (codes "format") (named_values o)) ≡ is_some o
    by None = refl
    by (Some v) = refl

pub format_held : (rows : List Row) (s : Sorted) (v : Text) → Holds rows s → s.format ≡ None
    → Holds (chosen (codes "format") v rows) (record s { format = Some v })
format_held rows s v holds e =
    let none = format_row rows s holds e in (
      chosen_other (codes "format") v (codes "symbols") rows refl none ∙ holds.0,
      chosen_other (codes "format") v (codes "run") rows refl none ∙ holds.1,
      chosen_put (codes "format") v rows refl none,
      chosen_other (codes "format") v (codes "operands") rows refl none ∙ holds.3,
    )

pub operand_held : (rows : List Row) (s : Sorted) (v : Text) → Holds rows s
    → Holds (given (codes "operands") v rows) (record s { operands = s.operands ++ v ∷ [] })
operand_held rows s v holds = (
  value_other (codes "operands") (codes "symbols") v rows refl ∙ holds.0,
  value_other (codes "operands") (codes "run") v rows refl ∙ holds.1,
  value_other (codes "operands") (codes "format") v rows refl ∙ holds.2,
  put_value (codes "operands") v s.operands rows refl holds.3,
)

pub nothing_held_yet : Holds [] (only_operands [])
nothing_held_yet = (refl, refl, refl, refl)
