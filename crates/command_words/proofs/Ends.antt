-- What comes of a walk over words.
use Rattle.std.proofs.Common.{◌≡◌, ◌≢◌, Bool, true, false, List, [], ◌∷◌, Option, Some, None, is_some, codes, fold, refl, ap, ◌∙◌, sym, subst}
use Rattle.std.specs.Prelude.{unwrap_or, option_and_then}
use Rattle.std.specs.Str.{bytes_eq}
use Rattle.clap.specs.Values.{bool_text}
use Rattle.clap.specs.Words.{Row, Rule, Text, all_of, first_of, one_of}
use Rattle.clap.specs.Kinds.{Kinds, or_else}
use Rattle.clap.specs.Simple.{filled, with_index}
use Rattle.clap.specs.Walk.{Walk, Held, finished, has_row, row_text, settled, walked, with_default, with_values}
use Rattle.clap.specs.Faults.{check_fault, default_fault, defaults_fault, settle_fault, turn_fault, walk_fault}
use Rattle.clap.specs.declared.parser.matches.ValueSource.TheVariants.{CommandLine, DefaultValue}
use Rattle.clap.specs.declared.builder.value_parser.Reading.TheVariants.{AsWritten}
use Rattle.command_words.specs.Options.{IsSaid, flag, valued, operands}
use Rattle.command_words.specs.Sorted.{Sorted}
use Rattle.command_words.proofs.Rows.{row_at, held_row, row_from, has_row_is, put_new, put_other}
use Rattle.command_words.proofs.Turns.{Flag, Place, IsCalm, symbols, run, name_of, fresh, behind_operand, behind_format, rows_at, shape, walk_at}

-- the words are refused, or the matches say what they were sorted into
abbrev pub Gives : Kinds → List Row → Option Sorted → Type 0
Gives faults rows None = faults ≢ []
Gives faults rows (Some s) = (faults ≡ []) × IsSaid rows s

abbrev pub end_of : Walk → List Text → Walk
end_of w words = fold (walked shape.rules []) w words

abbrev pub end_fault : Held → Kinds
end_fault end = or_else (settle_fault shape.rules shape.args_override_self end)
    (or_else (defaults_fault (settled shape.rules end).rows shape.rules) (check_fault shape (finished shape.rules end) false))

abbrev pub faults_from : Walk → List Text → Kinds
faults_from w words = or_else (walk_fault shape [] w words) (end_fault (end_of w words).held)

-- what comes of the words from a place on
abbrev pub Ends : Walk → List Text → Option Sorted → Type 0
Ends w words o = Gives (faults_from w words) (finished shape.rules (end_of w words).held) o

both_first : (a b c : Kinds) → or_else (or_else a b) c ≡ or_else a (or_else b c)
both_first [] b c = refl
both_first (k ∷ ks) b c = refl

next_faults : (w : Walk) (word : Text) (words : List Text)
    → faults_from w (word ∷ words) ≡ or_else (turn_fault shape [] w word) (faults_from (walked shape.rules [] w word) words)
unfolding walk_fault
next_faults w word words =
    both_first (turn_fault shape [] w word) (walk_fault shape [] (walked shape.rules [] w word) words) (end_fault (end_of w (word ∷ words)).held)

-- a word that is taken
pub taken : (w next : Walk) (word : Text) (words : List Text) (o : Option Sorted) → turn_fault shape [] w word ≡ []
    → walked shape.rules [] w word ≡ next → Ends next words o → Ends w (word ∷ words) o
taken w next word words o turn walk ends =
    let faults : faults_from w (word ∷ words) ≡ faults_from next words =
    next_faults w word words ∙ ap (λ (k : Kinds). or_else k (faults_from (walked shape.rules [] w word) words)) turn ∙ ap (λ (v : Walk). faults_from v words) walk in
    let rows : finished shape.rules (end_of w (word ∷ words)).held ≡ finished shape.rules (end_of next words).held =
    ap (λ (v : Walk). finished shape.rules (end_of v words).held) walk in
    subst (λ (k : Kinds). Gives k (finished shape.rules (end_of w (word ∷ words)).held) o) (sym faults)
    (subst (λ (r : List Row). Gives (faults_from next words) r o) (sym rows) ends)

-- a word that is refused
pub refused : (w : Walk) (word : Text) (words : List Text) (kinds : Kinds) → kinds ≢ [] → turn_fault shape [] w word ≡ kinds → Ends w (word ∷ words) None
refused w word words [] some turn = absurd (some refl)
refused w word words (k ∷ ks) some turn = λ none.
    let bad : k ∷ ks ≡ [] =
    sym (next_faults w word words ∙ ap (λ (j : Kinds). or_else j (faults_from (walked shape.rules [] w word) words)) turn) ∙ none in
    absurd cc

-- ---- the end of the words

abbrev flag_rule : Flag → Rule
flag_rule f = filled (flag (name_of f))

abbrev format_rule : Rule
format_rule = filled (valued (codes "format"))

abbrev operands_rule : Rule
operands_rule = with_index 1 (filled operands)

abbrev pub flag_values : Bool → List Text
flag_values true = codes "true" ∷ []
flag_values false = []

abbrev pub named_values : Option Text → List Text
named_values None = []
named_values (Some v) = v ∷ []

-- the matches so far have what the words so far say
abbrev pub Holds : List Row → Sorted → Type 0
Holds rows s = (row_at (codes "symbols") rows ≡ held_row (codes "symbols") (flag_values s.symbols))
    × (row_at (codes "run") rows ≡ held_row (codes "run") (flag_values s.run))
    × (row_at (codes "format") rows ≡ held_row (codes "format") (named_values s.format))
    × (row_at (codes "operands") rows ≡ held_row (codes "operands") s.operands)

text_of : (id : Text) (rows : List Row) (source : _) (v : Text) → row_at id rows ≡ Some (row_from id source (v ∷ [])) → one_of id rows ≡ Some v
text_of id rows source v is = rw is refl

own_name : (f : Flag) → bytes_eq (name_of f) (name_of f) ≡ true
own_name symbols = refl
own_name run = refl

present : (id : Text) (rows : List Row) (v : Text) (vs : List Text) → row_at id rows ≡ held_row id (v ∷ vs) → has_row id rows ≡ true
present id rows v vs is = has_row_is id rows ∙ ap is_some is

absent : (id : Text) (rows : List Row) → row_at id rows ≡ None → has_row id rows ≡ false
absent id rows is = has_row_is id rows ∙ ap is_some is

kept : (a : Rule) (rows : List Row) → has_row a.id rows ≡ true → with_default rows a ≡ rows
kept a rows e = rw e refl

defaulted : (f : Flag) (rows : List Row) → has_row (name_of f) rows ≡ false
    → with_default rows (flag_rule f) ≡ with_values (name_of f) AsWritten DefaultValue (codes "false" ∷ []) rows
defaulted f rows e = rw e refl

flag_reads : (f : Flag) (rows : List Row) (b : Bool) → row_at (name_of f) rows ≡ held_row (name_of f) (flag_values b)
    → one_of (name_of f) (with_default rows (flag_rule f)) ≡ Some (bool_text b)
flag_reads f rows true is =
    ap (λ (l : List Row). one_of (name_of f) l) (kept (flag_rule f) rows (present (name_of f) rows _ [] is)) ∙ text_of (name_of f) rows CommandLine (codes "true") is
flag_reads f rows false is =
    ap (λ (l : List Row). one_of (name_of f) l) (defaulted f rows (absent (name_of f) rows is))
    ∙ text_of (name_of f) (with_values (name_of f) AsWritten DefaultValue (codes "false" ∷ []) rows) DefaultValue (codes "false")
    (put_new (name_of f) DefaultValue (codes "false" ∷ []) rows (own_name f) is)

other_after : (f : Flag) (other : Text) (rows : List Row) → bytes_eq (name_of f) other ≡ false → row_at other (with_default rows (flag_rule f)) ≡ row_at other rows
other_after f other rows apart = go (has_row (name_of f) rows) refl
  where
    go : (h : Bool) → has_row (name_of f) rows ≡ h → row_at other (with_default rows (flag_rule f)) ≡ row_at other rows
    go true e = ap (row_at other) (kept (flag_rule f) rows e)
    go false e = ap (row_at other) (defaulted f rows e) ∙ put_other (name_of f) other DefaultValue (codes "false" ∷ []) rows apart

format_kept : (rows : List Row) → with_default rows format_rule ≡ rows
format_kept rows = go (has_row (codes "format") rows) refl
  where
    go : (h : Bool) → has_row (codes "format") rows ≡ h → with_default rows format_rule ≡ rows
    go true e = rw e refl
    go false e = rw e refl

operands_kept : (rows : List Row) → with_default rows operands_rule ≡ rows
operands_kept rows = go (has_row (codes "operands") rows) refl
  where
    go : (h : Bool) → has_row (codes "operands") rows ≡ h → with_default rows operands_rule ≡ rows
    go true e = rw e refl
    go false e = rw e refl

-- the matches at the end
abbrev with_flags : List Row → List Row
with_flags rows = with_default (with_default rows (flag_rule symbols)) (flag_rule run)

at_last : (rows : List Row) → fold with_default rows shape.rules ≡ with_flags rows
at_last rows = operands_kept (with_default (with_flags rows) format_rule) ∙ format_kept (with_flags rows)

values_of : (id : Text) (rows : List Row) (vs : List Text) → row_at id rows ≡ held_row id vs → unwrap_or (all_of id rows) [] ≡ vs
values_of id rows [] is = rw is refl
values_of id rows (v ∷ vs) is = rw is refl

name_of_format : (id : Text) (rows : List Row) (o : Option Text) → row_at id rows ≡ held_row id (named_values o) → first_of id rows ≡ o
name_of_format id rows None is = rw is refl
name_of_format id rows (Some v) is = rw is refl

flags_read : (rows : List Row) (s : Sorted) → Holds rows s → IsSaid (with_flags rows) s
flags_read rows s holds =
    let behind = with_default rows (flag_rule symbols) in
    let past : (other : Text) → bytes_eq (codes "symbols") other ≡ false → bytes_eq (codes "run") other ≡ false → row_at other (with_flags rows) ≡ row_at other rows =
    λ other a b. other_after run other behind b ∙ other_after symbols other rows a in (
      ap (λ (o : Option Row). option_and_then row_text o) (other_after run (codes "symbols") behind refl) ∙ flag_reads symbols rows s.symbols holds.0,
      flag_reads run behind s.run (other_after symbols (codes "run") rows refl ∙ holds.1),
      name_of_format (codes "format") (with_flags rows) s.format (past (codes "format") refl refl ∙ holds.2),
      values_of (codes "operands") (with_flags rows) s.operands (past (codes "operands") refl refl ∙ holds.3),
    )

nothing_wrong : (f : Flag) (rows : List Row) → default_fault rows (flag_rule f) ≡ []
nothing_wrong f rows = go (has_row (name_of f) rows) refl
  where
    go : (h : Bool) → has_row (name_of f) rows ≡ h → default_fault rows (flag_rule f) ≡ []
    go true e = rw e refl
    go false e = rw e refl

format_right : (rows : List Row) → default_fault rows format_rule ≡ []
format_right rows = go (has_row (codes "format") rows) refl
  where
    go : (h : Bool) → has_row (codes "format") rows ≡ h → default_fault rows format_rule ≡ []
    go true e = rw e refl
    go false e = rw e refl

operands_right : (rows : List Row) → default_fault rows operands_rule ≡ []
operands_right rows = go (has_row (codes "operands") rows) refl
  where
    go : (h : Bool) → has_row (codes "operands") rows ≡ h → default_fault rows operands_rule ≡ []
    go true e = rw e refl
    go false e = rw e refl

one_more : (a : Rule) (more : List Rule) (rows : List Row) → default_fault rows a ≡ [] → defaults_fault rows (a ∷ more) ≡ defaults_fault (with_default rows a) more
unfolding defaults_fault
one_more a more rows e = ap (λ (k : Kinds). or_else k (defaults_fault (with_default rows a) more)) e

defaults_right : (rows : List Row) → defaults_fault rows shape.rules ≡ []
unfolding defaults_fault
defaults_right rows =
    let one = with_default rows (flag_rule symbols) in
    let two = with_default one (flag_rule run) in
    let three = with_default two format_rule in
    one_more (flag_rule symbols) (flag_rule run ∷ format_rule ∷ operands_rule ∷ []) rows (nothing_wrong symbols rows)
    ∙ one_more (flag_rule run) (format_rule ∷ operands_rule ∷ []) one (nothing_wrong run one)
    ∙ one_more format_rule (operands_rule ∷ []) two (format_right two)
    ∙ one_more operands_rule [] three (operands_right three)

settles : (p : Place) (rows : List Row) (b : Bool) → IsCalm p rows → settle_fault shape.rules shape.args_override_self (walk_at p rows b).held ≡ []
settles fresh rows b calm = refl
settles (behind_operand v) rows b calm = refl
settles (behind_format v) rows b calm = rw calm refl

-- the words are all read
pub all_read : (p : Place) (rows : List Row) (b : Bool) (s : Sorted) → IsCalm p rows → Holds (rows_at p rows) s → Ends (walk_at p rows b) [] (Some s)
unfolding walk_fault
all_read p rows b s calm holds = (
  ap (λ (k : Kinds). or_else k (or_else (defaults_fault (rows_at p rows) shape.rules) [])) (settles p rows b calm)
      ∙ ap (λ (k : Kinds). or_else k []) (defaults_right (rows_at p rows)),
  subst (λ (l : List Row). IsSaid l s) (sym (at_last (rows_at p rows))) (flags_read (rows_at p rows) s holds),
)

-- and `--format` stood twice
pub again_at_end : (v : Text) (rows : List Row) (b : Bool) → has_row (codes "format") rows ≡ true → Ends (walk_at (behind_format v) rows b) [] None
unfolding walk_fault
again_at_end v rows b again = rw again (λ none. absurd cc)
