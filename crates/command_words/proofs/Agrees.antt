-- `clap` reads the words as they are sorted.
use Rattle.std.proofs.Common.{◌≡◌, ◌≢◌, Bool, true, false, List, [], ◌∷◌, ◌++◌, Option, Some, None, is_some, string_bytes, map, codes, refl, ap, ◌∙◌, sym, subst, true≢false}
use Rattle.std.specs.Prelude.{⊤, String, option_and_then, option_map}
use Rattle.std.specs.Str.{bytes_eq, IsUtf8}
use Rattle.std.proofs.lemmas.Str.{IsUtf8-string_bytes}
use Rattle.std.proofs.lemmas.Slice.Eq.{bytes_eq-Decides}
use Rattle.clap.specs.declared.error.kind.ErrorKind.TheVariants as kind
use Rattle.clap.specs.Words.{Row, Text, fault_of, is_simple, is_simple_and_free, matches_of}
use Rattle.clap.specs.Kinds.{IsAmong, Kinds, or_else}
use Rattle.clap.specs.declared.error.kind.ErrorKind.{ErrorKind}
use Rattle.clap.specs.Simple.{built, entered}
use Rattle.clap.specs.Walk.{finished, has_row, settled, stop_after}
use Rattle.clap.specs.Faults.{check_fault, defaults_fault, entered_fault, settle_fault, turn_fault, walk_fault}
use Rattle.clap.proofs.OnLiterals.{clap_on_literals}
use Rattle.command_words.specs.Options.{IsSaid, app}
use Rattle.command_words.specs.Sorted.{Sorted, is_dashed, only_operands, sorted, sorted_behind, with_format, with_operand}
use Rattle.command_words.proofs.Turns as turn
use Rattle.command_words.proofs.Turns.{Flag, symbols, run, name_of, Place, fresh, behind_operand, behind_format, IsPlainWord, asking, chosen, given, IsCalm, rows_at, shape, walk_at}
use Rattle.command_words.proofs.Ends.{Ends, Gives, Holds, again_at_end, all_read, end_of, faults_from, refused, taken}
use Rattle.command_words.proofs.Held.{flag_held, flag_known, format_held, format_known, nothing_held_yet, operand_held, used_before, with_flag}
use Rattle.command_words.proofs.Joined.{flag_before, join, join_nothing, join_operand, joined, joined_again, joined_flag, joined_format, joined_operand, joined_twice}
use Rattle.command_words.proofs.WordKinds.{IsUnnamed, Refusal, with_value, unknown, short, Sort, dashes, flag, format, attached, other, operand, not_long, not_short, sort_of}

abbrev pub AllUtf8 : List Text → Type 0
AllUtf8 [] = ⊤
AllUtf8 (w ∷ ws) = IsUtf8 w × AllUtf8 ws

pub all_utf8 : {Z : Type 0} (words : List (String Z)) → AllUtf8 (map string_bytes words)
all_utf8 [] = tt
all_utf8 (w ∷ ws) = (IsUtf8-string_bytes w, all_utf8 ws)

-- the words from any place on come to what they are sorted into
abbrev From : List Text → Type 0
From ws = (p : Place) (rows : List Row) (s : Sorted) → IsCalm p rows → Holds (rows_at p rows) s → Ends (walk_at p rows false) ws (joined s (sorted ws))

-- all words behind the first `--` are operands
behind_dashes : (ws : List Text) (p : Place) (rows : List Row) (s : Sorted) → IsCalm p rows → Holds (rows_at p rows) s
    → Ends (walk_at p rows true) ws (join s (only_operands ws))
behind_dashes [] p rows s calm holds = subst (λ (o : Option Sorted). Ends (walk_at p rows true) [] o) (sym (join_nothing s)) (all_read p rows true s calm holds)
behind_dashes (w ∷ ws) p rows s calm holds =
    let next = walk_at (behind_operand w) (rows_at p rows) true in
    taken (walk_at p rows true) next w ws (join s (only_operands (w ∷ ws))) (turn.trailing_turn p rows w calm) (turn.trailing_walk p rows w)
    (subst (λ (o : Option Sorted). Ends next ws o) (join_operand s (only_operands ws) w)
    (behind_dashes ws (behind_operand w) (rows_at p rows) (record s { operands = s.operands ++ w ∷ [] }) tt (operand_held (rows_at p rows) s w holds)))

no_fault : {X : Type 0} {x : X} {xs : List X} → x ∷ xs ≢ []
no_fault e = absurd cc

module _ (ws : List Text) (p : Place) (rows : List Row) (s : Sorted) (calm : IsCalm p rows) (holds : Holds (rows_at p rows) s) where
  dashes_step : Ends (walk_at p rows false) (codes "--" ∷ ws) (join s (only_operands ws))
  dashes_step = taken (walk_at p rows false) (walk_at p rows true) (codes "--") ws (join s (only_operands ws)) (turn.dashes_turn p rows)
      (turn.dashes_walk p rows) (behind_dashes ws p rows s calm holds)

  flag_step : From ws → (f : Flag) → Ends (walk_at p rows false) ((codes "--" ++ name_of f) ∷ ws) (joined s (option_and_then (flag_before f) (sorted ws)))
  flag_step from f = by (used_before f s) refl
    where
      word : Text
      word = codes "--" ++ name_of f

      by : (b : Bool) → used_before f s ≡ b → Ends (walk_at p rows false) ((codes "--" ++ name_of f) ∷ ws) (joined s (option_and_then (flag_before f) (sorted ws)))
      by true e = subst (λ (o : Option Sorted). Ends (walk_at p rows false) ((codes "--" ++ name_of f) ∷ ws) o) (sym (joined_twice f s (sorted ws) e))
          (refused (walk_at p rows false) (codes "--" ++ name_of f) ws (kind.ArgumentConflict ∷ []) no_fault (turn.flag_twice f p rows calm (flag_known f (rows_at p rows) s holds ∙ e)))
      by false e =
          let next = walk_at fresh (chosen (name_of f) (codes "true") (rows_at p rows)) false in
          taken (walk_at p rows false) next (codes "--" ++ name_of f) ws (joined s (option_and_then (flag_before f) (sorted ws)))
          (turn.flag_turn f p rows calm (flag_known f (rows_at p rows) s holds ∙ e)) (turn.flag_walk f p rows)
          (subst (λ (o : Option Sorted). Ends next ws o) (joined_flag f s (sorted ws) e)
          (from fresh (chosen (name_of f) (codes "true") (rows_at p rows)) (with_flag f s) tt (flag_held f (rows_at p rows) s holds e)))

  attached_step : From ws → (v : Text) → Ends (walk_at p rows false) ((codes "--format=" ++ v) ∷ ws) (joined s (option_and_then (with_format v) (sorted ws)))
  attached_step from v = by s.format refl
    where
      by : (o : Option Text) → s.format ≡ o → Ends (walk_at p rows false) ((codes "--format=" ++ v) ∷ ws) (joined s (option_and_then (with_format v) (sorted ws)))
      by (Some u) e = subst (λ (o : Option Sorted). Ends (walk_at p rows false) ((codes "--format=" ++ v) ∷ ws) o) (sym (joined_again s (sorted ws) u v e))
          (refused (walk_at p rows false) (codes "--format=" ++ v) ws (kind.ArgumentConflict ∷ []) no_fault
          (turn.attached_twice p rows v calm (format_known (rows_at p rows) s holds ∙ ap is_some e)))
      by None e =
          let next = walk_at fresh (chosen (codes "format") v (rows_at p rows)) false in
          taken (walk_at p rows false) next (codes "--format=" ++ v) ws (joined s (option_and_then (with_format v) (sorted ws)))
          (turn.attached_turn p rows v calm (format_known (rows_at p rows) s holds ∙ ap is_some e)) (turn.attached_walk p rows v)
          (subst (λ (o : Option Sorted). Ends next ws o) (joined_format s (sorted ws) v e)
          (from fresh (chosen (codes "format") v (rows_at p rows)) (record s { format = Some v }) tt (format_held (rows_at p rows) s v holds e)))

  refusal_step : (w : Text) → bytes_eq w (codes "--") ≡ false → Refusal w → Ends (walk_at p rows false) (w ∷ ws) None
  refusal_step w bare (with_value f v long) =
      refused (walk_at p rows false) w ws (kind.TooManyValues ∷ []) no_fault (turn.valued_flag_turn f p rows w v bare long)
  refusal_step w bare (unknown name v long a b c) =
      refused (walk_at p rows false) w ws (kind.UnknownArgument ∷ []) no_fault (turn.unknown_turn p rows w name v bare long a b c)
  refusal_step w bare (short x xs c long is first) =
      refused (walk_at p rows false) w ws (kind.UnknownArgument ∷ []) no_fault (turn.short_turn p rows w x xs c bare long is first)

  operand_step : From ws → (w : Text) → IsPlainWord w → Ends (walk_at p rows false) (w ∷ ws) (joined s (option_map (with_operand w) (sorted ws)))
  operand_step from w plain =
      let next = walk_at (behind_operand w) (rows_at p rows) false in
      taken (walk_at p rows false) next w ws (joined s (option_map (with_operand w) (sorted ws))) (turn.operand_turn p rows w calm plain)
      (turn.operand_walk p rows w plain)
      (subst (λ (o : Option Sorted). Ends next ws o) (joined_operand s (sorted ws) w)
      (from (behind_operand w) (rows_at p rows) (record s { operands = s.operands ++ w ∷ [] }) tt (operand_held (rows_at p rows) s w holds)))

plain_word : (w : Text) → is_dashed w ≡ false → IsPlainWord w
plain_word w plain = (by (bytes_eq w (codes "--")) refl, not_long w plain, not_short w plain)
  where
    by : (b : Bool) → bytes_eq w (codes "--") ≡ b → b ≡ false
    by true e = absurd (true≢false (ap is_dashed (sym ((bytes_eq-Decides w (codes "--")).0 e)) ∙ plain))
    by false e = refl

-- ---- a word that is not `--format` with a word behind it

module _ (ws : List Text) (from : From ws) (p : Place) (rows : List Row) (s : Sorted) (calm : IsCalm p rows) (holds : Holds (rows_at p rows) s) where
  abbrev Stands : Text → Type 0
  Stands w = Ends (walk_at p rows false) (w ∷ ws) (joined s (sorted_behind w ws (sorted ws)))

  flag_stands : (f : Flag) → Stands (codes "--" ++ name_of f)
  flag_stands symbols = flag_step ws p rows s calm holds from symbols
  flag_stands run = flag_step ws p rows s calm holds from run

  other_stands : (w : Text) → IsUnnamed w → is_dashed w ≡ true → Refusal w → Stands w
  other_stands w unnamed dashed refusal =
      rw (unnamed.0, unnamed.1, unnamed.2, unnamed.4, dashed) (refusal_step ws p rows s calm holds w unnamed.0 refusal)

  operand_stands : (w : Text) → IsUnnamed w → is_dashed w ≡ false → Stands w
  operand_stands w unnamed plain = rw (unnamed.0, unnamed.1, unnamed.2, unnamed.4, plain) (operand_step ws p rows s calm holds from w (plain_word w plain))

  word_stands : (w : Text) → Sort w → bytes_eq w (codes "--format") ≡ false → Stands w
  word_stands w (dashes e) apart = subst Stands (sym e) (dashes_step ws p rows s calm holds)
  word_stands w (flag f e) apart = subst Stands (sym e) (flag_stands f)
  word_stands w (format e) apart = absurd (true≢false (sym ((bytes_eq-Decides w (codes "--format")).1 e) ∙ apart))
  word_stands w (attached v e) apart = subst Stands (sym e) (attached_step ws p rows s calm holds from v)
  word_stands w (other unnamed dashed refusal) apart = other_stands w unnamed dashed refusal
  word_stands w (operand unnamed plain long is) apart = operand_stands w unnamed plain

-- ---- `--format`

module _ (rows : List Row) where
  unnamed_at_end : Ends (asking rows false) [] None
  unfolding walk_fault
  unnamed_at_end = no_fault

  unnamed_behind_dashes : (more : List Text) → Ends (asking rows true) more None
  unfolding walk_fault
  unnamed_behind_dashes [] = no_fault
  unnamed_behind_dashes (v ∷ vs) = refused (asking rows true) v vs (kind.InvalidValue ∷ []) no_fault (turn.unnamed_trailing_turn rows v)

  unnamed_flag : (f : Flag) (more : List Text) → Ends (asking rows false) ((codes "--" ++ name_of f) ∷ more) None
  unnamed_flag symbols more = refused (asking rows false) (codes "--symbols") more (kind.InvalidValue ∷ []) no_fault (turn.unnamed_flag_turn symbols rows (codes "--symbols") refl refl)
  unnamed_flag run more = refused (asking rows false) (codes "--run") more (kind.InvalidValue ∷ []) no_fault (turn.unnamed_flag_turn run rows (codes "--run") refl refl)

  unnamed_refusal : (w : Text) (more : List Text) → bytes_eq w (codes "--") ≡ false → Refusal w → Ends (asking rows false) (w ∷ more) None
  unnamed_refusal w more bare (with_value f v long) =
      refused (asking rows false) w more (kind.TooManyValues ∷ []) no_fault (turn.unnamed_valued_flag_turn f rows w v bare long)
  unnamed_refusal w more bare (unknown name v long a b c) =
      refused (asking rows false) w more (kind.UnknownArgument ∷ []) no_fault (turn.unnamed_unknown_turn rows w name v bare long a b c)
  unnamed_refusal w more bare (short x xs c long is first) =
      refused (asking rows false) w more (kind.UnknownArgument ∷ []) no_fault (turn.unnamed_short_turn rows w x xs c bare long is first)

  -- an option is no name of a format
  unnamed : (next : Text) (more : List Text) → Sort next → is_dashed next ≡ true → Ends (asking rows false) (next ∷ more) None
  unnamed next more (dashes e) dashed = subst (λ (w : Text). Ends (asking rows false) (w ∷ more) None) (sym e)
      (taken (asking rows false) (asking rows true) (codes "--") more None (turn.unnamed_dashes_turn rows) (turn.unnamed_dashes_walk rows) (unnamed_behind_dashes more))
  unnamed next more (flag f e) dashed = subst (λ (w : Text). Ends (asking rows false) (w ∷ more) None) (sym e) (unnamed_flag f more)
  unnamed next more (format e) dashed = subst (λ (w : Text). Ends (asking rows false) (w ∷ more) None) (sym e)
      (refused (asking rows false) (codes "--format") more (kind.InvalidValue ∷ []) no_fault (turn.unnamed_format_turn rows (codes "--format") None refl refl))
  unnamed next more (attached v e) dashed = subst (λ (w : Text). Ends (asking rows false) (w ∷ more) None) (sym e)
      (refused (asking rows false) (codes "--format=" ++ v) more (kind.InvalidValue ∷ []) no_fault (turn.unnamed_format_turn rows (codes "--format=" ++ v) (Some v) refl refl))
  unnamed next more (other bare d refusal) dashed = unnamed_refusal next more bare.0 refusal
  unnamed next more (operand bare plain long is) dashed = absurd (true≢false (sym dashed ∙ plain))

-- a second `--format` is refused, at the latest at the end
again_trailing : (v : Text) (rows : List Row) (ws : List Text) → has_row (codes "format") rows ≡ true → Ends (walk_at (behind_format v) rows true) ws None
again_trailing v rows [] again = again_at_end v rows true again
again_trailing v rows (w ∷ ws) again =
    refused (walk_at (behind_format v) rows true) w ws (kind.ArgumentConflict ∷ []) no_fault (turn.again_trailing_turn v rows again w)

module _ (v : Text) (rows : List Row) (again : has_row (codes "format") rows ≡ true) where
  abbrev Refuses : Text → List Text → Type 0
  Refuses w ws = Ends (walk_at (behind_format v) rows false) (w ∷ ws) None

  again_refused : (w : Text) (ws : List Text) → turn_fault shape [] (walk_at (behind_format v) rows false) w ≡ kind.ArgumentConflict ∷ [] → Refuses w ws
  again_refused w ws fault = refused (walk_at (behind_format v) rows false) w ws (kind.ArgumentConflict ∷ []) no_fault fault

  again_option : (w : Text) (ws : List Text) → bytes_eq w (codes "--") ≡ false → Refusal w → Refuses w ws
  again_option w ws bare (with_value f x long) =
      refused (walk_at (behind_format v) rows false) w ws (kind.TooManyValues ∷ []) no_fault (turn.valued_flag_turn f (behind_format v) rows w x bare long)
  again_option w ws bare (unknown name x long a b c) =
      refused (walk_at (behind_format v) rows false) w ws (kind.UnknownArgument ∷ []) no_fault (turn.unknown_turn (behind_format v) rows w name x bare long a b c)
  again_option w ws bare (short x xs c long is first) =
      refused (walk_at (behind_format v) rows false) w ws (kind.UnknownArgument ∷ []) no_fault (turn.short_turn (behind_format v) rows w x xs c bare long is first)

  again_word : (w : Text) (ws : List Text) → Sort w → Refuses w ws
  again_word w ws (dashes e) = subst (λ (u : Text). Refuses u ws) (sym e)
      (taken (walk_at (behind_format v) rows false) (walk_at (behind_format v) rows true) (codes "--") ws None (turn.dashes_turn (behind_format v) rows)
      (turn.dashes_walk (behind_format v) rows) (again_trailing v rows ws again))
  again_word w ws (flag f e) = subst (λ (u : Text). Refuses u ws) (sym e) (again_refused (codes "--" ++ name_of f) ws (turn.again_flag_turn v rows again f))
  again_word w ws (format e) = subst (λ (u : Text). Refuses u ws) (sym e) (again_refused (codes "--format") ws (turn.again_format_turn v rows again))
  again_word w ws (attached x e) =
      subst (λ (u : Text). Refuses u ws) (sym e) (again_refused (codes "--format=" ++ x) ws (turn.again_attached_turn v rows again x))
  again_word w ws (other bare dashed refusal) = again_option w ws bare.0 refusal
  again_word w ws (operand bare plain long is) = again_refused w ws (turn.again_operand_turn v rows again w (plain_word w plain))

  again_words : (ws : List Text) → AllUtf8 ws → Ends (walk_at (behind_format v) rows false) ws None
  again_words [] utf8 = again_at_end v rows false again
  again_words (w ∷ ws) utf8 = again_word w ws (sort_of w utf8.0)

module _ (p : Place) (rows : List Row) (s : Sorted) (calm : IsCalm p rows) (holds : Holds (rows_at p rows) s) where
  format_asks : (ws : List Text) (o : Option Sorted) → Ends (asking (rows_at p rows) false) ws o → Ends (walk_at p rows false) (codes "--format" ∷ ws) o
  format_asks ws o ends =
      taken (walk_at p rows false) (asking (rows_at p rows) false) (codes "--format") ws o (turn.format_turn p rows calm) (turn.format_walk p rows) ends

  named : (next : Text) (more : List Text) → AllUtf8 more → From more → is_dashed next ≡ false
      → Ends (asking (rows_at p rows) false) (next ∷ more) (joined s (option_and_then (with_format next) (sorted more)))
  named next more utf8 from plain =
      let after = walk_at (behind_format next) (rows_at p rows) false in
      taken (asking (rows_at p rows) false) after next more (joined s (option_and_then (with_format next) (sorted more)))
      (turn.named_turn (rows_at p rows) next (plain_word next plain)) (turn.named_walk (rows_at p rows) next (plain_word next plain)) (by s.format refl)
    where
      by : (o : Option Text) → s.format ≡ o
          → Ends (walk_at (behind_format next) (rows_at p rows) false) more (joined s (option_and_then (with_format next) (sorted more)))
      by (Some u) e = subst (λ (o : Option Sorted). Ends (walk_at (behind_format next) (rows_at p rows) false) more o) (sym (joined_again s (sorted more) u next e))
          (again_words next (rows_at p rows) (format_known (rows_at p rows) s holds ∙ ap is_some e) more utf8)
      by None e = subst (λ (o : Option Sorted). Ends (walk_at (behind_format next) (rows_at p rows) false) more o) (joined_format s (sorted more) next e)
          (from (behind_format next) (rows_at p rows) (record s { format = Some next }) (format_known (rows_at p rows) s holds ∙ ap is_some e)
          (format_held (rows_at p rows) s next holds e))

  format_stands : (next : Text) (more : List Text) → Sort next → AllUtf8 more → From more
      → Ends (walk_at p rows false) (codes "--format" ∷ next ∷ more) (joined s (sorted (codes "--format" ∷ next ∷ more)))
  format_stands next more sort utf8 from = by (is_dashed next) refl
    where
      by : (b : Bool) → is_dashed next ≡ b → Ends (walk_at p rows false) (codes "--format" ∷ next ∷ more) (joined s (sorted (codes "--format" ∷ next ∷ more)))
      by true e = rw e (format_asks (next ∷ more) None (unnamed (rows_at p rows) next more sort e))
      by false e = rw e (format_asks (next ∷ more) (joined s (option_and_then (with_format next) (sorted more))) (named next more utf8 from e))

-- ---- all words

sorted_next : (w next : Text) (more : List Text) → bytes_eq w (codes "--format") ≡ false
    → sorted (w ∷ next ∷ more) ≡ sorted_behind w (next ∷ more) (sorted (next ∷ more))
sorted_next w next more apart = rw apart refl

last_word : (w : Text) → Sort w → From [] → From (w ∷ [])
last_word w sort from p rows s calm holds = by (bytes_eq w (codes "--format")) refl
  where
    by : (b : Bool) → bytes_eq w (codes "--format") ≡ b → Ends (walk_at p rows false) (w ∷ []) (joined s (sorted (w ∷ [])))
    by true e = subst (λ (v : Text). Ends (walk_at p rows false) (v ∷ []) (joined s (sorted (v ∷ [])))) (sym ((bytes_eq-Decides w (codes "--format")).0 e))
        (format_asks p rows s calm holds [] None (unnamed_at_end (rows_at p rows)))
    by false e = word_stands [] from p rows s calm holds w sort e

word_before : (w next : Text) (more : List Text) → Sort w → Sort next → AllUtf8 more → From (next ∷ more) → From more → From (w ∷ next ∷ more)
word_before w next more sort after utf8 from two p rows s calm holds = by (bytes_eq w (codes "--format")) refl
  where
    by : (b : Bool) → bytes_eq w (codes "--format") ≡ b → Ends (walk_at p rows false) (w ∷ next ∷ more) (joined s (sorted (w ∷ next ∷ more)))
    by true e = subst (λ (v : Text). Ends (walk_at p rows false) (v ∷ next ∷ more) (joined s (sorted (v ∷ next ∷ more))))
        (sym ((bytes_eq-Decides w (codes "--format")).0 e)) (format_stands p rows s calm holds next more after utf8 two)
    by false e = subst (λ (o : Option Sorted). Ends (walk_at p rows false) (w ∷ next ∷ more) (joined s o)) (sym (sorted_next w next more e))
        (word_stands (next ∷ more) from p rows s calm holds w sort e)

all_words : (ws : List Text) → AllUtf8 ws → From ws
all_words [] utf8 = λ p rows s calm holds. subst (λ (o : Option Sorted). Ends (walk_at p rows false) [] o) (sym (join_nothing s)) (all_read p rows false s calm holds)
all_words (w ∷ []) utf8 = last_word w (sort_of w utf8.0) (all_words [] tt)
all_words (w ∷ next ∷ more) utf8 =
    word_before w next more (sort_of w utf8.0) (sort_of next utf8.1.0) utf8.1.1 (all_words (next ∷ more) utf8.1) (all_words more utf8.1.1)

nothing_before : (o : Option Sorted) → joined (only_operands []) o ≡ o
nothing_before None = refl
nothing_before (Some q) = refl

-- no subcommand is met, since there is none
from_start : (words : List Text) (stop : Option (Text × List Text))
    → or_else (walk_fault shape [] (walk_at fresh [] false) words)
    (or_else (entered_fault (built app) stop)
    (or_else (settle_fault shape.rules shape.args_override_self (end_of (walk_at fresh [] false) words).held)
    (or_else (defaults_fault (settled shape.rules (end_of (walk_at fresh [] false) words).held).rows shape.rules)
    (check_fault shape (finished shape.rules (end_of (walk_at fresh [] false) words).held) (is_some (entered (built app) stop))))))
    ≡ faults_from (walk_at fresh [] false) words
from_start words None = refl
from_start words (Some p) = refl

-- `clap` refuses the words, or finds in them what they are sorted into
pub reads_as_sorted : (words : List Text) → AllUtf8 words → Gives (fault_of app words) (matches_of app words) (sorted words)
reads_as_sorted words utf8 =
    let start = walk_at fresh [] false in
    let ends : Gives (faults_from start words) (matches_of app words) (joined (only_operands []) (sorted words)) =
    all_words words utf8 fresh [] (only_operands []) tt nothing_held_yet in
    subst (λ (k : Kinds). Gives k (matches_of app words) (sorted words)) (sym (from_start words (stop_after shape.rules [] words)))
    (subst (λ (o : Option Sorted). Gives (faults_from start words) (matches_of app words) o) (nothing_before (sorted words)) ends)

-- ---- what an answer of `clap` says of the words

pub said_of : (faults : Kinds) (rows : List Row) (o : Option Sorted) → Gives faults rows o → faults ≡ [] → (s : Sorted) × (o ≡ Some s) × IsSaid rows s
said_of faults rows None gives none = absurd (gives none)
said_of faults rows (Some s) gives none = (s, refl, gives.1)

pub refused_of : (faults : Kinds) (rows : List Row) (o : Option Sorted) (k : ErrorKind) → Gives faults rows o → IsAmong k faults → o ≡ None
refused_of faults rows None k gives among = refl
refused_of faults rows (Some s) k gives among = absurd (subst (IsAmong k) gives.0 among)

pub simple_app : is_simple app ≡ true
unfolding clap_on_literals
simple_app = refl

pub free_app : is_simple_and_free app ≡ true
unfolding clap_on_literals
free_app = refl
