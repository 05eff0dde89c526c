-- The event of a line, found part by part. What it finds is what the lines of events say; this is how the reader goes
-- about it.
use Rattle.std.specs.Prelude.{◌^◌, ◌==◌, ◌&&◌, nat_le, ◌-◌, ℕ, Bool, if◌then◌else◌, Option, None, Some, option_map}
use Rattle.std.specs.Prelude.{option_and_then, List, [], ◌∷◌, length, find, codes}
use Rattle.std.specs.List.{list_all}
use Rattle.std.specs.Str.{bytes_eq}
use Rattle.std.specs.Str.Parse.{digits_value}
use Rattle.std.specs.Fmt.{decimal}
use Rattle.stat_defs.specs.declared.events.Event.{Event}
use Rattle.stat_defs.specs.declared.events.Event.TheVariants as event
use Rattle.stat_defs.specs.declared.events.GaugeOp.{GaugeOp}
use Rattle.stat_defs.specs.declared.events.GaugeOp.TheVariants as op
use Rattle.stat_defs.specs.declared.ids.Mode.{Mode}
use Rattle.stat_defs.specs.declared.ids.Mode.TheVariants.{Uninit, Accumulate, Never}
use Rattle.stat_defs.specs.declared.events.TheConstants.{MAX_LABEL_BYTES, MAX_NAME_BYTES}
use Rattle.stat_defs.specs.Names.{is_label_byte, is_name_byte, is_printable_byte}
use Rattle.event_script.specs.declared.words.Word.{Word}
use Rattle.event_script.specs.declared.words.Word.TheVariants.{Inc, Add, Sub, Set, Rec, Text, Open, Release}
use Rattle.event_script.specs.Grammar.{mode_word, given_prefix}

-- the bytes before the first newline
abbrev pub first_line : List ℕ → List ℕ
first_line [] = []
first_line (b ∷ bs) = if b == 10 then [] else b ∷ first_line bs

-- the first newline, and all behind it
abbrev pub behind_line : List ℕ → List ℕ
behind_line [] = []
behind_line (b ∷ bs) = if b == 10 then b ∷ bs else behind_line bs

-- what stands before the first space, and what stands behind it
abbrev pub cut : List ℕ → Option (List ℕ × List ℕ)
cut [] = None
cut (b ∷ bs) = if b == 32 then Some ([], bs) else option_map (λ p. (b ∷ p.0, p.1)) (cut bs)

-- the first part is read, and then what stands behind it
abbrev pub part_then : {X : Type 0} → (List ℕ → Option X) → (X → List ℕ → Option Event) → List ℕ → Option Event
part_then read more text = option_and_then (λ p. option_and_then (λ x. more x p.1) (read p.0)) (cut text)

-- a text of 1 to so many bytes that pass a test
abbrev pub read_text : (ℕ → Bool) → ℕ → List ℕ → Option (List ℕ)
read_text test most text = if nat_le 1 (length text) && nat_le (length text) most && list_all test text then Some text
    else None

abbrev pub read_label : List ℕ → Option (List ℕ)
read_label = read_text is_label_byte MAX_LABEL_BYTES

abbrev pub read_name : List ℕ → Option (List ℕ)
read_name = read_text is_name_byte MAX_NAME_BYTES

-- a number of at most that
abbrev pub read_number : ℕ → List ℕ → Option ℕ
read_number most text =
    if nat_le (digits_value 10 text) most
    && bytes_eq text (decimal (digits_value 10 text)) then Some (digits_value 10 text) else None

abbrev pub read_readout : List ℕ → Option (List ℕ)
read_readout text = if list_all is_printable_byte text then Some text else None

abbrev pub modes : List Mode
modes = Uninit ∷ Accumulate ∷ Never ∷ []

abbrev pub read_mode : List ℕ → Option Mode
read_mode text = find (λ mode. bytes_eq text (mode_word mode)) modes

abbrev pub word_bytes : Word → List ℕ
word_bytes Inc = codes "inc"
word_bytes Add = codes "add"
word_bytes Sub = codes "sub"
word_bytes Set = codes "set"
word_bytes Rec = codes "rec"
word_bytes Text = codes "text"
word_bytes Open = codes "open"
word_bytes Release = codes "release"

abbrev pub words : List Word
words = Inc ∷ Add ∷ Sub ∷ Set ∷ Rec ∷ Text ∷ Open ∷ Release ∷ []

abbrev pub read_word : List ℕ → Option Word
read_word text = find (λ word. bytes_eq text (word_bytes word)) words

-- behind a first word: a label and a name, and then the rest
abbrev pub metric_in : (List ℕ → List ℕ → List ℕ → Option Event) → List ℕ → Option Event
metric_in more text = part_then read_label (λ label. part_then read_name (λ name. more label name)) text

abbrev pub inc_in : List ℕ → Option Event
inc_in text = metric_in (λ label name rest. option_map (λ n. event.Inc label name n) (read_number (2 ^ 32 - 1) rest))
    text

abbrev pub gauge_in : GaugeOp → List ℕ → Option Event
gauge_in op text = metric_in (λ label name. part_then read_mode
    (λ mode rest. option_map (λ n. event.Gauge label name mode op n) (read_number (2 ^ 63 - 1) rest))) text

abbrev pub rec_in : List ℕ → Option Event
rec_in text = metric_in (λ label name rest. option_map (λ v. event.Rec label name v) (read_number (2 ^ 64 - 1) rest))
    text

abbrev pub readout_in : List ℕ → Option Event
readout_in text = metric_in (λ label name rest. option_map (λ readout. event.SetText label name readout)
    (read_readout rest)) text

abbrev pub open_in : List ℕ → Option Event
open_in text = part_then read_label
    (λ label rest. option_map (λ given. event.OpenScope label (given_prefix given)) (read_name rest)) text

abbrev pub release_in : List ℕ → Option Event
release_in text = option_map (λ label. event.Release label) (read_label text)

abbrev pub behind_word : Word → List ℕ → Option Event
behind_word Inc text = inc_in text
behind_word Add text = gauge_in op.Add text
behind_word Sub text = gauge_in op.Sub text
behind_word Set text = gauge_in op.Set text
behind_word Rec text = rec_in text
behind_word Text text = readout_in text
behind_word Open text = open_in text
behind_word Release text = release_in text

-- the event of a line
abbrev pub event_in : List ℕ → Option Event
event_in line = part_then read_word behind_word line
