-- The commands, and the words that say them. This project's own.
use Rattle.std.specs.Prelude.{◌^◌, ◌-◌, ◌||◌, ◌&&◌, ℕ, Bool, if◌then◌else◌, nat_le, nat_lt, Option}
use Rattle.std.specs.Prelude.{None, Some, is_some, option_map, List, [], ◌∷◌, length, codes}
use Rattle.std.specs.Str.{bytes_eq}
use Rattle.std.specs.Str.Parse.{digits_value}
use Rattle.std.specs.Fmt.{decimal}
use Rattle.std.specs.Option.{option_and_then}
use Rattle.std.specs.List.{list_all, filter_map}
use Rattle.output_options.specs.declared.Format.{Format}
use Rattle.output_options.specs.declared.Format.TheVariants.{Statsd, Prom, Admin}
use Rattle.output_options.specs.declared.OutputOptions.{OutputOptions}
use Rattle.command_words.specs.Sorted.{Sorted, sorted}
use Rattle.load_scripts.specs.declared.limits.TheConstants.{MAX_SCRIPTS, MAX_SCRIPT_EVENTS}
use Rattle.file_reading.specs.declared.limits.TheConstants.{MAX_FILES}
use Rattle.command_words.specs.declared.limits.TheConstants.{MAX_VALUES}

-- a command, with what its words name
pub data Command : Type 0 where
  -- applies these files under that bootstrap side by side, a worker a file, and writes what the options ask for
  Run : (options : OutputOptions) (boot : List ℕ) (files : List (List ℕ)) → Command
  -- applies them one after another, and writes what the options ask for
  Replay : (options : OutputOptions) (boot : List ℕ) (files : List (List ℕ)) → Command
  -- loads that bootstrap
  Check : (boot : List ℕ) → Command
  -- writes the bins of these values
  Bins : (values : List ℕ) → Command
  -- makes scripts of that number of events each, and applies them, side by side where `run` is set
  Load : (run : Bool) (scripts events : ℕ) → Command

-- 1 to `most` words, each of which passes the test
abbrev pub are_some : (List ℕ → Bool) → ℕ → List (List ℕ) → Bool
are_some test most words = nat_le 1 (length words) && nat_le (length words) most && list_all test words

-- a name is not empty
abbrev pub is_name : List ℕ → Bool
is_name word = nat_lt 0 (length word)

abbrev pub are_files : List (List ℕ) → Bool
are_files words = are_some is_name MAX_FILES words

-- the decimal number from `least` to `most` that a word says, without leading zeros: the word is what is written for it
abbrev pub number_in : ℕ → ℕ → List ℕ → Option ℕ
number_in least most word =
    let n = digits_value 10 word in
    if bytes_eq word (decimal n) && (nat_le least n && nat_le n most) then Some n else None

abbrev pub value_in : List ℕ → Option ℕ
value_in word = number_in 0 (2 ^ 64 - 1) word

abbrev pub are_values : List (List ℕ) → Bool
are_values words = are_some (λ word. is_some (value_in word)) MAX_VALUES words

-- the format that a word names
abbrev pub format_in : List ℕ → Option Format
format_in word =
    if bytes_eq word (codes "statsd") then Some Statsd
    else (if bytes_eq word (codes "prom") then Some Prom
    else (if bytes_eq word (codes "admin") then Some Admin
    else None))

-- the format that was asked for; usually StatsD
abbrev pub format_asked : Option (List ℕ) → Option Format
format_asked None = Some Statsd
format_asked (Some name) = format_in name

-- what a run and a replay have in common
pub record Reporting : Type 0 where
  pub options : OutputOptions
  pub boot : List ℕ
  pub files : List (List ℕ)

-- `BOOT FILE..`, with 1 to 32 files
abbrev pub over_files : OutputOptions → List (List ℕ) → Option Reporting
over_files options [] = None
over_files options (boot ∷ files) =
    if is_name boot && are_files files
    then Some (record { options = options; boot = boot; files = files }) else None

-- `[--symbols] [--format F] BOOT FILE..`
abbrev pub reporting_in : Sorted → Option Reporting
reporting_in words = if words.run then None
    else option_and_then (λ format. over_files (record { format = format; symbols = words.symbols }) words.operands)
    (format_asked words.format)

abbrev pub running : Reporting → Command
running asked = Run asked.options asked.boot asked.files

abbrev pub replaying : Reporting → Command
replaying asked = Replay asked.options asked.boot asked.files

-- an option stands among the words that only a run or a replay takes
abbrev pub has_output_options : Sorted → Bool
has_output_options words = words.symbols || is_some words.format

-- `BOOT`
abbrev pub check_in : List (List ℕ) → Option Command
check_in (boot ∷ []) = if is_name boot then Some (Check boot) else None
check_in words = None

-- `V..`, with 1 to 64 values
abbrev pub bins_in : List (List ℕ) → Option Command
bins_in words = if are_values words then Some (Bins (filter_map value_in words)) else None

-- `W E`, with 1 to 32 scripts of 1 to 131,072 events
abbrev pub load_in : Bool → List (List ℕ) → Option Command
load_in run (w ∷ e ∷ []) = option_and_then (λ scripts. option_map (λ events. Load run scripts events)
    (number_in 1 MAX_SCRIPT_EVENTS e)) (number_in 1 MAX_SCRIPTS w)
load_in run words = None

abbrev pub check_of : Sorted → Option Command
check_of words = if has_output_options words || words.run then None else check_in words.operands

abbrev pub bins_of : Sorted → Option Command
bins_of words = if has_output_options words || words.run then None else bins_in words.operands

abbrev pub load_of : Sorted → Option Command
load_of words = if has_output_options words then None else load_in words.run words.operands

-- the command of that name, with these words behind it
abbrev pub command_named : List ℕ → Sorted → Option Command
command_named name words =
    if bytes_eq name (codes "run") then option_map running (reporting_in words)
    else (if bytes_eq name (codes "replay") then option_map replaying (reporting_in words)
    else (if bytes_eq name (codes "check") then check_of words
    else (if bytes_eq name (codes "bins") then bins_of words
    else (if bytes_eq name (codes "load") then load_of words
    else None))))

-- the command that these words say; None where they are no command
abbrev pub command : List (List ℕ) → Option Command
command [] = None
command (name ∷ words) = option_and_then (command_named name) (sorted words)
