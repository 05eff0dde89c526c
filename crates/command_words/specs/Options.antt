-- What `clap` is told of the words.
use Rattle.std.specs.Prelude.{◌≡◌, List, [], codes, Some, true, unwrap_or}
use Rattle.clap.specs.Words.{App, Row, Rule, Text, all_of, first_of, new_app, new_rule, one_of, with_rule}
use Rattle.clap.specs.Values.{bool_text}
use Rattle.command_words.specs.Sorted.{Sorted}
use Rattle.clap.specs.declared.builder.action.ArgAction.TheVariants.{Append, Set, SetTrue}

-- a command with no words of its own: no name of the program, no `--help` and no `--version`
abbrev pub bare : App
bare = record (new_app (codes "envoy_stats")) {
  top = record (new_app (codes "envoy_stats")).top {
    no_binary_name = true;
    disable_help_flag = true;
    disable_version_flag = true;
  };
}

-- an option that has no value
abbrev pub flag : Text → Rule
flag name = record (new_rule name) { long = Some name; action = Some SetTrue }

-- an option that has a value
abbrev pub valued : Text → Rule
valued name = record (new_rule name) { long = Some name; action = Some Set }

-- all operands
abbrev pub operands : Rule
operands = record (new_rule (codes "operands")) { action = Some Append }

abbrev pub app : App
app = with_rule
    (with_rule (with_rule (with_rule bare (flag (codes "symbols"))) (flag (codes "run"))) (valued (codes "format")))
    operands

-- the matches say this of the words
abbrev pub IsSaid : List Row → Sorted → Type 0
IsSaid rows s =
    (one_of (codes "symbols") rows ≡ Some (bool_text s.symbols)) × (one_of (codes "run") rows ≡ Some (bool_text s.run))
    × (first_of (codes "format") rows ≡ s.format) × (unwrap_or (all_of (codes "operands") rows) [] ≡ s.operands)
