-- What contracts see of words that were read.
use Rattle.std.specs.Prelude.{map, option_map, string_bytes}
use Rattle.command_words.specs.Command.{Command, Reporting, Bins, Check, Load, replaying, running}
use Rattle.command_words.specs.Sorted.{Sorted}
use Rattle.command_words.specs.declared.command.Command.{Command as SaidCommand}
use Rattle.command_words.specs.declared.command.Command.TheVariants as said
use Rattle.command_words.specs.declared.command.Reporting.{Reporting as SaidReporting}
use Rattle.command_words.specs.declared.sorting.SortedWords.{SortedWords}

abbrev pub sorted_as : SortedWords → Sorted
sorted_as words = record {
  symbols = words.symbols;
  run = words.run;
  format = option_map (λ w. w.now) words.format;
  operands = map (λ w. w.now) words.operands.items;
}

abbrev pub reporting_as : SaidReporting → Reporting
reporting_as asked = record {
  options = asked.options;
  boot = string_bytes asked.boot;
  files = map string_bytes asked.files.items;
}

abbrev pub said_as : SaidCommand → Command
said_as (said.Run asked) = running (reporting_as asked)
said_as (said.Replay asked) = replaying (reporting_as asked)
said_as (said.Check boot) = Check (string_bytes boot)
said_as (said.Bins values) = Bins values.items
said_as (said.Load asked) = Load asked.run asked.scripts asked.events
