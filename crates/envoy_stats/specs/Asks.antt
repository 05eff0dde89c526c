-- What a call is asked for. This project's own.
use Rattle.std.specs.Prelude.{◌≡◌, true, Option, Some, option_map}
use Rattle.std.specs.Option.{option_and_then}
use Rattle.command_words.specs.Command.{Command, Load, running}
use Rattle.command_words.specs.Views.{reporting_as, said_as}
use Rattle.stats_commands.specs.Quiet.{without_threads}
use Rattle.envoy_stats.specs.declared.asked.Asked.{Asked}
use Rattle.envoy_stats.specs.declared.asked.Asked.TheVariants as asked

-- the words say this command, which starts threads; or what they say starts none
abbrev pub Asks : Option Command → Asked → Type 0
Asks says (asked.Run files) = says ≡ Some (running (reporting_as files))
Asks says (asked.Load load) = says ≡ Some (Load true load.scripts load.events)
Asks says (asked.Quiet quiet) = (option_map said_as quiet ≡ says) × (option_and_then without_threads says ≡ says)
