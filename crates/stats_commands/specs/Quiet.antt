-- The commands that start no thread. This project's own.
use Rattle.std.specs.Prelude.{ℕ, if◌then◌else◌, Option, Some, None, List}
use Rattle.std.specs.Option.{option_and_then}
use Rattle.command_words.specs.Command.{Command, Run, Load, command}

-- a run and a load side by side start threads, so they are no commands where none may be started
abbrev pub without_threads : Command → Option Command
without_threads (Run options boot files) = None
without_threads (Load run scripts events) = if run then None else Some (Load run scripts events)
without_threads other = Some other

abbrev pub quiet_command : List (List ℕ) → Option Command
quiet_command words = option_and_then without_threads (command words)
