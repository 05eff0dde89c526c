-- What contracts see of the source of a script.
use Rattle.std.specs.Prelude.{ℕ, List, [], ◌++◌, Some, drop}
use Rattle.stats_io.specs.States.{SourceState}
use Rattle.event_script.specs.Grammar.{lines_for}
use Rattle.load_scripts.specs.Load.{events_behind}
use Rattle.script_source.specs.declared.making.Making.{Making}

-- the bytes that are left: the rest of the line that is held, and the lines behind it
abbrev pub left_of : Making → List ℕ
left_of m = drop m.at m.line.bytes ++ lines_for (events_behind m.script m.x m.events)

-- it tells the bytes that are left, is of no file, and never fails
abbrev pub as_source : List ℕ → SourceState
as_source left = record { left = Some left; origin = []; faults = 0 }
