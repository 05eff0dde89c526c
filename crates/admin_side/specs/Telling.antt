-- How a reading is told once its store came to its end (this project's own).
use Rattle.std.specs.Prelude.{List, take}
use Rattle.stat_defs.specs.declared.history.Entry.{Entry}
use Rattle.name_changes.specs.Changes.{newest}
use Rattle.run_ledger.specs.Told.{ReadTold}
use Rattle.admin_side.specs.Reader.{NamedRead}

-- the log that it found: of the whole log as many of the first entries as there were at the last change that it knew
abbrev pub told_at : List Entry → NamedRead → ReadTold
told_at log read = record { shown = read.shown; found = take (newest read.names) log }
