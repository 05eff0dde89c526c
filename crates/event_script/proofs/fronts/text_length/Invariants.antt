use Rattle.std.proofs.Common.{◌≡◌, true, take}
use Rattle.std.specs.List.{list_all}
use Rattle.stat_defs.specs.Names.{is_printable_byte}
use Rattle.event_script.proofs.fronts.text_length.Given as goal

abbrev pub invariant-loop-at : goal.invariant-loop-at
invariant-loop-at l = list_all is_printable_byte (take l.at l.text) ≡ true
