-- What a call that writes a text answers. This project's own.
use Rattle.std.specs.Prelude.{ℕ, List, Result, Ok, Err}
use Rattle.stats_io.specs.States.{SinkState}
use Rattle.stats_io.specs.Push.{WritesWhole, WritesFront}
use Rattle.text_parts.specs.Gathered.{StopsWithin}
use Rattle.text_parts.specs.declared.fault.TextFault.{TextFault}
use Rattle.text_parts.specs.declared.fault.TextFault.TheVariants.{WriteFault, NoMemory}

-- the whole text was written; or a push failed, or memory did, and a front of it was written
abbrev pub IsTextAnswer : {T : Type 0} → SinkState → SinkState → List ℕ → Result T TextFault → Type 0
IsTextAnswer before after text (Ok _) = WritesWhole before after text
IsTextAnswer before after text (Err WriteFault) = WritesFront before after text
IsTextAnswer before after text (Err NoMemory) = StopsWithin before after text
