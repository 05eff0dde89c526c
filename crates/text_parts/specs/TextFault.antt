-- The texts of the faults of writing a text. This project's own.
use Rattle.std.specs.Prelude.{ℕ, List, codes}
use Rattle.text_parts.specs.declared.fault.TextFault.{TextFault}
use Rattle.text_parts.specs.declared.fault.TextFault.TheVariants.{WriteFault, NoMemory}

abbrev pub text_fault_text : TextFault → List ℕ
text_fault_text WriteFault = codes "write failed"
text_fault_text NoMemory = codes "out of memory"
