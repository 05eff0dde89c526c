-- The texts of the faults of a bootstrap, without a path. This project's own.
use Rattle.std.specs.Prelude.{ℕ, List, codes}
use Rattle.boot_values.specs.declared.fault.BootFault.{BootFault}
use Rattle.boot_values.specs.declared.fault.BootFault.TheVariants.{NotJson, BadKey, BadTag, BadBucket, OutOfRange}
use Rattle.boot_values.specs.declared.fault.BootFault.TheVariants.{NoMemory}

abbrev pub boot_fault_text : BootFault → List ℕ
boot_fault_text NotJson = codes "not json"
boot_fault_text (BadKey path) = codes "bad key"
boot_fault_text (BadTag i) = codes "bad tag"
boot_fault_text (BadBucket path) = codes "bad bucket"
boot_fault_text (OutOfRange path) = codes "out of range"
boot_fault_text NoMemory = codes "out of memory"
