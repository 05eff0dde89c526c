-- What is said of a bootstrap that was not loaded. This project's own.
use Rattle.std.specs.Prelude.{ℕ, List, ◌++◌, codes}
use Rattle.std.specs.Fmt.{decimal}
use Rattle.boot_values.specs.BootFault.{boot_fault_text}
use Rattle.boot_values.specs.declared.fault.BootFault.{BootFault}
use Rattle.boot_values.specs.declared.fault.BootFault.TheVariants as wrong
use Rattle.boot_load.specs.declared.fault.LoadFault.{LoadFault}
use Rattle.boot_load.specs.declared.fault.LoadFault.TheVariants.{TooBig, Faulty, BadPattern, OpenFailed}
use Rattle.boot_load.specs.declared.fault.LoadFault.TheVariants.{ReadFailed, NoMemory}

abbrev pub faulty_line : BootFault → List ℕ
faulty_line wrong.NotJson = codes "boot: not json\n"
faulty_line (wrong.BadKey path) = codes "boot: bad key at " ++ (path ++ codes "\n")
faulty_line (wrong.BadTag i) = codes "boot: bad tag " ++ (decimal i ++ codes "\n")
faulty_line (wrong.BadBucket path) = codes "boot: bad bucket at " ++ (path ++ codes "\n")
faulty_line (wrong.OutOfRange path) = codes "boot: out of range at " ++ (path ++ codes "\n")
faulty_line wrong.NoMemory = codes "out of memory\n"

-- one line
abbrev pub boot_line : LoadFault → List ℕ
boot_line TooBig = codes "boot: too big\n"
boot_line (Faulty fault) = faulty_line fault
boot_line (BadPattern path) = codes "boot: bad pattern at " ++ (path ++ codes "\n")
boot_line OpenFailed = codes "boot: read failed\n"
boot_line (ReadFailed count) = codes "boot: read failed\n"
boot_line NoMemory = codes "out of memory\n"

-- without a path
abbrev pub load_fault_text : LoadFault → List ℕ
load_fault_text TooBig = codes "too big"
load_fault_text (Faulty fault) = boot_fault_text fault
load_fault_text (BadPattern path) = codes "bad pattern"
load_fault_text OpenFailed = codes "read failed"
load_fault_text (ReadFailed count) = codes "read failed"
load_fault_text NoMemory = codes "out of memory"
