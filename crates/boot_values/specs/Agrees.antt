-- How an answer of a reader stands to its definition: want of memory is free, and all else is exact. This project's
-- own.
use Rattle.std.specs.Prelude.{◌≡◌, ◌≢◌, Result, Ok, Err}
use Rattle.boot_values.specs.declared.fault.BootFault.{BootFault}
use Rattle.boot_values.specs.declared.fault.BootFault.TheVariants.{NoMemory}

-- the value that is meant, or the fault that is meant
abbrev pub Agrees : {A : Type 0} → Result A BootFault → Result A BootFault → Type 0
Agrees (Ok a) meant = meant ≡ Ok a
Agrees (Err fault) meant = fault ≢ NoMemory → meant ≡ Err fault

-- the first fault stands: what comes behind it is not looked at
abbrev pub and_then : {A B : Type 0} → Result A BootFault → (A → Result B BootFault) → Result B BootFault
and_then (Ok a) f = f a
and_then (Err e) f = Err e
