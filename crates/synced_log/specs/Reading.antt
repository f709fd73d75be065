-- Why a disk wasn't read.
use Rattle.std.specs.Prelude.{Result, Ok, Err}
use Rattle.synced_log.specs.declared.fault.OpenFault.{OpenFault}
use Rattle.synced_log.specs.declared.fault.OpenFault.TheVariants.{DiskFault, BadJournal, WrongOwner, OutOfMemory}

-- for want of memory, or because of a fault of the disk, which then had the cause
abbrev pub IsReadFault : {T : Type 0} → Type 0 → Result T OpenFault → Type 0
IsReadFault cause (Ok x) = Unit {0}
IsReadFault cause (Err DiskFault) = cause
IsReadFault cause (Err OutOfMemory) = Unit {0}
IsReadFault cause (Err (BadJournal offset)) = ⊥
IsReadFault cause (Err (WrongOwner found wanted)) = ⊥
