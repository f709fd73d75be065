-- What is printed of a fault.
use Rattle.std.specs.Prelude.{ℕ, List, ◌++◌, codes}
use Rattle.std.specs.Fmt.{decimal}
use Rattle.synced_log.specs.declared.fault.OpenFault.{OpenFault}
use Rattle.synced_log.specs.declared.fault.OpenFault.TheVariants.{DiskFault, BadJournal, WrongOwner, OutOfMemory}
use Rattle.synced_log.specs.declared.owner.Owner.{Owner}

-- F, k and the member's number, with a space between
abbrev pub owner_text : Owner → List ℕ
owner_text o = decimal o.f ++ (codes " " ++ (decimal o.k ++ (codes " " ++ decimal o.me)))

abbrev pub fault_text : OpenFault → List ℕ
fault_text DiskFault = codes "the disk failed"
fault_text (BadJournal offset) = codes "bad journal at byte " ++ decimal offset
fault_text (WrongOwner found wanted) = codes "wrong owner " ++ (owner_text found ++ (codes ", wanted " ++ owner_text wanted))
fault_text OutOfMemory = codes "out of memory"
