-- What is printed of a fault.
use Rattle.std.specs.Prelude.{ℕ, List, ◌++◌, codes}
use Rattle.std.specs.Fmt.{decimal}
use Rattle.entry_frames.specs.declared.fault.FrameFault.{FrameFault}
use Rattle.entry_frames.specs.declared.fault.FrameFault.TheVariants.{Short, Bad}

abbrev pub fault_text : FrameFault → List ℕ
fault_text Short = codes "short frame"
fault_text (Bad offset) = codes "bad frame at byte " ++ decimal offset
