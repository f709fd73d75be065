-- What a note of the code adds to what a disk tells.
use Rattle.crash_disk.specs.Told.{Told, made_with, after_call, after_stop}
use Rattle.craft_edge.specs.DiskCalls.{DiskWork, Len, ReadAt, WriteAt, Sync}
use Rattle.crash_disk.specs.declared.past.Work.{Work}
use Rattle.crash_disk.specs.declared.past.Work.TheVariants as work
use Rattle.crash_disk.specs.declared.past.Note.{Note}
use Rattle.crash_disk.specs.declared.past.Note.TheVariants as note

-- what a call asks for
abbrev pub work_of : Work → DiskWork
work_of work.Len = Len
work_of (work.ReadAt at len) = ReadAt at len
work_of (work.WriteAt at bytes) = WriteAt at bytes.now
work_of work.Sync = Sync

abbrev pub after_note : Told → Note → Told
after_note told (note.Made bytes fail) = made_with bytes.now fail.now
after_note told (note.Call asked failed effect) = after_call told (work_of asked) failed effect
after_note told (note.Stop call keep) = after_stop told call keep
