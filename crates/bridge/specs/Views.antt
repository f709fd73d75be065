-- How the parts of a node look to the protocol.
use Rattle.std.specs.Prelude.{List, map}
use Rattle.craft_base.specs.declared.command.Entry.{Entry}
use Rattle.craft_base.specs.declared.command.Form.{Form}
use Rattle.craft_base.specs.declared.command.Form.TheVariants.{Whole, Part}
use Rattle.entry_frames.specs.declared.role.Role.{Role}
use Rattle.entry_frames.specs.declared.role.Role.TheVariants.{Follower, Candidate, Preparing, Leader}
use Rattle.protocol.specs.History as protocol
use Rattle.protocol.specs.Logs as slots

abbrev pub role_seen : Role → protocol.Role
role_seen Follower = protocol.Follower
role_seen Candidate = protocol.Candidate
role_seen Preparing = protocol.Preparing
role_seen Leader = protocol.Leading

abbrev pub mark_seen : Form → slots.Mark
mark_seen (Whole bytes) = slots.Whole
mark_seen (Part bytes) = slots.Part

-- an entry's term, and whether its value is held whole
abbrev pub slot_seen : Entry → slots.Slot
slot_seen entry = record { term = entry.term; mark = mark_seen entry.form }

abbrev pub log_seen : List Entry → List slots.Slot
log_seen log = map slot_seen log
