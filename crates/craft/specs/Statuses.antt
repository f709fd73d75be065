-- The codes and the texts of the program's statuses.
use Rattle.std.specs.Prelude.{ℕ, List, [], ◌++◌, codes}
use Rattle.std.specs.Fmt.{decimal}
use Rattle.fragment_text.specs.declared.join_end.JoinEnd.{JoinEnd}
use Rattle.fragment_text.specs.declared.join_end.JoinEnd.TheVariants as joins
use Rattle.fragment_text.specs.declared.split_end.SplitEnd.{SplitEnd}
use Rattle.fragment_text.specs.declared.split_end.SplitEnd.TheVariants as splits
use Rattle.schedule_replay.specs.declared.replay_end.ReplayEnd.{ReplayEnd}
use Rattle.schedule_replay.specs.declared.replay_end.ReplayEnd.TheVariants as ends
use Rattle.craft_client.specs.declared.client_fault.ClientFault.{ClientFault}
use Rattle.craft_client.specs.declared.client_fault.ClientFault.TheVariants as asking
use Rattle.net_node.specs.declared.serve_end.ServeEnd.{ServeEnd}
use Rattle.net_node.specs.declared.serve_end.ServeEnd.TheVariants as serving
use Rattle.storm_run.specs.declared.storm_end.StormEnd.{StormEnd}
use Rattle.storm_run.specs.declared.storm_end.StormEnd.TheVariants as storms
use Rattle.synced_log.specs.Faults.{owner_text}
use Rattle.synced_log.specs.declared.fault.OpenFault.{OpenFault}
use Rattle.synced_log.specs.declared.fault.OpenFault.TheVariants as opening
use Rattle.synced_log.specs.declared.owner.Owner.{Owner}
use Rattle.craft.specs.declared.status.Status.{Status}
use Rattle.craft.specs.declared.status.Status.TheVariants.{Done, BadWords, BadSchedule, BadJournal, WrongOwner, SourceFault, SinkFault, DiskFault, LinkFault, NoAnswer, TooFew, NoMemory}

abbrev pub code_of_status : Status → ℕ
code_of_status Done = 0
code_of_status BadWords = 2
code_of_status (BadSchedule line) = 3
code_of_status (BadJournal disk offset) = 4
code_of_status (WrongOwner found wanted) = 5
code_of_status SourceFault = 6
code_of_status SinkFault = 7
code_of_status DiskFault = 8
code_of_status LinkFault = 9
code_of_status (NoAnswer sent) = 10
code_of_status (TooFew index) = 11
code_of_status NoMemory = 12

abbrev pub bad_schedule_line : ℕ → List ℕ
bad_schedule_line line = codes "craft: bad schedule at line " ++ decimal line ++ codes "\n"

abbrev pub bad_journal_line : (disk offset : ℕ) → List ℕ
bad_journal_line disk offset = codes "craft: bad journal " ++ (decimal disk ++ (codes " at byte " ++ (decimal offset ++ codes "\n")))

abbrev pub wrong_owner_line : (found wanted : Owner) → List ℕ
wrong_owner_line found wanted = codes "craft: wrong owner " ++ (owner_text found ++ (codes ", wanted " ++ (owner_text wanted ++ codes "\n")))

abbrev pub no_answer_line : ℕ → List ℕ
no_answer_line sent = codes "craft: no answer after " ++ decimal sent ++ codes " sends\n"

abbrev pub too_few_line : ℕ → List ℕ
too_few_line index = codes "craft: too few at " ++ decimal index ++ codes "\n"

abbrev pub text_of_status : Status → List ℕ
text_of_status Done = []
text_of_status BadWords = codes "craft: bad words\n"
text_of_status (BadSchedule line) = bad_schedule_line line
text_of_status (BadJournal disk offset) = bad_journal_line disk offset
text_of_status (WrongOwner found wanted) = wrong_owner_line found wanted
text_of_status SourceFault = codes "craft: source failed\n"
text_of_status SinkFault = codes "craft: sink failed\n"
text_of_status DiskFault = codes "craft: disk failed\n"
text_of_status LinkFault = codes "craft: link failed\n"
text_of_status (NoAnswer sent) = no_answer_line sent
text_of_status (TooFew index) = too_few_line index
text_of_status NoMemory = codes "craft: out of memory\n"

-- what a replay's end is to the program
abbrev pub status_of_end : ReplayEnd → Status
status_of_end ends.End = Done
status_of_end (ends.Bad line) = BadSchedule line
status_of_end ends.SourceFault = SourceFault
status_of_end ends.SinkFault = SinkFault
status_of_end ends.NoMemory = NoMemory

-- what a split's end is to the program
abbrev pub status_of_split : SplitEnd → Status
status_of_split splits.End = Done
status_of_split splits.TooLong = BadSchedule 1
status_of_split splits.SourceFault = SourceFault
status_of_split splits.SinkFault = SinkFault
status_of_split splits.NoMemory = NoMemory

-- what a join's end is to the program
abbrev pub status_of_join : JoinEnd → Status
status_of_join joins.End = Done
status_of_join (joins.Bad line) = BadSchedule line
status_of_join (joins.TooFew index) = TooFew index
status_of_join joins.SourceFault = SourceFault
status_of_join joins.SinkFault = SinkFault
status_of_join joins.NoMemory = NoMemory

-- what a storm's end is to the program
abbrev pub status_of_storm : StormEnd → Status
status_of_storm storms.End = Done
status_of_storm storms.SinkFault = SinkFault
status_of_storm storms.NoMemory = NoMemory

-- what a fault of opening a journal is to the program: it has one disk
abbrev pub status_of_opening : OpenFault → Status
status_of_opening opening.DiskFault = DiskFault
status_of_opening (opening.BadJournal offset) = BadJournal 0 offset
status_of_opening (opening.WrongOwner found wanted) = WrongOwner found wanted
status_of_opening opening.OutOfMemory = NoMemory

-- what a node's end is to the program
abbrev pub status_of_serving : ServeEnd → Status
status_of_serving serving.Turns = Done
status_of_serving serving.SinkFault = SinkFault
status_of_serving serving.DiskFault = DiskFault
status_of_serving serving.LinkFault = LinkFault
status_of_serving serving.NoMemory = NoMemory

-- what is told where a client has no reply
abbrev pub status_of_asking : ClientFault → Status
status_of_asking (asking.NoAnswer sent) = NoAnswer sent
status_of_asking asking.LinkFault = LinkFault
status_of_asking asking.OutOfMemory = NoMemory
