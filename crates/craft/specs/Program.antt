-- What the program does for its words.
use Rattle.std.specs.Prelude.{◌≡◌, ℕ, List, [], ◌∷◌, Option, None, Some, Bool, true, false, slice_get}
use Rattle.command_words.specs.Words.{path_in, plan}
use Rattle.command_words.specs.declared.command.Command.{Command}
use Rattle.command_words.specs.declared.command.Command.TheVariants.{Replay, Node, Ask, Split, Join, Storm}
use Rattle.command_words.specs.declared.command.StormCommand.{StormCommand}
use Rattle.craft_base.specs.Shape.{Shape}
use Rattle.craft_client.specs.Telling.{LinkNow}
use Rattle.craft_edge.specs.Streams.{Streams}
use Rattle.fragment_text.specs.Joining.{JoinEnds}
use Rattle.fragment_text.specs.Splitting.{SplitEnds}
use Rattle.fragment_text.specs.declared.join_end.JoinEnd.TheVariants as joins
use Rattle.fragment_text.specs.declared.split_end.SplitEnd.TheVariants as splits
use Rattle.schedule_replay.specs.Replaying.{EndsEarly, PrintsAll, PrintsUpTo}
use Rattle.schedule_replay.specs.declared.replay_end.ReplayEnd.TheVariants as replays
use Rattle.storm_run.specs.Storms.{StormEnds}
use Rattle.storm_run.specs.declared.storm_end.StormEnd.{StormEnd}
use Rattle.storm_run.specs.declared.storm_end.StormEnd.TheVariants as storms
use Rattle.craft.specs.Asks.{Asks}
use Rattle.craft.specs.declared.status.Status.{Status}
use Rattle.craft.specs.declared.status.Status.TheVariants.{Done, BadSchedule, TooFew, SourceFault, SinkFault, NoMemory}

-- ---- what is opened for a command

abbrev pub is_node : Option Command → Bool
is_node (Some (Node node)) = true
is_node _ = false

-- the path of the journal of `node`
abbrev pub path_for : Option Command → Option (List ℕ) → List (List ℕ)
path_for (Some (Node node)) (Some path) = path ∷ []
path_for _ path = []

abbrev pub paths : List (List ℕ) → List (List ℕ)
paths words = path_for (plan words) (path_in words)

-- the place at which the member of `node` listens
abbrev pub place_for : Option Command → Option ℕ
place_for (Some (Node node)) = slice_get node.places node.me
place_for _ = None

abbrev pub place : List (List ℕ) → Option ℕ
place words = place_for (plan words)

-- what the devices of a command tell, its disk apart, and how often each has failed
pub record Devices : Type 0 where
  pub streams : Streams
  pub link : LinkNow
  pub readings : Option (List ℕ)

-- ---- replay, split, join

-- What a status of `replay` means: the whole input was read, every line of it was good, and exactly the text of the run was
-- written; or that line is the first bad one, and exactly the text of the events before it was written; or that device failed, or
-- memory was wanting, with as much of the text written as is told there.
abbrev pub Replays : Shape → Streams → Streams → Status → Type 0
Replays shape before after Done = PrintsAll shape before after
Replays shape before after (BadSchedule line) = PrintsUpTo shape line before after
Replays shape before after SourceFault = EndsEarly shape before after replays.SourceFault
Replays shape before after SinkFault = EndsEarly shape before after replays.SinkFault
Replays shape before after NoMemory = EndsEarly shape before after replays.NoMemory
Replays shape before after _ = ⊥

-- what a status of `split` means: an input that is too long is bad at line 1
abbrev pub Splits : Shape → Streams → Streams → Status → Type 0
Splits shape before after Done = SplitEnds shape before after splits.End
Splits shape before after (BadSchedule line) = (line ≡ 1) × SplitEnds shape before after splits.TooLong
Splits shape before after SourceFault = SplitEnds shape before after splits.SourceFault
Splits shape before after SinkFault = SplitEnds shape before after splits.SinkFault
Splits shape before after NoMemory = SplitEnds shape before after splits.NoMemory
Splits shape before after _ = ⊥

-- what a status of `join` means
abbrev pub Joins : Shape → Streams → Streams → Status → Type 0
Joins shape before after Done = JoinEnds shape before after joins.End
Joins shape before after (BadSchedule line) = JoinEnds shape before after (joins.Bad line)
Joins shape before after (TooFew index) = JoinEnds shape before after (joins.TooFew index)
Joins shape before after SourceFault = JoinEnds shape before after joins.SourceFault
Joins shape before after SinkFault = JoinEnds shape before after joins.SinkFault
Joins shape before after NoMemory = JoinEnds shape before after joins.NoMemory
Joins shape before after _ = ⊥

-- ---- storm

abbrev pub EndsAs : StormCommand → Streams → Streams → StormEnd → Type 0
EndsAs storm before after end =
    StormEnds storm.shape storm.seed storm.count before.taken after.taken before.sink_faults after.sink_faults end

-- what a status of `storm` means: the tally of its lines' run was written; or a first part of it, and the sink failed; or memory was
-- wanting, and nothing was written
abbrev pub Storms : StormCommand → Streams → Streams → Status → Type 0
Storms storm before after Done = EndsAs storm before after storms.End
Storms storm before after SinkFault = EndsAs storm before after storms.SinkFault
Storms storm before after NoMemory = EndsAs storm before after storms.NoMemory
Storms storm before after _ = ⊥

-- ---- any command

-- nothing was sent or taken, and the clock wasn't read
abbrev pub StaysAlone : (before after : Devices) → Type 0
StaysAlone before after = (after.link ≡ before.link) × (after.readings ≡ before.readings)

-- nothing was read, of the input or of the clock
abbrev pub ReadsNothing : (before after : Devices) → Type 0
ReadsNothing before after = (after.streams.left ≡ before.streams.left) × (after.readings ≡ before.readings)

-- what a status means of a command that has no disk
abbrev pub Answers : Command → (before after : Devices) → Status → Type 0
Answers (Replay shape) before after status = Replays shape before.streams after.streams status × StaysAlone before after
Answers (Split shape) before after status = Splits shape before.streams after.streams status × StaysAlone before after
Answers (Join shape) before after status = Joins shape before.streams after.streams status × StaysAlone before after
Answers (Ask ask) before after status = Asks ask before.streams after.streams before.link after.link status × ReadsNothing before after
Answers (Storm storm) before after status =
    Storms storm before.streams after.streams status × StaysAlone before after × ReadsNothing before after
Answers (Node node) before after status = Unit {0}

-- memory was wanting to read the words, and nothing was done
abbrev pub NeverBegins : (before after : Devices) → Status → Type 0
NeverBegins before after status = (status ≡ NoMemory) × (after ≡ before)
