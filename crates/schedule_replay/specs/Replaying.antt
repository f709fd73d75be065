-- What a replay reads and writes.
use Rattle.std.specs.Prelude.{◌≡◌, ℕ, ◌+◌, List, [], ◌++◌, length, Option, None, Some, IfSome, Bool, true, false}
use Rattle.std.specs.Io.KnownBytes.{Appends}
use Rattle.craft_base.specs.Shape.{Shape}
use Rattle.craft_edge.specs.Bytes.{AppendsPrefix}
use Rattle.craft_edge.specs.Causes.{Rose}
use Rattle.craft_edge.specs.Streams.{Streams, WhereBothTold}
use Rattle.line_input.specs.Lines.{HasNoLineFeed}
use Rattle.world_model.specs.Lines.{lines_of_run}
use Rattle.world_model.specs.Safety.{IsSafe}
use Rattle.world_model.specs.Schedule.{Reading, with_event, reading, reading_from, lines_of}
use Rattle.world_model.specs.Spelling.{IsLineOf}
use Rattle.world_model.specs.declared.line.Line.{Line}
use Rattle.schedule_replay.specs.declared.replay_end.ReplayEnd.{ReplayEnd}
use Rattle.schedule_replay.specs.declared.replay_end.ReplayEnd.TheVariants.{End, Bad, SourceFault, SinkFault, NoMemory}
use Rattle.schedule_replay.specs.declared.replaying.Next.{Next}
use Rattle.schedule_replay.specs.declared.replaying.Next.TheVariants as nexts
use Rattle.schedule_replay.specs.Worlds.{Kept, StandsFor}

-- The bytes are a good line, which says that event, and then those that are left: whatever follows the line is read behind it.
abbrev pub TakesLineOf : Shape → ℕ → Line → (bytes left : List ℕ) → Type 0
TakesLineOf shape number event bytes left =
    (line : List ℕ) × (bytes ≡ line ++ left)
    × ((rest : List ℕ) → reading_from shape number (lines_of (line ++ rest)) ≡ with_event event (reading_from shape (number + 1) (lines_of rest)))

-- What comes next was read: a line in range, and then what is still to come; or the line with that number is bad; or there was no
-- line any more.
abbrev pub ReadsNext : Shape → ℕ → Option (List ℕ) → Option (List ℕ) → Next → Type 0
ReadsNext shape number old new (nexts.Asked line) =
    IsLineOf shape line × WhereBothTold old new (TakesLineOf shape number line)
ReadsNext shape number old new nexts.Bad = IfSome old (λ before. reading_from shape number (lines_of before) ≡ record { events = []; bad = Some number })
ReadsNext shape number old new nexts.End = WhereBothTold old new (λ before after. (before ≡ []) × (after ≡ []))

-- the input has ended, or a line is left that is bad
abbrev pub end_or_bad : Bool → Next
end_or_bad true = nexts.End
end_or_bad false = nexts.Bad

-- nothing was read: the source failed, or memory was wanting
abbrev pub ReadsNone : ℕ → ℕ → ReplayEnd → Type 0
ReadsNone faults_before faults_now SourceFault = Rose faults_before faults_now
ReadsNone faults_before faults_now NoMemory = Unit {0}
ReadsNone faults_before faults_now _ = ⊥

-- Of what the bytes say: the first bad line is this one, if there is one; the text of the events before it was written; and
-- their run is safe.
pub record PrintsReading (shape : Shape) (bad : Option ℕ) (bytes : List ℕ) (taken now_taken : Option (List ℕ)) : Type 0 where
  pub first_bad : (reading shape bytes).bad ≡ bad
  pub text : Appends taken now_taken (lines_of_run shape (reading shape bytes).events)
  pub safe : IsSafe shape (reading shape bytes).events

-- every line was good, and nothing is left
abbrev pub PrintsAll : Shape → Streams → Streams → Type 0
PrintsAll shape before after = WhereBothTold before.left after.left (λ bytes rest. PrintsReading shape None bytes before.taken after.taken × (rest ≡ []))

-- the line with this number is the first bad one
abbrev pub PrintsUpTo : Shape → ℕ → Streams → Streams → Type 0
PrintsUpTo shape line before after = IfSome before.left (λ bytes. PrintsReading shape (Some line) bytes before.taken after.taken)

-- what was taken are good lines and then an unfinished one, and the text of the events of the good ones was written; their run is safe
abbrev pub PrintsTaken : Shape → Streams → Streams → Type 0
PrintsTaken shape before after =
    WhereBothTold before.left after.left (λ bytes rest.
    (events : List Line) × (good unfinished : List ℕ) × (bytes ≡ good ++ (unfinished ++ rest))
    × (reading shape good ≡ record { events = events; bad = None }) × HasNoLineFeed unfinished
    × Appends before.taken after.taken (lines_of_run shape events) × IsSafe shape events)

-- a first part of the text was written, of a run that is safe
abbrev pub PrintsPart : Shape → Streams → Streams → Type 0
PrintsPart shape before after =
    IfSome before.left (λ bytes.
    AppendsPrefix before.taken after.taken (lines_of_run shape (reading shape bytes).events) × IsSafe shape (reading shape bytes).events)

-- the text of the first so many events was written, and their run is safe
abbrev pub PrintsSome : Shape → Streams → Streams → Type 0
PrintsSome shape before after =
    IfSome before.left (λ bytes.
    (events more : List Line) × ((reading shape bytes).events ≡ events ++ more) × Appends before.taken after.taken (lines_of_run shape events)
    × IsSafe shape events)

-- how a replay ends early: by a device that failed, or for want of memory
abbrev pub EndsEarly : Shape → Streams → Streams → ReplayEnd → Type 0
EndsEarly shape before after SourceFault = Rose before.source_faults after.source_faults × PrintsTaken shape before after
EndsEarly shape before after SinkFault = Rose before.sink_faults after.sink_faults × PrintsPart shape before after
EndsEarly shape before after NoMemory = PrintsSome shape before after
EndsEarly shape before after _ = ⊥

-- how a replay ends: read to its end, at the first bad line, or early
abbrev pub Ends : Shape → Streams → Streams → ReplayEnd → Type 0
Ends shape before after End = PrintsAll shape before after
Ends shape before after (Bad line) = PrintsUpTo shape line before after
Ends shape before after SourceFault = EndsEarly shape before after SourceFault
Ends shape before after SinkFault = EndsEarly shape before after SinkFault
Ends shape before after NoMemory = EndsEarly shape before after NoMemory

-- the world of that cluster, which stands for the events that the bytes say
abbrev pub IsOfReading : Shape → Option (List ℕ) → Option Kept → Type 0
IsOfReading shape left None = ⊥
IsOfReading shape left (Some world) = (world.shape ≡ shape) × IfSome left (λ bytes. StandsFor world (reading shape bytes).events)

-- after a schedule that was read to its end or to its first bad line the world is handed back, and else none
abbrev pub HandsBack : Shape → Option (List ℕ) → ReplayEnd → Option Kept → Type 0
HandsBack shape left End world = IsOfReading shape left world
HandsBack shape left (Bad line) world = IsOfReading shape left world
HandsBack shape left _ world = world ≡ None

-- a reading that begins with these events
abbrev pub after_events : List Line → Reading → Reading
after_events events rest = record rest { events = events ++ rest.events }

-- The bytes are good lines, which say these events, and then those that are left: whatever follows these lines is read behind them.
abbrev pub TakesLinesOf : Shape → ℕ → List Line → (bytes left : List ℕ) → Type 0
TakesLinesOf shape number events bytes left =
    (good : List ℕ) × (bytes ≡ good ++ left)
    × ((rest : List ℕ) → reading shape (good ++ rest) ≡ after_events events (reading_from shape number (lines_of rest)))

-- So far these events were read, and were carried out and printed; the line with this number is the next.
pub record Progress (shape : Shape) (number : ℕ) (world : Kept) (left now_left taken now_taken : Option (List ℕ)) : Type 0 where
  pub of_shape : world.shape ≡ shape
  pub events : List Line
  pub counted : number ≡ 1 + length events
  pub reached : StandsFor world events
  pub text : Appends taken now_taken (lines_of_run shape events)
  pub read : WhereBothTold left now_left (TakesLinesOf shape number events)
