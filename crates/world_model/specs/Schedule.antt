-- A schedule as bytes: its words stand between single blanks, and each line says one event.
use Rattle.std.specs.Prelude.{ℕ, ◌+◌, List, [], ◌∷◌, length, Option, None, Some, Bool, true, false, ◌&&◌, ◌==◌, if◌then◌else◌, nat_le, nat_lt, codes}
use Rattle.std.specs.List.{slice_split}
use Rattle.std.specs.Option.{option_map}
use Rattle.std.specs.Str.{bytes_eq}
use Rattle.craft_base.specs.Shape.{Shape, members_of}
use Rattle.craft_base.specs.declared.command.Request.{Request}
use Rattle.world_model.specs.Calls.{request_in}
use Rattle.world_model.specs.Numbers.{number_of}
use Rattle.world_model.specs.declared.line.Inner.{Inner}
use Rattle.world_model.specs.declared.line.Inner.TheVariants.{Tick, Take, Call}
use Rattle.world_model.specs.declared.line.Line.{Line}
use Rattle.world_model.specs.declared.line.Line.TheVariants.{Do, Down, Up, Show, Stop}

-- the most lines of a schedule, and the most bytes of a line, its line feed counted
abbrev pub most_lines : ℕ
most_lines = 1_000_000

abbrev pub longest_line : ℕ
longest_line = 70_000

-- `tick i word`: the member is one of the cluster's
abbrev pub tick_of : Shape → Option ℕ → Option ℕ → Option Inner
tick_of shape None word = None
tick_of shape (Some member) None = None
tick_of shape (Some member) (Some word) = if nat_lt member (members_of shape) then Some (Tick member word) else None

-- `take m`: frames are numbered from 1
abbrev pub take_of : Option ℕ → Option Inner
take_of None = None
take_of (Some frame) = if nat_le 1 frame then Some (Take frame) else None

-- a member of the cluster
abbrev pub member_of : Shape → Option ℕ → Option ℕ
member_of shape None = None
member_of shape (Some member) = if nat_lt member (members_of shape) then Some member else None

-- `call i client seq op key value`
abbrev pub call_of : Option ℕ → Option Request → Option Inner
call_of None request = None
call_of (Some member) None = None
call_of (Some member) (Some request) = Some (Call member request)

abbrev pub tick_line : Shape → List ℕ → List ℕ → List ℕ → Option Inner
tick_line shape name member word = if bytes_eq name (codes "tick") then tick_of shape (number_of member) (number_of word) else None

abbrev pub take_line : List ℕ → List ℕ → Option Inner
take_line name frame = if bytes_eq name (codes "take") then take_of (number_of frame) else None

abbrev pub call_line : Shape → (name member client seq op key value : List ℕ) → Option Inner
call_line shape name member client seq op key value =
    if bytes_eq name (codes "call") then call_of (member_of shape (number_of member)) (request_in client seq op key value) else None

-- what the words of a line say that is to happen to a member
abbrev pub inner_of_words : Shape → List (List ℕ) → Option Inner
inner_of_words shape (name ∷ member ∷ word ∷ []) = tick_line shape name member word
inner_of_words shape (name ∷ frame ∷ []) = take_line name frame
inner_of_words shape (name ∷ member ∷ client ∷ seq ∷ op ∷ key ∷ value ∷ []) = call_line shape name member client seq op key value
inner_of_words shape _ = None

-- the words behind `down`, `up` or `show`: a member alone
abbrev pub member_of_words : Shape → List (List ℕ) → Option ℕ
member_of_words shape (member ∷ []) = member_of shape (number_of member)
member_of_words shape _ = None

-- `stop c b e`: the call is 1 to 4, the digit 0 or 1
abbrev pub stop_of : Option ℕ → Option ℕ → Option Inner → Option Line
stop_of (Some call) (Some digit) (Some inner) =
    if nat_le 1 call && nat_le call 4 && nat_le digit 1 then Some (Stop call (digit == 1) inner) else None
stop_of _ _ _ = None

-- the words behind `stop`
abbrev pub stop_of_words : Shape → List (List ℕ) → Option Line
stop_of_words shape (call ∷ digit ∷ words) = stop_of (number_of call) (number_of digit) (inner_of_words shape words)
stop_of_words shape _ = None

-- what the words of a line say
abbrev pub line_of_words : Shape → List (List ℕ) → Option Line
line_of_words shape [] = None
line_of_words shape (name ∷ words) =
    if bytes_eq name (codes "down") then option_map Down (member_of_words shape words)
    else if bytes_eq name (codes "up") then option_map Up (member_of_words shape words)
    else if bytes_eq name (codes "show") then option_map Show (member_of_words shape words)
    else if bytes_eq name (codes "stop") then stop_of_words shape words
    else option_map Do (inner_of_words shape (name ∷ words))

-- what a line says, without its line feed, or nothing where it is outside the grammar
abbrev pub line_in : Shape → List ℕ → Option Line
line_in shape text = line_of_words shape (slice_split (λ byte. byte == 32) text)

-- a line of an input, and whether its line feed stands
pub record TextLine : Type 0 where
  pub text : List ℕ
  pub ended : Bool

-- the lines with one more byte in front, which is no line feed
abbrev pub onto_first : ℕ → List TextLine → List TextLine
onto_first byte [] = record { text = byte ∷ []; ended = false } ∷ []
onto_first byte (line ∷ lines) = record line { text = byte ∷ line.text } ∷ lines

-- the lines of an input, each up to its line feed
abbrev pub lines_of : List ℕ → List TextLine
lines_of [] = []
lines_of (byte ∷ bytes) =
    if byte == 10 then record { text = []; ended = true } ∷ lines_of bytes else onto_first byte (lines_of bytes)

-- what the line with that number says, or nothing where the line is bad
abbrev pub line_at : Shape → ℕ → TextLine → Option Line
line_at shape number line =
    if line.ended && nat_le (length line.text + 1) longest_line && nat_le number most_lines then line_in shape line.text else None

-- the events of the good lines before the first bad one, and that one's number
pub record Reading : Type 0 where
  pub events : List Line
  pub bad : Option ℕ

-- a reading with one more event in front
abbrev pub with_event : Line → Reading → Reading
with_event event reading = record reading { events = event ∷ reading.events }

-- what a line with that number and the reading of those after it make together
abbrev pub reading_with : ℕ → Option Line → Reading → Reading
reading_with number None rest = record { events = []; bad = Some number }
reading_with number (Some event) rest = with_event event rest

-- lines are read in order, the first of them with that number
abbrev pub reading_from : Shape → ℕ → List TextLine → Reading
reading_from shape number [] = record { events = []; bad = None }
reading_from shape number (line ∷ lines) =
    reading_with number (line_at shape number line) (reading_from shape (number + 1) lines)

-- what an input says to a cluster
abbrev pub reading : Shape → List ℕ → Reading
reading shape bytes = reading_from shape 1 (lines_of bytes)
