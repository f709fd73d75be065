-- The text of a run: for each event its number and verdict, and a line for each output.
use Rattle.std.specs.Prelude.{ℕ, ◌+◌, List, [], ◌∷◌, ◌++◌, length, codes, Bool, true, false, Option, None, Some}
use Rattle.std.specs.Fmt.{decimal}
use Rattle.hex.specs.Hex.{encode_lower}
use Rattle.craft_base.specs.Shape.{Shape}
use Rattle.craft_base.specs.declared.command.Entry.{Entry}
use Rattle.craft_base.specs.declared.command.Op.{Op}
use Rattle.craft_base.specs.declared.command.Op.TheVariants as ops
use Rattle.craft_base.specs.declared.command.Form.{Form}
use Rattle.craft_base.specs.declared.command.Form.TheVariants.{Whole, Part}
use Rattle.craft_base.specs.declared.command.Reply.{Reply}
use Rattle.craft_base.specs.declared.command.Reply.TheVariants as replies
use Rattle.entry_frames.specs.Durable.{Durable}
use Rattle.entry_frames.specs.declared.peer.Peer.{Peer}
use Rattle.entry_frames.specs.declared.peer.Peer.TheVariants as peers
use Rattle.entry_frames.specs.declared.message.Message.{Message}
use Rattle.entry_frames.specs.declared.message.Message.TheVariants as messages
use Rattle.entry_frames.specs.declared.output.Output.{Output}
use Rattle.entry_frames.specs.declared.output.Output.TheVariants as outputs
use Rattle.entry_frames.specs.declared.role.Role.{Role}
use Rattle.entry_frames.specs.declared.role.Role.TheVariants.{Follower, Candidate, Preparing, Leader}
use Rattle.world_model.specs.World.{World, Happened, start, step}
use Rattle.world_model.specs.declared.line.Line.{Line}
use Rattle.world_model.specs.declared.verdict.Verdict.{Verdict}
use Rattle.world_model.specs.declared.verdict.Verdict.TheVariants.{Done, NoFrame, Skip, Stop}

-- words between single blanks, and a line feed
abbrev pub line_of : List (List ℕ) → List ℕ
line_of [] = codes "\n"
line_of (word ∷ []) = word ++ codes "\n"
line_of (word ∷ next ∷ words) = word ++ 32 ∷ line_of (next ∷ words)

-- ---- words

abbrev pub role_word : Role → List ℕ
role_word Follower = codes "follower"
role_word Candidate = codes "candidate"
role_word Preparing = codes "preparing"
role_word Leader = codes "leader"

abbrev pub verdict_word : Verdict → List ℕ
verdict_word Done = codes "done"
verdict_word NoFrame = codes "none"
verdict_word Skip = codes "skip"
verdict_word Stop = codes "stop"

abbrev pub yes_or_no : Bool → List ℕ
yes_or_no true = codes "yes"
yes_or_no false = codes "no"

-- why entries were removed: in a preparation, or since a leader's log differs there
abbrev pub cut_word : Bool → List ℕ
cut_word true = codes "prep"
cut_word false = codes "lead"

-- bytes in lower case hexadecimal digits, and `-` for none
abbrev pub bytes_word : List ℕ → List ℕ
bytes_word [] = codes "-"
bytes_word (byte ∷ bytes) = encode_lower (byte ∷ bytes)

-- a byte as two of these digits
abbrev pub byte_word : ℕ → List ℕ
byte_word byte = encode_lower (byte ∷ [])

-- a member's number, and `-` for none
abbrev pub member_word : Option ℕ → List ℕ
member_word None = codes "-"
member_word (Some member) = decimal member

abbrev pub form_letter : Form → List ℕ
form_letter (Whole bytes) = codes "w"
form_letter (Part bytes) = codes "p"

abbrev pub form_letters : List Entry → List ℕ
form_letters [] = []
form_letters (entry ∷ entries) = form_letter entry.form ++ form_letters entries

-- the forms of entries, one letter each, and `-` for none
abbrev pub forms_word : List Entry → List ℕ
forms_word [] = codes "-"
forms_word (entry ∷ entries) = form_letters (entry ∷ entries)

-- what one member says to another: its name, its term and its fields
abbrev pub peer_words : ℕ → Peer → List (List ℕ)
peer_words term (peers.Vote last_term last) = codes "vote" ∷ decimal term ∷ decimal last_term ∷ decimal last ∷ []
peer_words term (peers.VoteReply granted) = codes "voted" ∷ decimal term ∷ yes_or_no granted ∷ []
peer_words term (peers.Append prev prev_term commit entries) =
    codes "append" ∷ decimal term ∷ decimal prev ∷ decimal prev_term ∷ decimal commit ∷ forms_word entries ∷ []
peer_words term (peers.Matched prev count mask) = codes "matched" ∷ decimal term ∷ decimal prev ∷ decimal count ∷ byte_word mask ∷ []
peer_words term (peers.Refused next) = codes "refused" ∷ decimal term ∷ decimal next ∷ []
peer_words term (peers.Ask start) = codes "ask" ∷ decimal term ∷ decimal start ∷ []
peer_words term (peers.Answer start last slots) = codes "answer" ∷ decimal term ∷ decimal start ∷ decimal last ∷ forms_word slots ∷ []

-- a message of one member to another: who sends and who receives it, and what it says
abbrev pub message_words : Message → List (List ℕ)
message_words (messages.Peer sender receiver term body) = decimal sender ∷ decimal receiver ∷ peer_words term body
message_words _ = []

-- what a client is told
abbrev pub reply_words : Reply → List (List ℕ)
reply_words (replies.Done version) = codes "done" ∷ decimal version ∷ []
reply_words (replies.Differs version) = codes "differs" ∷ decimal version ∷ []
reply_words (replies.Gone was_there) = codes "gone" ∷ yes_or_no was_there ∷ []
reply_words (replies.Value version bytes) = codes "value" ∷ decimal version ∷ bytes_word bytes ∷ []
reply_words replies.Nothing = codes "nothing" ∷ []
reply_words replies.Old = codes "old" ∷ []
reply_words (replies.Elsewhere hint) = codes "elsewhere" ∷ member_word hint ∷ []
reply_words replies.Preparing = codes "preparing" ∷ []
reply_words replies.Busy = codes "busy" ∷ []
reply_words replies.Full = codes "full" ∷ []

-- ---- lines

-- the words of an output of a member; what it sends has the frame number
abbrev pub output_words : ℕ → ℕ → Output → List (List ℕ)
output_words me frame (outputs.Role role term) = codes "role" ∷ decimal me ∷ role_word role ∷ decimal term ∷ []
output_words me frame (outputs.Cut index prepares) = codes "cut" ∷ decimal me ∷ decimal index ∷ cut_word prepares ∷ []
output_words me frame (outputs.Whole index) = codes "whole" ∷ decimal me ∷ decimal index ∷ []
output_words me frame (outputs.Commit index) = codes "commit" ∷ decimal me ∷ decimal index ∷ []
output_words me frame (outputs.Reply place client seq reply) = codes "reply" ∷ decimal me ∷ decimal client ∷ decimal seq ∷ reply_words reply
output_words me frame (outputs.Send m) = codes "send" ∷ decimal frame ∷ message_words m

abbrev pub output_line : ℕ → ℕ → Output → List ℕ
output_line me frame output = line_of (output_words me frame output)

-- the frame number after an output
abbrev pub next_frame : ℕ → Output → ℕ
next_frame frame (outputs.Send m) = frame + 1
next_frame frame _ = frame

-- a line for each output; frame is the number of the next one that is sent
abbrev pub output_lines : ℕ → ℕ → List Output → List ℕ
output_lines me frame [] = []
output_lines me frame (output ∷ outputs) = output_line me frame output ++ output_lines me (next_frame frame output) outputs

-- ---- what is shown

abbrev pub op_word : Op → List ℕ
op_word ops.Noop = codes "noop"
op_word ops.Put = codes "put"
op_word (ops.PutIf version) = codes "putif=" ++ decimal version
op_word ops.Del = codes "del"
op_word ops.Get = codes "get"

-- the bytes that are held of a value
abbrev pub form_bytes : Form → List ℕ
form_bytes (Whole bytes) = bytes
form_bytes (Part bytes) = bytes

-- an entry of a log: its index, its term, its form, its head, and the bytes that are held
abbrev pub entry_words : ℕ → Entry → List (List ℕ)
entry_words index e =
    codes "entry" ∷ decimal index ∷ decimal e.term ∷ form_letter e.form ∷ op_word e.head.op ∷ decimal e.head.client ∷ decimal e.head.seq
    ∷ bytes_word e.head.key ∷ decimal e.head.vlen ∷ bytes_word (form_bytes e.form) ∷ []

-- a line for each entry, the first of which has that index
abbrev pub entry_lines : ℕ → List Entry → List ℕ
entry_lines index [] = []
entry_lines index (e ∷ log) = line_of (entry_words index e) ++ entry_lines (index + 1) log

-- what outlives a crash of a member: its term, its vote, its last index and its commit index, and its log
abbrev pub show_lines : ℕ → Durable → List ℕ
show_lines me d =
    line_of (codes "node" ∷ decimal me ∷ decimal d.term ∷ member_word d.vote ∷ decimal (length d.log) ∷ decimal d.commit ∷ [])
    ++ entry_lines 1 d.log

abbrev pub shown_lines : ℕ → Option Durable → List ℕ
shown_lines me None = []
shown_lines me (Some d) = show_lines me d

-- ---- events

-- an event's number and verdict, a line for each output, and what is shown; frame is the number of the next one that is sent
abbrev pub event_lines : ℕ → ℕ → Happened → List ℕ
event_lines number frame h =
    line_of (decimal number ∷ verdict_word h.verdict ∷ []) ++ output_lines h.member frame h.outputs ++ shown_lines h.member h.shown

-- what is printed of an event that happened to a world
abbrev pub event_text : ℕ → World → Happened → List ℕ
event_text number before h = event_lines number (length before.sent + 1) h

-- the text of events from a world on, the first of which has that number
abbrev pub lines_from : ℕ → World → List Line → List ℕ
lines_from number w [] = []
lines_from number w (event ∷ events) = event_text number w (step w event) ++ lines_from (number + 1) (step w event).world events

-- the text of a run
abbrev pub lines_of_run : Shape → List Line → List ℕ
lines_of_run shape events = lines_from 1 (start shape) events
