-- How a preparation ends.
use Rattle.std.specs.Prelude.{◌≡◌, ℕ, ◌≤◌, List, [], ◌∷◌, drop, Bool, true, false, ◌&&◌, ◌||◌, ◌==◌, nat_le, Some, slice_get}
use Rattle.craft_base.specs.Shape.{IsShape, Shape}
use Rattle.craft_base.specs.declared.command.Entry.{Entry}
use Rattle.entry_frames.specs.Durable.{Durable}
use Rattle.entry_frames.specs.declared.message.Message.TheVariants as messages
use Rattle.entry_frames.specs.declared.peer.Peer.TheVariants as peers
use Rattle.entry_frames.specs.declared.role.Role.{Role}
use Rattle.entry_frames.specs.declared.role.Role.TheVariants.{Preparing}
use Rattle.leader_prep.specs.Decisions.{cursor_of, open_parts}
use Rattle.leader_prep.specs.Pages.{Page, covers_in, is_shown, page_of}
use Rattle.leader_prep.specs.Verdicts.{is_covered}
use Rattle.world_model.specs.Nodes.{Node, Volatile, node_with}
use Rattle.world_model.specs.Ranges.{NodeInRange}
use Rattle.world_model.specs.Rules.Acts.{message_of}
use Rattle.world_model.specs.Rules.Ask.{page_from}
use Rattle.world_model.specs.Rules.Prepare.{cursor_at}
use Rattle.world_model.specs.Safety.{IsRun}
use Rattle.world_model.specs.Turn.{Event, Frame, act_of}
use Rattle.world_model.specs.World.{Member, run, volatile_of}
use Rattle.world_model.specs.declared.line.Line.{Line}

-- ---- who prepares waits

-- who prepares has a cursor, and too few members have shown what they hold there; of others nothing is said
abbrev pub WaitsAs : Role → Shape → (me commit : ℕ) → List Entry → List Page → Type 0
WaitsAs Preparing shape me commit log pages =
    (cursor : ℕ) × (cursor_of commit log ≡ Some cursor) × (is_covered shape me (λ member. is_shown member pages cursor) ≡ false)
WaitsAs _ shape me commit log pages = Unit {0}

abbrev pub Waits : Shape → (me : ℕ) → Durable → Volatile → Type 0
Waits shape me d v = WaitsAs v.role shape me d.commit d.log v.pages

-- so does each member after whatever events
abbrev pub EveryPreparingWaits : Type 0
EveryPreparingWaits =
    (shape : Shape) (events : List Line) → IsRun shape events → (me : ℕ) (m : Member) → slice_get (run shape events).members me ≡ Some m →
    Waits shape me m.durable (volatile_of m.running)

-- ---- what is asked for is shown

-- what a member shows where it is asked from an index on covers that index
abbrev pub AnswersCover : Type 0
AnswersCover =
    (shape : Shape) (member : ℕ) (n : Node) (asker start : ℕ) → IsShape shape → NodeInRange shape member n → 1 ≤ start →
    covers_in (page_of (message_of n (page_from n start) asker)) start ≡ true

-- ---- a stretch of a preparation

-- the node prepares in that term, and that is its cursor
abbrev pub IsAt : (term cursor : ℕ) → Node → Type 0
IsAt term cursor n = (n.volatile.role ≡ Preparing) × (n.durable.term ≡ term) × (cursor_at n ≡ Some cursor)

-- the node after an event
abbrev pub after_event : Event → Node → Node
after_event event n = let act = act_of event n in node_with n.shape n.me act.node.durable act.node.volatile

-- so it is before and after each of these events
abbrev pub StaysAt : (term cursor : ℕ) → Node → List Event → Type 0
StaysAt term cursor n [] = IsAt term cursor n
StaysAt term cursor n (event ∷ events) = IsAt term cursor n × StaysAt term cursor (after_event event n) events

-- whether a page shows what that member holds at the cursor, and begins at or before it
abbrev pub shows_at : Page → (cursor member : ℕ) → Bool
shows_at page cursor member = (page.sender == member) && nat_le page.start cursor && covers_in page cursor

-- whether a member answers by this in the term, and shows what it holds at the cursor
abbrev pub is_answer_of : (term cursor member : ℕ) → Event → Bool
is_answer_of term cursor member (Frame (messages.Peer sender receiver at (peers.Answer start last slots))) =
    (at == term) && shows_at (record { sender = sender; start = start; last = last; slots = slots }) cursor member
is_answer_of term cursor member _ = false

abbrev pub has_answered : (term cursor member : ℕ) → List Event → Bool
has_answered term cursor member [] = false
has_answered term cursor member (event ∷ events) = is_answer_of term cursor member event || has_answered term cursor member events

-- While the cursor stays, fewer than F others have answered so: the answer of the one that makes them F moves the cursor, or the node
-- leads then, or it prepares no longer.
abbrev pub EnoughMoveOn : Type 0
EnoughMoveOn =
    (term cursor : ℕ) (n : Node) (events : List Event) → Waits n.shape n.me n.durable n.volatile → StaysAt term cursor n events →
    is_covered n.shape n.me (λ member. has_answered term cursor member events) ≡ false

-- A turn after which it still prepares leaves the last of the parts that were open, in order. So the cursor, the first of them, moves at
-- most as often as there were parts when the preparation began.
abbrev pub PartsAreLeft : Type 0
PartsAreLeft =
    (n : Node) (event : Event) → n.volatile.role ≡ Preparing → (act_of event n).node.volatile.role ≡ Preparing →
    (decided : ℕ)
    × (open_parts (act_of event n).node.durable.commit (act_of event n).node.durable.log ≡ drop decided (open_parts n.durable.commit n.durable.log))
