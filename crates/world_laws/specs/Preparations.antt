-- How a preparation ends, over the words of `world_model`'s Preparing. After CRaft, newly elected leader.
use Rattle.std.specs.Prelude.{◌≡◌, ℕ, ◌+◌, ◌<◌, ◌≤◌, ◌⊎◌, List, [], ◌∷◌, ◌++◌, length, Bool, true, false, ◌==◌, if◌then◌else◌, Option, None, Some}
use Rattle.craft_base.specs.Shape.{IsShape, Shape}
use Rattle.entry_frames.specs.declared.message.Message.{Message}
use Rattle.entry_frames.specs.declared.message.Message.TheVariants as messages
use Rattle.entry_frames.specs.declared.peer.Peer.TheVariants as peers
use Rattle.entry_frames.specs.declared.role.Role.TheVariants.{Preparing, Leader}
use Rattle.leader_prep.specs.Decisions.{open_parts}
use Rattle.leader_prep.specs.Pages.{covers_in}
use Rattle.leader_prep.specs.Verdicts.{is_covered}
use Rattle.world_model.specs.Nodes.{Node}
use Rattle.world_model.specs.Preparing.{StaysAt, Waits, after_event, has_answered}
use Rattle.world_model.specs.Ranges.{NodeInRange}
use Rattle.world_model.specs.Rules.Prepare.{cursor_at}
use Rattle.world_model.specs.Turn.{Event, Frame, act_of}

-- ---- who is asked shows what it holds there

-- an answer shows what its sender holds at that index; of other messages nothing is said
abbrev pub ShowsAt : (index : ℕ) → Message → Type 0
ShowsAt index (messages.Peer sender receiver term (peers.Answer start last slots)) =
    covers_in (record { sender = sender; start = start; last = last; slots = slots }) index ≡ true
ShowsAt index _ = Unit {0}

abbrev pub AllShowAt : (index : ℕ) → List Message → Type 0
AllShowAt index [] = Unit {0}
AllShowAt index (m ∷ messages) = ShowsAt index m × AllShowAt index messages

-- so does each answer that a member sends, whatever its role, in the turn in which it is asked for what it holds from that index on
abbrev pub EachAnswerCovers : Type 0
EachAnswerCovers =
    (shape : Shape) (member : ℕ) (n : Node) (asker term start : ℕ) → IsShape shape → NodeInRange shape member n → 1 ≤ start →
    AllShowAt start (act_of (Frame (messages.Peer asker member term (peers.Ask start))) n).sends

-- ---- enough answers move the cursor

-- the node after these events
abbrev pub after_events : Node → List Event → Node
after_events n [] = n
after_events n (event ∷ events) = after_events (after_event event n) events

-- in the same term it leads, or prepares with a greater cursor
abbrev pub HasMovedOn : (term cursor : ℕ) → Node → Type 0
HasMovedOn term cursor n =
    (n.durable.term ≡ term)
    × (((n.volatile.role ≡ Preparing) × (next : ℕ) × (cursor_at n ≡ Some next) × (cursor < next)) ⊎ (n.volatile.role ≡ Leader))

-- A member prepares and has a cursor, and keeps both through some events. Where by the next one F others have answered, each showing what
-- it holds at the cursor, it has moved on after that.
abbrev pub EnoughAnswersMove : Type 0
EnoughAnswersMove =
    (term cursor : ℕ) (n : Node) (events : List Event) (event : Event) → Waits n.shape n.me n.durable n.volatile → StaysAt term cursor n events →
    is_covered n.shape n.me (λ member. has_answered term cursor member (events ++ event ∷ [])) ≡ true →
    HasMovedOn term cursor (after_event event (after_events n events))

-- ---- how often it can move

-- it prepares, before and after each of these events
abbrev pub Prepares : Node → List Event → Type 0
Prepares n [] = n.volatile.role ≡ Preparing
Prepares n (event ∷ events) = (n.volatile.role ≡ Preparing) × Prepares (after_event event n) events

abbrev pub is_same_cursor : Option ℕ → Option ℕ → Bool
is_same_cursor None None = true
is_same_cursor (Some one) (Some other) = one == other
is_same_cursor _ _ = false

-- in how many of these events the cursor becomes another
abbrev pub moves : Node → List Event → ℕ
moves n [] = 0
moves n (event ∷ events) =
    let now = after_event event n in (if is_same_cursor (cursor_at n) (cursor_at now) then 0 else 1) + moves now events

-- through a preparation the cursor moves at most as often as the log held parts above the commit index when it began
abbrev pub MovesAreParts : Type 0
MovesAreParts = (n : Node) (events : List Event) → Prepares n events → moves n events ≤ length (open_parts n.durable.commit n.durable.log)
