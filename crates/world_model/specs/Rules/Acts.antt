-- What a rule makes of a node. What outlives a crash changes by records alone: the journal keeps them, and after a crash they are
-- all that is left of a turn.
use Rattle.std.specs.Prelude.{◌≡◌, ℕ, List, [], ◌∷◌, ◌++◌, map, filter, not, ◌==◌}
use Rattle.entry_frames.specs.Durable.{applied, after}
use Rattle.entry_frames.specs.Records.{Record}
use Rattle.entry_frames.specs.declared.message.Message.{Message}
use Rattle.entry_frames.specs.declared.message.Message.TheVariants as messages
use Rattle.entry_frames.specs.declared.peer.Peer.{Peer}
use Rattle.craft_base.specs.Knowledge.{members}
use Rattle.world_model.specs.Nodes.{Node, Volatile}
use Rattle.world_model.specs.declared.call.ClientReply.{ClientReply}

pub record Act : Type 0 where
  pub node : Node
  pub records : List Record
  -- to clients, and to other members
  pub replies : List ClientReply
  pub sends : List Message

-- the node as it is, nothing recorded and nothing told
abbrev pub stays : Node → Act
stays n = record { node = n; records = []; replies = []; sends = [] }

-- one record more, applied
abbrev pub recording : Record → Act → Act
recording r act =
    record act { node = record act.node { durable = applied act.node.durable r }; records = act.records ++ r ∷ [] }

-- these records more, applied in order
abbrev pub recording_all : List Record → Act → Act
recording_all records act =
    record act { node = record act.node { durable = after act.node.durable records }; records = act.records ++ records }

-- that as what a crash loses
abbrev pub keeping : Volatile → Act → Act
keeping volatile act = record act { node = record act.node { volatile = volatile } }

-- these replies to clients more
abbrev pub answering : List ClientReply → Act → Act
answering replies act = record act { replies = act.replies ++ replies }

-- these messages more
abbrev pub sending : List Message → Act → Act
sending sends act = record act { sends = act.sends ++ sends }

-- an act, and then that of a rule on what it leaves
abbrev pub followed_by : Act → (Node → Act) → Act
followed_by act rule =
    let next = rule act.node in
    record { node = next.node; records = act.records ++ next.records; replies = act.replies ++ next.replies; sends = act.sends ++ next.sends }

-- its records, applied in order, leave what outlives a crash of its node
abbrev pub IsRecorded : Node → Act → Type 0
IsRecorded n act = after n.durable act.records ≡ act.node.durable

-- a message of this node, in its term
abbrev pub message_of : Node → Peer → ℕ → Message
message_of n body receiver = messages.Peer n.me receiver n.durable.term body

-- all members but the node, in order
abbrev pub others : Node → List ℕ
others n = filter (λ member. not (member == n.me)) (members n.shape)

-- the same message to all others
abbrev pub messages_to_others : Node → Peer → List Message
messages_to_others n body = map (message_of n body) (others n)
