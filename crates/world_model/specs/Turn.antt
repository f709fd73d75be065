-- One turn of a node: the rule that an event calls for, its records and its outputs in their order.
use Rattle.std.specs.Prelude.{ℕ, List, [], ◌∷◌, ◌++◌, map, Bool, true, false, ◌&&◌, ◌==◌, if◌then◌else◌, nat_lt}
use Rattle.craft_base.specs.declared.command.Request.{Request}
use Rattle.entry_frames.specs.Records.{Record, Cut, Whole}
use Rattle.entry_frames.specs.declared.message.Message.{Message}
use Rattle.entry_frames.specs.declared.message.Message.TheVariants as messages
use Rattle.entry_frames.specs.declared.output.Output.{Output}
use Rattle.entry_frames.specs.declared.output.Output.TheVariants as outputs
use Rattle.entry_frames.specs.declared.peer.Peer.{Peer}
use Rattle.entry_frames.specs.declared.peer.Peer.TheVariants as peers
use Rattle.entry_frames.specs.declared.role.Role.{Role}
use Rattle.entry_frames.specs.declared.role.Role.TheVariants.{Follower, Candidate, Preparing, Leader}
use Rattle.world_model.specs.Nodes.{Node}
use Rattle.world_model.specs.Rules.Acts.{Act, stays, followed_by, IsRecorded}
use Rattle.world_model.specs.Rules.Answer.{act_of_answer}
use Rattle.world_model.specs.Rules.Append.{act_of_append}
use Rattle.world_model.specs.Rules.Ask.{act_of_ask}
use Rattle.world_model.specs.Rules.Call.{act_of_call}
use Rattle.world_model.specs.Rules.Matched.{act_of_matched, act_of_refused}
use Rattle.world_model.specs.Rules.Terms.{act_of_term, act_of_lower_term}
use Rattle.world_model.specs.Rules.Tick.{act_of_tick}
use Rattle.world_model.specs.Rules.Vote.{act_of_vote_request}
use Rattle.world_model.specs.Rules.VoteReply.{act_of_vote_reply}
use Rattle.world_model.specs.Rules.Want.{act_of_want}
use Rattle.world_model.specs.declared.call.ClientReply.{ClientReply}

-- what a node is told
pub data Event : Type 0 where
  -- time passes; the clock's word chooses how long is long enough
  Tick : (word : ℕ) → Event
  -- a message comes
  Frame : Message → Event
  -- a client asks, at that place
  Call : (place : ℕ) → Request → Event

-- ---- the rule

-- what another member says in the node's own term
abbrev pub act_of_peer : Node → ℕ → Peer → Act
act_of_peer n sender (peers.Vote last_term last) = act_of_vote_request n sender last_term last
act_of_peer n sender (peers.VoteReply granted) = act_of_vote_reply n sender granted
act_of_peer n sender (peers.Append prev prev_term commit entries) = act_of_append n sender prev prev_term commit entries
act_of_peer n sender (peers.Matched prev count mask) = act_of_matched n sender prev count mask
act_of_peer n sender (peers.Refused next) = act_of_refused n sender next
act_of_peer n sender (peers.Ask start) = act_of_ask n sender start
act_of_peer n sender (peers.Answer start last slots) = act_of_answer n sender start last slots

-- a message of another member, by its term and then by what it says; of others nothing comes
abbrev pub act_of_message : Message → Node → Act
act_of_message (messages.Peer sender receiver term body) n =
    if nat_lt term n.durable.term then act_of_lower_term n sender body else followed_by (act_of_term term n) (λ now. act_of_peer now sender body)
act_of_message _ n = stays n

abbrev pub act_of_event : Event → Node → Act
act_of_event (Tick word) n = act_of_tick word n
act_of_event (Frame m) n = act_of_message m n
act_of_event (Call place request) n = act_of_call place request n

-- and then what a leader wants behind it
abbrev pub act_of : Event → Node → Act
act_of event n = followed_by (act_of_event event n) act_of_want

-- what outlives a crash is what the records of a turn leave, whatever a node is told
abbrev pub EveryTurnIsRecorded : Type 0
EveryTurnIsRecorded = (event : Event) (n : Node) → IsRecorded n (act_of event n)

-- ---- what is told of it

abbrev pub is_same_role : Role → Role → Bool
is_same_role Follower Follower = true
is_same_role Candidate Candidate = true
is_same_role Preparing Preparing = true
is_same_role Leader Leader = true
is_same_role _ _ = false

-- the role and the term, where one of them is another than before
abbrev pub role_outputs : Node → Node → List Output
role_outputs before now =
    if is_same_role before.volatile.role now.volatile.role && (before.durable.term == now.durable.term)
    then []
    else outputs.Role now.volatile.role now.durable.term ∷ []

-- whether what was removed was removed in a preparation: the node prepared the term in which it still is
abbrev pub is_preparation : Node → Node → Bool
is_preparation before now = is_same_role before.volatile.role Preparing && (before.durable.term == now.durable.term)

abbrev pub cut_outputs : Bool → List Record → List Output
cut_outputs prep [] = []
cut_outputs prep (Cut index ∷ records) = outputs.Cut index prep ∷ cut_outputs prep records
cut_outputs prep (_ ∷ records) = cut_outputs prep records

abbrev pub whole_outputs : List Record → List Output
whole_outputs [] = []
whole_outputs (Whole index bytes ∷ records) = outputs.Whole index ∷ whole_outputs records
whole_outputs (_ ∷ records) = whole_outputs records

-- the commit index, where it grew
abbrev pub commit_outputs : Node → Node → List Output
commit_outputs before now = if nat_lt before.durable.commit now.durable.commit then outputs.Commit now.durable.commit ∷ [] else []

-- what follows from the records of a turn and from its two ends
abbrev pub changes_told : Node → Act → List Output
changes_told before act =
    role_outputs before act.node
    ++ (cut_outputs (is_preparation before act.node) act.records ++ (whole_outputs act.records ++ commit_outputs before act.node))

abbrev pub reply_output : ClientReply → Output
reply_output r = outputs.Reply r.place r.client r.seq r.reply

-- the node after a turn, the records that are to be in its journal before anything is told, and what is told: first what changed,
-- then what clients are told, and then what is sent
pub record Turned : Type 0 where
  pub node : Node
  pub records : List Record
  pub outputs : List Output

abbrev pub turned : Node → Act → Turned
turned before act = record { node = act.node; records = act.records; outputs = changes_told before act ++ (map reply_output act.replies ++ map outputs.Send act.sends) }

abbrev pub turn : Event → Node → Turned
turn event n = turned n (act_of event n)
