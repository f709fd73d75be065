-- What a running member is told, and what is left of its turn.
use Rattle.std.specs.Prelude.{◌≡◌, ℕ, [], All, ◌&&◌, ◌==◌, nat_lt, if◌then◌else◌, Option, None, Some}
use Rattle.craft_base.specs.Shape.{Shape}
use Rattle.entry_frames.specs.Bodies.{HaveSpellings}
use Rattle.entry_frames.specs.Durable.{CanApplyAll}
use Rattle.entry_frames.specs.Records.{record_spellings}
use Rattle.entry_frames.specs.declared.output.Output.{Output}
use Rattle.entry_frames.specs.declared.output.Output.TheVariants as outputs
use Rattle.entry_frames.specs.declared.role.Role.{Role}
use Rattle.world_model.specs.Nodes.{Node}
use Rattle.world_model.specs.Ranges.{EventInRange, HasSpelling, ReplyHasSpelling}
use Rattle.world_model.specs.Turn as turns
use Rattle.node_core.specs.declared.event.Event.{Event}
use Rattle.node_core.specs.declared.event.Event.TheVariants as events
use Rattle.node_core.specs.declared.turn.Turned.{Turned}
use Rattle.node_core.specs.Stands.{Kept, Stands}

abbrev pub event_of : Event → turns.Event
event_of (events.Tick word) = turns.Tick word
event_of (events.Frame view) = turns.Frame view.frame
event_of (events.Call place request) = turns.Call place request.now

-- a frame was read as one of that cluster
abbrev pub IsReadIn : Shape → Event → Type 0
IsReadIn shape (events.Frame view) = view.shape ≡ shape
IsReadIn shape _ = Unit {0}

-- a frame is of another member of the cluster to this one, and a request has a spelling
pub record IsFor (core : Kept) (event : Event) : Type 0 where
  pub ranged : EventInRange core.shape core.me (event_of event)
  pub read : IsReadIn core.shape event

-- the role and the term now, where one of them is another than before
abbrev pub change_of : Role → ℕ → Role → ℕ → Option Output
change_of role_before term_before role term =
    if turns.is_same_role role_before role && (term_before == term) then None else Some (outputs.Role role term)

-- the commit index now, where it grew
abbrev pub growth_of : ℕ → ℕ → Option Output
growth_of commit_before commit = if nat_lt commit_before commit then Some (outputs.Commit commit) else None

-- What is left of the turn of a member that stood for a node. The member is the same one of the same cluster, and stands for the
-- turn's node. The group spells the turn's records, each of which has a spelling and which can be applied, in order, to what the
-- member kept before, and it is empty only where there are none. The turn's outputs are told, and each message that is sent has a
-- spelling, and so has each reply.
pub record TurnedTo (before : Kept) (n : Node) (event : turns.Event) (core : Kept) (left : Turned) : Type 0 where
  pub node : Stands core (turns.turn event n).node
  pub same : (core.shape ≡ before.shape) × (core.me ≡ before.me)
  pub records : left.group ≡ record_spellings before.shape.need (turns.turn event n).records
  pub written : HaveSpellings before.shape.need (turns.turn event n).records
  pub apply : CanApplyAll before.shape before.durable (turns.turn event n).records
  pub empty : left.group ≡ [] → (turns.turn event n).records ≡ []
  pub outputs : left.outputs.items ≡ (turns.turn event n).outputs
  pub spelled : All (HasSpelling before.shape) (turns.act_of event n).sends
  pub replied : All (ReplyHasSpelling before.shape before.me) (turns.act_of event n).replies
