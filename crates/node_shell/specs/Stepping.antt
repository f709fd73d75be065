-- What a step of a member leaves.
use Rattle.std.specs.Prelude.{◌≡◌, ◌⊎◌, ℕ, Bool, List, [], ◌∷◌, All, None, Some, Option, ⊤}
use Rattle.craft_edge.specs.DiskCalls.{DiskHistory, DiskWork}
use Rattle.entry_frames.specs.Durable.{Durable}
use Rattle.entry_frames.specs.Records.{record_spellings}
use Rattle.node_core.specs.Stands.{Kept, Stands}
use Rattle.node_shell.specs.declared.outputs.Outputs.{Outputs}
use Rattle.node_shell.specs.Standing.{owner_of}
use Rattle.synced_log.specs.declared.owner.Owner.{Owner}
use Rattle.synced_log.specs.Calls.{after_calls}
use Rattle.synced_log.specs.Journal.{IsGroupOf}
use Rattle.synced_log.specs.Standing.{append_calls}
use Rattle.synced_log.specs.States.{OpensTo}
use Rattle.synced_log.specs.Stops.{StopsAppend}
use Rattle.world_model.specs.Nodes.{Node}
use Rattle.world_model.specs.Ranges.{HasSpelling, ReplyHasSpelling}
use Rattle.world_model.specs.Turn as turns

-- the member stands for the turn's node, the turn's outputs are told, and each reply and each message that is sent has a spelling
pub record StepsTo (before : Kept) (n : Node) (event : turns.Event) (core : Kept) (told : Outputs) : Type 0 where
  pub node : Stands core (turns.turn event n).node
  pub outputs : told.list.items ≡ (turns.turn event n).outputs
  pub replied : All (ReplyHasSpelling before.shape before.me) (turns.act_of event n).replies
  pub spelled : All (HasSpelling before.shape) (turns.act_of event n).sends

-- the body of the group that a turn adds to the journal, empty where it has no records
abbrev pub body_of_turn : Kept → turns.Event → Node → List ℕ
body_of_turn core event n = record_spellings core.shape.need (turns.turn event n).records

-- the calls of the disk that add a body at a closed gate: the four of `append`, and none where the body is empty
abbrev pub step_calls : ℕ → List ℕ → List DiskWork
step_calls gate [] = []
step_calls gate (byte ∷ body) = append_calls gate (byte ∷ body)

abbrev pub MakesStep : Kept → turns.Event → ℕ → Option DiskHistory → Option DiskHistory → Type 0
MakesStep core event gate old new = (n : Node) → Stands core n → new ≡ after_calls old (step_calls gate (body_of_turn core event n))

-- ---- what a crash leaves

-- where the disk tells what a read gives: the image opens to the state before or after
abbrev pub OpensToEither : Option (List ℕ) → Owner → Durable → Durable → List ℕ → Type 0
OpensToEither None o before after image = ⊤
OpensToEither (Some file) o before after image = OpensTo image o before ⊎ OpensTo image o after

-- the state before or after the turn, of whatever node the member stood for
abbrev pub BeforeOrAfter : Option (List ℕ) → Kept → turns.Event → List ℕ → Type 0
BeforeOrAfter seen core event image = (n : Node) → Stands core n → OpensToEither seen (owner_of core) n.durable (turns.turn event n).node.durable image

-- the turn has records, which can be applied to what the member kept, and a call of `append` for their group failed
pub record StopsStep {D : Type 0} (seen : D → Option (List ℕ)) (tells_crash : D → Bool) (may_leave : D → List ℕ → Type 0) (history : D → Option DiskHistory)
    (old new : D) (gate : ℕ) (core : Kept) (event : turns.Event) (n : Node) : Type 0 where
  pub group : IsGroupOf core.shape core.durable (turns.turn event n).records
  pub stops : StopsAppend seen tells_crash may_leave history old new gate (body_of_turn core event n)
