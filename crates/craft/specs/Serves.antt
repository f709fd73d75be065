-- What the command `node` does.
use Rattle.std.specs.Prelude.{◌≡◌, ◌⊎◌, ℕ, List, Option, IfSome}
use Rattle.command_words.specs.declared.command.NodeCommand.{NodeCommand}
use Rattle.craft_edge.specs.Causes.{Rose}
use Rattle.craft_edge.specs.Packets.{Packet}
use Rattle.entry_frames.specs.Durable.{Durable}
use Rattle.net_node.specs.Ends.{FaultCounts}
use Rattle.net_node.specs.NodeRun.{Served, node_run}
use Rattle.net_node.specs.Runs.{IsLeft, StopsAmong, WhereRun}
use Rattle.net_node.specs.Serving.{Edges}
use Rattle.node_shell.specs.Opening.{OpensAsBefore, StillOpens}
use Rattle.synced_log.specs.Journal.{owned}
use Rattle.synced_log.specs.Standing.{FaultsAs}
use Rattle.synced_log.specs.States.{OpensTo}
use Rattle.synced_log.specs.declared.fault.OpenFault.TheVariants as opening
use Rattle.synced_log.specs.declared.owner.Owner.{Owner}
use Rattle.world_model.specs.Nodes.{started}
use Rattle.craft.specs.declared.status.Status.{Status}
use Rattle.craft.specs.declared.status.Status.TheVariants.{Done, BadJournal, WrongOwner, SinkFault, DiskFault, LinkFault, NoMemory}

-- whose journal it is
abbrev pub owner_of : NodeCommand → Owner
owner_of node = owned node.shape node.me

-- what a disk tells before and after: the bytes that a read gives, and the images that a crash might then leave, and may leave now
pub record Files : Type 1 where
  pub before : Option (List ℕ)
  pub after : Option (List ℕ)
  pub might_leave : List ℕ → Type 0
  pub leaves : List ℕ → Type 0

-- a fact of the run of a member that starts anew over the state to which its file opens
abbrev pub RunsFrom : NodeCommand → (file : Option (List ℕ)) → Edges → (List ℕ → List Packet → Served → Type 0) → Type 0
RunsFrom node file edges Fact =
    (d : Durable) × IfSome file (λ bytes. OpensTo bytes (owner_of node) d) × WhereRun (started node.shape node.me d) node.seed edges Fact

-- all turns were made: just what the run prints was written and just what it sends was sent
abbrev pub RunsWhole : NodeCommand → Files → (before after : Edges) → Type 0
RunsWhole node files before after =
    RunsFrom node files.before before (λ text sent s. IsLeft text sent after (owner_of node) files.leaves (node_run node.places node.turns s))

-- it stopped within one of its turns
abbrev pub RunsPartly : NodeCommand → Files → (before after : Edges) → Type 0
RunsPartly node files before after =
    RunsFrom node files.before before (λ text sent s. StopsAmong node.places node.turns text sent after (owner_of node) files.leaves s)

-- The member didn't start: nothing was told. Each image that a crash may leave is one that it might have left before, or opens to
-- whatever state the file opened to.
abbrev pub NeverStarts : NodeCommand → Files → (before after : Edges) → Type 0
NeverStarts node files before after =
    (after ≡ before) × ((image : List ℕ) → files.leaves image → files.might_leave image ⊎ OpensAsBefore (owner_of node) files.before image)

-- What a status of `node` means. A file that is no journal of the member is as it was, and nothing was told. Else the member made
-- its turns, or a device failed, or memory was wanting, within one of them or before it started.
abbrev pub Serves : NodeCommand → Files → (before after : Edges) → (old new : FaultCounts) → Status → Type 0
Serves node files before after old new Done = RunsWhole node files before after
Serves node files before after old new (BadJournal disk offset) =
    (disk ≡ 0) × FaultsAs files.before (owner_of node) (opening.BadJournal offset) × (files.after ≡ files.before) × (after ≡ before)
Serves node files before after old new (WrongOwner found wanted) =
    FaultsAs files.before (owner_of node) (opening.WrongOwner found wanted) × (files.after ≡ files.before) × (after ≡ before)
Serves node files before after old new SinkFault = Rose old.sink new.sink × RunsPartly node files before after
Serves node files before after old new LinkFault = Rose old.link new.link × RunsPartly node files before after
Serves node files before after old new DiskFault = Rose old.disk new.disk × (NeverStarts node files before after ⊎ RunsPartly node files before after)
Serves node files before after old new NoMemory =
    (NeverStarts node files before after × StillOpens (owner_of node) files.before files.after) ⊎ RunsPartly node files before after
Serves node files before after old new _ = ⊥
