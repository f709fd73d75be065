-- What `node` answers, by how its journal was opened and how its run ended.
use Rattle.std.proofs.Common.{◌≡◌, ◌≢◌, ◌≤◌, ◌⊎◌, ⊎_elim, ℕ, Bool, true, false, List, refl, inl, inr, subst, sym, arith}
use Rattle.std.specs.Prelude.{IfSome, IsTrue, None, Some, Option}
use Rattle.command_words.specs.declared.command.Command.{Command}
use Rattle.command_words.specs.declared.command.Command.TheVariants.{Node}
use Rattle.command_words.specs.declared.command.NodeCommand.{NodeCommand}
use Rattle.craft_edge.specs.DiskCalls.{DiskHistory}
use Rattle.entry_frames.specs.Durable.{Durable}
use Rattle.net_node.specs.Ends.{FaultCounts, HasEnded}
use Rattle.net_node.specs.NodeRun.{node_run}
use Rattle.net_node.specs.Runs.{IsLeft, StopsAmong, WhereRun}
use Rattle.net_node.specs.Serving.{CanLeave, Edges}
use Rattle.net_node.specs.declared.serve_end.ServeEnd.{ServeEnd}
use Rattle.net_node.specs.declared.serve_end.ServeEnd.TheVariants as serving
use Rattle.node_shell.specs.Opening.{LeavesFile, OpensAsBefore, StillOpens}
use Rattle.synced_log.specs.Crashes.{BeginsWithSync, TellsSame}
use Rattle.synced_log.specs.Standing.{FaultsAs}
use Rattle.synced_log.specs.States.{OpensTo}
use Rattle.synced_log.specs.declared.fault.OpenFault.{OpenFault}
use Rattle.synced_log.specs.declared.fault.OpenFault.TheVariants as opening
use Rattle.world_model.specs.Nodes.{started}
use Rattle.craft_edge.specs.Causes.{Rose}
use Rattle.craft.specs.Serves.{Files, RunsPartly, RunsWhole, Serves, owner_of}
use Rattle.craft.specs.declared.status.Status.{Status}
use Rattle.craft.specs.declared.status.Status.TheVariants.{NoMemory}
use Rattle.craft.specs.Statuses.{status_of_opening, status_of_serving}

module _ {D : Type 0} (seen : D → Option (List ℕ)) (tells_crash tells_past : D → Bool) (moment : D → ℕ) (may_leave : D → List ℕ → Type 0) (left_since : D → ℕ → List ℕ → Type 0) (history : D → Option DiskHistory) where
  leaves_by : (old new : D) (P : List ℕ → Type 0) (begins : BeginsWithSync tells_crash tells_past moment may_leave left_since history old new P) → IsTrue (tells_crash old)
      → (failed : Bool) → begins.failed ≡ failed → (image : List ℕ) → may_leave new image → may_leave old image ⊎ P image
  leaves_by old new P begins told true is image left = inl (begins.before.now told image (subst (λ (disk : D). may_leave disk image) (begins.ended is) left))
  leaves_by old new P begins told false is image left = inr ((begins.behind is).now (subst IsTrue (sym begins.before.same_crash) told) image left)

  -- what a crash leaves behind calls of which the first is a sync
  pub leaves_behind : (old new : D) (P : List ℕ → Type 0) → TellsSame seen tells_crash tells_past history old new
      → BeginsWithSync tells_crash tells_past moment may_leave left_since history old new P → (image : List ℕ) → CanLeave (tells_crash new) (seen new) (may_leave new) image
      → CanLeave (tells_crash old) (seen old) (may_leave old) image ⊎ P image
  leaves_behind old new P same begins image can =
      let told : IsTrue (tells_crash old) = subst IsTrue same.same_crash can.told in
      ⊎_elim (λ left. inl (record { told = told; read = subst IsTrue same.same_seen can.read; left = left })) (λ has. inr has)
      (leaves_by old new P begins told begins.failed refl image can.left)

fault_as : (node : NodeCommand) (files : Files) (edges : Edges) (old new : FaultCounts) (fault : OpenFault) → FaultsAs files.before (owner_of node) fault
    → LeavesFile fault (owner_of node) files.before files.after → ((image : List ℕ) → files.leaves image → files.might_leave image ⊎ OpensAsBefore (owner_of node) files.before image)
    → (fault ≡ opening.DiskFault → Rose old.disk new.disk) → Serves node files edges edges old new (status_of_opening fault)
fault_as node files edges old new opening.DiskFault faults leaves crash cause = (cause refl, inl (refl, crash))
fault_as node files edges old new (opening.BadJournal offset) faults leaves crash cause = (refl, faults, leaves, refl)
fault_as node files edges old new (opening.WrongOwner found wanted) faults leaves crash cause = (faults, leaves, refl)
fault_as node files edges old new opening.OutOfMemory faults leaves crash cause = inl ((refl, crash), leaves)

pub not_opened : (node : NodeCommand) (files : Files) (edges : Edges) (old new : FaultCounts) (fault : OpenFault) → FaultsAs files.before (owner_of node) fault
    → LeavesFile fault (owner_of node) files.before files.after → ((image : List ℕ) → files.leaves image → files.might_leave image ⊎ OpensAsBefore (owner_of node) files.before image)
    → (fault ≡ opening.DiskFault → Rose old.disk new.disk) → (status : Status) → status ≡ status_of_opening fault → Serves node files edges edges old new status
not_opened node files edges old new fault faults leaves crash cause status is =
    subst (λ told. Serves node files edges edges old new told) (sym is) (fault_as node files edges old new fault faults leaves crash cause)

still_same : (node : NodeCommand) (seen : Option (List ℕ)) → StillOpens (owner_of node) seen seen
still_same node None = tt
still_same node (Some file) = λ d opens. opens

-- nothing was done
pub never_started : (node : NodeCommand) (files : Files) (edges : Edges) (old new : FaultCounts) → files.after ≡ files.before → ((image : List ℕ) → files.leaves image → files.might_leave image)
    → Serves node files edges edges old new NoMemory
never_started node files edges old new same fewer =
    inl ((refl, λ image leaves. inl (fewer image leaves)), subst (λ after. StillOpens (owner_of node) files.before after) (sym same) (still_same node files.before))

rose_since : (a b c : ℕ) → a ≤ b → Rose b c → Rose a c
rose_since a b c later rose = omega (arith, later, rose)

ended_as : (node : NodeCommand) (files : Files) (before after : Edges) (old mid new : FaultCounts) (ending : ServeEnd)
    → (ending ≡ serving.Turns → RunsWhole node files before after) → (ending ≢ serving.Turns → RunsPartly node files before after)
    → (old.sink ≡ mid.sink) × (old.disk ≤ mid.disk) × (old.link ≡ mid.link) → HasEnded mid new ending
    → Serves node files before after old new (status_of_serving ending)
ended_as node files before after old mid new serving.Turns ran stopped later ended = ran refl
ended_as node files before after old mid new serving.SinkFault ran stopped later ended = (rose_since old.sink mid.sink new.sink (omega (arith, later.0)) ended, stopped (λ is. absurd cc))
ended_as node files before after old mid new serving.DiskFault ran stopped later ended = (rose_since old.disk mid.disk new.disk later.1 ended, inr (stopped (λ is. absurd cc)))
ended_as node files before after old mid new serving.LinkFault ran stopped later ended = (rose_since old.link mid.link new.link (omega (arith, later.2)) ended, stopped (λ is. absurd cc))
ended_as node files before after old mid new serving.NoMemory ran stopped later ended = inr (stopped (λ is. absurd cc))

-- the places with which it was served are the command's
pub served : (node : NodeCommand) (files : Files) (before after : Edges) (old mid new : FaultCounts) (ending : ServeEnd) (d : Durable) (places : List ℕ) → places ≡ node.places
    → IfSome files.before (λ bytes. OpensTo bytes (owner_of node) d)
    → (ending ≡ serving.Turns → WhereRun (started node.shape node.me d) node.seed before
    (λ text sent s. IsLeft text sent after (owner_of node) files.leaves (node_run places node.turns s)))
    → (ending ≢ serving.Turns → WhereRun (started node.shape node.me d) node.seed before
    (λ text sent s. StopsAmong places node.turns text sent after (owner_of node) files.leaves s))
    → (old.sink ≡ mid.sink) × (old.disk ≤ mid.disk) × (old.link ≡ mid.link) → HasEnded mid new ending
    → (status : Status) → status ≡ status_of_serving ending → Serves node files before after old new status
served node files before after old mid new ending d places same opens ran stopped later ended status is =
    subst (λ told. Serves node files before after old new told) (sym is)
    (ended_as node files before after old mid new ending
    (λ is. (d, opens, subst (λ p. WhereRun (started node.shape node.me d) node.seed before (λ text sent s. IsLeft text sent after (owner_of node) files.leaves (node_run p node.turns s))) same (ran is)))
    (λ not. (d, opens, subst (λ p. WhereRun (started node.shape node.me d) node.seed before (λ text sent s. StopsAmong p node.turns text sent after (owner_of node) files.leaves s)) same (stopped not)))
    later ended)

pub same_node : {command : Command} {one other : NodeCommand} → command ≡ Node one → command ≡ Node other → one ≡ other
same_node is same = cc

pub serves_for : (one other : NodeCommand) (files : Files) (before after : Edges) (old new : FaultCounts) (status : Status) → one ≡ other
    → Serves one files before after old new status → Serves other files before after old new status
serves_for one other files before after old new status same serves = subst (λ node. Serves node files before after old new status) same serves
