-- What opening leaves: a file that opens as before, and a member that keeps the state to which it opened.
use Rattle.std.proofs.Common.{◌≡◌, inl, inr, ⊎_elim, ℕ, Bool, List, ap, ◌∙◌, sym, subst, arith}
use Rattle.std.specs.Prelude.{None, Some, Option, IfSome, is_some}
use Rattle.craft_base.specs.Shape.{Shape}
use Rattle.craft_edge.specs.Disk.{OnlySeen}
use Rattle.craft_edge.specs.DiskCalls.{DiskHistory}
use Rattle.entry_frames.specs.Durable.{Durable}
use Rattle.log_store.proofs.Opened.{replayed_to}
use Rattle.node_core.specs.Stands as stands
use Rattle.node_shell.specs.Opening.{LeavesFile, MakesUpTo, OpensAsBefore, Replays, StillOpens}
use Rattle.node_shell.specs.Standing.{AllOpenTo, IsKept, owner_of}
use Rattle.synced_log.specs.declared.fault.OpenFault.{OpenFault}
use Rattle.synced_log.specs.declared.fault.OpenFault.TheVariants.{DiskFault, BadJournal, WrongOwner, OutOfMemory}
use Rattle.synced_log.specs.declared.owner.Owner.{Owner}
use Rattle.synced_log.specs.Calls as calls
use Rattle.synced_log.specs.Calls.{AllMade, IsOpening, IsSyncedReading}
use Rattle.synced_log.specs.Crashes.{BeginsWithSync}
use Rattle.synced_log.specs.Journal.{IsJournal, IsOpened, Kept, StaysAs, owned}
use Rattle.synced_log.specs.Standing.{FaultsAs, Opens, Stays}
use Rattle.synced_log.specs.States.{HoldsTo, OpensTo}
use Rattle.world_model.specs.Nodes.{Node}
use Rattle.synced_log.proofs.States.{OpenedTo, holds_opens, one_state, opened_to, stays_open}
use Rattle.synced_log.proofs.Watching.{leaves_less}

-- ---- a crash

pub opens_as_before : (o : Owner) (seen : Option (List ℕ)) (image : List ℕ) → Stays o seen image → OpensAsBefore o seen image
opens_as_before o None image stays = tt
opens_as_before o (Some file) image stays = λ d. stays_open o file image d stays

module _ {D : Type 0} (tells_crash tells_past : D → Bool) (moment : D → ℕ) (may_leave : D → List ℕ → Type 0) (left_since : D → ℕ → List ℕ → Type 0) (history : D → Option DiskHistory) where
  -- less is said of a run that begins with a sync
  pub begins_less : (old new : D) (P Q : List ℕ → Type 0) → ((image : List ℕ) → P image → Q image)
      → BeginsWithSync tells_crash tells_past moment may_leave left_since history old new P → BeginsWithSync tells_crash tells_past moment may_leave left_since history old new Q
  begins_less old new P Q weaker b = record {
    synced = b.synced;
    failed = b.failed;
    call = b.call;
    before = b.before;
    behind = λ well. leaves_less tells_crash tells_past moment may_leave left_since b.synced new P Q (λ crash. weaker) (b.behind well);
    ended = b.ended;
  }

-- all that a crash leaves opens to what a read gives
pub all_open : (seen : Option (List ℕ)) (may_leave : List ℕ → Type 0) (gate : ℕ) (core : stands.Kept) → IsKept seen gate core → OnlySeen seen may_leave
    → AllOpenTo seen may_leave (owner_of core) core.durable
all_open None may_leave gate core kept only = tt
all_open (Some file) may_leave gate core kept only = λ image left.
    subst (λ (l : List ℕ). OpensTo l (owner_of core) core.durable) (sym (only image left)) (holds_opens file gate (owner_of core) core.durable kept)

-- ---- the owner

-- a member's journal is that of the node for which it stands
pub same_owned : (core : stands.Kept) (n : Node) → stands.Stands core n → owner_of core ≡ owned n.shape n.me
same_owned core n is = ap (λ (s : Shape). owned s core.me) is.of_shape ∙ ap (λ (m : ℕ). owned n.shape m) is.of_me

-- ---- the state

-- what was read and replayed is what the file holds now
module _ (shape : Shape) (me : ℕ) (kept : Kept) (d : Durable) (of_shape : kept.shape ≡ shape) (replayed : Replays kept shape d) where
  module _ (old new : List ℕ) (gate : ℕ) (opened : IsOpened old new (owned shape me) gate kept) where
    to : OpenedTo old new gate (owned shape me) kept
    to = opened_to old new gate (owned shape me) kept opened

    same : d ≡ to.state
    same = replayed_to old new gate (owned shape me) kept to shape d of_shape replayed

    holds_now : HoldsTo new gate (owned shape me) d
    holds_now = subst (HoldsTo new gate (owned shape me)) (sym same) to.holds

    opened_before : OpensTo old (owned shape me) d
    opened_before = subst (OpensTo old (owned shape me)) (sym same) to.opened

  pub opened_file : (seen now : Option (List ℕ)) (gate : ℕ) → Opens seen now (owned shape me) gate kept → IfSome seen (λ file. OpensTo file (owned shape me) d)
  opened_file None now gate opens = tt
  opened_file (Some old) None gate opens = absurd opens
  opened_file (Some old) (Some new) gate opens = opened_before old new gate opens

  pub only_file : (seen now : Option (List ℕ)) (gate : ℕ) → Opens seen now (owned shape me) gate kept → IfSome seen (λ file. (e : Durable) → OpensTo file (owned shape me) e → e ≡ d)
  only_file None now gate opens = tt
  only_file (Some old) None gate opens = absurd opens
  only_file (Some old) (Some new) gate opens = λ e other. one_state old (owned shape me) e d (omega (arith, opens.room)) other (opened_before old new gate opens)

  pub kept_file : (seen now : Option (List ℕ)) (gate : ℕ) (core : stands.Kept) → Opens seen now (owned shape me) gate kept → is_some now ≡ is_some seen → owner_of core ≡ owned shape me → core.durable ≡ d
      → IsKept now gate core
  kept_file seen None gate core opens told owner durable = tt
  kept_file None (Some new) gate core opens told owner durable = absurd cc
  kept_file (Some old) (Some new) gate core opens told owner durable =
      subst (λ (o : Owner). HoldsTo new gate o core.durable) (sym owner) (subst (HoldsTo new gate (owned shape me)) (sym durable) (holds_now old new gate opens))

-- ---- the disk that is handed back

pub faults_memory : (seen : Option (List ℕ)) (o : Owner) → FaultsAs seen o OutOfMemory
faults_memory None o = tt
faults_memory (Some file) o = tt

still_same : (o : Owner) (seen : Option (List ℕ)) → StillOpens o seen seen
still_same o None = tt
still_same o (Some file) = λ d opens. opens

pub leaves_file : (fault : OpenFault) (o : Owner) (old new : Option (List ℕ)) → ((fault ≡ DiskFault → ⊥) → new ≡ old) → LeavesFile fault o old new
leaves_file DiskFault o old new same = tt
leaves_file (BadJournal offset) o old new same = same (λ e. absurd cc)
leaves_file (WrongOwner found wanted) o old new same = same (λ e. absurd cc)
leaves_file OutOfMemory o old new same = subst (StillOpens o old) (sym (same (λ e. absurd cc))) (still_same o old)

stays_opened : (old new : List ℕ) (o : Owner) (gate : ℕ) (kept : Kept) → IsOpened old new o gate kept → StaysAs o old new
stays_opened old new o gate kept opened =
    ⊎_elim (λ u. inr (u.0, inr (subst (IsJournal new o) u.2 opened.journal.journal))) (λ b. inl b.1) opened.from

pub still_opened : (seen now : Option (List ℕ)) (o : Owner) (gate : ℕ) (kept : Kept) → Opens seen now o gate kept → StillOpens o seen now
still_opened None None o gate kept opens = tt
still_opened None (Some new) o gate kept opens = tt
still_opened (Some old) None o gate kept opens = tt
still_opened (Some old) (Some new) o gate kept opens = λ d. stays_open o old new d (stays_opened old new o gate kept opens)

pub makes_up_to : (fault : OpenFault) (seen : Option (List ℕ)) (o : Owner) (old new : Option DiskHistory) → calls.MakesUpTo fault old new (IsOpening seen o) IsSyncedReading → MakesUpTo fault seen o old new
makes_up_to DiskFault seen o old new made = made
makes_up_to (BadJournal offset) seen o old new made = made
makes_up_to (WrongOwner found wanted) seen o old new made = made
makes_up_to OutOfMemory seen o old new made = inl made
