-- What a leader keeps of the value that it wants, as its log changes.
use Rattle.std.proofs.Common.{◌≡◌, ℕ, zero, suc, false, List, [], ◌∷◌, ◌++◌, Option, None, Some, ap, sym, ◌∙◌}
use Rattle.std.specs.Prelude.{◌&&◌, slice_get}
use Rattle.craft_base.specs.Shape.{Shape}
use Rattle.craft_base.specs.declared.command.Entry.{Entry}
use Rattle.entry_frames.specs.Durable.{Durable, applied}
use Rattle.entry_frames.specs.Logs.{entry_at}
use Rattle.entry_frames.specs.Records.{Record, Term, Add, Cut, Whole, Commit}
use Rattle.entry_frames.specs.declared.role.Role.{Role}
use Rattle.entry_frames.specs.declared.role.Role.TheVariants.{Follower, Candidate, Preparing, Leader}
use Rattle.gather_read.specs.declared.gather.Gather.{Gather}
use Rattle.leader_prep.specs.Decisions.{if_part}
use Rattle.leader_prep.specs.Pages.{Page}
use Rattle.world_model.specs.Rules.Want.{part_at}
use Rattle.world_model.proofs.Ranges.Want.{part_there}
use Rattle.node_core.specs.declared.act.Act.{Act}
use Rattle.node_core.specs.Acting.{IsIdle, Recorded, is_gathering, is_of_entries}
use Rattle.node_core.specs.Stands.{IsGathering}

got_longer : (log more : List Entry) (place : ℕ) (e : Entry) → slice_get log place ≡ Some e → slice_get (log ++ more) place ≡ Some e
got_longer [] more place e here = cc
got_longer (first ∷ log) more zero e here = here
got_longer (first ∷ log) more (suc place) e here = got_longer log more place e here

entry_longer : (log more : List Entry) (index : ℕ) (e : Entry) → entry_at log index ≡ Some e → entry_at (log ++ more) index ≡ Some e
entry_longer log more zero e here = cc
entry_longer log more (suc place) e here = got_longer log more place e here

-- a part of a log is a part of a longer one
part_longer : (log more : List Entry) (index : ℕ) (own : Entry) → part_at log index ≡ Some own → part_at (log ++ more) index ≡ Some own
part_longer log more index own there =
    let here : entry_at log index ≡ Some own = (part_there log index own there).0 in
    ap if_part (entry_longer log more index own here) ∙ ap if_part (sym here) ∙ there

module _ (shape : Shape) (me : ℕ) (pages : List Page) (want : Option ℕ) where
  -- who keeps nothing of it keeps nothing of any log
  pub idle_gathers : (role : Role) (own : Option Gather) (log other : List Entry) → is_gathering role own ≡ false →
      IsGathering role own shape me log pages want → IsGathering role own shape me other pages want
  idle_gathers Follower own log other idle kept = tt
  idle_gathers Candidate own log other idle kept = tt
  idle_gathers Preparing own log other idle kept = tt
  idle_gathers Leader None log other idle kept = kept
  idle_gathers Leader (Some gather) log other idle kept = cc

  longer_gathers : (role : Role) (own : Option Gather) (log more : List Entry) →
      IsGathering role own shape me log pages want → IsGathering role own shape me (log ++ more) pages want
  longer_gathers Follower own log more kept = tt
  longer_gathers Candidate own log more kept = tt
  longer_gathers Preparing own log more kept = tt
  longer_gathers Leader None log more kept = kept
  longer_gathers Leader (Some gather) log more kept = record {
    index = kept.index;
    own = kept.own;
    wants = kept.wants;
    part = part_longer log more kept.index kept.own kept.part;
    stands = kept.stands;
  }

  -- a record that changes no entry that is there changes nothing of it
  pub still_gathers : (role : Role) (own : Option Gather) (d : Durable) (r : Record) → (is_of_entries r && is_gathering role own) ≡ false →
      IsGathering role own shape me d.log pages want → IsGathering role own shape me (applied d r).log pages want
  still_gathers role own d (Term term vote) edit kept = kept
  still_gathers role own d (Add entry) edit kept = longer_gathers role own d.log (entry ∷ []) kept
  still_gathers role own d (Cut index) edit kept = idle_gathers role own d.log (applied d (Cut index)).log edit kept
  still_gathers role own d (Whole index bytes) edit kept = idle_gathers role own d.log (applied d (Whole index bytes)).log edit kept
  still_gathers role own d (Commit index) edit kept = kept

-- who wants nothing wants nothing after records either
pub still_idle : (records : List Record) (before after : Act) → Recorded records before after → IsIdle before.member → IsIdle after.member
still_idle records before after made idle =
    ap (λ role. is_gathering role after.member.gather) made.role ∙ ap (is_gathering before.member.role) made.gather ∙ idle
