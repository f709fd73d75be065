-- What a member was shown, as its log changes.
use Rattle.std.proofs.Common.{◌≡◌, ℕ, false, List, Option, None, Some, subst}
use Rattle.std.specs.Prelude.{◌&&◌}
use Rattle.std.proofs.lemmas.Bool.{true≢false}
use Rattle.craft_base.specs.Shape.{Shape}
use Rattle.entry_frames.specs.Durable.{Durable, applied}
use Rattle.entry_frames.specs.Records.{Record, Term, Add, Cut, Whole, Commit}
use Rattle.entry_frames.specs.declared.role.Role.{Role}
use Rattle.entry_frames.specs.declared.role.Role.TheVariants.{Follower, Candidate, Preparing, Leader}
use Rattle.leader_prep.specs.Decisions.{cursor_of}
use Rattle.leader_prep.specs.Pages.{Page}
use Rattle.leader_prep.specs.Standing.{Stands}
use Rattle.leader_prep.specs.declared.prep.Prep.{Prep}
use Rattle.node_core.specs.Acting.{is_of_log, is_preparing}
use Rattle.node_core.specs.Stands.{IsShown}

module _ (own : Option Prep) (shape : Shape) (me : ℕ) (pages : List Page) where
  -- who doesn't prepare was shown nothing
  pub free_shown : (role : Role) (cursor : Option ℕ) → is_preparing role ≡ false → IsShown role own shape me pages cursor
  free_shown Follower cursor free = tt
  free_shown Candidate cursor free = tt
  free_shown Leader cursor free = tt
  free_shown Preparing cursor free = absurd (true≢false free)

  -- who prepares was shown what its preparation stands for
  pub prepared : (role : Role) (prep : Prep) (cursor : Option ℕ) → role ≡ Preparing → own ≡ Some prep → IsShown role own shape me pages cursor →
      Stands prep shape me pages cursor
  prepared role prep cursor prepares there shown =
      subst (λ (o : Option Prep). IsShown Preparing o shape me pages cursor) there (subst (λ (r : Role). IsShown r own shape me pages cursor) prepares shown)

  pub never_unprepared : (role : Role) (cursor : Option ℕ) → role ≡ Preparing → own ≡ None → IsShown role own shape me pages cursor → ⊥
  never_unprepared role cursor prepares none shown =
      subst (λ (o : Option Prep). IsShown Preparing o shape me pages cursor) none (subst (λ (r : Role). IsShown r own shape me pages cursor) prepares shown)

  -- a new term changes nothing of it
  pub still_shown : (role : Role) (d : Durable) (r : Record) → (is_of_log r && is_preparing role) ≡ false → IsShown role own shape me pages (cursor_of d.commit d.log) →
      IsShown role own shape me pages (cursor_of (applied d r).commit (applied d r).log)
  still_shown role d (Term term vote) free shown = shown
  still_shown role d (Add entry) free shown = free_shown role (cursor_of (applied d (Add entry)).commit (applied d (Add entry)).log) free
  still_shown role d (Cut index) free shown = free_shown role (cursor_of (applied d (Cut index)).commit (applied d (Cut index)).log) free
  still_shown role d (Whole index bytes) free shown = free_shown role (cursor_of (applied d (Whole index bytes)).commit (applied d (Whole index bytes)).log) free
  still_shown role d (Commit index) free shown = free_shown role (cursor_of (applied d (Commit index)).commit (applied d (Commit index)).log) free
