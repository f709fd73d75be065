-- What a crash leaves while a journal is opened.
use Rattle.std.proofs.Common.{◌≡◌, inl, inr, ℕ, List, sym, subst}
use Rattle.std.specs.Prelude.{Option, None, Some, IfSome}
use Rattle.craft_edge.specs.Disk.{OnlySeen}
use Rattle.synced_log.specs.declared.owner.Owner.{Owner}
use Rattle.synced_log.specs.Creation.{CreationLeaves}
use Rattle.synced_log.specs.Journal.{IsUnborn}
use Rattle.synced_log.specs.Standing.{Stays}

pub only_less : (seen : Option (List ℕ)) (A B : List ℕ → Type 0) → OnlySeen seen A → ((image : List ℕ) → B image → A image) → OnlySeen seen B
only_less None A B only less = tt
only_less (Some file) A B only less = λ image b. only image (less image b)

pub stays_same : (wanted : Owner) (seen : Option (List ℕ)) (may_leave : List ℕ → Type 0) (image : List ℕ) → OnlySeen seen may_leave → may_leave image → Stays wanted seen image
stays_same wanted None may_leave image only left = tt
stays_same wanted (Some file) may_leave image only left = inl (only image left)

pub stays_creating : (wanted : Owner) (seen mid : Option (List ℕ)) (may_leave : List ℕ → Type 0) (file image : List ℕ) → mid ≡ seen → IfSome seen (λ f. file ≡ f) → IsUnborn file → OnlySeen seen may_leave
    → CreationLeaves (λ f. f ≡ file) mid may_leave wanted image → Stays wanted seen image
stays_creating wanted None mid may_leave file image same is unborn only left = tt
stays_creating wanted (Some f) mid may_leave file image same is unborn only left = inr (subst IsUnborn is unborn, left f same (sym is) only)
