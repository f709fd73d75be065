-- What a crash leaves of a disk that is handed back.
use Rattle.std.proofs.Common.{◌≡◌, ◌⊎◌, inl, inr, ℕ, Bool, List, Option, None, Some, sym, subst, ◌∙◌}
use Rattle.std.specs.Prelude.{IsTrue, is_some}
use Rattle.std.proofs.lemmas.Bool.{false≢true}
use Rattle.craft_base.specs.Shape.{Shape}
use Rattle.craft_edge.specs.Disk.{WhereTold}
use Rattle.entry_frames.specs.Durable.{Durable}
use Rattle.node_core.specs.Stands.{Kept, Stands}
use Rattle.node_shell.specs.Standing.{AllOpenTo, owner_of}
use Rattle.node_shell.specs.Stepping.{BeforeOrAfter, OpensToEither}
use Rattle.synced_log.specs.Journal.{owned}
use Rattle.synced_log.specs.States.{OpensTo}
use Rattle.synced_log.specs.declared.owner.Owner.{Owner}
use Rattle.world_model.specs.Nodes.{Node}
use Rattle.world_model.specs.Turn as turns
use Rattle.net_node.specs.Serving.{CanLeave, IsOf}

pub as_of : (P : Shape → ℕ → Type 0) (shape : Shape) (me : ℕ) (core : Kept) → IsOf shape me core → P core.shape core.me → P shape me
as_of P shape me core is p = subst (P shape) is.1 (subst (λ k. P k core.me) is.0 p)

pub of_that : (P : Shape → ℕ → Type 0) (shape : Shape) (me : ℕ) (core : Kept) → IsOf shape me core → P shape me → P core.shape core.me
of_that P shape me core is p = subst (λ k. P k core.me) (sym is.0) (subst (λ k. P shape k) (sym is.1) p)

each_opens : (seen : Option (List ℕ)) (may_leave : List ℕ → Type 0) (o : Owner) (d : Durable) → IsTrue (is_some seen) → AllOpenTo seen may_leave o d
    → (image : List ℕ) → may_leave image → OpensTo image o d
each_opens None may_leave o d read all image left = absurd (false≢true read)
each_opens (Some file) may_leave o d read all image left = all image left

swapped : {A B : Type 0} → A ⊎ B → B ⊎ A
swapped (inl a) = inr a
swapped (inr b) = inl b

each_either : (seen : Option (List ℕ)) (o : Owner) (before after : Durable) (image : List ℕ) → IsTrue (is_some seen) → OpensToEither seen o before after image
    → OpensTo image o after ⊎ OpensTo image o before
each_either None o before after image read either = absurd (false≢true read)
each_either (Some file) o before after image read either = swapped either

module _ {D : Type 0} (seen : D → Option (List ℕ)) (tells_crash : D → Bool) (may_leave : D → List ℕ → Type 0) where
  -- of one that is as it was, what the member kept
  pub given_back : (disk back : D) (shape : Shape) (me : ℕ) (core : Kept) → back ≡ disk → IsOf shape me core
      → WhereTold (tells_crash disk) (AllOpenTo (seen disk) (may_leave disk) (owner_of core) core.durable)
      → (image : List ℕ) → CanLeave (tells_crash back) (seen back) (may_leave back) image → OpensTo image (owned shape me) core.durable
  given_back disk back shape me core same is durable =
      subst (λ d. (image : List ℕ) → CanLeave (tells_crash d) (seen d) (may_leave d) image → OpensTo image (owned shape me) core.durable) (sym same)
      (λ image l. as_of (λ s m. OpensTo image (owned s m) core.durable) shape me core is
      (each_opens (seen disk) (may_leave disk) (owner_of core) core.durable l.read (durable l.told) image l.left))

  -- of one whose step failed, the state after the turn or the one before it
  pub stepped_back : (disk back : D) (shape : Shape) (me : ℕ) (core : Kept) (event : turns.Event) → is_some (seen back) ≡ is_some (seen disk) → IsOf shape me core
      → WhereTold (tells_crash back) ((image : List ℕ) → may_leave back image → BeforeOrAfter (seen disk) core event image)
      → (n : Node) → Stands core n → (image : List ℕ) → CanLeave (tells_crash back) (seen back) (may_leave back) image
      → OpensTo image (owned shape me) (turns.turn event n).node.durable ⊎ OpensTo image (owned shape me) n.durable
  stepped_back disk back shape me core event told is either n stands image l =
      as_of (λ s m. OpensTo image (owned s m) (turns.turn event n).node.durable ⊎ OpensTo image (owned s m) n.durable) shape me core is
      (each_either (seen disk) (owner_of core) n.durable (turns.turn event n).node.durable image (sym told ∙ l.read) (either l.told image l.left n stands))
