-- The rule Want changes nothing but the want of a leader and what was shown of it.
use Rattle.std.proofs.Common.{◌≡◌, ℕ, Option, None, Some, refl}
use Rattle.std.proofs.lemmas.Bool.{cond_both}
use Rattle.entry_frames.specs.declared.role.Role.{Role}
use Rattle.entry_frames.specs.declared.role.Role.TheVariants.{Follower, Candidate, Preparing, Leader}
use Rattle.world_model.specs.Nodes.{Node}
use Rattle.world_model.specs.Rules.Acts.{Act, stays}
use Rattle.world_model.specs.Rules.Prepare.{act_of_asking_again}
use Rattle.world_model.specs.Rules.Want.{act_of_gathering, act_of_new_want, act_of_want, act_of_want_as, is_same_want, want_of, wanting}

-- who asks again stays as it is
pub again_keeps : (want : Option ℕ) (n : Node) (P : Node → Type 0) → P n → P (act_of_asking_again want n).node
again_keeps None n P is = is
again_keeps (Some index) n P is = is

module _ (n : Node) (P : Act → Type 0) where
  pub gathering_keeps : P (act_of_asking_again (want_of n) n) → P (act_of_new_want (want_of n) n) → P (act_of_gathering n)
  gathering_keeps same new =
      cond_both (is_same_want n.volatile.want (want_of n)) (act_of_asking_again (want_of n) n) (act_of_new_want (want_of n) n) P (λ e. same) (λ e. new)

  want_as_keeps : (role : Role) → P (stays n) → (role ≡ Leader → P (act_of_new_want (want_of n) n)) → P (act_of_want_as role n)
  want_as_keeps Follower same new = same
  want_as_keeps Candidate same new = same
  want_as_keeps Preparing same new = same
  want_as_keeps Leader same new =
      cond_both (is_same_want n.volatile.want (want_of n)) (stays n) (act_of_new_want (want_of n) n) P (λ e. same) (λ e. new refl)

  -- whatever else is true of the node it leaves as it is
  pub want_keeps : P (stays n) → (n.volatile.role ≡ Leader → P (act_of_new_want (want_of n) n)) → P (act_of_want n)
  want_keeps same new = want_as_keeps n.volatile.role same new

-- what a node that wants something now has but for its want and its pages
pub new_want_keeps : (n : Node) (P : Node → Type 0) → P (wanting (want_of n) n) → P (act_of_new_want (want_of n) n).node
new_want_keeps n P is = again_keeps (want_of n) (wanting (want_of n) n) P is
