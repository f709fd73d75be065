-- Matched and Refused: what a leader hears of a log it hears with its own last index; it commits at most its log, and sends of it.
use Rattle.std.proofs.Common.{◌≡◌, ◌≢◌, ℕ, ◌<◌, ◌≤◌, max, fold, filter, List, [], ◌∷◌, length, refl, sym, subst, ◌∙◌, arith, le_refl}
use Rattle.std.specs.List.{All}
use Rattle.std.proofs.lemmas.List.Elements.{All-filter, All-head, All-tail, All-weaker}
use Rattle.craft_base.specs.Knowledge.{Told, Matched, Refused}
use Rattle.craft_base.specs.Shape.{Shape, IsShape}
use Rattle.entry_frames.specs.declared.role.Role.{Role}
use Rattle.entry_frames.specs.declared.role.Role.TheVariants.{Follower, Candidate, Preparing, Leader}
use Rattle.world_model.specs.Nodes.{Node, node_hearing}
use Rattle.coded_append.specs.Starts.{open_indexes}
use Rattle.world_model.specs.Quorums.{may_commit}
use Rattle.world_model.specs.Ranges.{IsMember, KnowsInRange, NodeInRange, ToldInRange}
use Rattle.world_model.specs.Rules.Acts.{stays}
use Rattle.world_model.specs.Rules.Applying.{act_of_commit}
use Rattle.world_model.specs.Rules.Matched.{act_of_matched, act_of_matched_as, act_of_next, act_of_progress, act_of_refused, act_of_refused_as, act_of_retry, commit_of_leader, log_heard}
use Rattle.world_model.specs.Rules.Say.{append_if_any, append_to}
use Rattle.world_model.proofs.Recorded.{commit_recorded}
use Rattle.world_model.proofs.Ranges.Acts.{ActInRange, before_in_range, followed_in_range, in_volatile, sending_in_range, stays_in_range}
use Rattle.world_model.proofs.Ranges.Applying.{commit_in_range, commit_keeps}
use Rattle.world_model.proofs.Ranges.Knowing.{knows_as, leader_hears}
use Rattle.world_model.proofs.Ranges.Say.{append_if_any_fits, one_append_fits}
use Rattle.world_model.proofs.Ranges.Starts.{open_within}

-- the greatest of some numbers up to another
greatest_within : (most n : ℕ) (xs : List ℕ) → n ≤ most → All (λ x. x ≤ most) xs → fold max n xs ≤ most
greatest_within most n [] first all = first
greatest_within most n (x ∷ xs) first all =
    greatest_within most (max n x) xs (omega (arith, first, All-head (λ y. y ≤ most) x xs all)) (All-tail (λ y. y ≤ most) x xs all)

module _ {shape : Shape} (is : IsShape shape) {member : ℕ} {n : Node} (a : NodeInRange shape member n) (leads : n.volatile.role ≡ Leader) where
  commit_within : commit_of_leader n ≤ length n.durable.log
  commit_within =
      let may = may_commit n.shape n.me n.durable.term n.durable.commit n.durable.log n.volatile.heard in
      let open' : All (λ i. i ≤ length n.durable.log) (open_indexes n.durable.commit n.durable.log) =
      All-weaker (λ i. (n.durable.commit < i) × (i ≤ length n.durable.log)) (λ i. i ≤ length n.durable.log) (λ i both. both.1)
      (open_indexes n.durable.commit n.durable.log) (open_within n.durable.commit n.durable.log) in
      greatest_within (length n.durable.log) n.durable.commit (filter may (open_indexes n.durable.commit n.durable.log)) a.durable.commit
      (All-filter may (λ i. i ≤ length n.durable.log) (open_indexes n.durable.commit n.durable.log) open')

  next_in_range : (receiver : ℕ) → IsMember shape receiver → receiver ≢ member → ActInRange shape member n (act_of_next receiver n)
  next_in_range receiver is_member apart =
      sending_in_range (append_if_any n receiver) (stays n) (append_if_any_fits is a leads receiver is_member apart) (stays_in_range a)

  retry_in_range : (receiver : ℕ) → IsMember shape receiver → receiver ≢ member → ActInRange shape member n (act_of_retry receiver n)
  retry_in_range receiver is_member apart =
      sending_in_range (append_to n receiver ∷ []) (stays n) (one_append_fits is a leads receiver is_member apart) (stays_in_range a)

module _ {shape : Shape} (is : IsShape shape) {member : ℕ} {n : Node} (a : NodeInRange shape member n) (leads : n.volatile.role ≡ Leader) where
  progress_in_range : (receiver : ℕ) → IsMember shape receiver → receiver ≢ member → ActInRange shape member n (act_of_progress receiver n)
  progress_in_range receiver is_member apart =
      let first : ActInRange shape member n (act_of_commit (commit_of_leader n) n) = commit_in_range is a (commit_of_leader n) (commit_within is a leads) in
      let same : (act_of_commit (commit_of_leader n) n).node.volatile.role ≡ n.volatile.role =
      commit_keeps n (commit_of_leader n) (λ act. act.node.volatile.role ≡ n.volatile.role) refl refl in
      followed_in_range (act_of_commit (commit_of_leader n) n) (act_of_next receiver) (commit_recorded (commit_of_leader n) n) first
      (next_in_range is first.node (same ∙ leads) receiver is_member apart)

module _
    {shape : Shape} (is : IsShape shape) {member : ℕ} {n : Node} (a : NodeInRange shape member n)
    (sender : ℕ) (is_member : IsMember shape sender) (apart : sender ≢ member) where
  abbrev hearing : Told → Node
  hearing told = node_hearing (log_heard n sender told) n

  hearing_in_range : (told : Told) → ToldInRange (length n.durable.log) (length n.durable.log) told → n.volatile.role ≡ Leader → NodeInRange shape member (hearing told)
  hearing_in_range told ranged leads =
      in_volatile a (hearing told).volatile a.clients
      (subst (λ (role : Role). KnowsInRange role (length n.durable.log) n.volatile.first (log_heard n sender told ∷ n.volatile.heard)) (sym leads)
      (leader_hears (length n.durable.log) n.volatile.first (log_heard n sender told) n.volatile.heard ranged (knows_as a Leader leads))) a.pages

  module _ (prev count mask : ℕ) where
    matched_as_in_range : (role : Role) → n.volatile.role ≡ role → ActInRange shape member n (act_of_matched_as role n sender prev count mask)
    matched_as_in_range Follower e = stays_in_range a
    matched_as_in_range Candidate e = stays_in_range a
    matched_as_in_range Preparing e = stays_in_range a
    matched_as_in_range Leader e =
        let told : Told = Matched prev count mask in
        before_in_range (hearing told).volatile (act_of_progress sender (hearing told))
        (progress_in_range is (hearing_in_range told (le_refl (length n.durable.log)) e) e sender is_member apart)

    pub matched_in_range : ActInRange shape member n (act_of_matched n sender prev count mask)
    matched_in_range = matched_as_in_range n.volatile.role refl

  module _ (next : ℕ) (some : 1 ≤ next) where
    refused_as_in_range : (role : Role) → n.volatile.role ≡ role → ActInRange shape member n (act_of_refused_as role n sender next)
    refused_as_in_range Follower e = stays_in_range a
    refused_as_in_range Candidate e = stays_in_range a
    refused_as_in_range Preparing e = stays_in_range a
    refused_as_in_range Leader e =
        let told : Told = Refused next in
        before_in_range (hearing told).volatile (act_of_retry sender (hearing told))
        (retry_in_range is (hearing_in_range told (le_refl (length n.durable.log), some) e) e sender is_member apart)

    pub refused_in_range : ActInRange shape member n (act_of_refused n sender next)
    refused_in_range = refused_as_in_range n.volatile.role refl
