-- VoteReply: what is heard of an election says nothing of logs, and who has won prepares.
use Rattle.std.proofs.Common.{◌≡◌, ℕ, ◌≤◌, Bool, length, refl}
use Rattle.std.specs.List.{All}
use Rattle.std.proofs.lemmas.Bool.{cond_both}
use Rattle.craft_base.specs.Shape.{Shape, IsShape}
use Rattle.entry_frames.specs.declared.role.Role.{Role}
use Rattle.entry_frames.specs.declared.role.Role.TheVariants.{Follower, Candidate, Preparing, Leader}
use Rattle.world_model.specs.Nodes.{Node, node_hearing}
use Rattle.world_model.specs.Ranges.{IsOfNoLog, NodeInRange}
use Rattle.world_model.specs.Rules.Acts.{stays}
use Rattle.world_model.specs.Rules.Prepare.{act_of_winning}
use Rattle.world_model.specs.Rules.VoteReply.{act_of_count, act_of_vote_reply, act_of_vote_reply_as, has_won, vote_heard}
use Rattle.world_model.proofs.Ranges.Acts.{ActInRange, before_in_range, in_volatile, stays_in_range}
use Rattle.world_model.proofs.Ranges.Knowing.{hears, knows_as}
use Rattle.world_model.proofs.Ranges.Prepare.{winning_in_range}

module _ {shape : Shape} (is : IsShape shape) {member : ℕ} {n : Node} (a : NodeInRange shape member n) (begun : 1 ≤ n.durable.term) where
  count_in_range : All IsOfNoLog n.volatile.heard → ActInRange shape member n (act_of_count n)
  count_in_range none =
      cond_both (has_won n) (act_of_winning n) (stays n) (ActInRange shape member n) (λ won. winning_in_range is a begun none) (λ short. stays_in_range a)

module _
    {shape : Shape} (is : IsShape shape) {member : ℕ} {n : Node} (a : NodeInRange shape member n) (begun : 1 ≤ n.durable.term)
    (sender : ℕ) (granted : Bool) where
  abbrev now : Node
  now = node_hearing (vote_heard n sender granted) n

  heard_in_range : NodeInRange shape member now
  heard_in_range =
      in_volatile a now.volatile a.clients (hears n.volatile.role (length n.durable.log) n.volatile.first (vote_heard n sender granted) n.volatile.heard tt a.knows) a.pages

  vote_reply_as_in_range : (role : Role) → n.volatile.role ≡ role → ActInRange shape member n (act_of_vote_reply_as role n sender granted)
  vote_reply_as_in_range Follower e = stays_in_range a
  vote_reply_as_in_range Candidate e =
      before_in_range now.volatile (act_of_count now) (count_in_range is heard_in_range begun (knows_as heard_in_range Candidate e))
  vote_reply_as_in_range Preparing e = before_in_range now.volatile (stays now) (stays_in_range heard_in_range)
  vote_reply_as_in_range Leader e = before_in_range now.volatile (stays now) (stays_in_range heard_in_range)

  pub vote_reply_in_range : ActInRange shape member n (act_of_vote_reply n sender granted)
  vote_reply_in_range = vote_reply_as_in_range n.volatile.role refl
