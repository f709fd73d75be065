-- Vote: a vote goes to the member that asked for it, and it is told.
use Rattle.std.proofs.Common.{◌≡◌, ◌≢◌, ℕ, ◌≤◌, true, false, Option, None, Some, [], ◌∷◌, length, inr, refl}
use Rattle.std.proofs.lemmas.Bool.{cond_both}
use Rattle.craft_base.specs.Shape.{Shape}
use Rattle.entry_frames.specs.Records.{Term}
use Rattle.entry_frames.specs.declared.peer.Peer.TheVariants as peers
use Rattle.world_model.specs.Nodes.{Node}
use Rattle.world_model.specs.Ranges.{IsMember, KnowsInRange, NodeInRange}
use Rattle.world_model.specs.Rules.Acts.{Act, keeping, message_of, stays}
use Rattle.world_model.specs.Rules.Vote.{act_of_grant, act_of_vote_from, act_of_vote_refusal, act_of_vote_request, is_grantor}
use Rattle.craft_base.specs.Shape.{IsShape}
use Rattle.world_model.proofs.Ranges.Acts.{ActInRange, keeping_in_range, one_message_fits, records_in_range, sending_in_range, stays_in_range}
use Rattle.world_model.proofs.Ranges.Bodies.{reply_fits}
use Rattle.world_model.proofs.Ranges.Records.{term_fits}

module _
    {shape : Shape} (is : IsShape shape) {member : ℕ} {n : Node} (a : NodeInRange shape member n) (begun : 1 ≤ n.durable.term)
    (candidate : ℕ) (is_member : IsMember shape candidate) (apart : candidate ≢ member) where
  -- what the node knew is in range of its log after that
  abbrev NowKnows : Act → Type 0
  NowKnows act = KnowsInRange n.volatile.role (length act.node.durable.log) n.volatile.first n.volatile.heard

  vote_from_in_range : (vote : Option ℕ) → n.durable.vote ≡ vote → ActInRange shape member n (act_of_vote_from vote candidate n)
  vote_from_in_range None none =
      records_in_range a (Term n.durable.term (Some candidate) ∷ []) (inr (record { same = refl; none_yet = none; voter = is_member }), tt)
      (term_fits shape is n.durable.term (Some candidate) a.durable.stored.term_most is_member, tt) a.knows
  vote_from_in_range (Some voted) some = stays_in_range a

  -- the node hears what it heard
  vote_from_knows : (vote : Option ℕ) → NowKnows (act_of_vote_from vote candidate n)
  vote_from_knows None = a.knows
  vote_from_knows (Some voted) = a.knows

  grant_in_range : ActInRange shape member n (act_of_grant candidate n)
  grant_in_range =
      sending_in_range (message_of n (peers.VoteReply true) candidate ∷ [])
      (keeping (record n.volatile { quiet = 0 }) (act_of_vote_from n.durable.vote candidate n))
      (one_message_fits is a begun (peers.VoteReply true) candidate is_member apart (reply_fits shape.need n.durable.term true))
      (keeping_in_range (record n.volatile { quiet = 0 }) (act_of_vote_from n.durable.vote candidate n) a.clients
      (vote_from_knows n.durable.vote) a.pages (vote_from_in_range n.durable.vote refl))

  vote_refusal_in_range : ActInRange shape member n (act_of_vote_refusal candidate n)
  vote_refusal_in_range =
      sending_in_range (message_of n (peers.VoteReply false) candidate ∷ []) (stays n)
      (one_message_fits is a begun (peers.VoteReply false) candidate is_member apart (reply_fits shape.need n.durable.term false)) (stays_in_range a)

  pub vote_request_in_range : (last_term last : ℕ) → ActInRange shape member n (act_of_vote_request n candidate last_term last)
  vote_request_in_range last_term last =
      cond_both (is_grantor n candidate last_term last) (act_of_grant candidate n) (act_of_vote_refusal candidate n) (ActInRange shape member n)
      (λ granted. grant_in_range) (λ refused. vote_refusal_in_range)
