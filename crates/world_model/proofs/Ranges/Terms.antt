-- Terms: a node catches up with a term in range, or refuses in its own.
use Rattle.std.proofs.Common.{◌≡◌, ◌<◌, ◌≤◌, ℕ, nat_lt, true, None, [], ◌∷◌, inl, arith}
use Rattle.std.specs.List.{All}
use Rattle.std.proofs.lemmas.Bool.{cond_both, ltb-true}
use Rattle.std.proofs.lemmas.List.Elements.{All-nil}
use Rattle.craft_base.specs.Shape.{Shape}
use Rattle.entry_frames.specs.Formats.{Fits}
use Rattle.entry_frames.specs.MessageFields.{body_fields}
use Rattle.entry_frames.specs.Records.{Term}
use Rattle.entry_frames.specs.declared.kind.PeerKind.TheVariants as peer_kinds
use Rattle.entry_frames.specs.declared.peer.Peer.{Peer}
use Rattle.entry_frames.specs.declared.peer.Peer.TheVariants as peers
use Rattle.entry_frames.specs.declared.role.Role.TheVariants.{Follower}
use Rattle.world_model.specs.Nodes.{Node}
use Rattle.world_model.specs.Ranges.{CallInRange, NodeInRange, HasSpelling, IsOfNoLog, PageInRange}
use Rattle.world_model.specs.Rules.Acts.{stays}
use Rattle.world_model.specs.Rules.Terms.{act_of_higher_term, act_of_lower_term, act_of_term, refusal, stale_replies}
use Rattle.craft_base.specs.Shape.{IsShape}
use Rattle.world_model.proofs.Frames.{Ends}
use Rattle.world_model.proofs.Ranges.Acts.{ActInRange, enters_in_range, one_message_fits, sending_in_range, stays_in_range}
use Rattle.world_model.proofs.Ranges.Bodies.{refusal_fits, reply_fits}
use Rattle.world_model.proofs.Ranges.Records.{term_fits}

module _ {shape : Shape} (is : IsShape shape) {from to at : ℕ} (ends : Ends shape from to at) {n : Node} (a : NodeInRange shape to n) where
  higher_term_in_range : nat_lt n.durable.term at ≡ true → ActInRange shape to n (act_of_higher_term at n)
  higher_term_in_range higher =
      enters_in_range a (Term at None ∷ []) (record n.volatile { role = Follower; hint = None; heard = []; first = 0; pages = []; calls = []; reads = []; want = None })
      (inl (record { least = ends.term.0; most = ends.term.1; later = ltb-true n.durable.term at higher }), tt)
      (term_fits shape is at None ends.term.1 tt, tt) (tt, (All-nil CallInRange, All-nil CallInRange)) (All-nil IsOfNoLog) (All-nil (PageInRange shape.need))

  pub term_in_range : ActInRange shape to n (act_of_term at n)
  term_in_range =
      cond_both (nat_lt n.durable.term at) (act_of_higher_term at n) (stays n) (ActInRange shape to n)
      higher_term_in_range (λ same. stays_in_range a)

  module _ (begun : 1 ≤ n.durable.term) where
    pub refusal_in_range : Fits (body_fields shape.need n.durable.term peer_kinds.AppendReply) (refusal n)
    refusal_in_range = refusal_fits shape.need n.durable.term n.durable.commit (omega (arith, a.durable.commit, a.durable.short))

    stale_replies_fit : (body : Peer) → All (HasSpelling shape) (stale_replies n from body)
    stale_replies_fit (peers.Vote last_term last) =
        one_message_fits is a begun _ from ends.sender ends.apart (reply_fits shape.need n.durable.term _)
    stale_replies_fit (peers.Append prev prev_term commit entries) = one_message_fits is a begun (refusal n) from ends.sender ends.apart refusal_in_range
    stale_replies_fit (peers.Ask start) = one_message_fits is a begun (refusal n) from ends.sender ends.apart refusal_in_range
    stale_replies_fit (peers.VoteReply granted) = All-nil (HasSpelling shape)
    stale_replies_fit (peers.Matched prev count mask) = All-nil (HasSpelling shape)
    stale_replies_fit (peers.Refused next) = All-nil (HasSpelling shape)
    stale_replies_fit (peers.Answer start last slots) = All-nil (HasSpelling shape)

  pub lower_term_in_range : (body : Peer) → at < n.durable.term → ActInRange shape to n (act_of_lower_term n from body)
  lower_term_in_range body lower =
      sending_in_range (stale_replies n from body) (stays n) (stale_replies_fit (omega (arith, lower)) body) (stays_in_range a)
