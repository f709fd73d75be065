-- Terms: a member that catches up with a higher term makes the move raise; one that refuses a lower term makes none.
use Rattle.std.proofs.Common.{◌≢◌, ℕ, ◌<◌, nat_lt, false, None, sym, ◌∙◌, arith}
use Rattle.std.specs.List.{All}
use Rattle.std.proofs.lemmas.Bool.{cond_both, ltb-true, true≢false}
use Rattle.std.proofs.lemmas.List.Elements.{All-nil}
use Rattle.craft_base.specs.Shape.{Shape}
use Rattle.entry_frames.specs.declared.peer.Peer.{Peer}
use Rattle.entry_frames.specs.declared.peer.Peer.TheVariants as peers
use Rattle.world_model.specs.Nodes.{Node}
use Rattle.world_model.specs.Rules.Acts.{message_of, stays}
use Rattle.world_model.specs.Rules.Terms.{act_of_higher_term, act_of_lower_term, act_of_term, refusal, stale_replies}
use Rattle.protocol.specs.History as protocol
use Rattle.protocol.specs.Moves.{Raise, after}
use Rattle.protocol.proofs.Counting.{put_same}
use Rattle.bridge.specs.Agreement.{HeardAgrees, MessageAgrees, NodeAgrees}
use Rattle.bridge.specs.Bridges.{ActBridged}
use Rattle.bridge.proofs.Steps.{moved, own_move, sends_none, sends_one, unmoved, unmoved_stays}

module _ {shape : Shape} {g : protocol.History} {member : ℕ} {n : Node} (a : NodeAgrees shape g member n) where
  higher_term_agrees : (term : ℕ) → NodeAgrees shape (after g (Raise member term)) member (act_of_higher_term term n).node
  higher_term_agrees term = record {
    of_shape = a.of_shape;
    me = a.me;
    within = a.within;
    term = put_same member term g.term;
    vote = put_same member None g.vote;
    log = a.log;
    commit = a.commit;
    role = put_same member protocol.Follower g.role;
    heard = All-nil (HeardAgrees (after g (Raise member term)) term member);
    knows = tt;
    pages = tt;
    needs = a.needs;
  }

  raise_bridged : (term : ℕ) → n.durable.term < term → ActBridged shape g member (act_of_higher_term term n)
  raise_bridged term higher =
      moved _ (own_move (Raise member term) (omega (arith, a.term))) (higher_term_agrees term) (sends_none (after g (Raise member term)))

  -- a node in the term of a message that isn't of a lower term
  pub term_bridged : (term : ℕ) → ActBridged shape g member (act_of_term term n)
  term_bridged term =
      cond_both (nat_lt n.durable.term term) (act_of_higher_term term n) (stays n) (ActBridged shape g member)
      (λ higher. raise_bridged term (ltb-true _ _ higher)) (λ same. unmoved_stays a)

  -- a vote that isn't granted says nothing
  pub refused_vote_agrees : (sender : ℕ) → sender ≢ member → MessageAgrees g (message_of n (peers.VoteReply false) sender)
  refused_vote_agrees sender apart =
      record { apart = λ e. apart (sym e ∙ a.me); body_agrees = λ granted. absurd (true≢false (sym granted)) }

  -- and nothing is said of where a leader may go on
  pub refusal_agrees : (sender : ℕ) → sender ≢ member → MessageAgrees g (message_of n (refusal n) sender)
  refusal_agrees sender apart = record { apart = λ e. apart (sym e ∙ a.me); body_agrees = tt }

  stale_replies_agree : (sender : ℕ) (body : Peer) → sender ≢ member → All (MessageAgrees g) (stale_replies n sender body)
  stale_replies_agree sender (peers.Vote last_of last) apart = sends_one g (message_of n (peers.VoteReply false) sender) (refused_vote_agrees sender apart)
  stale_replies_agree sender (peers.Append prev prev_term commit entries) apart = sends_one g (message_of n (refusal n) sender) (refusal_agrees sender apart)
  stale_replies_agree sender (peers.Ask start) apart = sends_one g (message_of n (refusal n) sender) (refusal_agrees sender apart)
  stale_replies_agree sender (peers.VoteReply granted) apart = sends_none g
  stale_replies_agree sender (peers.Matched prev count mask) apart = sends_none g
  stale_replies_agree sender (peers.Refused next) apart = sends_none g
  stale_replies_agree sender (peers.Answer start last slots) apart = sends_none g

  pub lower_term_bridged : (sender : ℕ) (body : Peer) → sender ≢ member → ActBridged shape g member (act_of_lower_term n sender body)
  lower_term_bridged sender body apart = unmoved (act_of_lower_term n sender body) a (stale_replies_agree sender body apart)
