-- Tick: a member that stands makes the move of that name; a member that waits, beats or asks makes none.
use Rattle.std.proofs.Common.{◌≡◌, ℕ, suc, ◌+◌, Option, Some, refl, sym, ap, ◌∙◌, arith, length}
use Rattle.std.proofs.lemmas.Bool.{cond_both}
use Rattle.std.proofs.lemmas.List.Elements.{All-nil}
use Rattle.craft_base.specs.Shape.{Shape}
use Rattle.entry_frames.specs.Logs as node
use Rattle.entry_frames.specs.declared.peer.Peer.TheVariants as peers
use Rattle.entry_frames.specs.declared.role.Role.{Role}
use Rattle.entry_frames.specs.declared.role.Role.TheVariants.{Follower, Candidate, Preparing, Leader}
use Rattle.craft_base.specs.Knowledge.{Beat}
use Rattle.world_model.specs.Nodes.{Node, node_hearing}
use Rattle.world_model.specs.Ranges.{IsOfNoLog}
use Rattle.world_model.specs.Rules.Acts.{stays}
use Rattle.world_model.specs.Rules.Prepare.{act_of_asking_again, cursor_at}
use Rattle.world_model.specs.Rules.Say.{act_of_saying}
use Rattle.world_model.specs.Rules.Want.{act_of_gathering}
use Rattle.world_model.specs.Rules.Tick.{act_of_beat, act_of_candidacy, act_of_election, act_of_tick, act_of_tick_as, act_of_waiting, is_due, waiting_node}
use Rattle.world_model.proofs.Ranges.Deciding.{cursor_within}
use Rattle.protocol.specs.History as protocol
use Rattle.protocol.specs.Logs.{last_term}
use Rattle.protocol.specs.Moves.{Reached, Stand, after}
use Rattle.protocol.proofs.Counting.{put_same, put_at_same}
use Rattle.bridge.specs.Agreement.{AskAgrees, HeardAgrees, NodeAgrees}
use Rattle.bridge.specs.Bridges.{ActBridged}
use Rattle.bridge.proofs.Facts.{hearing_agrees}
use Rattle.bridge.proofs.Steps.{moved, moved_then, own_move, own_none, sends_to_others, unmoved_stays}
use Rattle.bridge.proofs.Rules.Say.{appends_agree}
use Rattle.bridge.proofs.Rules.Want.{again_agrees, gathering_agrees, unmoved_by}
use Rattle.bridge.proofs.Starts.{no_log_hearable}
use Rattle.bridge.proofs.Views.{length_seen, last_term_seen}

-- who stood, voted for itself and showed its log
stood_for :
    (g : protocol.History) (member term me : ℕ) → term ≡ suc (g.term member) → me ≡ member →
    ((after g (Stand member)).voted term me ≡ Some me) × ((after g (Stand member)).stood term me ≡ g.log member)
stood_for g member term me e at_member =
    rw (e, at_member) (put_at_same (suc (g.term member)) member (Some member) g.voted, put_at_same (suc (g.term member)) member (g.log member) g.stood)

module _ {shape : Shape} {g : protocol.History} {member : ℕ} {n : Node} (a : NodeAgrees shape g member n) where
  candidacy_agrees : NodeAgrees shape (after g (Stand member)) member (act_of_candidacy n).node
  candidacy_agrees = record {
    of_shape = a.of_shape;
    me = a.me;
    within = a.within;
    term = put_same member (suc (g.term member)) g.term ∙ omega (arith, a.term);
    vote = put_same member (Some member) g.vote ∙ ap Some (sym a.me);
    log = a.log;
    commit = a.commit;
    role = put_same member protocol.Candidate g.role;
    heard = All-nil (HeardAgrees (after g (Stand member)) (n.durable.term + 1) member);
    knows = All-nil IsOfNoLog;
    pages = tt;
    needs = a.needs;
  }

  ask_agrees : AskAgrees (after g (Stand member)) (n.durable.term + 1) n.me (node.last_term n.durable.log) (node.last_index n.durable.log)
  ask_agrees =
      let stood = stood_for g member (n.durable.term + 1) n.me (omega (arith, a.term)) a.me in
      record {
        stood = stood.0;
        ends = ap last_term (stood.1 ∙ a.log) ∙ last_term_seen n.durable.log;
        long = ap length (stood.1 ∙ a.log) ∙ length_seen n.durable.log;
      }

  election_bridged : ActBridged shape g member (act_of_election n)
  election_bridged =
      let ask = peers.Vote (node.last_term n.durable.log) (node.last_index n.durable.log) in
      moved _ (own_move (Stand member) tt) candidacy_agrees (sends_to_others (after g (Stand member)) (act_of_candidacy n).node ask (λ receiver. ask_agrees))

  waiting_bridged : (word : ℕ) → ActBridged shape g member (act_of_waiting word n)
  waiting_bridged word =
      cond_both (is_due n.volatile.quiet word n.durable.term) (act_of_election n) (stays n) (ActBridged shape g member)
      (λ due. election_bridged) (λ early. unmoved_stays a)

  waiting_agrees : NodeAgrees shape g member (waiting_node n)
  waiting_agrees = assumption a

  beat_agrees : NodeAgrees shape g member (node_hearing Beat n)
  beat_agrees = hearing_agrees Beat a (no_log_hearable n.volatile.role (length n.durable.log) Beat tt) tt

-- a leader that beats sends to each other member from where it lacks something, and asks for what it wants, and makes no move
beat_bridged :
    {shape : Shape} {g : protocol.History} {member : ℕ} {n : Node} → Reached shape.faults g → NodeAgrees shape g member n →
    n.volatile.role ≡ Leader → ActBridged shape g member (act_of_beat (node_hearing Beat n))
beat_bridged {n = n} reached a leads =
    let now : Node = node_hearing Beat n in
    moved_then reached (act_of_saying now) act_of_gathering (own_none _) (beat_agrees a) (appends_agree reached (beat_agrees a) leads)
    (λ still. unmoved_by (act_of_gathering now) (gathering_agrees leads (beat_agrees a)))

-- who prepares asks for what stands from an index on, and makes no move
asking_bridged :
    {shape : Shape} {g : protocol.History} {member : ℕ} {n : Node} (cursor : Option ℕ) → cursor_at n ≡ cursor → NodeAgrees shape g member n →
    ActBridged shape g member (act_of_asking_again cursor n)
asking_bridged {n = n} cursor e a =
    unmoved_by (act_of_asking_again cursor n)
    (again_agrees cursor (λ index is. let within = cursor_within n.durable.commit n.durable.log index (e ∙ is) in omega (arith, within.0)) a)

tick_as_bridged :
    {shape : Shape} {g : protocol.History} {member : ℕ} {n : Node} (role : Role) (word : ℕ) → Reached shape.faults g → NodeAgrees shape g member n →
    n.volatile.role ≡ role → ActBridged shape g member (act_of_tick_as role word n)
tick_as_bridged Follower word reached a e = waiting_bridged (waiting_agrees a) word
tick_as_bridged Candidate word reached a e = waiting_bridged (waiting_agrees a) word
tick_as_bridged {n = n} Preparing word reached a e = asking_bridged (cursor_at n) refl (beat_agrees a)
tick_as_bridged Leader word reached a e = beat_bridged reached a e

pub tick_bridged :
    {shape : Shape} {g : protocol.History} {member : ℕ} {n : Node} (word : ℕ) → Reached shape.faults g → NodeAgrees shape g member n →
    ActBridged shape g member (act_of_tick word n)
tick_bridged {n = n} word reached a = tick_as_bridged n.volatile.role word reached a refl
