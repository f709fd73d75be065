-- Matched and Refused: a leader that commits acknowledges its own log and makes the move decide; else it makes none.
use Rattle.std.proofs.Common.{◌≡◌, ◌≢◌, ℕ, refl, sym, ◌∙◌, le_refl}
use Rattle.craft_base.specs.Knowledge.{Matched, Refused}
use Rattle.craft_base.specs.Shape.{Shape}
use Rattle.entry_frames.specs.declared.peer.Peer.TheVariants as peers
use Rattle.entry_frames.specs.declared.role.Role.{Role}
use Rattle.entry_frames.specs.declared.role.Role.TheVariants.{Follower, Candidate, Preparing, Leader}
use Rattle.world_model.specs.Nodes.{Node, node_hearing}
use Rattle.world_model.specs.Rules.Matched.{act_of_matched, act_of_matched_as, act_of_next, act_of_progress, act_of_refused, act_of_refused_as, act_of_retry, log_heard}
use Rattle.world_model.specs.Rules.Say.{append_to}
use Rattle.protocol.specs.History as protocol
use Rattle.protocol.specs.Moves.{Reached}
use Rattle.bridge.specs.Agreement.{NodeAgrees, SaidAgrees}
use Rattle.bridge.specs.Bridges.{ActBridged}
use Rattle.bridge.proofs.Facts.{hearing_agrees}
use Rattle.bridge.proofs.Steps.{sends_one, unmoved, unmoved_stays}
use Rattle.bridge.proofs.Rules.Applying.{decide_then}
use Rattle.bridge.proofs.Starts.{leader_hearable}
use Rattle.bridge.proofs.Rules.Say.{append_if_any_agrees, append_to_agrees}

-- ---- what was heard is counted, and the member is sent what it lacks

next_bridged :
    {shape : Shape} {g : protocol.History} {member : ℕ} {n : Node} → Reached shape.faults g → NodeAgrees shape g member n →
    n.volatile.role ≡ Leader → (receiver : ℕ) → receiver ≢ member → ActBridged shape g member (act_of_next receiver n)
next_bridged {n = n} reached a leads receiver apart =
    unmoved (act_of_next receiver n) a (append_if_any_agrees reached a leads receiver (λ e. apart (sym e ∙ a.me)))

progress_bridged :
    {shape : Shape} {g : protocol.History} {member : ℕ} {n : Node} → Reached shape.faults g → NodeAgrees shape g member n →
    n.volatile.role ≡ Leader → (receiver : ℕ) → receiver ≢ member →
    ActBridged shape g member (act_of_progress receiver n)
progress_bridged reached a leads receiver apart =
    decide_then reached a leads (act_of_next receiver)
    (λ h later node. next_bridged later node leads receiver apart) (next_bridged reached a leads receiver apart)

-- ---- the rules

module _
    {shape : Shape} {g : protocol.History} {member : ℕ} {n : Node} (reached : Reached shape.faults g) (a : NodeAgrees shape g member n) (sender : ℕ) where
  matched_as_bridged :
      (role : Role) (prev count mask : ℕ) → n.volatile.role ≡ role → SaidAgrees g sender member n.durable.term (peers.Matched prev count mask) →
      ActBridged shape g member (act_of_matched_as role n sender prev count mask)
  matched_as_bridged Follower prev count mask e told = unmoved_stays a
  matched_as_bridged Candidate prev count mask e told = unmoved_stays a
  matched_as_bridged Preparing prev count mask e told = unmoved_stays a
  matched_as_bridged Leader prev count mask e told =
      progress_bridged reached
      (hearing_agrees (log_heard n sender (Matched prev count mask)) a (leader_hearable _ (log_heard n sender (Matched prev count mask)) e (le_refl _)) told)
      e sender told.apart

  pub matched_bridged :
      (prev count mask : ℕ) → SaidAgrees g sender member n.durable.term (peers.Matched prev count mask) →
      ActBridged shape g member (act_of_matched n sender prev count mask)
  matched_bridged prev count mask told = matched_as_bridged n.volatile.role prev count mask refl told

  refused_as_bridged :
      (role : Role) (next : ℕ) → n.volatile.role ≡ role → sender ≢ member →
      ActBridged shape g member (act_of_refused_as role n sender next)
  refused_as_bridged Follower next e apart = unmoved_stays a
  refused_as_bridged Candidate next e apart = unmoved_stays a
  refused_as_bridged Preparing next e apart = unmoved_stays a
  refused_as_bridged Leader next e apart =
      let now = node_hearing (log_heard n sender (Refused next)) n in
      let heard : NodeAgrees shape g member now =
      hearing_agrees (log_heard n sender (Refused next)) a (leader_hearable _ (log_heard n sender (Refused next)) e (le_refl _)) tt in
      unmoved (act_of_retry sender now) heard
      (sends_one g (append_to now sender) (append_to_agrees reached heard e sender (λ same. apart (sym same ∙ a.me))))

  pub refused_bridged :
      (next : ℕ) → sender ≢ member → ActBridged shape g member (act_of_refused n sender next)
  refused_bridged next apart = refused_as_bridged n.volatile.role next refl apart
