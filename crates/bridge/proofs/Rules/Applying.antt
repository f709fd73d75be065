-- Applying: where the commit index grows, a follower makes the move learn, and a leader acknowledges its own log and makes the move
-- decide.
use Rattle.std.proofs.Common.{◌≡◌, ℕ, ◌<◌, ◌≤◌, ◌⊎◌, nat_lt, Option, length, sym, ap, subst, ◌∙◌, inl, inr, arith, le_trans}
use Rattle.std.proofs.lemmas.Bool.{cond_both, ltb-true}
use Rattle.craft_base.specs.Shape.{Shape}
use Rattle.entry_frames.specs.declared.role.Role.TheVariants.{Follower, Leader}
use Rattle.world_model.specs.Nodes.{Node}
use Rattle.world_model.specs.Rules.Acts.{Act, followed_by, stays}
use Rattle.world_model.specs.Rules.Applying.{act_of_applying, act_of_commit}
use Rattle.world_model.specs.Rules.Matched.{commit_of_leader}
use Rattle.protocol.specs.Growth.{Grows}
use Rattle.protocol.specs.History as protocol
use Rattle.protocol.specs.Invariants.{Sound}
use Rattle.protocol.specs.Logs.{Agree, Has}
use Rattle.protocol.specs.Moves.{Counts, Decide, Learn, Reached, after}
use Rattle.protocol.specs.Words.{Quorum, need_at, reaches}
use Rattle.protocol.specs.Counting.{put}
use Rattle.protocol.proofs.Counting.{put_same}
use Rattle.protocol.proofs.Runs.{moves_trans, sound_reached}
use Rattle.bridge.specs.Views.{log_seen, role_seen}
use Rattle.bridge.specs.Agreement.{NodeAgrees, PagesAgree}
use Rattle.bridge.specs.Bridges.{ActBridged, OwnMoves}
use Rattle.bridge.proofs.Acknowledging.{acknowledged, acknowledged_agrees, acknowledged_reach, acknowledged_whole, acknowledges}
use Rattle.bridge.proofs.Committing.{IsCounted, new_counted}
use Rattle.bridge.proofs.Facts.{all_heard_stays}
use Rattle.bridge.proofs.Knowing.{enough_counted}
use Rattle.bridge.proofs.Steps.{moved_then, own_move, own_none, own_then, reached_grows, sends_none}
use Rattle.bridge.proofs.Views.{length_seen, term_at_seen}
use Rattle.bridge.proofs.Rules.Say.{leading_log}
use Rattle.bridge.proofs.Starts.{pages_follower, pages_leader}

-- the commit index grows to that one, or it is there already
pub grows_or_stays :
    (n : Node) (index : ℕ) (P : Act → Type 0) → (n.durable.commit < index → P (act_of_applying index n)) → P (stays n) →
    P (act_of_commit index n)
grows_or_stays n index P grown same =
    cond_both (nat_lt n.durable.commit index) (act_of_applying index n) (stays n) P
    (λ greater. grown (ltb-true _ _ greater)) (λ less. same)

-- a node that committed up to an index agrees with a history in which its member did, whatever was decided there
commit_agrees :
    {shape : Shape} {g : protocol.History} {member : ℕ} {n : Node} (a : NodeAgrees shape g member n) (index : ℕ) (decided : ℕ → ℕ) →
    ((h : protocol.History) (cursor : Option ℕ) → PagesAgree n.volatile.role h n.durable.term cursor n.volatile.pages) → Grows g (record g { commit = put member index g.commit; decided = decided }) →
    NodeAgrees shape (record g { commit = put member index g.commit; decided = decided }) member (act_of_applying index n).node
commit_agrees {g = g} {member = member} {n = n} a index decided pages grows = record {
  of_shape = a.of_shape;
  me = a.me;
  within = a.within;
  term = a.term;
  vote = a.vote;
  log = a.log;
  commit = put_same member index g.commit;
  role = a.role;
  heard = all_heard_stays grows n.durable.term member n.volatile.heard a.heard;
  knows = a.knows;
  pages = pages _ _;
  needs = a.needs;
}

-- a rule that follows is bridged from the history that the moves for it lead to
committed_then :
    {shape : Shape} {g h : protocol.History} {member : ℕ} {n : Node} (reached : Reached shape.faults g) (a : NodeAgrees shape g member n)
    (index : ℕ) (rule : Node → Act) →
    (n.durable.commit < index →
    OwnMoves shape.faults member g h × NodeAgrees shape h member (act_of_applying index n).node) →
    (Reached shape.faults h → NodeAgrees shape h member (act_of_applying index n).node →
    ActBridged shape h member (rule (act_of_applying index n).node)) →
    ActBridged shape g member (rule n) → ActBridged shape g member (followed_by (act_of_commit index n) rule)
committed_then {shape = shape} {g = g} {h = h} {member = member} {n = n} reached a index rule grown next same =
    grows_or_stays n index (λ act. ActBridged shape g member (followed_by act rule))
    (λ more.
    let moves = (grown more).0 in
    let node = (grown more).1 in
    moved_then reached (act_of_applying index n) rule moves node (sends_none h) (λ later. next later node))
    (moved_then reached (stays n) rule (own_none g) a (sends_none g) (λ later. same))

-- ---- at a follower

module _
    {shape : Shape} {g : protocol.History} {member : ℕ} {n : Node} (reached : Reached shape.faults g) (a : NodeAgrees shape g member n)
    (index : ℕ) (more : n.durable.commit < index) (agrees : Agree (log_seen n.durable.log) (g.led n.durable.term) index)
    (known : (index ≤ g.base n.durable.term) ⊎ (index ≤ g.decided n.durable.term)) where
  learns : OwnMoves shape.faults member g (after g (Learn member index))
  learns =
      own_move (Learn member index) (
        omega (arith, a.commit, more),
        subst (λ t. Agree (g.log member) (g.led t) index) (sym a.term) (subst (λ log. Agree log (g.led n.durable.term) index) (sym a.log) agrees),
        subst (λ t. (index ≤ g.base t) ⊎ (index ≤ g.decided t)) (sym a.term) known,
      )

  learnt_agrees : n.volatile.role ≡ Follower → NodeAgrees shape (after g (Learn member index)) member (act_of_applying index n).node
  learnt_agrees follows =
      commit_agrees a index g.decided (λ h cursor. pages_follower h n.durable.term cursor n.volatile.pages follows) (reached_grows reached learns.run)

-- a follower commits up to an index that the leader had, as far as the log is the leader's, and then a rule follows
pub learn_then :
    {shape : Shape} {g : protocol.History} {member : ℕ} {n : Node} (reached : Reached shape.faults g) (a : NodeAgrees shape g member n)
    (follows : n.volatile.role ≡ Follower) (index : ℕ) (rule : Node → Act) → Agree (log_seen n.durable.log) (g.led n.durable.term) index →
    (index ≤ g.base n.durable.term) ⊎ (index ≤ g.decided n.durable.term) →
    (Reached shape.faults (after g (Learn member index)) →
    NodeAgrees shape (after g (Learn member index)) member (act_of_applying index n).node →
    ActBridged shape (after g (Learn member index)) member (rule (act_of_applying index n).node)) →
    ActBridged shape g member (rule n) → ActBridged shape g member (followed_by (act_of_commit index n) rule)
learn_then reached a follows index rule agrees known next same =
    committed_then reached a index rule (λ more. (learns reached a index more agrees known, learnt_agrees reached a index more agrees known follows)) next same

-- ---- at a leader

module _
    {shape : Shape} {g : protocol.History} {member : ℕ} {n : Node} (reached : Reached shape.faults g) (a : NodeAgrees shape g member n)
    (leads : n.volatile.role ≡ Leader) where
  own_log : Agree (log_seen n.durable.log) (g.led n.durable.term) (length n.durable.log)
  own_log = subst (Agree (log_seen n.durable.log) (g.led n.durable.term)) (length_seen n.durable.log) (leading_log reached a leads).agree

  -- the history in which the leader acknowledged its own log
  abbrev ready : protocol.History
  ready = acknowledged g member (length n.durable.log) (log_seen n.durable.log)

  own_said : OwnMoves shape.faults member g ready
  own_said = acknowledges reached a (length n.durable.log) own_log

  ready_reached : Reached shape.faults ready
  ready_reached = moves_trans shape.faults _ g ready reached own_said.run

  ready_sound : Sound shape.faults ready
  ready_sound = sound_reached shape.faults ready ready_reached

  ready_agrees : NodeAgrees shape ready member n
  ready_agrees = acknowledged_agrees reached a (length n.durable.log) own_log

  -- and in which it committed up to an index
  abbrev decided : ℕ → protocol.History
  decided index = after ready (Decide member index)

  module _ (index : ℕ) (more : n.durable.commit < index) (chosen : IsCounted n.shape n.me n.durable.term n.durable.commit n.durable.log n.volatile.heard index) where
    in_led : index ≤ length (g.led n.durable.term)
    in_led = le_trans chosen.within own_log.right

    owns : Has (ready.led (ready.term member)) index (ready.term member)
    owns =
        subst (λ t. Has (g.led t) index t) (sym a.term)
        (record {
          from = omega (arith, more);
          within = in_led;
          here = sym (own_log.same index chosen.within) ∙ term_at_seen n.durable.log index ∙ chosen.own;
        })

    quorum : (i : ℕ) → n.durable.commit < i → i ≤ index → Quorum shape.faults (λ j. ready.held n.durable.term j i) (reaches ready n.durable.term i) shape.need
    quorum i above le =
        enough_counted shape ready n.durable.term n.me n.durable.log n.volatile.heard
        (rw a.me ready_agrees.heard)
        (acknowledged_reach reached a (length n.durable.log) own_log)
        (acknowledged_whole reached a (length n.durable.log) own_log)
        (λ j k e. (ready_sound.acks.held n.durable.term j k e).1)
        i (le_trans le chosen.within) (rw (← a.of_shape) (chosen.each i above le))

    counts : Counts shape.faults ready member index
    counts i above le =
        let low : n.durable.commit < i = omega (arith, above, a.commit) in
        let needs : need_at ready n.durable.term i ≡ shape.need = a.needs n.durable.term i (omega (arith, low)) (le_trans le in_led) in
        subst (λ t. Quorum shape.faults (λ j. ready.held t j i) (reaches ready t i) (need_at ready t i)) (sym a.term)
        (subst (Quorum shape.faults (λ j. ready.held n.durable.term j i) (reaches ready n.durable.term i)) (sym needs) (quorum i low le))

    decides : OwnMoves shape.faults member ready (decided index)
    decides = own_move (Decide member index) (a.role ∙ ap role_seen leads, owns, omega (arith, more, a.commit), counts)

    says_and_decides : OwnMoves shape.faults member g (decided index)
    says_and_decides = own_then own_said decides

    decided_agrees : NodeAgrees shape (decided index) member (act_of_applying index n).node
    decided_agrees =
        commit_agrees ready_agrees index (put (g.term member) index g.decided) (λ h cursor. pages_leader h n.durable.term cursor n.volatile.pages leads)
        (reached_grows ready_reached decides.run)

-- a leader commits what it counted enough members to hold, and then a rule follows
pub decide_then :
    {shape : Shape} {g : protocol.History} {member : ℕ} {n : Node} (reached : Reached shape.faults g) (a : NodeAgrees shape g member n) →
    n.volatile.role ≡ Leader → (rule : Node → Act) →
    ((h : protocol.History) → Reached shape.faults h → NodeAgrees shape h member (act_of_applying (commit_of_leader n) n).node →
    ActBridged shape h member (rule (act_of_applying (commit_of_leader n) n).node)) →
    ActBridged shape g member (rule n) → ActBridged shape g member (followed_by (act_of_commit (commit_of_leader n) n) rule)
decide_then {shape = shape} {g = g} {member = member} {n = n} reached a leads rule next same =
    let index = commit_of_leader n in
    committed_then reached a index rule
    (λ more. elim (new_counted n.shape n.me n.durable.term n.durable.commit n.durable.log n.volatile.heard) [
      | inl stands ↦ absurd (omega (arith, more, stands))
      | inr chosen ↦ (says_and_decides reached a leads index more chosen, decided_agrees reached a leads index more chosen)
    ])
    (next (decided reached a leads (commit_of_leader n))) same
