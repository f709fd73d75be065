-- Append: a member that takes one makes the moves accept, learn where its commit index grows, and acknowledge; a member that
-- passes it over, or refuses it, is a follower as after a restart.
use Rattle.std.proofs.Common.{◌≡◌, ◌≢◌, ℕ, ◌+◌, ◌≤◌, ◌⊎◌, min, true, nat_le, List, length, take, drop, refl, sym, ap, subst, ◌∙◌, inl, inr, arith}
use Rattle.std.specs.List.{All}
use Rattle.std.proofs.lemmas.Bool.{cond_both, and_parts, leb-true, eqb-true}
use Rattle.craft_base.specs.Shape.{Shape}
use Rattle.craft_base.specs.declared.command.Entry.{Entry}
use Rattle.entry_frames.specs.Durable.{Durable, after as applied_all}
use Rattle.entry_frames.specs.declared.peer.Peer.TheVariants as peers
use Rattle.entry_frames.specs.declared.role.Role.TheVariants.{Follower}
use Rattle.world_model.specs.Nodes.{Node}
use Rattle.world_model.specs.Rules.Acts.{followed_by, message_of, stays}
use Rattle.world_model.specs.Rules.Append.{act_of_entries, act_of_heard_append, act_of_match, act_of_refusal, act_of_suited, act_of_taking, difference, following, has_before, is_clash, mask_of, taken_records}
use Rattle.world_model.specs.Rules.Applying.{act_of_commit}
use Rattle.world_model.specs.Rules.Terms.{refusal}
use Rattle.protocol.specs.History as protocol
use Rattle.protocol.specs.Invariants.{Sound}
use Rattle.protocol.specs.Logs.{Agree, term_at}
use Rattle.protocol.specs.Moves.{Accept, Restart, Reached, after}
use Rattle.protocol.proofs.Counting.{put_same}
use Rattle.protocol.proofs.Logs.{agree_less}
use Rattle.protocol.proofs.Messages.{agrees_at}
use Rattle.protocol.proofs.Runs.{sound_reached}
use Rattle.bridge.specs.Views.{log_seen, role_seen}
use Rattle.bridge.specs.Agreement.{AppendAgrees, HeardAgrees, MatchedAgrees, NodeAgrees}
use Rattle.bridge.specs.Bridges.{ActBridged, OwnMoves}
use Rattle.bridge.proofs.Acknowledging.{acknowledged, acknowledged_agrees, acknowledged_reach, acknowledged_whole, acknowledges}
use Rattle.bridge.proofs.Facts.{all_heard_stays}
use Rattle.bridge.proofs.Restarting.{restarted_agrees, restarts}
use Rattle.bridge.proofs.Masks.{stretch_bit}
use Rattle.bridge.proofs.Steps.{moved, moved_then, own_move, reached_grows, sends_none, sends_one, unmoved, unmoved_stays}
use Rattle.bridge.proofs.Taking.{IsTaken}
use Rattle.bridge.proofs.TakenRecords.{IsTakenBy, records_taken}
use Rattle.bridge.proofs.Views.{length_seen, term_at_seen}
use Rattle.bridge.proofs.Starts.{knows_follower, pages_follower}
use Rattle.bridge.proofs.Rules.Applying.{learn_then}
use Rattle.bridge.proofs.Rules.Terms.{refusal_agrees}

match_bridged :
    {shape : Shape} {g : protocol.History} {member : ℕ} {n : Node} (reached : Reached shape.faults g) (a : NodeAgrees shape g member n)
    (leader prev count : ℕ) → leader ≢ member → Agree (log_seen n.durable.log) (g.led n.durable.term) (prev + count) →
    ActBridged shape g member (act_of_match leader prev count n)
match_bridged {g = g} {member = member} {n = n} reached a leader prev count apart agrees =
    let mask = mask_of (take count (drop prev n.durable.log)) in
    let h = acknowledged g member (prev + count) (log_seen n.durable.log) in
    let matched : MatchedAgrees h n.durable.term n.me prev count mask = record {
      reach = acknowledged_reach reached a (prev + count) agrees;
      whole = λ bit set.
          let here = stretch_bit n.durable.log prev count bit set in
          let within = here.0 in
          acknowledged_whole reached a (prev + count) agrees (prev + 1 + bit) (omega (arith, within)) here.1;
    } in
    moved _ (acknowledges reached a (prev + count) agrees) (acknowledged_agrees reached a (prev + count) agrees)
    (sends_one h (message_of n (peers.Matched prev count mask) leader) (record { apart = λ e. apart (sym e ∙ a.me); body_agrees = matched }))

-- the commit index grows where it can, and the leader is told
learn_and_match :
    {shape : Shape} {g : protocol.History} {member : ℕ} {n : Node} → Reached shape.faults g → NodeAgrees shape g member n → n.volatile.role ≡ Follower →
    (leader prev count index : ℕ) → leader ≢ member → Agree (log_seen n.durable.log) (g.led n.durable.term) (prev + count) →
    index ≤ prev + count → (index ≤ g.base n.durable.term) ⊎ (index ≤ g.decided n.durable.term) →
    ActBridged shape g member (followed_by (act_of_commit index n) (act_of_match leader prev count))
learn_and_match reached a follows leader prev count index apart agrees within known =
    learn_then reached a follows index (act_of_match leader prev count) (agree_less index within agrees) known
    (λ later node. match_bridged later node leader prev count apart agrees) (match_bridged reached a leader prev count apart agrees)

-- ---- the entries

module _
    {shape : Shape} {g : protocol.History} {member : ℕ} {n : Node} (reached : Reached shape.faults g) (a : NodeAgrees shape g member n)
    (prev prev_term commit : ℕ) (entries : List Entry) (told : AppendAgrees g n.durable.term prev prev_term commit entries)
    (here : has_before n.durable.log prev prev_term ≡ true) where
  append_sound : Sound shape.faults g
  append_sound = sound_reached shape.faults g reached

  -- the entry before those that are sent is the leader's, with all below it
  before_agrees : Agree (log_seen n.durable.log) (g.led n.durable.term) prev
  before_agrees =
      let parts = and_parts (nat_le prev (length n.durable.log)) _ here in
      let own : prev ≤ length n.durable.log = leb-true _ _ parts.0 in
      let long : length (g.log member) ≡ length n.durable.log = ap length a.log ∙ length_seen n.durable.log in
      let led : prev + length entries ≤ length (g.led n.durable.term) = told.within in
      subst (λ log. Agree log (g.led n.durable.term) prev) a.log
      (agrees_at shape.faults g append_sound member n.durable.term prev (omega (arith, own, long)) (omega (arith, led))
      (ap (λ log. term_at log prev) a.log ∙ term_at_seen n.durable.log prev ∙ eqb-true _ _ parts.1 ∙ sym told.before))

  -- what the member keeps when it has taken the entries
  abbrev taken : Durable
  taken = applied_all n.durable (taken_records prev n.durable.log entries)

  pub entries_taken : IsTakenBy n.durable taken (g.led n.durable.term) (prev + length entries)
  entries_taken = records_taken n.durable entries (g.led n.durable.term) prev before_agrees told.within told.terms

  abbrev accepted : protocol.History
  accepted = after g (Accept member (log_seen taken.log))

  own_taken : IsTaken (g.log member) (log_seen taken.log) (g.led (g.term member)) (prev + length entries)
  own_taken =
      subst (λ t. IsTaken (g.log member) (log_seen taken.log) (g.led t) (prev + length entries)) (sym a.term)
      (subst (λ log. IsTaken log (log_seen taken.log) (g.led n.durable.term) (prev + length entries)) (sym a.log) entries_taken.log)

  accepts : OwnMoves shape.faults member g accepted
  accepts =
      own_move (Accept member (log_seen taken.log))
      (record { began = subst (λ t. g.began t ≡ true) (sym a.term) told.began; taken = own_taken.taken; marks = own_taken.marks })

  accepted_agrees : n.volatile.role ≡ Follower → NodeAgrees shape accepted member (act_of_entries prev entries n).node
  accepted_agrees follows = record {
    of_shape = a.of_shape;
    me = a.me;
    within = a.within;
    term = a.term ∙ sym entries_taken.term;
    vote = a.vote ∙ sym entries_taken.vote;
    log = put_same member (log_seen taken.log) g.log;
    commit = a.commit ∙ sym entries_taken.commit;
    role = put_same member protocol.Follower g.role ∙ sym (ap role_seen follows);
    heard =
        subst (λ t. All (HeardAgrees accepted t member) n.volatile.heard) (sym entries_taken.term)
        (all_heard_stays (reached_grows reached accepts.run) n.durable.term member n.volatile.heard a.heard);
    knows = knows_follower (length taken.log) n.volatile.first n.volatile.heard follows;
    pages = pages_follower accepted taken.term _ n.volatile.pages follows;
    needs = a.needs;
  }

  taking_bridged : (leader : ℕ) → leader ≢ member → n.volatile.role ≡ Follower → ActBridged shape g member (act_of_taking leader prev commit entries n)
  taking_bridged leader apart follows =
      let index : ℕ = min commit (prev + length entries) in
      let reach : Agree (log_seen taken.log) (g.led taken.term) (prev + length entries) =
      subst (λ t. Agree (log_seen taken.log) (g.led t) (prev + length entries)) (sym entries_taken.term) (entries_taken.log).agree in
      let known : (index ≤ g.base taken.term) ⊎ (index ≤ g.decided taken.term) =
      subst (λ t. (index ≤ g.base t) ⊎ (index ≤ g.decided t)) (sym entries_taken.term)
      (elim told.commits [ inl base ↦ inl (omega (arith, base)) | inr decided ↦ inr (omega (arith, decided)) ]) in
      moved_then reached (act_of_entries prev entries n)
      (λ now. followed_by (act_of_commit (min commit (prev + length entries)) now) (act_of_match leader prev (length entries))) accepts (accepted_agrees follows)
      (sends_none accepted)
      (λ later. learn_and_match later (accepted_agrees follows) follows leader prev (length entries) index apart reach (omega arith) known)

  suited_bridged : (leader : ℕ) → leader ≢ member → n.volatile.role ≡ Follower → ActBridged shape g member (act_of_suited leader prev commit entries n)
  suited_bridged leader apart follows =
      cond_both (is_clash n.durable.commit (difference prev n.durable.log entries)) (stays n) (act_of_taking leader prev commit entries n)
      (ActBridged shape g member) (λ clashes. unmoved_stays a) (λ suits. taking_bridged leader apart follows)

-- ---- the rule

pub heard_append_bridged :
    {shape : Shape} {g : protocol.History} {member : ℕ} {n : Node} (reached : Reached shape.faults g) (a : NodeAgrees shape g member n)
    (leader prev prev_term commit : ℕ) (entries : List Entry) → leader ≢ member → AppendAgrees g n.durable.term prev prev_term commit entries →
    n.volatile.role ≡ Follower → ActBridged shape g member (act_of_heard_append leader prev prev_term commit entries n)
heard_append_bridged {shape = shape} {g = g} {member = member} {n = n} reached a leader prev prev_term commit entries apart told follows =
    cond_both (has_before n.durable.log prev prev_term) (act_of_suited leader prev commit entries n) (act_of_refusal leader n)
    (ActBridged shape g member)
    (λ here. suited_bridged reached a prev prev_term commit entries told here leader apart follows)
    (λ lacks. unmoved (act_of_refusal leader n) a (sends_one g (message_of n (refusal n) leader) (refusal_agrees a leader apart)))

-- who hears the leader follows it, as after a restart
pub follower_agrees :
    {shape : Shape} {g : protocol.History} {member : ℕ} {n : Node} (reached : Reached shape.faults g) (a : NodeAgrees shape g member n) (leader : ℕ) →
    NodeAgrees shape (after g (Restart member)) member (record n { volatile = following leader n })
follower_agrees {g = g} {member = member} {n = n} reached a leader =
    restarted_agrees a (following leader n) refl
    (all_heard_stays (reached_grows reached (restarts g member).run) n.durable.term member n.volatile.heard a.heard)
