-- What a leader commits by a match: its term's leader decided it, since its commit index grew while it led.
use Rattle.std.proofs.Common.{◌≡◌, ℕ, ◌<◌, ◌≤◌, true, List, [], ◌∷◌, ◌++◌, length, take, refl, sym, ap, subst, ◌∙◌, inl, inr, arith, length-take-le}
use Rattle.std.specs.List.{All}
use Rattle.std.proofs.lemmas.List.Elements.{All-cons, All-nil}
use Rattle.craft_base.specs.Knowledge.{Matched, Refused}
use Rattle.craft_base.specs.Shape.{Shape}
use Rattle.entry_frames.specs.Records.{Commit}
use Rattle.entry_frames.specs.declared.role.Role.{Role}
use Rattle.entry_frames.specs.declared.role.Role.TheVariants.{Follower, Candidate, Preparing, Leader}
use Rattle.world_model.specs.Nodes.{Node, node_hearing}
use Rattle.world_model.specs.Rules.Acts.{followed_by, stays}
use Rattle.world_model.specs.Rules.Applying.{act_of_applying}
use Rattle.world_model.specs.Rules.Matched.{act_of_matched_as, act_of_next, act_of_progress, act_of_refused_as, act_of_retry, commit_of_leader, log_heard}
use Rattle.world_model.specs.Rules.Say.{append_to}
use Rattle.world_model.specs.Traces.{LeaderCommit, Proposal, has_won_term, proposals_in}
use Rattle.protocol.specs.Growth.{Grows}
use Rattle.protocol.specs.History as protocol
use Rattle.protocol.specs.Invariants.{Sound}
use Rattle.protocol.specs.Logs.{Agree, Same}
use Rattle.protocol.specs.Moves.{Moves, Reached}
use Rattle.protocol.proofs.Logs.{agree_less, agree_trans}
use Rattle.protocol.proofs.Slots.{front_take}
use Rattle.protocol.proofs.Runs.{moves_trans, sound_reached}
use Rattle.bridge.specs.Agreement.{NodeAgrees}
use Rattle.bridge.specs.Traced.{AllStand, CommitAgrees, PageStands, ProposalAgrees, RemovalAgrees, holder}
use Rattle.bridge.specs.Views.{log_seen, role_seen}
use Rattle.bridge.proofs.Book.Plain.{IsTraced, all_won, none_won, silent_traced, stays_traced}
use Rattle.bridge.proofs.Book.Sent.{append_if_any_stands, append_stands, one_stands}
use Rattle.bridge.proofs.Book.Standing.{pages_more, stand_more}
use Rattle.bridge.proofs.Rules.Applying.{grows_or_stays}
use Rattle.bridge.proofs.Rules.Say.{leading_log}
use Rattle.bridge.proofs.Steps.{reached_grows}
use Rattle.bridge.proofs.Views.{length_seen, take_seen}

module _
    {shape : Shape} {g : protocol.History} {member : ℕ} {n : Node} (reached : Reached shape.faults g) (a : NodeAgrees shape g member n)
    (leads : n.volatile.role ≡ Leader) where
  committed_agrees :
      (index event : ℕ) → n.durable.commit < index → (h : protocol.History) → Moves shape.faults g h →
      NodeAgrees shape h member (act_of_applying index n).node →
      CommitAgrees h (record { event = event; term = n.durable.term; log = take index n.durable.log })
  committed_agrees index event more h run node =
      let later : Reached shape.faults h = moves_trans shape.faults _ g h reached run in
      let grows : Grows g h = reached_grows reached run in
      let was : Sound shape.faults g = sound_reached shape.faults g reached in
      let now : Sound shape.faults h = sound_reached shape.faults h later in
      let led : Same (log_seen n.durable.log) (h.led n.durable.term) = leading_log later node leads in
      let within : h.commit member ≤ length (h.log member) = (now.commits.commit member).3.left in
      let seen : length (h.log member) ≡ length n.durable.log = ap length node.log ∙ length_seen n.durable.log in
      let in_log : index ≤ length n.durable.log = omega (arith, within, seen, node.commit) in
      let long : length (take index n.durable.log) ≡ index = length-take-le index n.durable.log in_log in
      let began : g.began (g.term member) ≡ true = (was.logs.leading member (a.role ∙ ap role_seen leads)).0 in
      let base : h.base (g.term member) ≡ g.base (g.term member) = grows.base (g.term member) began in
      let same_term : h.term member ≡ g.term member = node.term ∙ sym a.term in
      let decided : index ≤ h.decided n.durable.term = elim (now.commits.leading member (node.role ∙ ap role_seen leads)) [
        | inl began_with ↦
            let at_base : h.commit member ≡ h.base (g.term member) = subst (λ t. h.commit member ≡ h.base t) same_term began_with.0 in
            elim (was.commits.leading member (a.role ∙ ap role_seen leads)) [
              | inl still ↦ absurd (omega (arith, at_base, base, still.0, more, a.commit, node.commit))
              | inr had ↦ absurd (omega (arith, at_base, base, had.1, more, a.commit, node.commit))
            ]
        | inr counted ↦
            let at : h.commit member ≡ h.decided n.durable.term = subst (λ t. h.commit member ≡ h.decided t) node.term counted.0 in
            omega (arith, at, node.commit)
      ] in
      let whole : length (log_seen n.durable.log) ≡ length n.durable.log = length_seen n.durable.log in
      let front : Agree (take index (log_seen n.durable.log)) (log_seen n.durable.log) (length (take index (log_seen n.durable.log))) =
      front_take index (log_seen n.durable.log) (omega (arith, whole, in_log)) in
      let front_long : length (take index (log_seen n.durable.log)) ≡ index = length-take-le index (log_seen n.durable.log) (omega (arith, whole, in_log)) in
      let agrees : Agree (take index (log_seen n.durable.log)) (h.led n.durable.term) index =
      agree_trans (subst (Agree (take index (log_seen n.durable.log)) (log_seen n.durable.log)) front_long front)
      (agree_less index (omega (arith, whole, in_log)) led.agree) in (
        omega (arith, long, decided),
        subst (λ log. Agree log (h.led n.durable.term) (length (take index n.durable.log))) (sym (take_seen index n.durable.log))
            (subst (Agree (take index (log_seen n.durable.log)) (h.led n.durable.term)) (sym long) agrees),
      )

  progress_traced :
      {book : List Proposal} → AllStand (holder shape member) book 1 n.durable.log → All (PageStands shape book) n.volatile.pages → (receiver : ℕ) →
      IsTraced shape g member n.durable book (act_of_progress receiver n)
  progress_traced {book = book} stand seen receiver =
      let index = commit_of_leader n in
      grows_or_stays n index (λ act. IsTraced shape g member n.durable book (followed_by act (act_of_next receiver)))
      (λ above h run node event.
      let now = (act_of_applying index n).node in
      let c : LeaderCommit = record { event = event; term = n.durable.term; log = take index n.durable.log } in
      let more = proposals_in event n.volatile.role n.durable (Commit index ∷ []) in
      let log : AllStand (holder shape member) (book ++ more) 1 n.durable.log = stand_more (holder shape member) book more 1 n.durable.log stand in
      record {
        proposals = none_won (ProposalAgrees h) (has_won_term n.volatile.role) [] refl;
        removals = All-nil (RemovalAgrees h);
        commits = all_won (CommitAgrees h) (has_won_term n.volatile.role) (c ∷ [])
            (All-cons (CommitAgrees h) c [] (committed_agrees index event above h run node) (All-nil (CommitAgrees h)));
        log = log;
        pages = pages_more shape book more n.volatile.pages seen;
        sends = append_if_any_stands shape (book ++ more) member now a.of_shape log receiver;
      })
      (silent_traced n.durable stand (followed_by (stays n) (act_of_next receiver)) seen refl refl
      (λ now log. append_if_any_stands shape now member n a.of_shape log receiver))

module _
    {shape : Shape} {g : protocol.History} {member : ℕ} (n : Node) {book : List Proposal} (reached : Reached shape.faults g)
    (stand : AllStand (holder shape member) book 1 n.durable.log) (seen : All (PageStands shape book) n.volatile.pages) (of_shape : n.shape ≡ shape) (sender : ℕ) where
  pub matched_as_traced :
      (role : Role) (prev count mask : ℕ) → n.volatile.role ≡ role →
      (n.volatile.role ≡ Leader → NodeAgrees shape g member (node_hearing (log_heard n sender (Matched prev count mask)) n)) →
      IsTraced shape g member n.durable book (act_of_matched_as role n sender prev count mask)
  matched_as_traced Follower prev count mask e a = stays_traced n.durable stand n seen refl
  matched_as_traced Candidate prev count mask e a = stays_traced n.durable stand n seen refl
  matched_as_traced Preparing prev count mask e a = stays_traced n.durable stand n seen refl
  matched_as_traced Leader prev count mask e a = progress_traced reached (a e) e stand seen sender

  pub refused_as_traced : (role : Role) (next : ℕ) → IsTraced shape g member n.durable book (act_of_refused_as role n sender next)
  refused_as_traced Follower next = stays_traced n.durable stand n seen refl
  refused_as_traced Candidate next = stays_traced n.durable stand n seen refl
  refused_as_traced Preparing next = stays_traced n.durable stand n seen refl
  refused_as_traced Leader next =
      let now = node_hearing (log_heard n sender (Refused next)) n in
      silent_traced n.durable stand (act_of_retry sender now) seen refl refl
      (λ more log. one_stands shape more (append_to now sender) (append_stands shape more member now of_shape log sender))
