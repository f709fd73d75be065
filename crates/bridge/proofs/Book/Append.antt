-- An append: the entries that it adds stand in the book, as the message's do, and those that it removes go out by a cut.
use Rattle.std.proofs.Common.{◌≡◌, ◌≢◌, ℕ, ◌+◌, ◌≤◌, min, nat_le, true, List, [], ◌∷◌, ◌++◌, length, refl, sym, ap, subst, ◌∙◌, arith}
use Rattle.std.specs.List.{All}
use Rattle.std.proofs.lemmas.Bool.{cond_both, and_parts, leb-true}
use Rattle.std.proofs.lemmas.List.{append-nil}
use Rattle.std.proofs.lemmas.List.Elements.{All-same, All-weaker}
use Rattle.craft_base.specs.Shape.{Shape}
use Rattle.craft_base.specs.declared.command.Entry.{Entry}
use Rattle.entry_frames.specs.Durable.{Durable, after as applied_all}
use Rattle.entry_frames.specs.Records.{Record, Commit}
use Rattle.entry_frames.specs.declared.role.Role.{Role}
use Rattle.entry_frames.specs.declared.role.Role.TheVariants.{Follower, Candidate, Preparing, Leader}
use Rattle.world_model.specs.Nodes.{Node}
use Rattle.world_model.specs.Rules.Acts.{Act, followed_by, message_of, stays}
use Rattle.world_model.specs.Rules.Append.{act_of_append_as, act_of_entries, act_of_following, act_of_heard_append, act_of_match, act_of_refusal, act_of_suited, act_of_taking, difference, following, has_before, is_clash, taken_records}
use Rattle.world_model.specs.Rules.Applying.{act_of_applying}
use Rattle.world_model.specs.Rules.Terms.{refusal}
use Rattle.world_model.specs.Traces.{Proposal, Removal, all_commits_in, all_proposals_in, proposals_in, removals_in}
use Rattle.protocol.specs.History as protocol
use Rattle.protocol.specs.Logs.{Agree, Has, term_at}
use Rattle.protocol.specs.Moves.{Moves, Reached, Restart, after}
use Rattle.protocol.proofs.Messages.{agrees_at}
use Rattle.protocol.proofs.Runs.{moves_trans, sound_reached}
use Rattle.bridge.specs.Agreement.{AppendAgrees, NodeAgrees}
use Rattle.bridge.specs.Bridges.{TurnBridged}
use Rattle.bridge.specs.Traced.{AllStand, CommitAgrees, IsGone, MessageStands, PageStands, ProposalAgrees, RemovalAgrees, holder}
use Rattle.bridge.specs.Views.{log_seen}
use Rattle.bridge.proofs.Book.Cutting.{gone}
use Rattle.bridge.proofs.Book.Plain.{IsTraced, none_of_follower, silent_traced, stays_traced, turned}
use Rattle.bridge.proofs.Book.Sent.{one_stands}
use Rattle.bridge.proofs.Book.Standing.{pages_more, stand_more}
use Rattle.bridge.proofs.Book.Completing.{removals_in-append}
use Rattle.bridge.proofs.Book.Taken.{IsRemoved, IsTold, records_told}
use Rattle.bridge.proofs.Rules.Applying.{grows_or_stays}
use Rattle.bridge.proofs.Restarting.{restarts}
use Rattle.bridge.proofs.Rules.Append.{entries_taken, follower_agrees, heard_append_bridged}
use Rattle.bridge.proofs.Facts.{append_stays}
use Rattle.bridge.proofs.Steps.{after_moves, reached_grows, unmoved_stays}
use Rattle.bridge.proofs.TakenRecords.{IsTakenBy}
use Rattle.bridge.proofs.Views.{length_seen}

module _
    {shape : Shape} {g : protocol.History} {member : ℕ} {n : Node} (reached : Reached shape.faults g) (a : NodeAgrees shape g member n)
    (prev prev_term commit : ℕ) (entries : List Entry) (told : AppendAgrees g n.durable.term prev prev_term commit entries)
    (here : has_before n.durable.log prev prev_term ≡ true) where
  abbrev now : Durable
  now = applied_all n.durable (taken_records prev n.durable.log entries)

  -- what was removed went out by a cut, in whatever history the member has the log that the records leave
  removed_agrees :
      (h : protocol.History) → Moves shape.faults g h → h.term member ≡ n.durable.term → h.log member ≡ log_seen now.log → (c : Removal) →
      IsRemoved n.durable now (prev + length entries) c → RemovalAgrees h c
  removed_agrees h run term log c removed place entry e =
      let taken : IsTakenBy n.durable now (g.led n.durable.term) (prev + length entries) = entries_taken reached a prev prev_term commit entries told here in
      let agree : Agree (log_seen now.log) (g.led n.durable.term) (prev + length entries) = (taken.log).agree in
      let was : Has (log_seen n.durable.log) (c.index + place) entry.term = removed.places place entry e in
      let mine : Has (g.log member) (c.index + place) entry.term = subst (λ slots. Has slots (c.index + place) entry.term) (sym a.log) was in
      let long : length (log_seen now.log) ≡ length now.log = length_seen now.log in
      let lost : Has (h.log member) (c.index + place) entry.term → ⊥ =
      λ still.
      let left : Has (log_seen now.log) (c.index + place) entry.term = subst (λ slots. Has slots (c.index + place) entry.term) log still in
      let within : c.index + place ≤ length (log_seen now.log) = left.within in
      let reach : c.index + place ≤ prev + length entries = omega (arith, within, long, removed.long) in
      let led : term_at (log_seen now.log) (c.index + place) ≡ term_at (g.led n.durable.term) (c.index + place) = agree.same (c.index + place) reach in
      let right : prev + length entries ≤ length (g.led n.durable.term) = agree.right in
      let both : Agree (g.log member) (g.led n.durable.term) (c.index + place) =
      agrees_at shape.faults g (sound_reached shape.faults g reached) member n.durable.term (c.index + place) mine.within (omega (arith, right, reach))
      (mine.here ∙ sym left.here ∙ led) in
      removed.differs
      (ap (λ slots. term_at slots c.index) (sym a.log) ∙ both.same c.index (omega arith) ∙ sym (agree.same c.index (omega (arith, reach)))) in
      let out : IsGone h n.durable.term (c.index + place) entry.term =
      gone shape.faults g reached (c.index + place) entry.term member h n.durable.term run mine lost a.term term in
      subst (λ t. IsGone h t (c.index + place) entry.term) (sym removed.term) out

  module _ {book : List Proposal} (stand : AllStand (holder shape member) book 1 n.durable.log) (seen : All (PageStands shape book) n.volatile.pages) (sent : AllStand (holder shape member) book (prev + 1) entries) where
    -- an act that leaves the log as those records do, by them and by others that remove nothing
    taken_traced :
        (act : Act) (rest : List Record) → All (PageStands shape book) act.node.volatile.pages → act.node.durable.term ≡ now.term → act.node.durable.log ≡ now.log → act.node.volatile.role ≡ Follower →
        act.records ≡ taken_records prev n.durable.log entries ++ rest → ((event : ℕ) → removals_in event member now rest ≡ []) →
        ((more : List Proposal) → All (MessageStands shape more) act.sends) → IsTraced shape g member n.durable book act
    taken_traced act rest pages term log follows records none sends h run node event =
        let taken : IsTakenBy n.durable now (g.led n.durable.term) (prev + length entries) = entries_taken reached a prev prev_term commit entries told here in
        let within : prev ≤ length n.durable.log = leb-true _ _ (and_parts (nat_le prev (length n.durable.log)) _ here).0 in
        let told_of : IsTold (holder shape member) book event member n.durable (prev + length entries) (taken_records prev n.durable.log entries) =
        records_told (holder shape member) book event member n.durable entries prev within stand sent in
        let more = proposals_in event act.node.volatile.role n.durable act.records in
        let all_removed : All (IsRemoved n.durable now (prev + length entries)) (removals_in event member n.durable act.records) =
        subst (λ it. All (IsRemoved n.durable now (prev + length entries)) (removals_in event member n.durable it)) (sym records)
        (All-same (IsRemoved n.durable now (prev + length entries)) _ (removals_in event member n.durable (taken_records prev n.durable.log entries))
        (removals_in-append event member n.durable (taken_records prev n.durable.log entries) rest
        ∙ ap (λ it. removals_in event member n.durable (taken_records prev n.durable.log entries) ++ it) (none event)
        ∙ append-nil (removals_in event member n.durable (taken_records prev n.durable.log entries))) told_of.removals) in
        record {
          proposals = none_of_follower (ProposalAgrees h) act.node.volatile.role (all_proposals_in event n.durable act.records) follows;
          removals = All-weaker (IsRemoved n.durable now (prev + length entries)) (RemovalAgrees h)
              (removed_agrees h run (node.term ∙ term ∙ taken.term) (node.log ∙ ap log_seen log)) _ all_removed;
          commits = none_of_follower (CommitAgrees h) act.node.volatile.role (all_commits_in event n.durable act.records) follows;
          log = stand_more (holder shape member) book more 1 act.node.durable.log (subst (AllStand (holder shape member) book 1) (sym log) told_of.log);
          pages = pages_more shape book more act.node.volatile.pages pages;
          sends = sends (book ++ more);
        }

    taking_traced : (leader : ℕ) → n.volatile.role ≡ Follower → IsTraced shape g member n.durable book (act_of_taking leader prev commit entries n)
    taking_traced leader follows =
        let index : ℕ = min commit (prev + length entries) in
        let taken : Node = (act_of_entries prev entries n).node in
        grows_or_stays taken index
        (λ act. IsTraced shape g member n.durable book (followed_by (act_of_entries prev entries n) (λ it. followed_by act (act_of_match leader prev (length entries)))))
        (λ grows.
        taken_traced (followed_by (act_of_entries prev entries n) (λ it. followed_by (act_of_applying index taken) (act_of_match leader prev (length entries))))
        (Commit index ∷ []) seen refl refl follows refl (λ event. refl) (λ more. one_stands shape more _ tt))
        (taken_traced (followed_by (act_of_entries prev entries n) (λ it. followed_by (stays taken) (act_of_match leader prev (length entries))))
        [] seen refl refl follows refl (λ event. refl) (λ more. one_stands shape more _ tt))

    suited_traced : (leader : ℕ) → n.volatile.role ≡ Follower → IsTraced shape g member n.durable book (act_of_suited leader prev commit entries n)
    suited_traced leader follows =
        cond_both (is_clash n.durable.commit (difference prev n.durable.log entries)) (stays n) (act_of_taking leader prev commit entries n)
        (IsTraced shape g member n.durable book) (λ clashes. stays_traced n.durable stand n seen refl) (λ suits. taking_traced leader follows)

heard_append_traced :
    {shape : Shape} {g : protocol.History} {member : ℕ} {n : Node} {book : List Proposal} → Reached shape.faults g → NodeAgrees shape g member n →
    (leader prev prev_term commit : ℕ) (entries : List Entry) → AppendAgrees g n.durable.term prev prev_term commit entries →
    AllStand (holder shape member) book 1 n.durable.log → All (PageStands shape book) n.volatile.pages → AllStand (holder shape member) book (prev + 1) entries → n.volatile.role ≡ Follower →
    IsTraced shape g member n.durable book (act_of_heard_append leader prev prev_term commit entries n)
heard_append_traced {shape = shape} {g = g} {member = member} {n = n} {book = book} reached a leader prev prev_term commit entries told stand seen sent follows =
    cond_both (has_before n.durable.log prev prev_term) (act_of_suited leader prev commit entries n) (act_of_refusal leader n)
    (IsTraced shape g member n.durable book)
    (λ here. suited_traced reached a prev prev_term commit entries told here stand seen sent leader follows)
    (λ lacks. silent_traced n.durable stand (act_of_refusal leader n) seen refl refl (λ more log. one_stands shape more (message_of n (refusal n) leader) tt))

module _
    {shape : Shape} {g : protocol.History} {member : ℕ} {n : Node} {book : List Proposal} (reached : Reached shape.faults g) (a : NodeAgrees shape g member n)
    (leader prev prev_term commit : ℕ) (entries : List Entry) (apart : leader ≢ member)
    (told : AppendAgrees g n.durable.term prev prev_term commit entries) (stand : AllStand (holder shape member) book 1 n.durable.log)
    (seen : All (PageStands shape book) n.volatile.pages) (sent : AllStand (holder shape member) book (prev + 1) entries) where
  following_turned : TurnBridged shape g book member n.durable (act_of_following leader prev prev_term commit entries n)
  following_turned =
      let moves = restarts g member in
      let h = after g (Restart member) in
      let later : Reached shape.faults h = moves_trans shape.faults _ g h reached moves.run in
      let node : NodeAgrees shape h member (record n { volatile = following leader n }) = follower_agrees reached a leader in
      let still : AppendAgrees h n.durable.term prev prev_term commit entries =
      append_stays (reached_grows reached moves.run) n.durable.term prev prev_term commit entries told in
      let next = heard_append_bridged later node leader prev prev_term commit entries apart still refl in
      record {
        bridged = after_moves moves next;
        traced = λ event.
            heard_append_traced later node leader prev prev_term commit entries still stand seen sent refl next.history (next.moves).run next.node event;
      }

  pub append_as_turned : (role : Role) → TurnBridged shape g book member n.durable (act_of_append_as role n leader prev prev_term commit entries)
  append_as_turned Follower = following_turned
  append_as_turned Candidate = following_turned
  append_as_turned Preparing = turned (unmoved_stays a) (stays_traced n.durable stand n seen refl)
  append_as_turned Leader = turned (unmoved_stays a) (stays_traced n.durable stand n seen refl)
