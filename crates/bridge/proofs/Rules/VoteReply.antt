-- VoteReply: a candidate that has won makes the moves of Prepare, the first of which is allowed since each vote that it counts was cast;
-- any other member makes none.
use Rattle.std.proofs.Common.{◌≡◌, ◌≢◌, ℕ, ◌<◌, ◌≤◌, le_trans, true, Bool, List, [], ◌∷◌, Some, refl, sym, ap, ◌∙◌, inl, inr, arith}
use Rattle.std.specs.List.{All}
use Rattle.std.proofs.lemmas.Bool.{cond_both, and_parts, or_cases, eqb-true, leb-true, true≢false, false_from_ne_true}
use Rattle.std.proofs.lemmas.List.Elements.{All-head, All-tail}
use Rattle.craft_base.specs.Shape.{IsShape, Shape, members_of, majority_of}
use Rattle.craft_base.specs.Knowledge as known
use Rattle.entry_frames.specs.declared.role.Role.{Role}
use Rattle.entry_frames.specs.declared.role.Role.TheVariants.{Follower, Candidate, Preparing, Leader}
use Rattle.craft_base.specs.Knowledge.{Heard, Told, Beat, From, Voted, Matched, Refused, Answered}
use Rattle.world_model.specs.Nodes.{Node, node_hearing}
use Rattle.world_model.specs.Rules.Acts.{stays}
use Rattle.world_model.specs.Rules.VoteReply.{act_of_count, act_of_vote_reply, act_of_vote_reply_as, has_won, vote_heard}
use Rattle.world_model.specs.Rules.Prepare.{act_of_winning}
use Rattle.world_model.specs.Traces.{Proposal}
use Rattle.protocol.specs.History as protocol
use Rattle.protocol.specs.Words.{is_for, votes}
use Rattle.protocol.specs.Moves.{Win, Allowed, Reached}
use Rattle.protocol.proofs.Counting.{is_for_from}
use Rattle.protocol.proofs.Elections.{votes_reached}
use Rattle.bridge.specs.Views.{role_seen}
use Rattle.bridge.specs.Agreement.{HeardAgrees, NodeAgrees}
use Rattle.bridge.specs.Bridges.{ActBridged}
use Rattle.bridge.proofs.Counting.{count_members, count_one_more}
use Rattle.bridge.proofs.Facts.{hearing_agrees}
use Rattle.bridge.proofs.Steps.{unmoved_stays}
use Rattle.bridge.specs.Traced.{AllStand, holder}
use Rattle.bridge.proofs.Starts.{no_log_hearable}
use Rattle.bridge.proofs.Rules.Prepare.{winning_bridged}

-- a granted vote that was heard was cast, by another member
heard_vote :
    (h : protocol.History) (term me voter : ℕ) (item : Heard) → HeardAgrees h term me item → known.is_vote_of voter item ≡ true →
    (voter ≢ me) × (h.voted term voter ≡ Some me)
heard_vote h term me voter Beat a e = absurd (true≢false (sym e))
heard_vote h term me voter (From sender last (Voted granted)) a e =
    let parts = and_parts granted _ e in
    let same : sender ≡ voter = eqb-true sender voter parts.1 in
    rw (← same) (a.apart, a.body_agrees parts.0)
heard_vote h term me voter (From sender last (Matched prev count mask)) a e = absurd (true≢false (sym e))
heard_vote h term me voter (From sender last (Refused next)) a e = absurd (true≢false (sym e))
heard_vote h term me voter (From sender last Answered) a e = absurd (true≢false (sym e))

heard_votes :
    (h : protocol.History) (term me voter : ℕ) (heard : List Heard) → All (HeardAgrees h term me) heard →
    known.granted_by voter heard ≡ true → (voter ≢ me) × (h.voted term voter ≡ Some me)
heard_votes h term me voter [] a e = absurd (true≢false (sym e))
heard_votes h term me voter (item ∷ heard) a e = elim (or_cases (known.is_vote_of voter item) _ e) [
  | inl here ↦ heard_vote h term me voter item (All-head (HeardAgrees h term me) item heard a) here
  | inr there ↦ heard_votes h term me voter heard (All-tail (HeardAgrees h term me) item heard a) there
]

-- a candidate's count of votes is at most the protocol's: each vote that it heard was cast, and its own is one more
votes_counted :
    (shape : Shape) (g : protocol.History) (member term : ℕ) (heard : List Heard) → member < members_of shape →
    g.voted term member ≡ Some member → All (HeardAgrees g term member) heard →
    known.votes shape heard ≤ votes shape.faults g term member
votes_counted shape g member term heard within own a =
    let all = count_members (λ voter. known.granted_by voter heard) (members_of shape) in
    let more =
    count_one_more (λ voter. known.granted_by voter heard) (λ voter. is_for member (g.voted term voter)) (members_of shape) member
    (λ voter lt e. is_for_from member (g.voted term voter) (heard_votes g term member voter heard a e).1) within
    (false_from_ne_true _ (λ e. (heard_votes g term member member heard a e).0 refl))
    (is_for_from member (g.voted term member) own) in
    omega (arith, all, more)

module _
    {shape : Shape} {g : protocol.History} {member : ℕ} {n : Node} (reached : Reached shape.faults g) (a : NodeAgrees shape g member n)
  where
    pub won_allowed : n.volatile.role ≡ Candidate → has_won n ≡ true → Allowed shape.faults g (Win member)
    won_allowed role won =
        let stands : g.role member ≡ protocol.Candidate = a.role ∙ ap role_seen role in
        let own : g.voted (g.term member) member ≡ Some member = ((votes_reached shape.faults g reached).standing member stands).0 in
        let majority : majority_of shape ≤ known.votes shape n.volatile.heard = leb-true _ _ (rw (← a.of_shape) won) in
        let counted : known.votes shape n.volatile.heard ≤ votes shape.faults g n.durable.term member =
        votes_counted shape g member n.durable.term n.volatile.heard a.within (rw (← a.term) own) a.heard in
        (stands, rw a.term (le_trans majority counted))

    count_bridged :
        IsShape shape → n.volatile.role ≡ Candidate → (book : List Proposal) → AllStand (holder shape member) book 1 n.durable.log →
        ActBridged shape g member (act_of_count n)
    count_bridged is role book stand =
        cond_both (has_won n) (act_of_winning n) (stays n) (ActBridged shape g member)
        (λ won. winning_bridged reached a role (won_allowed role won) is book stand) (λ waits. unmoved_stays a)

module _
    {shape : Shape} {g : protocol.History} {member : ℕ} {n : Node} (sender : ℕ) (granted : Bool) (reached : Reached shape.faults g) (is : IsShape shape)
    (a : NodeAgrees shape g member n) (told : HeardAgrees g n.durable.term member (vote_heard n sender granted))
    (book : List Proposal) (stand : AllStand (holder shape member) book 1 n.durable.log) where
  vote_heard_agrees : NodeAgrees shape g member (node_hearing (vote_heard n sender granted) n)
  vote_heard_agrees = hearing_agrees (vote_heard n sender granted) a (no_log_hearable n.volatile.role _ (vote_heard n sender granted) tt) told

  vote_reply_as_bridged : (role : Role) → n.volatile.role ≡ role → ActBridged shape g member (act_of_vote_reply_as role n sender granted)
  vote_reply_as_bridged Follower e = unmoved_stays a
  vote_reply_as_bridged Candidate e = count_bridged reached vote_heard_agrees is e book stand
  vote_reply_as_bridged Preparing e = unmoved_stays vote_heard_agrees
  vote_reply_as_bridged Leader e = unmoved_stays vote_heard_agrees

  pub vote_reply_bridged : ActBridged shape g member (act_of_vote_reply n sender granted)
  vote_reply_bridged = vote_reply_as_bridged n.volatile.role refl
