-- What a rule does by what it finds.
use Rattle.std.proofs.Common.{◌≡◌, ◌⊎◌, inl, inr, sym, List, [], ◌<◌, ◌+◌, ◌∙◌, ℕ, nat_lt, length, cond, true, false, Option, None, Some, refl, ap}
use Rattle.std.proofs.lemmas.Bool.{cond_both, lt-ltb}
use Rattle.craft_base.specs.declared.command.Entry.{Entry}
use Rattle.entry_frames.specs.Limits.{last_place}
use Rattle.entry_frames.specs.Records.{Add}
use Rattle.entry_frames.specs.declared.role.Role.{Role}
use Rattle.entry_frames.specs.declared.role.Role.TheVariants.{Candidate, Follower, Leader}
use Rattle.entry_frames.specs.declared.peer.Peer.{Peer}
use Rattle.world_model.specs.Nodes.{Node}
use Rattle.world_model.specs.Rules.Acts.{keeping, message_of, recording, stays}
use Rattle.world_model.specs.Rules.Append.{act_of_append, act_of_append_as, act_of_following, act_of_heard_append, act_of_refusal, act_of_suited, act_of_taking, difference, has_before, is_clash}
use Rattle.world_model.specs.Rules.Ask.{act_of_ask, act_of_ask_as, act_of_asked}
use Rattle.world_model.specs.Rules.Prepare.{act_of_beginning, act_of_noop, act_of_winning, leading, noop}
use Rattle.world_model.specs.Rules.Tick.{act_of_election, act_of_waiting, is_due}
use Rattle.world_model.specs.Rules.Vote.{act_of_grant, act_of_vote_from, act_of_vote_refusal, act_of_vote_request, is_grantor}
use Rattle.world_model.specs.Rules.VoteReply.{act_of_count, has_won}

pub stands_if_due : (n : Node) (word : ℕ) → is_due n.volatile.quiet word n.durable.term ≡ true → act_of_waiting word n ≡ act_of_election n
stands_if_due n word due = ap (λ b. cond b (act_of_election n) (stays n)) due

pub granted : (n : Node) (candidate last_term last : ℕ) → is_grantor n candidate last_term last ≡ true → act_of_vote_request n candidate last_term last ≡ act_of_grant candidate n
granted n candidate last_term last is = ap (λ b. cond b (act_of_grant candidate n) (act_of_vote_refusal candidate n)) is

pub prepares_if_won : (n : Node) → has_won n ≡ true → act_of_count n ≡ act_of_winning n
prepares_if_won n won = ap (λ b. cond b (act_of_winning n) (stays n)) won

-- a vote is told in the term in which it is cast
pub says_still : (n : Node) (candidate : ℕ) (body : Peer) (receiver : ℕ) (vote : Option ℕ) → message_of (act_of_vote_from vote candidate n).node body receiver ≡ message_of n body receiver
says_still n candidate body receiver None = refl
says_still n candidate body receiver (Some voted) = refl

-- ---- a new leader

pub has_room : (n : Node) → length n.durable.log < last_place → act_of_noop n ≡ recording (Add (noop n.durable.term)) (stays n)
has_room n room = ap (λ b. cond b (recording (Add (noop n.durable.term)) (stays n)) (stays n)) (lt-ltb (length n.durable.log) last_place room)

-- it begins to lead from behind what it had
abbrev pub begun_from : ℕ → Node → Node
begun_from first n = record n { volatile = record n.volatile { role = Leader; hint = Some n.me; first = first; pages = []; want = None } }

pub begun_node : (n : Node) (first : ℕ) → first ≡ length n.durable.log + 1 → begun_from first (act_of_noop n).node ≡ (act_of_beginning n).node
begun_node n first is =
    ap (λ from. begun_from from (act_of_noop n).node) is
    ∙ cond_both (nat_lt (length n.durable.log) last_place) (recording (Add (noop n.durable.term)) (stays n)) (stays n)
    (λ act. begun_from (length n.durable.log + 1) act.node ≡ (keeping (leading n) act).node) (λ room. refl) (λ full. refl)

-- ---- a follower

-- who follows or stands for election hears the leader of its term
pub follows_as :
    (role : Role) (n : Node) (leader prev prev_term commit : ℕ) (es : List Entry) → role ≡ n.volatile.role → (role ≡ Follower) ⊎ (role ≡ Candidate) →
    act_of_append n leader prev prev_term commit es ≡ act_of_following leader prev prev_term commit es n
follows_as role n leader prev prev_term commit es own (inl is) = ap (λ r. act_of_append_as r n leader prev prev_term commit es) (sym own ∙ is)
follows_as role n leader prev prev_term commit es own (inr is) = ap (λ r. act_of_append_as r n leader prev prev_term commit es) (sym own ∙ is)

-- and shows its log to it
pub shows_as :
    (role : Role) (n : Node) (asker start : ℕ) → role ≡ n.volatile.role → (role ≡ Follower) ⊎ (role ≡ Candidate) → act_of_ask n asker start ≡ act_of_asked asker start n
shows_as role n asker start own (inl is) = ap (λ r. act_of_ask_as r n asker start) (sym own ∙ is)
shows_as role n asker start own (inr is) = ap (λ r. act_of_ask_as r n asker start) (sym own ∙ is)

-- an append that suits the log is taken
pub taken_if_suited :
    (n : Node) (leader prev prev_term commit : ℕ) (es : List Entry) → has_before n.durable.log prev prev_term ≡ true → is_clash n.durable.commit (difference prev n.durable.log es) ≡ false →
    act_of_heard_append leader prev prev_term commit es n ≡ act_of_taking leader prev commit es n
taken_if_suited n leader prev prev_term commit es has clear =
    ap (λ b. cond b (act_of_suited leader prev commit es n) (act_of_refusal leader n)) has
    ∙ ap (λ b. cond b (stays n) (act_of_taking leader prev commit es n)) clear
