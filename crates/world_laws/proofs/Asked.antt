-- Who is asked shows what it holds there, whatever it then asks for itself.
use Rattle.std.proofs.Common.{ℕ, nat_lt, List, [], ◌∷◌, ◌++◌, map, Option, None, Some}
use Rattle.std.proofs.lemmas.Bool.{cond_both}
use Rattle.entry_frames.specs.declared.message.Message.{Message}
use Rattle.entry_frames.specs.declared.message.Message.TheVariants as messages
use Rattle.entry_frames.specs.declared.peer.Peer.TheVariants as peers
use Rattle.entry_frames.specs.declared.role.Role.{Role}
use Rattle.entry_frames.specs.declared.role.Role.TheVariants.{Follower, Candidate, Preparing, Leader}
use Rattle.world_model.specs.Nodes.{Node}
use Rattle.world_model.specs.Rules.Acts.{followed_by, stays}
use Rattle.world_model.specs.Rules.Ask.{act_of_ask_as}
use Rattle.world_model.specs.Rules.Terms.{act_of_higher_term, act_of_lower_term, act_of_term}
use Rattle.world_model.specs.Turn.{act_of_peer}
use Rattle.world_model.proofs.Preparing.Asked.{answers_cover}
use Rattle.world_laws.specs.Preparations.{EachAnswerCovers, AllShowAt}
use Rattle.world_model.proofs.Wanting.{want_keeps}
use Rattle.world_model.specs.Rules.Acts.{Act, message_of, others}
use Rattle.world_model.specs.Rules.Prepare.{act_of_asking_again}
use Rattle.world_model.specs.Rules.Want.{act_of_want, want_of, wanting}
use Rattle.world_model.specs.Turn.{act_of_message}

all_show : (start : ℕ) (sends more : List Message) → AllShowAt start sends → AllShowAt start more → AllShowAt start (sends ++ more)
all_show start [] more shown rest = rest
all_show start (m ∷ sends) more shown rest = (shown.0, all_show start sends more shown.1 rest)

-- who asks shows nothing
asks_show : (start : ℕ) (n : Node) (index : ℕ) (receivers : List ℕ) → AllShowAt start (map (message_of n (peers.Ask index)) receivers)
asks_show start n index [] = tt
asks_show start n index (receiver ∷ receivers) = (tt, asks_show start n index receivers)

again_shows : (start : ℕ) (want : Option ℕ) (n : Node) → AllShowAt start (act_of_asking_again want n).sends
again_shows start None n = tt
again_shows start (Some index) n = asks_show start n index (others n)

want_shows : (start : ℕ) (n : Node) → AllShowAt start (act_of_want n).sends
want_shows start n = want_keeps n (λ act. AllShowAt start act.sends) tt (λ leads. again_shows start (want_of n) (wanting (want_of n) n))

pub each_answer_covers : EachAnswerCovers
each_answer_covers shape member n asker term start is range from =
    let act : Act = act_of_message (messages.Peer asker member term (peers.Ask start)) n in
    all_show start act.sends (act_of_want act.node).sends
    (cond_both (nat_lt term n.durable.term) (act_of_lower_term n asker (peers.Ask start)) (followed_by (act_of_term term n) (λ now. act_of_peer now asker (peers.Ask start)))
    (λ act. AllShowAt start act.sends) (λ lower. (tt, tt))
    (λ current.
    cond_both (nat_lt n.durable.term term) (act_of_higher_term term n) (stays n)
    (λ act. AllShowAt start (followed_by act (λ now. act_of_peer now asker (peers.Ask start))).sends)
    (λ higher. (answers_cover shape member n asker start is range from, tt)) (λ same. by_role n.volatile.role)))
    (want_shows start act.node)
  where
    by_role : (role : Role) → AllShowAt start (act_of_ask_as role n asker start).sends
    by_role Follower = (answers_cover shape member n asker start is range from, tt)
    by_role Candidate = (answers_cover shape member n asker start is range from, tt)
    by_role Preparing = tt
    by_role Leader = tt
