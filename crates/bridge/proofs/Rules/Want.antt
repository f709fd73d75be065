-- Want: a leader that asks the others for what it holds in part makes no move.
use Rattle.std.proofs.Common.{◌≡◌, ℕ, ◌<◌, [], Option, None, Some, refl, arith}
use Rattle.std.specs.List.{All}
use Rattle.craft_base.specs.Shape.{Shape}
use Rattle.entry_frames.specs.declared.peer.Peer.TheVariants as peers
use Rattle.entry_frames.specs.declared.role.Role.TheVariants.{Leader}
use Rattle.world_model.specs.Nodes.{Node}
use Rattle.world_model.specs.Rules.Acts.{Act}
use Rattle.world_model.specs.Rules.Prepare.{act_of_asking_again}
use Rattle.world_model.specs.Rules.Want.{act_of_gathering, act_of_new_want, act_of_want, want_of, wanting}
use Rattle.world_model.proofs.Ranges.Want.{want_within}
use Rattle.world_model.proofs.Wanting.{gathering_keeps, want_keeps}
use Rattle.protocol.specs.History.{History}
use Rattle.bridge.specs.Agreement.{MessageAgrees, NodeAgrees}
use Rattle.bridge.specs.Bridges.{ActBridged}
use Rattle.bridge.proofs.Starts.{pages_leader}
use Rattle.bridge.proofs.Steps.{sends_none, sends_to_others, unmoved}

-- what an act makes of its node agrees with the history as it is, and so does what it sends
abbrev pub Agrees : Shape → History → (member : ℕ) → Act → Type 0
Agrees shape g member act = NodeAgrees shape g member act.node × All (MessageAgrees g) act.sends

-- what is wanted is an index
wanted_from : (n : Node) (index : ℕ) → want_of n ≡ Some index → 0 < index
wanted_from n index e = let within = want_within n index e in omega (arith, within.0)

module _ {shape : Shape} {g : History} {member : ℕ} where
  -- who asks again asks from an index on
  pub again_agrees :
      {n : Node} (want : Option ℕ) → ((index : ℕ) → want ≡ Some index → 0 < index) → NodeAgrees shape g member n →
      Agrees shape g member (act_of_asking_again want n)
  again_agrees None from a = (a, sends_none g)
  again_agrees {n = n} (Some index) from a = (a, sends_to_others g n (peers.Ask index) (λ receiver. from index refl))

  -- with another want it has seen no pages yet
  wanting_agrees : {n : Node} (want : Option ℕ) → n.volatile.role ≡ Leader → NodeAgrees shape g member n → NodeAgrees shape g member (wanting want n)
  wanting_agrees {n = n} want leads a = record {
    of_shape = a.of_shape;
    me = a.me;
    within = a.within;
    term = a.term;
    vote = a.vote;
    log = a.log;
    commit = a.commit;
    role = a.role;
    heard = a.heard;
    knows = a.knows;
    pages = pages_leader g n.durable.term _ [] leads;
    needs = a.needs;
  }

  new_want_agrees : {n : Node} → n.volatile.role ≡ Leader → NodeAgrees shape g member n → Agrees shape g member (act_of_new_want (want_of n) n)
  new_want_agrees {n = n} leads a = again_agrees (want_of n) (wanted_from n) (wanting_agrees (want_of n) leads a)

  -- as a leader's tick ends
  pub gathering_agrees : {n : Node} → n.volatile.role ≡ Leader → NodeAgrees shape g member n → Agrees shape g member (act_of_gathering n)
  gathering_agrees {n = n} leads a =
      gathering_keeps n (Agrees shape g member) (again_agrees (want_of n) (wanted_from n) a) (new_want_agrees leads a)

  -- and as each turn ends
  pub want_agrees : {n : Node} → NodeAgrees shape g member n → Agrees shape g member (act_of_want n)
  want_agrees {n = n} a = want_keeps n (Agrees shape g member) (a, sends_none g) (λ leads. new_want_agrees leads a)

pub unmoved_by : {shape : Shape} {g : History} {member : ℕ} (act : Act) → Agrees shape g member act → ActBridged shape g member act
unmoved_by act agrees = unmoved act agrees.0 agrees.1
