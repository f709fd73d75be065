-- The world at its start agrees with the start of the protocol.
use Rattle.std.proofs.Common.{ℕ, ◌<◌, [], arith, refl, subst}
use Rattle.std.proofs.lemmas.List.{length-replicate}
use Rattle.std.specs.List.{All}
use Rattle.std.proofs.lemmas.List.Elements.{All-nil}
use Rattle.craft_base.specs.Shape.{Shape, members_of}
use Rattle.world_model.specs.World as world
use Rattle.protocol.specs.History as protocol
use Rattle.bridge.specs.Agreement.{MessageAgrees, NodeAgrees, WorldAgrees}
use Rattle.bridge.specs.Traced.{AllStand, CommitAgrees, MessageStands, PageStands, ProposalAgrees, RemovalAgrees, holder}
use Rattle.world_model.proofs.Positions.{repeated_at}

newborn_agrees : (shape : Shape) (me : ℕ) → me < members_of shape → NodeAgrees shape protocol.start me (world.node_of shape me world.newborn)
newborn_agrees shape me within = record {
  of_shape = refl;
  me = refl;
  within = within;
  term = refl;
  vote = refl;
  log = refl;
  commit = refl;
  role = refl;
  heard = All-nil _;
  knows = tt;
  pages = tt;
  needs = λ term index from le. absurd (omega (arith, from, le));
}

pub start_agrees : (shape : Shape) → WorldAgrees shape protocol.start (world.start shape)
start_agrees shape = record {
  of_shape = refl;
  many = length-replicate (members_of shape) world.newborn;
  members = λ me m e.
      let at = repeated_at (members_of shape) world.newborn me m e in
      subst (λ it. NodeAgrees shape protocol.start me (world.node_of shape me it)) at.1 (newborn_agrees shape me at.0);
  sent = All-nil (MessageAgrees protocol.start);
  proposals = All-nil (ProposalAgrees protocol.start);
  removals = All-nil (RemovalAgrees protocol.start);
  commits = All-nil (CommitAgrees protocol.start);
  logs = λ me m e.
      let none : AllStand (holder shape me) [] 1 world.newborn.durable.log = tt in
      subst (λ it. AllStand (holder shape me) [] 1 it.durable.log) (repeated_at (members_of shape) world.newborn me m e).1 none;
  pages = λ me m e.
      let none : All (PageStands shape []) (world.volatile_of world.newborn.running).pages = All-nil (PageStands shape []) in
      subst (λ it. All (PageStands shape []) (world.volatile_of it.running).pages) (repeated_at (members_of shape) world.newborn me m e).1 none;
  stand = All-nil (MessageStands shape []);
}
