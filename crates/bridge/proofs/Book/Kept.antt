-- What agrees of proposals, removals and commits with a history agrees while history grows.
use Rattle.std.proofs.Common.{List, le_trans}
use Rattle.std.specs.List.{All}
use Rattle.std.proofs.lemmas.List.Elements.{All-weaker}
use Rattle.world_model.specs.Traces.{LeaderCommit, Proposal, Removal}
use Rattle.protocol.specs.Growth.{Grows}
use Rattle.protocol.specs.History.{History}
use Rattle.protocol.proofs.Logs.{agree_extends}
use Rattle.bridge.specs.Traced.{CommitAgrees, ProposalAgrees, RemovalAgrees}

module _ {g h : History} (x : Grows g h) where
  proposal_stays : (p : Proposal) → ProposalAgrees g p → ProposalAgrees h p
  proposal_stays p agrees = (agrees.0, le_trans agrees.1 (x.led p.term).right, agrees.2)

  pub proposals_stay : (book : List Proposal) → All (ProposalAgrees g) book → All (ProposalAgrees h) book
  proposals_stay book all = All-weaker (ProposalAgrees g) (ProposalAgrees h) proposal_stays book all

  removal_stays : (c : Removal) → RemovalAgrees g c → RemovalAgrees h c
  removal_stays c agrees place entry e = let gone = agrees place entry e in (gone.0, x.cuts gone.0 gone.1, gone.2, gone.3)

  pub removals_stay : (cuts : List Removal) → All (RemovalAgrees g) cuts → All (RemovalAgrees h) cuts
  removals_stay cuts all = All-weaker (RemovalAgrees g) (RemovalAgrees h) removal_stays cuts all

  commit_stays : (c : LeaderCommit) → CommitAgrees g c → CommitAgrees h c
  commit_stays c agrees = (le_trans agrees.0 (x.decided c.term), agree_extends c.term x.led agrees.1)

  pub commits_stay : (commits : List LeaderCommit) → All (CommitAgrees g) commits → All (CommitAgrees h) commits
  commits_stay commits all = All-weaker (CommitAgrees g) (CommitAgrees h) commit_stays commits all
