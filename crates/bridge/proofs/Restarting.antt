-- The move restart: the member is a follower with what it kept. So is one that went down, and one that hears the leader of its term.
use Rattle.std.proofs.Common.{◌≡◌, ℕ, length, ◌∙◌, sym, ap}
use Rattle.std.specs.List.{All}
use Rattle.craft_base.specs.Shape.{Shape}
use Rattle.entry_frames.specs.declared.role.Role.TheVariants.{Follower}
use Rattle.world_model.specs.Nodes.{Node, Volatile}
use Rattle.protocol.specs.History as protocol
use Rattle.protocol.specs.Moves.{Restart, after}
use Rattle.protocol.proofs.Counting.{put_same}
use Rattle.bridge.specs.Views.{role_seen}
use Rattle.bridge.specs.Agreement.{HeardAgrees, NodeAgrees}
use Rattle.bridge.specs.Bridges.{OwnMoves}
use Rattle.bridge.proofs.Starts.{knows_follower, pages_follower}
use Rattle.bridge.proofs.Steps.{own_move}

pub restarts : {F : ℕ} (g : protocol.History) (member : ℕ) → OwnMoves F member g (after g (Restart member))
restarts g member = own_move (Restart member) tt

-- as a follower it agrees, if what it still knows to have heard is true
pub restarted_agrees :
    {shape : Shape} {g : protocol.History} {member : ℕ} {n : Node} (a : NodeAgrees shape g member n) (volatile : Volatile) →
    volatile.role ≡ Follower → All (HeardAgrees (after g (Restart member)) n.durable.term member) volatile.heard →
    NodeAgrees shape (after g (Restart member)) member (record n { volatile = volatile })
restarted_agrees {g = g} {member = member} {n = n} a volatile follows heard = record {
  of_shape = a.of_shape;
  me = a.me;
  within = a.within;
  term = a.term;
  vote = a.vote;
  log = a.log;
  commit = a.commit;
  role = put_same member protocol.Follower g.role ∙ sym (ap role_seen follows);
  heard = heard;
  knows = knows_follower (length n.durable.log) volatile.first volatile.heard follows;
  pages = pages_follower (after g (Restart member)) n.durable.term _ volatile.pages follows;
  needs = a.needs;
}
