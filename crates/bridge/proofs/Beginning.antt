-- A member that prepared begins to lead, with its log or what is left of it, and proposes, where its log has room.
use Rattle.std.proofs.Common.{◌≡◌, ℕ, nat_lt, List, length, refl, ap, ◌∙◌, le_refl}
use Rattle.std.specs.List.{All}
use Rattle.std.proofs.lemmas.Bool.{cond_both}
use Rattle.craft_base.specs.Shape.{IsShape, Shape}
use Rattle.craft_base.specs.declared.command.Entry.{Entry}
use Rattle.entry_frames.specs.Limits.{last_place}
use Rattle.entry_frames.specs.Records.{Add}
use Rattle.entry_frames.specs.declared.role.Role.TheVariants.{Preparing}
use Rattle.world_model.specs.Nodes.{Node}
use Rattle.world_model.specs.Ranges.{IsOfNoLog}
use Rattle.world_model.specs.Rules.Acts.{Act, keeping, recording, sending, stays}
use Rattle.world_model.specs.Rules.Prepare.{act_of_leading, leading, noop}
use Rattle.world_model.specs.Rules.Say.{appends_to_others}
use Rattle.protocol.specs.History as protocol
use Rattle.protocol.specs.Logs.{IsFront}
use Rattle.protocol.specs.Moves.{Begin, BeginsWith, Reached, after}
use Rattle.protocol.proofs.Counting.{put_same}
use Rattle.protocol.proofs.Runs.{moves_trans, sound_reached}
use Rattle.bridge.specs.Agreement.{NodeAgrees}
use Rattle.bridge.specs.Bridges.{ActBridged, OwnMoves}
use Rattle.bridge.specs.Views.{log_seen, role_seen}
use Rattle.bridge.proofs.Facts.{all_heard_stays}
use Rattle.bridge.proofs.Needs.{begin_needs}
use Rattle.bridge.proofs.Proposing.{proposed_agrees, proposes}
use Rattle.bridge.proofs.Starts.{no_logs_within}
use Rattle.bridge.proofs.Steps.{moved, own_move, reached_grows, unmoved}
use Rattle.bridge.proofs.Rules.Say.{appends_agree}

-- what a leader sends when it has begun, by what it recorded
abbrev pub announcing : Node → Act → Act
announcing n act = sending (appends_to_others (keeping (leading n) act).node) (keeping (leading n) act)

-- the node as it begins to lead
abbrev pub leader_of : Node → Node
leader_of n = record n { volatile = leading n }

-- ---- a leader that has begun

module _
    {shape : Shape} {g : protocol.History} {member : ℕ} (n : Node) (reached : Reached shape.faults g) (is : IsShape shape)
    (a : NodeAgrees shape g member (leader_of n)) where
  -- with an entry of its own
  with_noop : ActBridged shape g member (announcing n (recording (Add (noop n.durable.term)) (stays n)))
  with_noop =
      let more = proposes reached is a refl (noop n.durable.term) refl refl in
      let node = proposed_agrees reached is a refl (noop n.durable.term) refl refl in
      moved _ more node (appends_agree (moves_trans shape.faults _ g _ reached more.run) node refl)

  -- where there is no room for one
  without_noop : ActBridged shape g member (announcing n (stays n))
  without_noop = unmoved _ a (appends_agree reached a refl)

  pub leading_bridged : ActBridged shape g member (act_of_leading n)
  leading_bridged =
      cond_both (nat_lt (length n.durable.log) last_place) (recording (Add (noop n.durable.term)) (stays n)) (stays n)
      (λ act. ActBridged shape g member (announcing n act)) (λ room. with_noop) (λ full. without_noop)

-- ---- a node that begins to lead, with its log or what is left of it

module _
    {shape : Shape} {g : protocol.History} {member : ℕ} {n : Node} (reached : Reached shape.faults g) (a : NodeAgrees shape g member n)
    (prepares : n.volatile.role ≡ Preparing) (silent : All IsOfNoLog n.volatile.heard) (log : List Entry)
    (way : BeginsWith shape.faults g member (log_seen log)) (front : IsFront (log_seen log) (g.log member)) where
  abbrev left : Node
  left = record n { durable = record n.durable { log = log } }

  pub begins : OwnMoves shape.faults member g (after g (Begin member (log_seen log)))
  begins = own_move (Begin member (log_seen log)) (a.role ∙ ap role_seen prepares, way)

  pub begun_agrees : NodeAgrees shape (after g (Begin member (log_seen log))) member (leader_of left)
  begun_agrees = record {
    of_shape = a.of_shape;
    me = a.me;
    within = a.within;
    term = a.term;
    vote = a.vote;
    log = put_same member (log_seen log) g.log;
    commit = a.commit;
    role = put_same member protocol.Leading g.role;
    heard = all_heard_stays (reached_grows reached begins.run) n.durable.term member n.volatile.heard a.heard;
    knows = (le_refl _, no_logs_within (length log) n.volatile.heard silent);
    pages = tt;
    needs = begin_needs shape.faults shape.need g (sound_reached shape.faults g reached) a.needs member (log_seen log) front;
  }
