-- A leader has the value of an entry that it held in part: it makes the move rebuild.
use Rattle.std.proofs.Common.{◌≡◌, ℕ, ◌-◌, true, List, length, sym, subst}
use Rattle.craft_base.specs.Shape.{Shape}
use Rattle.entry_frames.specs.Durable.{Durable, applied}
use Rattle.entry_frames.specs.Records.{Whole}
use Rattle.entry_frames.specs.declared.role.Role.TheVariants.{Leader}
use Rattle.entry_frames.proofs.Stored.{complete_length}
use Rattle.world_model.specs.Nodes.{Node}
use Rattle.world_model.specs.Rules.Answer.{act_of_having}
use Rattle.protocol.specs.History as protocol
use Rattle.protocol.specs.Logs.{KeepsWhole, Same, Slot, whole_at}
use Rattle.protocol.specs.Moves.{Reached, Rebuild, after}
use Rattle.protocol.proofs.Counting.{put_same}
use Rattle.bridge.specs.Agreement.{KnowsWithin, NodeAgrees}
use Rattle.bridge.specs.Bridges.{OwnMoves}
use Rattle.bridge.specs.Views.{log_seen}
use Rattle.bridge.proofs.Completed.{IsCompleted, value_completes}
use Rattle.bridge.proofs.Facts.{all_heard_stays}
use Rattle.bridge.proofs.Starts.{pages_leader}
use Rattle.bridge.proofs.Steps.{own_move, reached_grows}

module _
    {shape : Shape} {g : protocol.History} {member : ℕ} {n : Node} (reached : Reached shape.faults g) (a : NodeAgrees shape g member n)
    (leads : n.volatile.role ≡ Leader) (index : ℕ) (value : List ℕ) where
  abbrev had : Durable
  had = applied n.durable (Whole index value)

  completes : IsCompleted n.durable had
  completes = value_completes n.durable index value

  abbrev now : List Slot
  now = log_seen had.log

  -- the history in which it has the value
  abbrev pub filled : protocol.History
  filled = after g (Rebuild member now)

  same_now : Same (g.log member) now
  same_now = subst (λ slots. Same slots now) (sym a.log) (completes.same)

  keeps_now : KeepsWhole (g.log member) now (length now)
  keeps_now i le w = completes.whole i (subst (λ slots. whole_at slots i ≡ true) a.log w)

  pub fills : OwnMoves shape.faults member g filled
  fills = own_move (Rebuild member now) (same_now, keeps_now)

  pub filled_agrees : NodeAgrees shape filled member (act_of_having index value n).node
  filled_agrees = record {
    of_shape = a.of_shape;
    me = a.me;
    within = a.within;
    term = a.term;
    vote = a.vote;
    log = put_same member now g.log;
    commit = a.commit;
    role = a.role;
    heard = all_heard_stays (reached_grows reached fills.run) n.durable.term member n.volatile.heard a.heard;
    knows = subst (λ (last : ℕ). KnowsWithin n.volatile.role last n.volatile.first n.volatile.heard) (sym (complete_length n.durable.log (index - 1) value)) a.knows;
    pages = pages_leader filled n.durable.term _ _ leads;
    needs = a.needs;
  }
