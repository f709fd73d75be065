-- A leader adds an entry of its term, with its whole value, to its log.
use Rattle.std.proofs.Common.{◌≡◌, ℕ, ◌+◌, ◌≤◌, List, [], ◌∷◌, ◌++◌, length, sym, ap, subst, ◌∙◌, arith, length-append}
use Rattle.craft_base.specs.Shape.{IsShape, Shape}
use Rattle.craft_base.specs.declared.command.Entry.{Entry}
use Rattle.entry_frames.specs.Records.{Add}
use Rattle.entry_frames.specs.declared.role.Role.TheVariants.{Leader}
use Rattle.world_model.specs.Nodes.{Node}
use Rattle.world_model.specs.Rules.Acts.{recording, stays}
use Rattle.protocol.specs.History as protocol
use Rattle.protocol.specs.Logs.{Mark, Slot, Whole}
use Rattle.protocol.specs.Moves.{Adds, Propose, Reached, after}
use Rattle.protocol.proofs.Counting.{put_same}
use Rattle.protocol.proofs.Runs.{sound_reached}
use Rattle.protocol.proofs.Slots.{adds_append}
use Rattle.bridge.specs.Views.{log_seen, mark_seen, role_seen}
use Rattle.bridge.specs.Agreement.{KnowsWithin, NodeAgrees}
use Rattle.bridge.specs.Bridges.{OwnMoves}
use Rattle.bridge.proofs.Facts.{all_heard_stays}
use Rattle.bridge.proofs.Needs.{propose_needs}
use Rattle.bridge.proofs.Starts.{items_within_more, pages_leader}
use Rattle.bridge.proofs.Steps.{own_move, reached_grows}
use Rattle.bridge.proofs.Views.{append_seen}

-- a slot of that term and mark
abbrev slot_of : ℕ → Mark → Slot
slot_of term mark = record { term = term; mark = mark }

module _
    {shape : Shape} {g : protocol.History} {member : ℕ} {n : Node} (reached : Reached shape.faults g) (is : IsShape shape)
    (a : NodeAgrees shape g member n) (leads : n.volatile.role ≡ Leader) (entry : Entry) (own : entry.term ≡ n.durable.term)
    (whole : mark_seen entry.form ≡ Whole) where
  abbrev longer : List Slot
  longer = log_seen (n.durable.log ++ entry ∷ [])

  longer_is : g.log member ++ slot_of (g.term member) Whole ∷ [] ≡ longer
  longer_is =
      ap (λ log. log ++ slot_of (g.term member) Whole ∷ []) a.log
      ∙ ap (λ slot. log_seen n.durable.log ++ slot ∷ [])
      (ap (λ term. slot_of term Whole) (a.term ∙ sym own) ∙ ap (slot_of entry.term) (sym whole))
      ∙ sym (append_seen n.durable.log (entry ∷ []))

  longer_adds : Adds g member longer
  longer_adds = subst (Adds g member) longer_is (adds_append g member)

  -- the history in which it has
  abbrev pub proposed : protocol.History
  proposed = after g (Propose member longer shape.need)

  pub proposes : OwnMoves shape.faults member g proposed
  proposes = own_move (Propose member longer shape.need) (a.role ∙ ap role_seen leads, longer_adds, is.2, is.3)

  pub proposed_agrees : NodeAgrees shape proposed member (recording (Add entry) (stays n)).node
  proposed_agrees = record {
    of_shape = a.of_shape;
    me = a.me;
    within = a.within;
    term = a.term;
    vote = a.vote;
    log = put_same member longer g.log;
    commit = a.commit;
    role = a.role;
    heard = all_heard_stays (reached_grows reached proposes.run) n.durable.term member n.volatile.heard a.heard;
    knows =
        let one_more : length (n.durable.log ++ entry ∷ []) ≡ length n.durable.log + 1 = length-append n.durable.log (entry ∷ []) in
        let leader : KnowsWithin Leader (length n.durable.log) n.volatile.first n.volatile.heard =
        subst (λ role. KnowsWithin role (length n.durable.log) n.volatile.first n.volatile.heard) leads a.knows in
        let first : n.volatile.first ≤ length n.durable.log + 1 = leader.0 in
        let more : KnowsWithin Leader (length (n.durable.log ++ entry ∷ [])) n.volatile.first n.volatile.heard = (
          omega (arith, first, one_more),
          items_within_more (length n.durable.log) _ (omega (arith, one_more)) n.volatile.heard leader.1,
        ) in
        subst (λ role. KnowsWithin role (length (n.durable.log ++ entry ∷ [])) n.volatile.first n.volatile.heard) (sym leads) more;
    pages = pages_leader proposed n.durable.term _ n.volatile.pages leads;
    needs = propose_needs shape.faults shape.need g (sound_reached shape.faults g reached) a.needs member longer longer_adds;
  }
