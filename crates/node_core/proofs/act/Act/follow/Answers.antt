use Rattle.std.proofs.Common.{sym, subst, refl}
use Rattle.std.proofs.lemmas.Result.{IfOk-weaker}
use Rattle.craft_base.specs.Shape.{Shape}
use Rattle.entry_frames.specs.Durable.{Durable}
use Rattle.entry_frames.specs.MessageParts.{body_of, commit_of, entries_of, prev_of, prev_term_of, sender_byte}
use Rattle.entry_frames.specs.Stored.{DurableInRange}
use Rattle.log_store.specs.Stores.{Stored}
use Rattle.world_model.specs.Rules.Append.{act_of_heard_append, following}
use Rattle.world_model.proofs.Ranges.Append.{IsStretch}
use Rattle.node_core.specs.Acting.{IsNode}
use Rattle.node_core.proofs.Acting.{acted_from}
use Rattle.node_core.proofs.Taking.{may_take, stretch_in}
use Rattle.node_core.proofs.act.Act.follow.Goals as goal

pub carry_out-requires-clause-may : goal.carry_out-requires-clause-may
carry_out-requires-clause-may c =
    let r = c.requires.ranged in
    let m = c.args.self.member in
    let frame = c.args.append.now.frame in
    let body = body_of frame in
    let of_node : DurableInRange m.store.shape m.store.kept =
    subst (λ (s : Shape). DurableInRange s m.store.kept) (sym r.is.of_store) (subst (λ (d : Durable). DurableInRange r.node.shape d) (sym r.is.stands.of_durable) r.ranged.durable) in
    let keeps : DurableInRange c.hear_leader.new.self.store.shape c.hear_leader.new.self.store.kept =
    subst (λ (s : Stored). DurableInRange s.shape s.kept) (sym c.hear_leader.ensures.becomes.store) of_node in
    let said : IsStretch m.store.shape.need m.store.kept.term (prev_of body) (prev_term_of body) (entries_of body) =
    subst (λ term. IsStretch m.store.shape.need term (prev_of body) (prev_term_of body) (entries_of body)) c.requires.append.current.term
    (stretch_in m.store.shape frame c.requires.append.kind c.requires.append.current.spelled) in
    may_take c.hear_leader.new.self frame keeps
    (subst (λ (s : Stored). IsStretch s.shape.need s.kept.term (prev_of body) (prev_term_of body) (entries_of body)) (sym c.hear_leader.ensures.becomes.store) said)

pub returns : goal.returns
returns c = IfOk-weaker c.carry_out.result _ _ (λ x carried n is.
    let frame = c.args.append.now.frame in
    let body = body_of frame in
    let now = record n { volatile = following (sender_byte frame) n } in
    let between = record c.args.self { member = c.hear_leader.new.self } in
    acted_from (act_of_heard_append (sender_byte frame) (prev_of body) (prev_term_of body) (commit_of body) (entries_of body) now) c.args.self between x refl c.hear_leader.ensures.becomes.store
    (carried now (subst (λ leader. IsNode c.hear_leader.new.self (record n { volatile = following leader n })) c.from.ensures (c.hear_leader.ensures.becomes.node n is))))
    c.carry_out.ensures

pub carry_out-requires-clause-stands : goal.carry_out-requires-clause-stands
carry_out-requires-clause-stands c = let r = c.requires.ranged in (record r.node { volatile = following c.from.result r.node }, c.hear_leader.ensures.becomes.node r.node r.is)
