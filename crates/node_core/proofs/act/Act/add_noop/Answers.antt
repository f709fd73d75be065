use Rattle.std.proofs.Common.{◌≡◌, ◌<◌, length, sym, subst, ap, ◌∙◌, arith}
use Rattle.std.proofs.lemmas.Result.{IfOk-weaker}
use Rattle.craft_base.specs.declared.command.Entry.{Entry}
use Rattle.entry_frames.specs.Durable.{IsNextEntry}
use Rattle.entry_frames.specs.Limits.{last_place}
use Rattle.entry_frames.specs.Records.{Add}
use Rattle.entry_frames.specs.Stored.{DurableInRange}
use Rattle.world_model.specs.Rules.Acts.{recording, stays}
use Rattle.world_model.specs.Rules.Prepare.{noop}
use Rattle.node_core.specs.Acting.{IsActed}
use Rattle.node_core.proofs.Choosing.{has_room}
use Rattle.node_core.proofs.Ranging.{next_noop}
use Rattle.node_core.proofs.act.Act.add_noop.Goals as goal

pub record-requires-clause-can : goal.record-requires-clause-can
record-requires-clause-can c =
    let d = c.args.self.member.store.kept in
    let r = c.requires.ranged in
    let added : c.of.result.entry ≡ noop d.term = ap (λ v. v.entry) c.of.ensures ∙ c.noop-noop.ensures ∙ ap noop c.term.ensures in
    let room : length d.log < last_place = omega (arith, c.last.ensures, c.if-last-ge-LAST_PLACE.false) in
    subst (λ (e : Entry). IsNextEntry d e) (sym added) (next_noop r.node.shape d (subst (DurableInRange r.node.shape) (sym r.is.stands.of_durable) r.ranged.durable) room)

pub returns : goal.returns
returns c = IfOk-weaker c.record.result _ _ (λ x recorded n is.
    let added : c.of.result.entry ≡ noop n.durable.term =
    ap (λ v. v.entry) c.of.ensures ∙ c.noop-noop.ensures ∙ ap noop (c.term.ensures ∙ ap (λ d. d.term) is.stands.of_durable) in
    let room : length n.durable.log < last_place = omega (arith, c.last.ensures, c.if-last-ge-LAST_PLACE.false, ap (λ d. length d.log) is.stands.of_durable) in
    subst (λ a. IsActed a c.args.self x) (sym (has_room n room))
    (subst (λ (e : Entry). IsActed (recording (Add e) (stays n)) c.args.self x) added (recorded n is)))
    c.record.ensures.acts
