use Rattle.std.proofs.Common.{◌≡◌, ◌∙◌, ℕ, [], Some, ap, sym, subst, refl, true}
use Rattle.std.proofs.lemmas.Result.{IfOk-weaker}
use Rattle.craft_base.specs.declared.command.Entry.{Entry}
use Rattle.entry_frames.specs.Durable.{Durable}
use Rattle.entry_frames.specs.Logs.{entry_at}
use Rattle.full_append.proofs.Lists.{viewed_none, viewed_some}
use Rattle.gather_read.specs.Standing as gathering
use Rattle.world_model.specs.Rules.Want.{is_part_at, part_at}
use Rattle.world_model.proofs.Ranges.Want as ranges
use Rattle.node_core.specs.declared.member.Member.{Member}
use Rattle.node_core.specs.Acting.{MaySay}
use Rattle.node_core.specs.Wanting.{IsWant}
use Rattle.node_core.proofs.Wanting.{need_viewed, no_part, part_of_entry}
use Rattle.node_core.proofs.member.Member.gather_for.Goals as goal

-- what is wanted is held as a part
part_held : (m : Member) (index : ℕ) → MaySay m → IsWant m (Some index) → is_part_at m.store.kept.log index ≡ true
part_held m index r want =
    subst (λ (d : Durable). is_part_at d.log index ≡ true) (sym r.is.stands.of_durable) (ranges.wanted_part r.node index (sym (want r.node r.is)))

pub unreachable-requires : goal.unreachable-requires
unreachable-requires c =
    let m = c.args.self.now in
    let log = m.store.kept.log in
    no_part log c.args.index (viewed_none m.store.shape.need (entry_at log c.args.index) (sym c.in_default.is ∙ c.at.ensures))
    (part_held m c.args.index c.requires.say c.requires.want)

pub want-requires-clause-part : goal.want-requires-clause-part
want-requires-clause-part c =
    let m = c.args.self.now in
    let log = m.store.kept.log in
    let here : entry_at log c.args.index ≡ Some c.in-Some.own.entry = viewed_some m.store.shape.need (entry_at log c.args.index) c.in-Some.own (sym c.in-Some.is ∙ c.at.ensures) in
    (part_of_entry log c.args.index c.in-Some.own.entry here (part_held m c.args.index c.requires.say c.requires.want)).0

pub want-requires-clause-need : goal.want-requires-clause-need
want-requires-clause-need c =
    let r = c.requires.say in
    let m = c.args.self.now in
    need_viewed m.store.shape.need (entry_at m.store.kept.log c.args.index) c.in-Some.own (sym c.in-Some.is ∙ c.at.ensures)
    ∙ ap (λ s. s.need) (r.is.of_store ∙ sym r.is.stands.of_shape)

pub returns : goal.returns
returns c = IfOk-weaker c.want.result _ _ (λ gather stands n is.
    let m = c.args.self.now in
    let log = m.store.kept.log in
    let index = c.args.index in
    let e : Entry = c.in-Some.own.entry in
    let here : entry_at log index ≡ Some e = viewed_some m.store.shape.need (entry_at log index) c.in-Some.own (sym c.in-Some.is ∙ c.at.ensures) in
    let part = (part_of_entry log index e here (part_held m index c.requires.say c.requires.want)).1 in
    record {
      index = index;
      own = e;
      wants = refl;
      part = subst (λ (d : Durable). part_at d.log index ≡ Some e) is.stands.of_durable part;
      stands = subst (λ s. gathering.Stands gather s n.me index e []) is.stands.of_shape (subst (λ k. gathering.Stands gather m.shape k index e []) is.stands.of_me stands);
    })
    c.want.ensures
