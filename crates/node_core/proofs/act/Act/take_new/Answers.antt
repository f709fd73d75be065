use Rattle.std.proofs.Common.{◌≡◌, true, false, sym, subst, ap, ◌∙◌}
use Rattle.std.proofs.lemmas.Result.{IfOk-weaker}
use Rattle.entry_frames.specs.declared.role.Role.TheVariants.{Leader}
use Rattle.world_model.specs.Rules.Call as rule
use Rattle.node_core.specs.Acting.{IsActed}
use Rattle.node_core.proofs.Acting.{acted_after}
use Rattle.node_core.proofs.Asking.{asked, asking_starts, busy, full, has_room}
use Rattle.node_core.proofs.act.Act.take_new.Goals as goal

pub returns-then-is_full : goal.returns-then-is_full
returns-then-is_full c = IfOk-weaker c.reply.result _ _ (λ x told n is.
    let is_full : rule.is_full n.durable.log ≡ true = ap (λ d. rule.is_full d.log) (sym is.stands.of_durable) ∙ sym c.is_full.ensures ∙ c.if-is_full.true in
    subst (λ a. IsActed a c.args.self x) (sym (full c.args.place c.args.request.now n is_full)) (told n is))
    c.reply.ensures

pub returns-then-is_busy : goal.returns-then-is_busy
returns-then-is_busy c = IfOk-weaker c.reply-then-is_busy.result _ _ (λ x told n is.
    let own = is.stands.of_durable in
    let room : rule.is_full n.durable.log ≡ false = ap (λ d. rule.is_full d.log) (sym own) ∙ sym c.is_full.ensures ∙ c.if-is_full.false in
    let is_busy : rule.is_busy n.durable.commit n.durable.log ≡ true = ap (λ d. rule.is_busy d.commit d.log) (sym own) ∙ sym c.is_busy.ensures ∙ c.if-is_busy.true in
    subst (λ a. IsActed a c.args.self x) (sym (busy c.args.place c.args.request.now n room is_busy)) (told n is))
    c.reply-then-is_busy.ensures

pub add_request-requires-clause-room : goal.add_request-requires-clause-room
add_request-requires-clause-room c = has_room c.args.self.member.store.kept.log (sym c.is_full.ensures ∙ c.if-is_full.false)

pub append_to_current-requires : goal.append_to_current-requires
append_to_current-requires c =
    let r = c.requires.ranged in
    let leads : r.node.volatile.role ≡ Leader = sym r.is.stands.of_role ∙ c.requires.leads in
    record {
      node = (rule.act_of_adding c.args.place c.args.request.now r.node).node;
      is = (c.in_ok-act.ensures r.node r.is).node;
      starts = asking_starts r.ranged leads c.args.place c.args.request.now;
    }

pub returns : goal.returns
returns c = IfOk-weaker c.append_to_current.result _ _ (λ x told n is.
    let own = is.stands.of_durable in
    let place = c.args.place in
    let request = c.args.request.now in
    let room : rule.is_full n.durable.log ≡ false = ap (λ d. rule.is_full d.log) (sym own) ∙ sym c.is_full.ensures ∙ c.if-is_full.false in
    let free : rule.is_busy n.durable.commit n.durable.log ≡ false = ap (λ d. rule.is_busy d.commit d.log) (sym own) ∙ sym c.is_busy.ensures ∙ c.if-is_busy.false in
    let first = c.in_ok-act.ensures n is in
    subst (λ a. IsActed a c.args.self x) (sym (asked place request n room free))
    (acted_after (rule.act_of_adding place request n) rule.act_of_telling c.args.self c.in_ok-act.act x first (told (rule.act_of_adding place request n).node first.node)))
    c.append_to_current.ensures
