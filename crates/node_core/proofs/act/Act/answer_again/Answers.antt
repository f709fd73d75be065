use Rattle.std.proofs.Common.{◌≡◌, ◌∙◌, Some, map, refl, sym, subst, ap}
use Rattle.std.specs.Option.{option_to_list}
use Rattle.std.proofs.lemmas.Result.{IfOk-weaker}
use Rattle.world_model.specs.Nodes.{Node}
use Rattle.world_model.specs.Rules.Acts.{answering, keeping, stays}
use Rattle.world_model.specs.Rules.Applying.{reads_with, reply_of, version_awaited}
use Rattle.world_model.specs.Rules.Call as rule
use Rattle.node_core.specs.declared.act.Act.{Act}
use Rattle.node_core.specs.Acting.{IsActed, IsNode}
use Rattle.node_core.proofs.Acting.{acted_after, moved_after, stays_acted}
use Rattle.node_core.proofs.Having.{reading_node}
use Rattle.node_core.proofs.act.Act.answer_again.Goals as goal

pub returns-in-Some : goal.returns-in-Some
returns-in-Some c = IfOk-weaker c.reply.result _ _ (λ x told n is.
    let self = c.args.self in
    let m = self.member in
    let place = c.args.place in
    let r = c.args.request.now in
    let outcome = c.args.outcome in
    let log = n.durable.log in
    let between : Act = record self { member = c.wait_for_value.new.self } in
    let waits : c.wait_for_value.new.self.reads.items ≡ reads_with (rule.call_from place r) (version_awaited log outcome) n.volatile.reads =
    c.in_ok-wait_for_value.ensures.reads
    ∙ ap (λ call. reads_with call c.version_awaited-version.result m.reads.items) c.call_from.ensures
    ∙ ap (λ version. reads_with (rule.call_from place r) version m.reads.items) (c.version_awaited-version.ensures ∙ ap (λ d. version_awaited d.log outcome) is.stands.of_durable)
    ∙ ap (reads_with (rule.call_from place r) (version_awaited log outcome)) is.stands.of_reads in
    let now : Node = record n { volatile = rule.reading_anew place r outcome n } in
    let is_now : IsNode between.member now =
    reading_node m between.member (reads_with (rule.call_from place r) (version_awaited log outcome) n.volatile.reads) n is c.in_ok-wait_for_value.ensures.rest waits in
    let first : IsActed (keeping (rule.reading_anew place r outcome n) (stays n)) self between =
    moved_after (stays n) now self self between (stays_acted self n is) refl (ap (λ y. y.store) c.in_ok-wait_for_value.ensures.rest) is_now in
    let reply : reply_of log outcome ≡ Some c.in-Some.reply =
    ap (λ d. reply_of d.log outcome) (sym is.stands.of_durable) ∙ sym c.in_ok-reply.ensures ∙ c.in-Some.is in
    subst (λ o. IsActed (answering (map (rule.reply_for place r) (option_to_list o)) (keeping (rule.reading_anew place r outcome n) (stays n))) self x) (sym reply)
    (acted_after (keeping (rule.reading_anew place r outcome n) (stays n)) (rule.act_of_reply place r c.in-Some.reply) self between x first (told now is_now)))
    c.reply.ensures
