use Rattle.std.proofs.Common.{◌≡◌, ◌∙◌, ◌++◌, map, ap, sym, subst}
use Rattle.std.specs.Option.{option_to_list}
use Rattle.std.specs.Prelude.{◌==◌, ◌&&◌}
use Rattle.craft_base.specs.Shape.{Shape}
use Rattle.entry_frames.specs.declared.output.Output.TheVariants as outputs
use Rattle.entry_frames.specs.declared.role.Role.TheVariants.{Preparing}
use Rattle.entry_frames.specs.Durable.{Durable}
use Rattle.kv_apply.specs.Services as services
use Rattle.world_model.specs.Ranges.{EventInRange}
use Rattle.world_model.specs.Rules.Call.{applied_heads}
use Rattle.world_model.specs.Turn as turns
use Rattle.world_model.specs.Turn.{reply_output}
use Rattle.node_core.specs.Stands.{Kept, Stands}
use Rattle.node_core.specs.Acting.{IsNode, kept_of}
use Rattle.node_core.specs.Serving.{heads_up_to}
use Rattle.node_core.specs.declared.member.Member.{Member}
use Rattle.node_core.specs.declared.telling.Before.{Before}
use Rattle.node_core.specs.declared.turn.Turned.{Turned}
use Rattle.node_core.specs.Turns.{IsReadIn, TurnedTo, change_of, event_of, growth_of}
use Rattle.node_core.proofs.Turning.{still_ranged, told_between, turned_to}
use Rattle.node_core.proofs.running.Core.turn.Goals as goal

pub invariant_of-result : goal.invariant_of-result
invariant_of-result c =
    let m = c.self.inside.member in
    let event = event_of c.args.event.now in
    let told : EventInRange m.shape m.me event = subst (λ k. EventInRange k.shape k.me event) (sym c.self.view_is) c.requires.ranged in
    still_ranged m event c.in_ok-act.act c.in_ok-act-2.act c.in_ok-act.ensures.member c.in_ok-act-2.ensures c.law.ensures told c.self.invariant

pub take_turn-requires-clause-read : goal.take_turn-requires-clause-read
take_turn-requires-clause-read c =
    let r = c.self.invariant in
    let event = c.args.event.now in
    let read : IsReadIn c.self.inside.member.shape event = subst (λ (k : Kept). IsReadIn k.shape event) (sym c.self.view_is) c.requires.read in
    subst (λ (x : Member). IsReadIn x.store.shape event) (sym c.in_ok-act.ensures.member)
    (subst (λ (s : Shape). IsReadIn s event) (r.is.stands.of_shape ∙ sym r.is.of_store) read)

pub returns-clause-turned : goal.returns-clause-turned
returns-clause-turned c = λ n s.
    let m = c.self.inside.member in
    let r = c.self.invariant in
    let event = event_of c.args.event.now in
    let act = c.in_ok-act-2.act in
    let cuts = act.cuts.items in
    let wholes = act.wholes.items in
    let replies = act.replies.items in
    let sends = act.sends.items in
    let told : EventInRange m.shape m.me event = subst (λ k. EventInRange k.shape k.me event) (sym c.self.view_is) c.requires.ranged in
    let stands : Stands (kept_of m) n = subst (λ (k : Kept). Stands k n) (sym c.self.view_is) s in
    let served : services.Stands m.service (applied_heads n) =
    subst (λ (d : Durable). services.Stands m.service (heads_up_to d.commit d)) (sym r.is.stands.of_durable ∙ stands.of_durable) r.is.of_service in
    let is_node : IsNode m n = record { stands = stands; of_store = r.is.of_store ∙ sym r.is.stands.of_shape ∙ stands.of_shape; of_service = served } in
    let tells : c.in_ok-outputs.outputs.items ≡ told_between m.role m.store.kept act.member.role act.member.store.kept cuts wholes replies sends =
    c.in_ok-outputs.ensures
    ∙ ap (λ role. (option_to_list role ++ (map (λ index. outputs.Cut index c.prepares.result) cuts ++ (map outputs.Whole wholes ++ option_to_list c.commit_change.result))) ++ (map reply_output replies ++ map outputs.Send sends))
    c.role_change.ensures
    ∙ ap (λ prep. (option_to_list (change_of c.of-before.result.role c.of-before.result.term act.member.role act.member.store.kept.term)
    ++ (map (λ index. outputs.Cut index prep) cuts ++ (map outputs.Whole wholes ++ option_to_list c.commit_change.result))) ++ (map reply_output replies ++ map outputs.Send sends))
    c.prepares.ensures
    ∙ ap (λ grown. (option_to_list (change_of c.of-before.result.role c.of-before.result.term act.member.role act.member.store.kept.term)
    ++ (map (λ index. outputs.Cut index (turns.is_same_role c.of-before.result.role Preparing && (c.of-before.result.term == act.member.store.kept.term))) cuts
    ++ (map outputs.Whole wholes ++ option_to_list grown))) ++ (map reply_output replies ++ map outputs.Send sends))
    c.commit_change.ensures
    ∙ ap (λ (b : Before). (option_to_list (change_of b.role b.term act.member.role act.member.store.kept.term)
    ++ (map (λ index. outputs.Cut index (turns.is_same_role b.role Preparing && (b.term == act.member.store.kept.term))) cuts
    ++ (map outputs.Whole wholes ++ option_to_list (growth_of b.commit act.member.store.kept.commit)))) ++ (map reply_output replies ++ map outputs.Send sends))
    c.of-before.ensures in
    let left : Turned = record { group = c.in_ok-group.group; outputs = c.in_ok-outputs.outputs } in
    subst (λ (k : Kept). TurnedTo k n event (kept_of act.member) left) c.self.view_is
    (turned_to m event c.in_ok-act.act act c.in_ok-act.ensures.member c.in_ok-act-2.ensures c.law.ensures told r
    c.in_ok-act.ensures.group c.in_ok-act.ensures.cuts c.in_ok-act.ensures.wholes c.in_ok-act.ensures.replies c.in_ok-act.ensures.sends left c.in_ok-group.ensures tells n is_node)
