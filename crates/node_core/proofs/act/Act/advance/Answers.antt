use Rattle.std.proofs.Common.{◌≡◌, nat_lt, filter, refl, sym, subst, arith, rules}
use Rattle.std.proofs.lemmas.Fn.{filter_same}
use Rattle.entry_frames.specs.Durable.{IsUncommitted}
use Rattle.world_model.specs.declared.call.Called.{Called}
use Rattle.world_model.proofs.Ranges.Records.{commit_fits}
use Rattle.node_core.specs.declared.act.Act.{Act}
use Rattle.node_core.proofs.Advancing.{advanced}
use Rattle.node_core.proofs.act.Act.advance.Goals as goal

pub make-requires-clause-can : goal.make-requires-clause-can
make-requires-clause-can c =
    subst (λ (a : Act). IsUncommitted a.member.store.kept c.args.index) (sym c.in_ok-act.ensures.rest) (record { behind = c.requires.above; within = c.requires.within })

pub returns : goal.returns
returns c = λ n is.
    let self = c.args.self in
    let index = c.args.index in
    let made = c.in_ok-act-2.act in
    let after : Act = record made { member = record made.member { heard = c.settle.new.self; calls = c.retain.new.self } } in
    let waits : c.retain.new.self.items ≡ filter (λ (call : Called). nat_lt index call.index) made.member.calls.items =
    filter_same _ (λ (call : Called). nat_lt index call.index) _ (λ x b f' k. search rules) _ _ c.retain.ensures.filtered in
    advanced index self c.in_ok-act.act made after c.in_ok-act.ensures c.in_ok-act-2.ensures refl c.settle.ensures.settled c.settle.ensures.heard waits c.requires.above c.requires.within
    (commit_fits self.member.store.shape.need index (omega (arith, c.requires.above)) (omega (arith, c.requires.within, self.member.store.is_log.short))) c.requires.free n is
