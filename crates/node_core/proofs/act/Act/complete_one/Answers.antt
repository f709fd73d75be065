use Rattle.std.proofs.Common.{◌≡◌, ◌+◌, ◌-◌, ◌∙◌, sym, subst, ap, arith}
use Rattle.entry_frames.specs.Durable.{applied}
use Rattle.entry_frames.specs.MessageParts.{body_of, entries_of, prev_of}
use Rattle.entry_frames.specs.Records.{Record, Whole}
use Rattle.world_model.specs.Rules.Acts.{recording, stays}
use Rattle.node_core.specs.Acting.{IsActed}
use Rattle.node_core.specs.Appending.{value_record}
use Rattle.node_core.proofs.Valuing.{value_is}
use Rattle.node_core.proofs.act.Act.complete_one.Goals as goal

pub returns : goal.returns
returns c =
    let frame = c.args.append.now.frame in
    let prev = prev_of (body_of frame) in
    let self = c.args.self in
    let act = c.in_ok-act-in-Some.act in
    let place : c.args.index - c.prev.result - 1 ≡ c.args.index - (prev + 1) = omega (arith, c.prev.ensures) in
    let same : Whole c.args.index c.bytes.result.now ≡ value_record frame c.args.index =
    ap (Whole c.args.index)
    (c.bytes.ensures ∙ value_is c.args.append.now.shape.need prev c.args.index (c.args.index - c.prev.result - 1) (entries_of (body_of frame)) c.in-Some.entry place
    (sym c.in-Some.is ∙ c.entry.ensures)) in record {
      acts = λ n is. subst (λ (r : Record). IsActed (recording r (stays n)) self act) same (c.in_ok-act-in-Some.ensures.acts n is);
      kept = c.in_ok-act-in-Some.ensures.kept ∙ ap (applied self.member.store.kept) same;
      shape = c.in_ok-act-in-Some.ensures.shape;
      role = c.in_ok-act-in-Some.ensures.role;
      gather = c.in_ok-act-in-Some.ensures.gather;
    }
