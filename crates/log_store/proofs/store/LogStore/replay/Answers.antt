use Rattle.std.proofs.Common.{◌≡◌, ◌∙◌, length, ap, sym, subst, arith}
use Rattle.std.specs.Prelude.{slice_get}
use Rattle.entry_frames.specs.Durable.{after, born}
use Rattle.synced_log.specs.Journal.{AreGroups, after_groups, placed_from}
use Rattle.log_store.proofs.Replaying.{after_more, group_at, placed_length, spelled_body, take_all}
use Rattle.log_store.proofs.store.LogStore.replay.Goals as goal

pub apply_body-requires : goal.apply_body-requires
apply_body-requires c =
    let k = c.count-n-end.ensures.kept in
    let g = c.args.groups.now.shape in
    let here = ap (λ ps. slice_get ps c.loop-n.n) (sym k.placed_are) ∙ c.in-Some.ensures in
    let p = group_at g.need 32 k.groups c.loop-n.n _ here in
    let placed = subst (λ x. c.args.groups.now.placed ≡ placed_from x.need 32 k.groups) c.requires k.placed_are in
    let are = subst (λ x. AreGroups x born k.groups) c.requires k.groups_are in (
      p.0,
      spelled_body g c.loop-n.store.shape born c.loop-n.store.kept k.groups c.loop-n.n p.0 c.in-Some.body.now k.groups_are p.1 p.2 (c.requires ∙ sym c.loop-n.invariant.shape)
          (c.loop-n.invariant.kept k.groups placed are),
    )

pub loop-n-preserved : goal.loop-n-preserved
loop-n-preserved c = record {
  shape = c.in_ok-store.ensures.shape ∙ c.loop-n.invariant.shape;
  kept = λ all placed are.
      let here = ap (λ ps. slice_get ps c.loop-n.n) (sym placed) ∙ c.in-Some.ensures in
      let p = group_at c.args.shape.now.need 32 all c.loop-n.n _ here in
      let spells = spelled_body c.args.shape.now c.loop-n.store.shape born c.loop-n.store.kept all c.loop-n.n p.0 c.in-Some.body.now are p.1 p.2 (sym c.loop-n.invariant.shape)
      (c.loop-n.invariant.kept all placed are) in
      c.in_ok-store.ensures.kept p.0 spells ∙ ap (λ d. after d p.0) (c.loop-n.invariant.kept all placed are) ∙ sym (after_more born all c.loop-n.n p.0 p.1);
}

pub returns-clause-kept : goal.returns-clause-kept
returns-clause-kept c = λ all placed are.
    let all_of : c.loop-n.n ≡ length all = omega (arith, c.count-n-end.ensures.value, ap length placed, placed_length c.args.shape.now.need 32 all) in
    c.loop-n.invariant.kept all placed are ∙ ap (after_groups born) (take_all all c.loop-n.n all_of)
