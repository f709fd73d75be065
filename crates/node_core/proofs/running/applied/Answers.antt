use Rattle.std.proofs.Common.{◌≡◌, ℕ, ◌+◌, suc, Some, ap, sym, subst, ◌∙◌, arith, add-one}
use Rattle.entry_frames.specs.Logs.{entry_at}
use Rattle.full_append.proofs.Lists.{viewed_some}
use Rattle.kv_apply.specs.Services as services
use Rattle.node_core.specs.Serving.{heads_up_to}
use Rattle.node_core.proofs.Serving.{heads_next}
use Rattle.node_core.proofs.running.applied.Goals as goal

pub apply-requires : goal.apply-requires
apply-requires c = ap (λ (n : ℕ). n + 1) (sym c.loop-before.invariant.0)

pub loop-before-preserved : goal.loop-before-preserved
loop-before-preserved c =
    let d = c.args.store.now.kept in
    let before = c.loop-before.before in
    let e = c.in-Some.entry.entry in
    let there : entry_at d.log (suc before) ≡ Some e =
    ap (entry_at d.log) (sym (add-one before)) ∙ viewed_some c.args.store.now.shape.need (entry_at d.log (before + 1)) c.in-Some.entry (sym c.in-Some.is ∙ c.at.ensures) in (
      c.in_ok-next.ensures.count ∙ ap (λ (n : ℕ). n + 1) c.loop-before.invariant.0,
      subst (services.Stands c.in_ok-next.next) (sym (heads_next d before e there)) (c.in_ok-next.ensures.stands (heads_up_to before d) c.loop-before.invariant.1),
    )

pub returns : goal.returns
returns c =
    let all : c.loop-before.before ≡ c.args.store.now.kept.commit = omega (arith, c.loop-before-test.false, c.loop-before.auto.before-end, c.commit-before-end.ensures) in
    subst (λ (k : ℕ). services.Stands c.loop-before.service (heads_up_to k c.args.store.now.kept)) all c.loop-before.invariant.1
