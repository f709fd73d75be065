use Rattle.std.proofs.Common.{◌≡◌, ◌+◌, ℕ, length, ap, sym, subst, arith}
use Rattle.node_core.specs.declared.act.Act.{Act}
use Rattle.node_core.specs.Serving.{Serves}
use Rattle.node_core.proofs.Serving.{none_served, one_more_served}
use Rattle.node_core.proofs.act.Act.serve.Goals as goal

pub loop-before-init : goal.loop-before-init
loop-before-init c =
    let own = c.commit-before.ensures in (
      omega (arith, own),
      omega (arith, own, c.requires.above),
      subst (λ (k : ℕ). Serves c.args.self.member.store.kept.commit k c.args.self c.args.self) (sym own) (none_served c.args.self.member.store.kept.commit c.args.self c.requires.served),
    )

pub serve_one-requires-clause-within : goal.serve_one-requires-clause-within
serve_one-requires-clause-within c =
    let log : length c.loop-before.act.member.store.kept.log ≡ length c.args.self.member.store.kept.log =
    ap (λ (a : Act). length a.member.store.kept.log) c.loop-before.invariant.2.rest in
    omega (arith, log, c.loop-before-test.true, c.requires.within)

pub serve_one-requires-clause-next : goal.serve_one-requires-clause-next
serve_one-requires-clause-next c = ap (λ (k : ℕ). k + 1) (sym c.loop-before.invariant.2.count)

pub loop-before-preserved : goal.loop-before-preserved
loop-before-preserved c =
    let at = c.loop-before.before in
    let so_far = c.loop-before.invariant in
    let one : Serves at (at + 1) c.loop-before.act c.in_ok-act.act = subst (λ (k : ℕ). Serves k (at + 1) c.loop-before.act c.in_ok-act.act) so_far.2.count c.in_ok-act.ensures in (
      omega (arith, so_far.0),
      omega (arith, c.loop-before-test.true),
      one_more_served c.args.self.member.store.kept.commit at c.args.self c.loop-before.act c.in_ok-act.act so_far.0 so_far.2 one,
    )

pub returns : goal.returns
returns c =
    let so_far = c.loop-before.invariant in
    let all : c.loop-before.before ≡ c.args.index = omega (arith, so_far.1, c.loop-before-test.false) in
    subst (λ (k : ℕ). Serves c.args.self.member.store.kept.commit k c.args.self c.loop-before.act) all so_far.2
