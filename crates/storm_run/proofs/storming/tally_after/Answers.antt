use Rattle.std.proofs.Common.{◌≡◌, ◌+◌, arith, ap, ◌∙◌}
use Rattle.storm_gen.specs.Storm.{next_line}
use Rattle.storm_run.proofs.Progressing.{goes_on, is_safe}
use Rattle.storm_run.proofs.storming.tally_after.Goals as goal

pub loop-n-preserved : goal.loop-n-preserved
loop-n-preserved c =
    let l = c.loop-n in
    let p = l.invariant in
    let made = c.in_ok-line.ensures in
    let done = c.in_ok-next.ensures in
    goes_on c.args.shape.now c.args.seed c.args.count l.n l.world l.storm p c.in_ok-next.next c.next.new.self c.in_ok-line.line
    (omega arith) done.shape (made.line ∙ ap (λ sent. next_line l.storm l.n sent) (c.sent.ensures p.events p.reached)) made.after made.range
    (done.stands p.events p.reached)

pub returns-clause-safe : goal.returns-clause-safe
returns-clause-safe c =
    let last : c.loop-n.n ≡ c.args.count + 1 = omega arith in
    is_safe c.args.shape.now c.args.seed c.args.count c.loop-n.n c.loop-n.world c.loop-n.storm c.loop-n.invariant last
