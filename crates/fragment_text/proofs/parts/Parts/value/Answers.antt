use Rattle.std.proofs.Common.{◌≡◌, ◌≤◌, length, drop, arith}
use Rattle.std.proofs.lemmas.Grind.{common_steps}
use Rattle.fragment_text.proofs.Joins.{rebuilds, front}
use Rattle.fragment_text.proofs.parts.Parts.value.Goals as goal

pub returns-clause-joined : goal.returns-clause-joined
returns-clause-joined c = λ shape said stands.
    let size : length c.write.new.out ≡ c.in_ok-value.value.len = grind (arith, common_steps) in
    let enough : c.args.self.now.need ≤ length c.args.self.now.rebuilder.parts = omega (arith, c.if-count-self.false, c.count.ensures.value) in
    rebuilds shape c.args.self.now said _ c.write.new.out stands enough
    (front c.in_ok-value.value.len c.write.new.out (drop (length c.write.new.out) c.in_ok-value.value.items) size)
    (record { solution = c.write.ensures.solution; only = c.write.ensures.only; fragments = c.write.ensures.value })
