use Rattle.std.proofs.Common.{ℕ, Bool, ◌<◌, ◌≤◌, length, not, sym, ◌∙◌, arith}
use Rattle.craft_base.specs.Knowledge.{is_held_whole}
use Rattle.coded_append.specs.Starts.{first_lacking}
use Rattle.coded_append.proofs.Lacking.{found_here, found_none, left_on}
use Rattle.coded_append.proofs.start.first_lacking.Goals as goal

pub returns-then-may_lack-clause-exact : goal.returns-then-may_lack-clause-exact
returns-then-may_lack-clause-exact g c = λ shape heard first stands.
    let view = g.L.LogView.log c.args.log.now in
    let p : ℕ → Bool = λ index. not (is_held_whole c.args.member index heard) in
    let last : ℕ = length view.entries in
    let lt : c.loop-before.before < last = omega (arith, c.last-before-end.ensures, c.loop-before-test.true) in
    found_here p c.loop-before.before last (first_lacking c.args.member view.commit view.entries heard) (c.loop-before.invariant.left shape heard first stands) lt
    (sym (c.may_lack.ensures shape heard first stands) ∙ c.if-may_lack.true)

pub loop-before-preserved : goal.loop-before-preserved
loop-before-preserved g c = record {
  above = omega (arith, c.loop-before.invariant.above);
  left = λ shape heard first stands.
      let view = g.L.LogView.log c.args.log.now in
      let p : ℕ → Bool = λ index. not (is_held_whole c.args.member index heard) in
      let last : ℕ = length view.entries in
      let lt : c.loop-before.before < last = omega (arith, c.last-before-end.ensures, c.loop-before-test.true) in
      left_on p c.loop-before.before last (first_lacking c.args.member view.commit view.entries heard) (c.loop-before.invariant.left shape heard first stands) lt
      (sym (c.may_lack.ensures shape heard first stands) ∙ c.if-may_lack.false);
}

pub returns-clause-exact : goal.returns-clause-exact
returns-clause-exact g c = λ shape heard first stands.
    let view = g.L.LogView.log c.args.log.now in
    let p : ℕ → Bool = λ index. not (is_held_whole c.args.member index heard) in
    let last : ℕ = length view.entries in
    let le : last ≤ c.loop-before.before = omega (arith, c.last-before-end.ensures, c.loop-before-test.false) in
    found_none p c.loop-before.before last (first_lacking c.args.member view.commit view.entries heard) (c.loop-before.invariant.left shape heard first stands) le
