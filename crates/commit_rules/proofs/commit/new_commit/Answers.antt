use Rattle.std.proofs.Common.{ℕ, ◌+◌, true, false, sym, ◌∙◌, arith}
use Rattle.std.proofs.lemmas.Bool.{eq-eqb, ne_eqb}
use Rattle.entry_frames.specs.Logs.{term_at}
use Rattle.commit_rules.proofs.Reaching.{no_more, one_more}
use Rattle.commit_rules.proofs.commit.new_commit.Goals.{then-term_at-term, else-term_at-term}
use Rattle.commit_rules.proofs.commit.new_commit.Goals as goal

pub returns-then-not-is_enough-clause-exact : goal.returns-then-not-is_enough-clause-exact
returns-then-not-is_enough-clause-exact g c heard first stands =
    no_more _ _ _ c.loop-before.before c.loop-before.reached (c.loop-before.before + 1) _ (c.loop-before.invariant.exact heard first stands)
    c.loop-before.invariant.above (omega arith) (omega arith) (sym (c.is_enough.ensures heard first stands) ∙ c.if-not-is_enough.true)

pub loop-before-preserved : goal.loop-before-preserved
loop-before-preserved g c =
    let term : ℕ = term_at (g.L.LogView.log c.args.log.now).entries (c.loop-before.before + 1) in
    elim c.if-term_at-term.branch [
      | then-term_at-term w ↦ record {
        above = omega arith;
        grows = omega (arith, w.reached-is);
        within = omega (arith, w.reached-is);
        exact = λ heard first stands.
            one_more _ _ _ c.loop-before.before c.loop-before.reached (c.loop-before.before + 1) c.if-term_at-term.reached true
            (c.loop-before.invariant.exact heard first stands) c.loop-before.invariant.above c.loop-before.invariant.within (omega arith)
            (sym (c.is_enough.ensures heard first stands) ∙ c.if-not-is_enough.false)
            (sym (eq-eqb term c.args.term (sym c.term_at.ensures ∙ w.if-term_at-term.true))) w.reached-is;
      }
      | else-term_at-term w ↦ record {
        above = omega arith;
        grows = omega (arith, w.reached-is);
        within = omega (arith, w.reached-is);
        exact = λ heard first stands.
            one_more _ _ _ c.loop-before.before c.loop-before.reached (c.loop-before.before + 1) c.if-term_at-term.reached false
            (c.loop-before.invariant.exact heard first stands) c.loop-before.invariant.above c.loop-before.invariant.within (omega arith)
            (sym (c.is_enough.ensures heard first stands) ∙ c.if-not-is_enough.false)
            (sym (ne_eqb term c.args.term (λ same. w.if-term_at-term.false (c.term_at.ensures ∙ same)))) w.reached-is;
      }
    ]
