use Rattle.std.proofs.Common.{◌≡◌, ℕ, suc, ◌+◌, ◌≤◌, Bool, true, false, cond, List, sym, ap, ◌∙◌, arith, add-one}
use Rattle.std.specs.List.{count_by, range_with_len}
use Rattle.craft_base.specs.Knowledge.{Heard}
use Rattle.world_model.specs.Quorums.{is_held, is_held_whole, known_form}
use Rattle.commit_rules.proofs.Rows.{count_more}
use Rattle.commit_rules.proofs.enough.is_enough.Goals.{then-is_held, else-is_held, then-is_held_whole, else-is_held_whole}
use Rattle.commit_rules.proofs.enough.is_enough.Goals as goal

counted_on : (p : ℕ → Bool) (n wholes next : ℕ) (hit : Bool) → wholes ≡ count_by p (range_with_len 0 n) → hit ≡ p n → next ≡ wholes + cond hit 1 0
    → next ≡ count_by p (range_with_len 0 (n + 1))
counted_on p n wholes next hit so_far is more =
    let after : suc n ≡ n + 1 = sym (add-one n) in
    more ∙ ap (λ test. wholes + cond test 1 0) is ∙ ap (λ f. f + cond (p n) 1 0) so_far
    ∙ sym (count_more p 0 n n (omega arith)) ∙ ap (λ (m : ℕ). count_by p (range_with_len 0 m)) after

one : (hit : Bool) → cond hit 1 0 ≤ 1
one true = omega arith
one false = omega arith

pub loop-number-preserved : goal.loop-number-preserved
loop-number-preserved g c =
    let log = (g.L.LogView.log c.args.log.now).entries in
    let whole = λ (heard : List Heard) (member : ℕ). is_held_whole (known_form c.args.me log heard c.args.index member) in
    let some = λ (heard : List Heard) (member : ℕ). is_held (known_form c.args.me log heard c.args.index member) in
    let l = c.loop-number in
    let wholes : c.if-is_held_whole.wholes ≡ l.wholes + cond c.is_held_whole.result 1 0 = elim c.if-is_held_whole.branch [
      | then-is_held_whole w ↦ w.wholes-is ∙ ap (λ hit. l.wholes + cond hit 1 0) (sym w.if-is_held_whole.true)
      | else-is_held_whole w ↦ omega (arith, w.wholes-is) ∙ ap (λ hit. l.wholes + cond hit 1 0) (sym w.if-is_held_whole.false)
    ] in
    let held : c.if-is_held.held ≡ l.held + cond c.is_held.result 1 0 = elim c.if-is_held.branch [
      | then-is_held w ↦ w.held-is ∙ ap (λ hit. l.held + cond hit 1 0) (sym w.if-is_held.true)
      | else-is_held w ↦ omega (arith, w.held-is) ∙ ap (λ hit. l.held + cond hit 1 0) (sym w.if-is_held.false)
    ] in
    record {
      few = omega (arith, l.invariant.few, wholes, one c.is_held_whole.result);
      few_held = omega (arith, l.invariant.few_held, held, one c.is_held.result);
      counted = λ heard first stands.
          counted_on (whole heard) l.number l.wholes c.if-is_held_whole.wholes c.is_held_whole.result (l.invariant.counted heard first stands)
          (c.is_held_whole.ensures ∙ ap is_held_whole (c.form_at-form.ensures heard first stands)) wholes;
      counted_held = λ heard first stands.
          counted_on (some heard) l.number l.held c.if-is_held.held c.is_held.result (l.invariant.counted_held heard first stands)
          (c.is_held.ensures ∙ ap is_held (c.form_at-form.ensures heard first stands)) held;
    }
