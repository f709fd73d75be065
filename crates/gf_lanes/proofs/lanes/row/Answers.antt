use Rattle.std.proofs.Common.{◌≡◌, ◌*◌, sym, ap, ◌∙◌, arith, inl, inr}
use Rattle.std.proofs.lemmas.Bool.{cases_lt}
use Rattle.std.proofs.lemmas.List.{get_or-set_other, length-set}
use Rattle.std.proofs.lemmas.Grind.{get_or-set_at}
use Rattle.gf_lanes.specs.Field.{product}
use Rattle.gf_lanes.proofs.lanes.row.Goals as goal

pub loop-i-preserved : goal.loop-i-preserved
loop-i-preserved c = (
  length-set c.loop-i.row c.from.result c.gf_mul.result ∙ c.loop-i.invariant.0,
  λ k h. elim (cases_lt k c.loop-i.i) [
    | inl below ↦ get_or-set_other c.loop-i.row c.from.result k c.gf_mul.result 0 (λ e. omega arith) ∙ c.loop-i.invariant.1 k below
    | inr past ↦ let here : k ≡ c.loop-i.i = omega arith in
        get_or-set_at c.loop-i.row c.from.result k c.gf_mul.result 0 (omega arith) (omega (arith, c.loop-i.invariant.0))
        ∙ c.gf_mul.ensures.value ∙ ap (λ n. product c.args.c (c.args.step * n)) (sym here)
  ],
)
