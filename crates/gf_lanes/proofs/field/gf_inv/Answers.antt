use Rattle.std.proofs.Common.{◌≡◌, refl, sym, ap, ◌∙◌, arith}
use Rattle.std.proofs.Math.Numerals.{add-one}
use Rattle.gf_lanes.specs.Field.{product}
use Rattle.gf_lanes.proofs.Inverses.{squared, squares_product, squares_product_lt, product-inverse, product_cancel}
use Rattle.gf_lanes.proofs.field.gf_inv.Goals as goal

pub loop-init : goal.loop-init
unfolding squared squares_product
loop-init c = (refl, refl)

pub loop-preserved : goal.loop-preserved
unfolding squared squares_product
loop-preserved c =
    let square : c.gf_mul-square.result ≡ product (squared c.args.a c.loop.counter) (squared c.args.a c.loop.counter) =
    c.gf_mul-square.ensures.value ∙ ap (λ n. product n n) c.loop.invariant.0 in
    rw add-one (
      square,
      c.gf_mul-inverse.ensures.value ∙ ap (λ n. product n c.gf_mul-square.result) c.loop.invariant.1
          ∙ ap (λ n. product (squares_product c.args.a c.loop.counter) n) square,
    )

-- what the loop leaves
power_is : (c : goal.After-loop) → c.loop.inverse ≡ squares_product c.args.a 7
power_is c = let all : c.loop.counter ≡ 7 = omega arith in c.loop.invariant.1 ∙ ap (λ n. squares_product c.args.a n) all

pub returns-clause-inverse : goal.returns-clause-inverse
returns-clause-inverse c =
    ap (λ n. product c.args.a n) (power_is c) ∙ product-inverse c.args.a c.requires (omega arith)

pub returns-clause-only : goal.returns-clause-only
returns-clause-only c other within same =
    product_cancel c.args.a other (squares_product c.args.a 7) c.requires (omega arith) within (squares_product_lt c.args.a 7)
    (same ∙ sym (product-inverse c.args.a c.requires (omega arith)))
    ∙ sym (power_is c)
