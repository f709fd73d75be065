use Rattle.std.proofs.Common.{◌≡◌, ◌<◌, ◌*◌, ◌+◌, ◌^◌, ◌++◌, ℕ, length, get_or, take, drop, slice_index, bit_xor, arith, sym, ap, ◌∙◌}
use Rattle.std.proofs.lemmas.List.{get_or_append_left, get_or-take, get_or-replicate, length-take-le}
use Rattle.std.proofs.lemmas.Nat.{xor_of_8}
use Rattle.gf_lanes.specs.Field.{product}
use Rattle.gf_lanes.proofs.Products.{product-xor_r}
use Rattle.rs_code.specs.Polynomials.{polynomial}
use Rattle.rs_code.specs.Fragments.{coefficients}
use Rattle.rs_code.proofs.Polynomials.{polynomial_lt}
use Rattle.rs_code.proofs.Interpolation.{in_second, divided, polynomial-front}
use Rattle.rs_code.proofs.Pieces.{below_piece}
use Rattle.rs_code.proofs.newton.interpolate.Goals as goal

-- how long the earlier registers are, and the newest one
earlier_long : (c : goal.After-slice_known-7-1) → length c.add_multiples.new.pieces ≡ c.args.count * length c.args.part.now
earlier_long c = c.add_multiples.auto.pieces ∙ c.split_at_mut-earlier.ensures.front_len

newest_room : (c : goal.After-slice_known-7-1) → length (take (length c.args.part.now) c.split_at_mut-earlier.result.1.now) ≡ length c.args.part.now
newest_room c = length-take-le (length c.args.part.now) c.split_at_mut-earlier.result.1.now (omega (arith, c.requires.room, c.split_at_mut-earlier.ensures.back_len))

newest_long : (c : goal.After-slice_known-7-1) → length c.add_values.new.sums ≡ length c.args.part.now
newest_long c = c.add_values.auto.sums ∙ c.mul_add.auto.dst ∙ c.fill.ensures.len ∙ newest_room c

-- the part less the value of the polynomial, times the factor
newest_is : (c : goal.After-slice_known-7-1) (place : ℕ) → place < length c.args.part.now
    → slice_index c.add_values.new.sums place ≡ product c.gf_inv-factor.result (bit_xor (slice_index c.args.part.now place) (polynomial (coefficients c.args.registers.now (length c.args.part.now) place) c.args.count c.args.point))
newest_is c place h =
    let size : ℕ = length c.args.part.now in
    let factor : ℕ = c.gf_inv-factor.result in
    let given : ℕ = slice_index c.args.part.now place in
    let long : length c.mul_add.new.dst ≡ size = c.mul_add.auto.dst ∙ c.fill.ensures.len ∙ newest_room c in
    let value : ℕ = polynomial (coefficients c.args.registers.now size place) c.args.count c.args.point in
    c.add_values.ensures place (omega (arith, newest_long c))
    ∙ ap (λ n. bit_xor n (product factor (polynomial (coefficients c.split_at_mut-earlier.result.0.now (length c.mul_add.new.dst) place) c.args.count c.args.point)))
    (c.mul_add.ensures place (omega (arith, long))
    ∙ ap (λ n. bit_xor n (product factor given)) (ap (λ xs. get_or xs place 0) (c.fill.ensures.after (λ y e. e)) ∙ get_or-replicate (length (take size c.split_at_mut-earlier.result.1.now)) place 0 0 (omega (arith, newest_room c))))
    ∙ ap (λ n. bit_xor (product factor given) (product factor n))
    (ap (λ n. polynomial (coefficients c.split_at_mut-earlier.result.0.now n place) c.args.count c.args.point) long
    ∙ ap (λ xs. polynomial (coefficients xs size place) c.args.count c.args.point) c.split_at_mut-earlier.ensures.front
    ∙ polynomial-front c.args.registers.now size place c.args.count c.args.point h)
    ∙ sym (product-xor_r factor given value)

-- a place of the newest register
newest_at : (c : goal.After-slice_known-7-1) (place : ℕ) → place < length c.args.part.now → coefficients (c.add_multiples.new.pieces ++ (c.add_values.new.sums ++ drop (length c.args.part.now) c.split_at_mut-earlier.result.1.now)) (length c.args.part.now) place c.args.count ≡ slice_index c.add_values.new.sums place
newest_at c place h =
    in_second c.add_multiples.new.pieces c.add_values.new.sums (drop (length c.args.part.now) c.split_at_mut-earlier.result.1.now) (c.args.count * length c.args.part.now) place
    (earlier_long c) (omega (arith, newest_long c))

pub returns-clause-newest : goal.returns-clause-newest
returns-clause-newest c place h =
    let value : ℕ = polynomial (slice_index c.args.roots.now) 9 c.args.point in
    let given : c.value_at.result ≡ value = c.value_at.ensures ∙ ap (λ n. polynomial (slice_index c.args.roots.now) n c.args.point) c.told-roots in
    let sums : ℕ = bit_xor (slice_index c.args.part.now place) (polynomial (coefficients c.args.registers.now (length c.args.part.now) place) c.args.count c.args.point) in
    let low : sums < 2 ^ 8 = xor_of_8 (slice_index c.args.part.now place) (polynomial (coefficients c.args.registers.now (length c.args.part.now) place) c.args.count c.args.point)
    (omega (arith, c.type_inv.part place)) (polynomial_lt (coefficients c.args.registers.now (length c.args.part.now) place) c.args.count c.args.point) in
    ap (λ n. product value n) (newest_at c place h)
    ∙ divided value c.gf_inv-factor.result sums (slice_index c.add_values.new.sums place)
    (ap (λ n. product n c.gf_inv-factor.result) (sym given) ∙ c.gf_inv-factor.ensures.inverse) low
    (newest_is c place h)

pub returns-clause-earlier : goal.returns-clause-earlier
returns-clause-earlier c r place lower h =
    let size : ℕ = length c.args.part.now in
    let below : r * size + place < c.args.count * size = below_piece r c.args.count size place lower h in
    let few : length (take c.args.count c.args.roots.now) ≡ c.args.count = length-take-le c.args.count c.args.roots.now (omega (arith, c.told-roots, c.requires.few)) in
    get_or_append_left c.add_multiples.new.pieces (c.add_values.new.sums ++ drop size c.split_at_mut-earlier.result.1.now) 0 (r * size + place) (omega (arith, earlier_long c))
    ∙ ap (λ n. slice_index c.add_multiples.new.pieces (r * n + place)) (sym (newest_long c))
    ∙ c.add_multiples.ensures r place (omega (arith, few)) (omega (arith, newest_long c))
    ∙ ap (λ n. bit_xor (slice_index c.split_at_mut-earlier.result.0.now (r * n + place)) (product (slice_index (take c.args.count c.args.roots.now) r) (slice_index c.add_values.new.sums place))) (newest_long c)
    ∙ ap (λ n. bit_xor n (product (slice_index (take c.args.count c.args.roots.now) r) (slice_index c.add_values.new.sums place)))
    (ap (λ xs. get_or xs (r * size + place) 0) c.split_at_mut-earlier.ensures.front ∙ get_or-take (c.args.count * size) c.args.registers.now (r * size + place) 0 below)
    ∙ ap (λ n. bit_xor (slice_index c.args.registers.now (r * size + place)) (product n (slice_index c.add_values.new.sums place)))
    (get_or-take c.args.count c.args.roots.now r 0 lower)
    ∙ ap (λ n. bit_xor (slice_index c.args.registers.now (r * size + place)) (product (slice_index c.args.roots.now r) n)) (sym (newest_at c place h))
