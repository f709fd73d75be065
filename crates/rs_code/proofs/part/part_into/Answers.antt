use Rattle.std.proofs.Common.{◌≡◌, ◌*◌, ◌+◌, ◌-◌, ◌<◌, ◌^◌, ℕ, List, length, slice_index, bit_xor, arith, refl, sym, ap, ◌∙◌, map}
use Rattle.std.specs.List.{range_with_len}
use Rattle.std.proofs.lemmas.List.FromFn.{fill_by_all}
use Rattle.gf_lanes.specs.Field.{product}
use Rattle.gf_lanes.proofs.Laws.{product-zero_r}
use Rattle.rs_code.specs.Polynomials.{polynomial}
use Rattle.rs_code.specs.Fragments.{coefficients, point_of}
use Rattle.rs_code.proofs.Steps.{polynomial_none, horner_step}
use Rattle.rs_code.proofs.Polynomials.{polynomial-same}
use Rattle.rs_code.proofs.Determined.{fragments_determine}
use Rattle.rs_code.proofs.part.part_into.Goals as goal

-- the piece at r, as coefficients
piece_is : (value piece : List ℕ) (size r n place : ℕ) → n ≡ r → place < size → ((p : ℕ) → p < size → slice_index piece p ≡ slice_index value (n * size + p)) → slice_index piece place ≡ coefficients value size place r
piece_is value piece size r n place same h bytes = bytes place h ∙ ap (λ m. slice_index value (m * size + place)) same

-- the byte of the last piece, as the value of a polynomial of one coefficient
last_is : (value : List ℕ) (size last place x b : ℕ) → slice_index value (last * size + place) < 2 ^ 8 → b ≡ coefficients value size place last
    → b ≡ polynomial (λ i. coefficients value size place (last + i)) 1 x
last_is value size last place x b low is =
    horner_step (coefficients value size place) x last 0 0 0 b low (polynomial_none (λ i. coefficients value size place (last + 1 + i)) x) (sym (product-zero_r x)) is

pub loop-r-init : goal.loop-r-init
loop-r-init c = λ place h.
    let size : ℕ = length c.args.out.now in
    let value : List ℕ = c.args.value.now in
    let r : ℕ = c.args.k - 2 in
    let last : ℕ = c.args.k - 1 in
    let point : ℕ = point_of c.args.member in
    let next : last ≡ r + 1 = omega arith in
    let two : 1 + 1 ≡ c.args.k - r = omega arith in
    horner_step (coefficients value size place) point r 1 (slice_index c.piece_of-last.result.now place)
    (product point (slice_index c.piece_of-last.result.now place)) (slice_index c.first_step.new.out place)
    (omega (arith, c.type_inv.value (r * size + place)))
    (last_is value size last place point (slice_index c.piece_of-last.result.now place) (omega (arith, c.type_inv.value (last * size + place)))
    (piece_is value c.piece_of-last.result.now size last c.from.result place c.from.ensures h c.piece_of-last.ensures.bytes)
    ∙ ap (λ n. polynomial (λ i. coefficients value size place (n + i)) 1 point) next)
    refl
    (c.first_step.ensures place (omega arith) ∙ ap (bit_xor (product point (slice_index c.piece_of-last.result.now place))) (piece_is value c.piece_of.result.now size r c.from-2.result place c.from-2.ensures h c.piece_of.ensures.bytes))
    ∙ ap (λ n. polynomial (λ i. coefficients value size place (r + i)) n point) two

pub loop-r-preserved : goal.loop-r-preserved
loop-r-preserved c = λ place h.
    let size : ℕ = length c.args.out.now in
    let r : ℕ = c.loop-r.r - 1 in
    let next : r + 1 ≡ c.loop-r.r = omega arith in
    let more : c.args.k - c.loop-r.r + 1 ≡ c.args.k - r = omega arith in
    let point : ℕ = point_of c.args.member in
    horner_step (coefficients c.args.value.now size place) point r (c.args.k - c.loop-r.r) (slice_index c.loop-r.out place)
    (product point (slice_index c.loop-r.out place)) (slice_index c.step.new.sums place)
    (omega (arith, c.type_inv.value (r * size + place)))
    (c.loop-r.invariant place h ∙ ap (λ n. polynomial (λ i. coefficients c.args.value.now size place (n + i)) (c.args.k - c.loop-r.r) point) (sym next))
    refl
    (c.step.ensures place (omega arith) ∙ ap (bit_xor (product point (slice_index c.loop-r.out place))) (piece_is c.args.value.now c.piece_of-in-loop-r.result.now size r c.from-in-loop-r.result place c.from-in-loop-r.ensures h c.piece_of-in-loop-r.ensures.bytes))
    ∙ ap (λ n. polynomial (λ i. coefficients c.args.value.now size place (r + i)) n point) more

pub returns-then-k-eq1-clause-fragment : goal.returns-then-k-eq1-clause-fragment
returns-then-k-eq1-clause-fragment c =
    let size : ℕ = length c.args.out.now in
    let value : List ℕ = c.args.value.now in
    let last : ℕ = c.args.k - 1 in
    let point : ℕ = point_of c.args.member in
    let one : 1 ≡ c.args.k = sym c.if-k-eq1.true in
    fill_by_all (λ place. polynomial (coefficients value size place) c.args.k point) c.write_piece.new.out size 0 c.write_piece.auto.out
    (λ place h. last_is value size last place point (slice_index c.write_piece.new.out place) (omega (arith, c.type_inv.value (last * size + place)))
    (c.write_piece.ensures place (omega arith) ∙ piece_is value c.piece_of-last.result.now size last c.from.result place c.from.ensures h c.piece_of-last.ensures.bytes)
    ∙ ap (λ n. polynomial (λ i. coefficients value size place (last + i)) n point) one
    ∙ polynomial-same (λ i. coefficients value size place (last + i)) (coefficients value size place) c.args.k point
    (λ i within. let same : last + i ≡ i = omega arith in ap (coefficients value size place) same))
    ∙ ap (λ n. map (λ place. polynomial (coefficients value n place) c.args.k point) (range_with_len 0 n)) c.requires.room

pub returns-then-k-eq1-clause-law : goal.returns-then-k-eq1-clause-law
returns-then-k-eq1-clause-law c = fragments_determine c.args.k c.requires.some_need

pub returns-clause-fragment : goal.returns-clause-fragment
returns-clause-fragment c =
    let none : c.loop-r.r ≡ 0 = omega arith in
    let size : ℕ = length c.args.out.now in
    let all : c.args.k - c.loop-r.r ≡ c.args.k = omega arith in
    fill_by_all (λ place. polynomial (coefficients c.args.value.now size place) c.args.k (point_of c.args.member)) c.loop-r.out size 0 (c.loop-r.auto.out ∙ c.first_step.auto.out)
    (λ place h. c.loop-r.invariant place h
    ∙ ap (λ n. polynomial (λ i. coefficients c.args.value.now size place (c.loop-r.r + i)) n (point_of c.args.member)) all
    ∙ polynomial-same (λ i. coefficients c.args.value.now size place (c.loop-r.r + i)) (coefficients c.args.value.now size place) c.args.k (point_of c.args.member)
    (λ i within. let same : c.loop-r.r + i ≡ i = omega arith in ap (coefficients c.args.value.now size place) same))
    ∙ ap (λ n. map (λ place. polynomial (coefficients c.args.value.now n place) c.args.k (point_of c.args.member)) (range_with_len 0 n)) c.requires.room

pub returns-clause-law : goal.returns-clause-law
returns-clause-law c = fragments_determine c.args.k c.requires.some_need
