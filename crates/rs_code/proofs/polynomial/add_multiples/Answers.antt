use Rattle.std.proofs.Common.{◌≡◌, ◌<◌, ◌≤◌, ◌*◌, ◌+◌, ◌-◌, ℕ, length, slice_index, bit_xor, inl, inr, arith, sym, ap, ◌∙◌, subst}
use Rattle.std.proofs.lemmas.List.{length-take, length-drop}
use borrow.Rule.Slice.PartMut.{put_mid}
use Rattle.std.proofs.lemmas.Bool.{cases_lt}
use Rattle.std.proofs.lemmas.Nat.{mul-le}
use Rattle.gf_lanes.specs.Field.{product}
use Rattle.rs_code.specs.Fragments.{coefficients}
use Rattle.rs_code.proofs.Pieces.{below_piece, piece_at, written_piece, written_below, written_above}
use Rattle.rs_code.proofs.polynomial.add_multiples.Goals as goal

-- the piece that is written lies within
room : (c : goal.After-slice_known-in-loop-r-1) → (c.loop-r.r + 1) * length c.args.numbers.now ≤ length c.loop-r.pieces
room c =
    let all : (c.loop-r.r + 1) * length c.args.numbers.now ≤ length c.args.multipliers.now * length c.args.numbers.now =
    mul-le (c.loop-r.r + 1) (length c.args.numbers.now) (length c.args.multipliers.now) (length c.args.numbers.now) (omega arith) (omega arith) in
    omega arith

-- and is as long as the numbers
whole : (c : goal.After-slice_known-in-loop-r-1) → length c.mul_add.new.dst ≡ length c.args.numbers.now
whole c = omega (arith, c.mul_add.auto.dst, room c, length-take {A = ℕ}, length-drop {A = ℕ})

-- what is written
written : (c : goal.After-slice_known-in-loop-r-1) (place : ℕ) → place < length c.args.numbers.now → slice_index c.mul_add.new.dst place ≡ bit_xor (slice_index c.args.pieces.now (c.loop-r.r * length c.args.numbers.now + place)) (product (slice_index c.args.multipliers.now c.loop-r.r) (slice_index c.args.numbers.now place))
written c place h =
    c.mul_add.ensures place (omega (arith, whole c))
    ∙ ap (λ n. bit_xor n (product (slice_index c.args.multipliers.now c.loop-r.r) (slice_index c.args.numbers.now place)))
    (piece_at c.loop-r.pieces c.loop-r.r (length c.args.numbers.now) place h
    ∙ c.loop-r.invariant.1 (c.loop-r.r * length c.args.numbers.now + place) (omega arith))

pub loop-r-preserved : goal.loop-r-preserved
loop-r-preserved c =
    let size : ℕ = length c.args.numbers.now in (
      λ r place lower h. elim (cases_lt r c.loop-r.r) [
        | inl below ↦
            written_below c.loop-r.pieces c.mul_add.new.dst c.loop-r.r size (r * size + place) (room c) (whole c) (below_piece r c.loop-r.r size place below h)
            ∙ c.loop-r.invariant.0 r place below h
        | inr high ↦
            let here : r ≡ c.loop-r.r = omega arith in
            let P : ℕ → Type 0 = λ n. coefficients (put_mid (c.loop-r.r * size) ((c.loop-r.r + 1) * size - c.loop-r.r * size) c.loop-r.pieces c.mul_add.new.dst) size place n
            ≡ bit_xor (coefficients c.args.pieces.now size place n) (product (slice_index c.args.multipliers.now n) (slice_index c.args.numbers.now place)) in
            subst P (sym here)
            (written_piece c.loop-r.pieces c.mul_add.new.dst c.loop-r.r size place (room c) (whole c) h ∙ written c place h)
      ],
      λ i above.
          written_above c.loop-r.pieces c.mul_add.new.dst c.loop-r.r size i (room c) (whole c) above
          ∙ c.loop-r.invariant.1 i (omega arith),
    )
