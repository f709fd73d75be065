use Rattle.std.proofs.Common.{◌≡◌, ℕ, ◌+◌, ◌-◌, ◌<◌, ◌≤◌, ◌++◌, length, get_or, inl, inr, sym, ap, ◌∙◌, arith, bit_xor}
use Rattle.std.proofs.lemmas.Bool.{cases_lt}
use Rattle.std.proofs.lemmas.List.{get_or_append_left, get_or-append_right, get_or-drop, get_or-take, get_or_past, length-append}
use Rattle.gf_lanes.specs.Field.{product}
use Rattle.gf_lanes.proofs.Laws.{product-zero_r}
use Rattle.rs_code.proofs.part.first_step.Goals as goal

-- how long the bytes are that the last piece reaches, and the others
front_long : (c : goal.After-slice_known-4-1) → length c.scale_add_to.new.dst ≡ length c.args.last.now
front_long c = c.scale_add_to.auto.dst ∙ c.split_at_mut-front.ensures.front_len

within_is : (c : goal.After-slice_known-4-1) (i : ℕ) → i < length c.args.last.now
    → get_or (c.scale_add_to.new.dst ++ c.write_piece.new.out) i 0 ≡ bit_xor (product c.args.point (get_or c.args.last.now i 0)) (get_or c.args.before.now i 0)
within_is c i within =
    get_or_append_left c.scale_add_to.new.dst c.write_piece.new.out 0 i (omega (arith, front_long c))
    ∙ c.scale_add_to.ensures i (omega (arith, front_long c))
    ∙ ap (bit_xor (product c.args.point (get_or c.args.last.now i 0))) (ap (λ xs. get_or xs i 0) c.split_at.ensures.front ∙ get_or-take (length c.args.last.now) c.args.before.now i 0 within)

past_is : (c : goal.After-slice_known-4-1) (i : ℕ) → length c.args.last.now ≤ i → i - length c.args.last.now < length c.write_piece.new.out
    → get_or (c.scale_add_to.new.dst ++ c.write_piece.new.out) i 0 ≡ bit_xor (product c.args.point (get_or c.args.last.now i 0)) (get_or c.args.before.now i 0)
past_is c i past room =
    let n : ℕ = length c.args.last.now in
    let place : n + (i - n) ≡ i = omega arith in
    let none : product c.args.point (get_or c.args.last.now i 0) ≡ 0 = ap (product c.args.point) (get_or_past c.args.last.now i 0 past) ∙ product-zero_r c.args.point in
    get_or-append_right c.scale_add_to.new.dst c.write_piece.new.out n i 0 (front_long c) past
    ∙ c.write_piece.ensures (i - n) room ∙ ap (λ xs. get_or xs (i - n) 0) c.split_at.ensures.back ∙ get_or-drop n c.args.before.now (i - n) 0
    ∙ ap (λ p. get_or c.args.before.now p 0) place
    ∙ ap (λ m. bit_xor m (get_or c.args.before.now i 0)) (sym none)

pub returns : goal.returns
returns c i h = elim (cases_lt i (length c.args.last.now)) [
  | inl within ↦ within_is c i within
  | inr past ↦ past_is c i past (omega (arith, front_long c, length-append c.scale_add_to.new.dst c.write_piece.new.out))
]
