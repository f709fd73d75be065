-- Newton's form: the polynomial of the registers, and that of the registers with one part more.
use Rattle.std.proofs.Common.{◌≡◌, ℕ, suc, ◌+◌, ◌*◌, ◌^◌, ◌<◌, List, ◌++◌, length, get_or, take, sym, ap, ◌∙◌, bit_xor}
use Rattle.std.specs.Int.Bits.{xor_zero_r, xor_assoc}
use Rattle.std.proofs.lemmas.List.{get_or_append_left, get_or-append-add, get_or-take}
use Rattle.std.proofs.lemmas.Nat.{xor_comm}
use Rattle.gf_lanes.specs.Field.{product}
use Rattle.gf_lanes.proofs.Bits.{xor_again}
use Rattle.gf_lanes.proofs.Laws.{product_assoc, product_comm, product-one_l, product-one_r, product-zero_r}
use Rattle.rs_code.specs.Polynomials.{power, polynomial}
use Rattle.rs_code.specs.Fragments.{coefficients}
use Rattle.rs_code.proofs.Polynomials.{polynomial-same, polynomial-xor, polynomial-times}
use Rattle.rs_code.proofs.Pieces.{below_piece}

-- a place of the second of three lists
pub in_second : (e n rest : List ℕ) (k place : ℕ) → length e ≡ k → place < length n → get_or (e ++ (n ++ rest)) (k + place) 0 ≡ get_or n place 0
in_second e n rest k place long h =
    ap (λ m. get_or (e ++ (n ++ rest)) (m + place) 0) (sym long)
    ∙ get_or-append-add e (n ++ rest) place 0 ∙ get_or_append_left n rest 0 place h

-- what is divided by v and multiplied by it again
pub divided : (v inverse s n : ℕ) → product v inverse ≡ 1 → s < 2 ^ 8 → n ≡ product inverse s → product v n ≡ s
divided v inverse s n one low h =
    ap (λ m. product v m) h ∙ sym (product_assoc v inverse s) ∙ ap (λ m. product m s) one ∙ product-one_l s low

-- the first pieces alone have the same coefficients
pub polynomial-front : (xs : List ℕ) (size place count x : ℕ) → place < size → polynomial (coefficients (take (count * size) xs) size place) count x ≡ polynomial (coefficients xs size place) count x
polynomial-front xs size place count x h =
    polynomial-same (coefficients (take (count * size) xs) size place) (coefficients xs size place) count x
    (λ r within. get_or-take (count * size) xs (r * size + place) 0 (below_piece r count size place within h))

-- with a register more, n, and n times a root polynomial m added to the earlier ones
pub value_after : (c d m : ℕ → ℕ) (n count x : ℕ) → d count ≡ n → n < 2 ^ 8 → m count ≡ 1 → ((r : ℕ) → r < count → d r ≡ bit_xor (c r) (product (m r) n)) → polynomial d (suc count) x ≡ bit_xor (polynomial c count x) (product n (polynomial m (suc count) x))
unfolding polynomial
value_after c d m n count x newest low monic earlier =
    ap (λ v. bit_xor v (product (d count) (power x count)))
    (polynomial-same d (λ r. bit_xor (c r) (product n (m r))) count x (λ r within. earlier r within ∙ ap (λ v. bit_xor (c r) v) (product_comm (m r) n))
    ∙ polynomial-xor c (λ r. product n (m r)) count x)
    ∙ ap (λ v. bit_xor (bit_xor (polynomial c count x) (polynomial (λ r. product n (m r)) count x)) v)
    (ap (λ v. product v (power x count)) (newest ∙ sym (ap (λ v. product n v) monic ∙ product-one_r n low)))
    ∙ xor_assoc (polynomial c count x) (polynomial (λ r. product n (m r)) count x) (product (product n (m count)) (power x count))
    ∙ ap (λ v. bit_xor (polynomial c count x) v) (polynomial-times n m (suc count) x)

-- at a root the value stays
pub value_at_root : (p q n v : ℕ) → q ≡ bit_xor p (product n v) → v ≡ 0 → q ≡ p
value_at_root p q n v h root = h ∙ ap (λ w. bit_xor p w) (ap (λ w. product n w) root ∙ product-zero_r n) ∙ xor_zero_r p

-- at the new point it is the new part's byte
pub value_at_new : (p q n v a : ℕ) → q ≡ bit_xor p (product n v) → product v n ≡ bit_xor a p → q ≡ a
value_at_new p q n v a h made =
    h ∙ ap (λ w. bit_xor p w) (product_comm n v ∙ made ∙ xor_comm a p) ∙ xor_again p a
