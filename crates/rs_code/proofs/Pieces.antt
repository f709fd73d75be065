-- Places of the pieces of a list: piece r of a size begins at r * size.
use Rattle.std.proofs.Common.{◌≡◌, ℕ, ◌+◌, ◌-◌, ◌*◌, ◌^◌, ◌<◌, ◌≤◌, List, length, get_or, inl, inr, arith, rules, All}
use Rattle.std.proofs.lemmas.Bool.{cases_lt}
use Rattle.std.proofs.lemmas.List.{get_or_past}
use Rattle.std.specs.List.{between}
use Rattle.std.proofs.lemmas.List.{places}
use Rattle.std.proofs.lemmas.List.Edits.{get_or-between}
use Rattle.std.proofs.lemmas.Nat.{mul-le}
use borrow.Rule.Slice.PartMut.{put_mid}

-- a place of a lower piece
pub below_piece : (r s size place : ℕ) → r < s → place < size → r * size + place < s * size
below_piece r s size place h k = let room : (r + 1) * size ≤ s * size = mul-le (r + 1) size s size (omega arith) (omega arith) in omega arith

-- a place of the r-th piece
pub piece_at : (xs : List ℕ) (r size place : ℕ) → place < size → get_or (between (r * size) ((r + 1) * size) xs) place 0 ≡ get_or xs (r * size + place) 0
piece_at xs r size place h = get_or-between xs (r * size) ((r + 1) * size) place 0 (omega arith)

-- ---- after a write of ys to the r-th piece of xs

pub written_piece : (xs ys : List ℕ) (r size place : ℕ) → (r + 1) * size ≤ length xs → length ys ≡ size → place < size → get_or (put_mid (r * size) ((r + 1) * size - r * size) xs ys) (r * size + place) 0 ≡ get_or ys place 0
written_piece xs ys r size place room whole h = search (rules, places)

pub written_below : (xs ys : List ℕ) (r size i : ℕ) → (r + 1) * size ≤ length xs → length ys ≡ size → i < r * size → get_or (put_mid (r * size) ((r + 1) * size - r * size) xs ys) i 0 ≡ get_or xs i 0
written_below xs ys r size i room whole h = search (rules, places)

pub written_above : (xs ys : List ℕ) (r size i : ℕ) → (r + 1) * size ≤ length xs → length ys ≡ size → (r + 1) * size ≤ i → get_or (put_mid (r * size) ((r + 1) * size - r * size) xs ys) i 0 ≡ get_or xs i 0
written_above xs ys r size i room whole h = search (rules, places)

-- a list of bytes has a byte at each index, 0 past its end
pub byte_at : (xs : List ℕ) → All (λ b. b < 256) xs → (i : ℕ) → get_or xs i 0 < 2 ^ 8
byte_at xs h i = elim (cases_lt i (length xs)) [
  | inl below ↦ h i 0 below
  | inr past ↦ let none : get_or xs i 0 ≡ 0 = get_or_past xs i 0 past in omega arith
]
