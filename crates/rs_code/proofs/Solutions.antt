-- The value that the registers give is the only one on whose polynomials the parts lie.
use Rattle.std.proofs.Common.{◌≡◌, ℕ, zero, suc, ◌+◌, ◌-◌, ◌*◌, ◌/◌, ◌%◌, ◌<◌, ◌≤◌, List, ◌++◌, length, get_or, map, take, replicate, All, refl, sym, ap, subst, inl, inr, ◌∙◌, arith, length-append}
use Rattle.std.proofs.lemmas.Bool.{cases_lt}
use Rattle.std.proofs.lemmas.Grind.{div_ceil_times}
use Rattle.std.proofs.lemmas.Nat.{mul-le}
use Rattle.std.proofs.lemmas.List.{length-map, get_or-map, ext_get_or, get_or_append_left, get_or-append_right, get_or_past, get_or-replicate, length-replicate, take_at}
use Rattle.std.proofs.lemmas.List.Elements.{All-append, All-replicate}
use Rattle.std.proofs.lemmas.List.FromFn.{length-map-range_with_len, get_or-map-range_with_len}
use Rattle.craft_base.specs.Parts.{part_length}
use Rattle.rs_code.specs.Polynomials.{polynomial}
use Rattle.rs_code.specs.Fragments.{coefficients, point_of, fragment}
use Rattle.rs_code.specs.Roots.{AreMembers}
use Rattle.rs_code.specs.Rebuilding.{TakenPart, Rebuilding, LiesOn, Solves, AreFragments}
use Rattle.rs_code.specs.Registers.{part_of}
use Rattle.rs_code.proofs.Polynomials.{polynomial-same}
use Rattle.rs_code.proofs.Pieces.{byte_at}
use Rattle.rs_code.proofs.Unique.{same_polynomials}

-- the rebuilding whose parts the registers keep
abbrev pub kept : ℕ → ℕ → List ℕ → List ℕ → Rebuilding
kept need value_length registers members = record {
  need = need;
  value_length = value_length;
  parts = map (part_of registers (part_length value_length need) need) members;
}

-- each part lies on the polynomials of the registers
part_lies : (need size : ℕ) (registers : List ℕ) (j : ℕ) → LiesOn need size registers (part_of registers size need j)
part_lies need size registers j place h =
    get_or-map-range_with_len (λ p. polynomial (coefficients registers size p) need (point_of j)) 0 size place place 0
    (omega (arith, length-map-range_with_len (λ p. polynomial (coefficients registers size p) need (point_of j)) 0 size)) (omega arith)

pub registers_solve : (need value_length : ℕ) (registers members : List ℕ) → length registers ≡ need * part_length value_length need → All (λ b. b < 256) registers → Solves (kept need value_length registers members) (take value_length registers)
registers_solve need value_length registers members long bytes = record {
  joined = registers;
  bytes = bytes;
  long = long;
  through = λ k d below.
      let f : ℕ → TakenPart = part_of registers (part_length value_length need) need in
      subst (LiesOn need (part_length value_length need) registers) (sym (get_or-map f members k 0 d (omega (arith, length-map members f)))) (part_lies need (part_length value_length need) registers (get_or members k 0));
  beginning = refl;
}

-- what a part says of joined pieces on which it lies
part_says : (need size : ℕ) (registers joined members : List ℕ) → All (LiesOn need size joined) (map (part_of registers size need) members) → (k place : ℕ) → k < length members → place < size → polynomial (coefficients registers size place) need (point_of (get_or members k 0)) ≡ polynomial (coefficients joined size place) need (point_of (get_or members k 0))
part_says need size registers joined members through k place below h =
    let f : ℕ → TakenPart = part_of registers size need in
    let d : TakenPart = f 0 in
    let here : LiesOn need size joined (f (get_or members k 0)) =
    subst (LiesOn need size joined) (get_or-map f members k 0 d below) (through k d (omega (arith, length-map members f))) in
    sym (part_lies need size registers (get_or members k 0) place (omega (arith, length-map-range_with_len (λ p. polynomial (coefficients registers size p) need (point_of (get_or members k 0))) 0 size)))
    ∙ here place (omega (arith, length-map-range_with_len (λ p. polynomial (coefficients registers size p) need (point_of (get_or members k 0))) 0 size))

-- a place of joined pieces, by its piece and its place there
split_place : (size need i : ℕ) → i < need * size → (0 < size) × (i / size < need) × (i % size < size) × (i / size * size + i % size ≡ i)
split_place zero need i h = absurd (let none : need * 0 ≡ 0 = omega arith in omega arith)
split_place (suc size) need i h =
    let whole : i / suc size * suc size + i % suc size ≡ i = omega arith in
    let rest : i % suc size < suc size = omega arith in
    (omega arith, below_need h whole, rest, whole)
  where
    below_need : i < need * suc size → i / suc size * suc size + i % suc size ≡ i → i / suc size < need
    below_need p e = elim (cases_lt (i / suc size) need) [
      | inl below ↦ below
      | inr above ↦ absurd (let more : need * suc size ≤ i / suc size * suc size = mul-le need (suc size) (i / suc size) (suc size) above (omega arith) in omega arith)
    ]

-- the joined pieces on which the parts lie are the registers
joined_same : (need size : ℕ) (registers joined members : List ℕ) → AreMembers members → length members ≡ need → length registers ≡ need * size → length joined ≡ need * size → All (λ b. b < 256) registers → All (λ b. b < 256) joined → All (LiesOn need size joined) (map (part_of registers size need) members) → joined ≡ registers
joined_same need size registers joined members all count long also bytes low through =
    ext_get_or 0 joined registers (also ∙ sym long) (λ i h. at i (split_place size need i (omega arith)))
  where
    at : (i : ℕ) → (0 < size) × (i / size < need) × (i % size < size) × (i / size * size + i % size ≡ i) → get_or joined i 0 ≡ get_or registers i 0
    at i parts =
        let place : ℕ = i % size in
        let r : ℕ = i / size in
        ap (λ n. get_or joined n 0) (sym parts.3)
        ∙ same_polynomials members (coefficients joined size place) (coefficients registers size place) all
        (λ q within. byte_at joined low (q * size + place)) (λ q within. byte_at registers bytes (q * size + place))
        (λ k within. sym (ap (λ n. polynomial (coefficients registers size place) n (point_of (get_or members k 0))) count
        ∙ part_says need size registers joined members through k place within parts.2
        ∙ ap (λ n. polynomial (coefficients joined size place) n (point_of (get_or members k 0))) (sym count)))
        r (omega arith)
        ∙ ap (λ n. get_or registers n 0) parts.3

-- no other value solves it
pub only_solution : (need value_length : ℕ) (registers members other : List ℕ) → AreMembers members → length members ≡ need → length registers ≡ need * part_length value_length need → All (λ b. b < 256) registers → Solves (kept need value_length registers members) other → other ≡ take value_length registers
only_solution need value_length registers members other all count long bytes s =
    s.beginning ∙ ap (λ xs. take value_length xs)
    (joined_same need (part_length value_length need) registers s.joined members all count long s.long bytes s.bytes s.through)

-- ---- a value whose fragments the parts are

-- the value and zeros after it
unfoldable pub padded : ℕ → List ℕ → List ℕ
padded n value = value ++ replicate (n - length value) 0

pub padded_at : (n : ℕ) (value : List ℕ) (i : ℕ) → get_or (padded n value) i 0 ≡ get_or value i 0
unfolding padded
padded_at n value i = elim (cases_lt i (length value)) [
  | inl below ↦ get_or_append_left value (replicate (n - length value) 0) 0 i below
  | inr past ↦
      get_or-append_right value (replicate (n - length value) 0) (length value) i 0 refl past
      ∙ zeros (n - length value) (i - length value) ∙ sym (get_or_past value i 0 past)
]
  where
    zeros : (m k : ℕ) → get_or (replicate {A = ℕ} m 0) k 0 ≡ 0
    zeros m k = elim (cases_lt k m) [
      | inl below ↦ get_or-replicate m k 0 0 below
      | inr past ↦ get_or_past (replicate {A = ℕ} m 0) k 0 (omega (arith, length-replicate {A = ℕ} m 0))
    ]

pub padded_long : (need : ℕ) (value : List ℕ) → 1 ≤ need → length (padded (need * part_length (length value) need) value) ≡ need * part_length (length value) need
unfolding padded
padded_long need value some =
    let n : ℕ = need * part_length (length value) need in
    let room : length value ≤ n = omega (arith, div_ceil_times (length value) need some) in
    omega (arith, length-append value (replicate (n - length value) 0), length-replicate {A = ℕ} (n - length value) 0)

pub padded_bytes : (n : ℕ) (value : List ℕ) → All (λ b. b < 256) value → All (λ b. b < 256) (padded n value)
unfolding padded
padded_bytes n value bytes = All-append (λ b. b < 256) value (replicate (n - length value) 0) bytes (All-replicate (λ b. b < 256) (n - length value) 0 (omega arith))

pub padded_start : (n : ℕ) (value : List ℕ) → take (length value) (padded n value) ≡ value
unfolding padded
padded_start n value = take_at value (replicate (n - length value) 0) (length value) refl

-- a fragment lies on the padded value
fragment_lies : (need : ℕ) (value : List ℕ) (n : ℕ) (part : TakenPart) → part.bytes ≡ fragment value need part.member → LiesOn need (part_length (length value) need) (padded n value) part
fragment_lies need value n part is place h =
    let size : ℕ = part_length (length value) need in
    let f : ℕ → ℕ = λ p. polynomial (coefficients value size p) need (point_of part.member) in
    let within : place < size = omega (arith, ap length is, length-map-range_with_len f 0 size) in
    ap (λ xs. get_or xs place 0) is
    ∙ get_or-map-range_with_len f 0 size place place 0 within (omega arith)
    ∙ polynomial-same (coefficients value size place) (coefficients (padded n value) size place) need (point_of part.member)
    (λ r below. sym (padded_at n value (r * size + place)))

pub value_solves : (rebuilding : Rebuilding) (value : List ℕ) → 1 ≤ rebuilding.need → All (λ b. b < 256) value → length value ≡ rebuilding.value_length → AreFragments rebuilding value → Solves rebuilding value
value_solves rebuilding value some bytes whole fragments =
    let need : ℕ = rebuilding.need in
    let n : ℕ = need * part_length (length value) need in
    record {
      joined = padded n value;
      bytes = padded_bytes n value bytes;
      long = padded_long need value some ∙ ap (λ m. need * part_length m need) whole;
      through = λ k d below. subst (λ m. LiesOn need (part_length m need) (padded n value) (get_or rebuilding.parts k d)) whole
          (fragment_lies need value n (get_or rebuilding.parts k d) (fragments k d below));
      beginning = sym (ap (λ m. take m (padded n value)) (sym whole) ∙ padded_start n value);
    }
