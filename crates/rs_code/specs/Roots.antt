-- The polynomial whose roots are the points of distinct members: the product of x + point over them.
use Rattle.std.specs.Prelude.{ℕ, zero, suc, ◌≡◌, ◌≢◌, ◌<◌, List, [], ◌∷◌, length, bit_xor}
use Rattle.gf_lanes.specs.Field.{product}
use Rattle.rs_code.specs.Fragments.{point_of}
use Rattle.rs_code.specs.Polynomials.{polynomial}

-- the member is none of those
abbrev pub Differs : ℕ → List ℕ → Type 0
Differs member [] = Unit {0}
Differs member (other ∷ members) = (member ≢ other) × Differs member members

-- each is the number of a member, and no two are one
abbrev pub AreMembers : List ℕ → Type 0
AreMembers [] = Unit {0}
AreMembers (member ∷ members) = (member < 15) × Differs member members × AreMembers members

-- the product of x + point over the members
unfoldable pub differences : List ℕ → ℕ → ℕ
differences [] x = 1
differences (member ∷ members) x = product (bit_xor x (point_of member)) (differences members x)

-- these are the coefficients of that product as a polynomial in x, whose degree is the number of members
pub record IsRootPolynomial (coefficient : ℕ → ℕ) (members : List ℕ) : Type 0 where
  pub monic : coefficient (length members) ≡ 1
  pub above : (r : ℕ) → length members < r → coefficient r ≡ 0
  pub value : (x : ℕ) → polynomial coefficient (suc (length members)) x ≡ differences members x

-- the coefficients of a polynomial times x + a
abbrev pub times_root : (ℕ → ℕ) → ℕ → ℕ → ℕ
times_root coefficient a zero = product a (coefficient 0)
times_root coefficient a (suc r) = bit_xor (coefficient r) (product a (coefficient (suc r)))
