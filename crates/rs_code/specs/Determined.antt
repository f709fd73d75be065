-- How many fragments determine a value.
use Rattle.std.specs.Prelude.{ℕ, ◌≡◌, ◌≢◌, ◌<◌, List, length, All, AllPairs}
use Rattle.rs_code.specs.Fragments.{fragment}

-- values of one length that share the fragments of as many different members as are needed are equal
abbrev pub AnyFragmentsDetermine : ℕ → Type 0
AnyFragmentsDetermine need =
    (members one other : List ℕ)
    → length members ≡ need → All (λ member. member < 15) members → AllPairs ◌≢◌ members
    → All (λ b. b < 256) one → All (λ b. b < 256) other → length one ≡ length other
    → All (λ member. fragment one need member ≡ fragment other need member) members
    → one ≡ other
