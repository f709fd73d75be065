-- Facts of what a stream told before some calls and after them, one after the other.
use Rattle.std.proofs.Common.{ℕ, List, Option, None, Some}
use Rattle.std.specs.Prelude.{IfSome}
use Rattle.craft_edge.specs.Streams.{WhereBothTold}

-- before any call
pub told_same : (left : Option (List ℕ)) (Fact : List ℕ → List ℕ → Type 0) → ((bytes : List ℕ) → Fact bytes bytes) → WhereBothTold left left Fact
told_same None Fact holds = tt
told_same (Some bytes) Fact holds = holds bytes

-- one fact after the other
pub told_trans : (left mid now : Option (List ℕ)) (First Second Both : List ℕ → List ℕ → Type 0) → WhereBothTold left mid First → WhereBothTold mid now Second
    → ((a b c : List ℕ) → First a b → Second b c → Both a c) → WhereBothTold left now Both
told_trans None mid now First Second Both first second joined = tt
told_trans (Some a) None now First Second Both first second joined = absurd first
told_trans (Some a) (Some b) None First Second Both first second joined = absurd second
told_trans (Some a) (Some b) (Some c) First Second Both first second joined = joined a b c first second

-- a fact of both moments, and then one of the later moment alone
pub told_if : (left mid : Option (List ℕ)) (First : List ℕ → List ℕ → Type 0) (Second Both : List ℕ → Type 0) → WhereBothTold left mid First → IfSome mid Second
    → ((a b : List ℕ) → First a b → Second b → Both a) → IfSome left Both
told_if None mid First Second Both first second joined = tt
told_if (Some a) None First Second Both first second joined = absurd first
told_if (Some a) (Some b) First Second Both first second joined = joined a b first second

-- another fact of the same moments
pub told_map : (left now : Option (List ℕ)) (First Second : List ℕ → List ℕ → Type 0) → WhereBothTold left now First
    → ((a b : List ℕ) → First a b → Second a b) → WhereBothTold left now Second
told_map None now First Second first next = tt
told_map (Some a) None First Second first next = absurd first
told_map (Some a) (Some b) First Second first next = next a b first

-- a fact of the earlier moment alone
pub told_before : (left now : Option (List ℕ)) (Both : List ℕ → List ℕ → Type 0) (Fact : List ℕ → Type 0) → WhereBothTold left now Both
    → ((a b : List ℕ) → Both a b → Fact a) → IfSome left Fact
told_before None now Both Fact both next = tt
told_before (Some a) None Both Fact both next = absurd both
told_before (Some a) (Some b) Both Fact both next = next a b both
