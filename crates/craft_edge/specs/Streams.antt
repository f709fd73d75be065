-- What a source and a sink tell together.
use Rattle.std.specs.Prelude.{ℕ, List, Option, None, Some}

-- the bytes still to come and those taken, where they are told, and how often each device has failed
pub record Streams : Type 0 where
  pub left : Option (List ℕ)
  pub taken : Option (List ℕ)
  pub source_faults : ℕ
  pub sink_faults : ℕ

-- a fact of the bytes that were told before a call and after it, where they were told; what is told stays told
abbrev pub WhereBothTold : Option (List ℕ) → Option (List ℕ) → (List ℕ → List ℕ → Type 0) → Type 0
WhereBothTold None new Fact = Unit {0}
WhereBothTold (Some before) None Fact = ⊥
WhereBothTold (Some before) (Some after) Fact = Fact before after
