-- What a join reads and writes.
use Rattle.std.specs.Prelude.{◌≡◌, ℕ, ◌<◌, ◌≤◌, List, [], length, All, Option, IfSome}
use Rattle.std.specs.Io.KnownBytes.{Appends, Keeps}
use Rattle.craft_base.specs.Shape.{Shape}
use Rattle.craft_edge.specs.Bytes.{AppendsPrefix}
use Rattle.craft_edge.specs.Causes.{Rose}
use Rattle.rs_code.specs.Rebuilding.{Rebuilding, Solves, AreFragments}
use Rattle.craft_edge.specs.Streams.{Streams, WhereBothTold}
use Rattle.fragment_text.specs.Said.{Said, Good, BadAt, reading, first_parts}
use Rattle.fragment_text.specs.declared.join_end.JoinEnd.{JoinEnd}
use Rattle.fragment_text.specs.declared.join_end.JoinEnd.TheVariants.{End, Bad, TooFew, SourceFault, SinkFault, NoMemory}

-- The value is the one that solves the parts. Where they are the fragments of some value, it is that one.
pub record IsJoined (parts : Rebuilding) (value : List ℕ) : Type 0 where
  pub solution : Solves parts value
  pub only : (other : List ℕ) → Solves parts other → other ≡ value
  pub fragments : (whole : List ℕ) → All (λ b. b < 256) whole → length whole ≡ parts.value_length → AreFragments parts whole → value ≡ whole

-- each line of the input is good, the parts are enough, and the value that the first of them give was written in this way
pub record Joins (shape : Shape) (bytes : List ℕ) (Written : List ℕ → Type 0) : Type 0 where
  pub said : Said
  pub read : reading shape bytes ≡ Good said
  pub enough : shape.need ≤ length said.parts
  pub value : List ℕ
  pub joined : IsJoined (first_parts shape said) value
  pub written : Written value

-- each line of the input is good, and so many parts are too few
pub record HasTooFew (shape : Shape) (bytes : List ℕ) (count : ℕ) : Type 0 where
  pub said : Said
  pub read : reading shape bytes ≡ Good said
  pub counted : count ≡ length said.parts
  pub few : count < shape.need

-- How a join ends: by the value; by nothing written, where a line is bad, the parts are too few or the input can't be
-- read; or by some first part of the value, where the sink failed.
abbrev pub JoinEnds : Shape → Streams → Streams → JoinEnd → Type 0
JoinEnds shape before after End = WhereBothTold before.left after.left (λ bytes rest. Joins shape bytes (Appends before.taken after.taken) × (rest ≡ []))
JoinEnds shape before after (Bad line) = IfSome before.left (λ bytes. reading shape bytes ≡ BadAt line) × Keeps before.taken after.taken
JoinEnds shape before after (TooFew index) =
    WhereBothTold before.left after.left (λ bytes rest. HasTooFew shape bytes index × (rest ≡ [])) × Keeps before.taken after.taken
JoinEnds shape before after SourceFault = Rose before.source_faults after.source_faults × Keeps before.taken after.taken
JoinEnds shape before after SinkFault =
    Rose before.sink_faults after.sink_faults × IfSome before.left (λ bytes. Joins shape bytes (AppendsPrefix before.taken after.taken))
JoinEnds shape before after NoMemory = Keeps before.taken after.taken

-- no parts were read: a line is bad, the source failed, or there was no memory
abbrev pub ReadsNoParts : Shape → Option (List ℕ) → ℕ → ℕ → JoinEnd → Type 0
ReadsNoParts shape left faults_before faults_now End = ⊥
ReadsNoParts shape left faults_before faults_now (Bad line) = IfSome left (λ bytes. reading shape bytes ≡ BadAt line)
ReadsNoParts shape left faults_before faults_now (TooFew index) = ⊥
ReadsNoParts shape left faults_before faults_now SourceFault = Rose faults_before faults_now
ReadsNoParts shape left faults_before faults_now SinkFault = ⊥
ReadsNoParts shape left faults_before faults_now NoMemory = Unit {0}
