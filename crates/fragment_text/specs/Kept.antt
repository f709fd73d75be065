-- What is kept of the parts that were read.
use Rattle.std.specs.Prelude.{◌≡◌, ℕ, ◌<◌, ◌≤◌, List, [], length, Option, None, Some, Bool, true, false, IfSome}
use Rattle.craft_base.specs.Shape.{Shape, members_of}
use Rattle.craft_edge.specs.Causes.{Rose}
use Rattle.rs_code.specs.Rebuilding.{is_taken}
use Rattle.world_model.specs.Schedule.{lines_of}
use Rattle.craft_edge.specs.Streams.{WhereBothTold}
use Rattle.fragment_text.specs.Said.{Said, Good, BadAt, reading, parts_from, first_parts}
use Rattle.fragment_text.specs.Joining.{IsJoined}
use Rattle.fragment_text.specs.declared.join_end.JoinEnd.{JoinEnd}
use Rattle.fragment_text.specs.declared.join_end.JoinEnd.TheVariants.{End, Bad, TooFew, SourceFault, SinkFault, NoMemory}
use Rattle.fragment_text.specs.declared.parts.Parts.{Parts}

-- the parts that the lines so far said, of which the first are kept in the rebuilder
pub record StandsFor (shape : Shape) (parts : Parts) (said : Said) : Type 0 where
  pub need : parts.need ≡ shape.need
  pub members : parts.members ≡ members_of shape
  pub value_length : parts.value_length ≡ said.value_length
  pub counted : parts.count ≡ length said.parts
  pub next : parts.next ≡ said.next
  pub rebuilding : parts.rebuilder ≡ first_parts shape said
  pub rising : (member : ℕ) → said.next ≤ member → is_taken said.parts member ≡ false

-- the words of a line are those of a part, and it was taken; or they aren't
abbrev pub Takes : Shape → Parts → Option Said → Bool → Type 0
Takes shape parts None true = ⊥
Takes shape parts None false = Unit {0}
Takes shape parts (Some said) true = StandsFor shape parts said
Takes shape parts (Some said) false = ⊥

-- these bytes were decoded, or there are none
abbrev pub Decodes : List ℕ → Option (List ℕ) → Bool → Type 0
Decodes bytes None true = ⊥
Decodes bytes None false = Unit {0}
Decodes bytes (Some decoded) true = bytes ≡ decoded
Decodes bytes (Some decoded) false = ⊥

-- the line of a part was taken from the input, or the input was at its end
abbrev pub ReadsPart : Shape → Said → Option (List ℕ) → Option (List ℕ) → Parts → Bool → Type 0
ReadsPart shape said old new parts true =
    (next : Said) × StandsFor shape parts next × WhereBothTold old new (λ before after. parts_from shape said (lines_of before) ≡ parts_from shape next (lines_of after))
ReadsPart shape said old new parts false = StandsFor shape parts said × WhereBothTold old new (λ before after. (before ≡ []) × (after ≡ []))

-- none was: the line is bad, the source failed, or there was no memory
abbrev pub ReadsNoPart : Shape → Said → Option (List ℕ) → ℕ → ℕ → JoinEnd → Type 0
ReadsNoPart shape said left faults_before faults_now End = ⊥
ReadsNoPart shape said left faults_before faults_now (Bad line) = IfSome left (λ bytes. parts_from shape said (lines_of bytes) ≡ BadAt line)
ReadsNoPart shape said left faults_before faults_now (TooFew index) = ⊥
ReadsNoPart shape said left faults_before faults_now SourceFault = Rose faults_before faults_now
ReadsNoPart shape said left faults_before faults_now SinkFault = ⊥
ReadsNoPart shape said left faults_before faults_now NoMemory = Unit {0}

-- the first line was taken, and told the value's length
abbrev pub ReadsLength : Option (List ℕ) → Option (List ℕ) → ℕ → Type 0
ReadsLength old new count =
    WhereBothTold old new (λ before after. (shape : Shape) → reading shape before ≡ parts_from shape (record { value_length = count; parts = []; next = 0 }) (lines_of after))

-- all the lines were taken, and each is good
pub record ReadsParts (shape : Shape) (old new : Option (List ℕ)) (parts : Parts) : Type 0 where
  pub said : Said
  pub kept : StandsFor shape parts said
  pub read : WhereBothTold old new (λ before after. (reading shape before ≡ Good said) × (after ≡ []))

-- So far these lines were taken, and are good.
pub record Progress (shape : Shape) (old new : Option (List ℕ)) (parts : Parts) : Type 0 where
  pub said : Said
  pub kept : StandsFor shape parts said
  pub read : WhereBothTold old new (λ before after. reading shape before ≡ parts_from shape said (lines_of after))

-- the value of the parts
abbrev pub Rebuilds : Shape → Said → List ℕ → Type 0
Rebuilds shape said value = (shape.need ≤ length said.parts) × IsJoined (first_parts shape said) value

-- there is none: the parts are too few, or there was no memory
abbrev pub RebuildsNone : Shape → Said → JoinEnd → Type 0
RebuildsNone shape said End = ⊥
RebuildsNone shape said (Bad line) = ⊥
RebuildsNone shape said (TooFew index) = (index ≡ length said.parts) × (index < shape.need)
RebuildsNone shape said SourceFault = ⊥
RebuildsNone shape said SinkFault = ⊥
RebuildsNone shape said NoMemory = Unit {0}
