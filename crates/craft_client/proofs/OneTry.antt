-- A try, packet by packet.
use Rattle.std.proofs.Common.{◌≡◌, ℕ, zero, suc, ◌+◌, ◌-◌, ◌<◌, ◌≤◌, false, true, List, [], ◌∷◌, Option, None, Some, refl, sym, ap, ◌∙◌, arith}
use Rattle.craft_base.specs.Shape.{Shape}
use Rattle.craft_base.specs.declared.command.Request.{Request}
use Rattle.craft_edge.specs.Packets.{Packet}
use Rattle.craft_client.specs.Asking.{Listened, first_told, is_nothing, listened, packets_of_try, told_by_packet}
use Rattle.craft_client.specs.Telling.{WhereBothTold, TakesPacket, Listens}
use Rattle.craft_client.specs.declared.told.Told.{Told}
use Rattle.craft_client.specs.declared.told.Told.TheVariants.{Nothing, Elsewhere, Final}

-- ---- the packets of a link, before some calls and after them

pub same_told : (old : Option (List Packet)) (Fact : List Packet → List Packet → Type 0) → ((packets : List Packet) → Fact packets packets) → WhereBothTold old old Fact
same_told None Fact holds = tt
same_told (Some packets) Fact holds = holds packets

pub then_told : (old mid now : Option (List Packet)) (First Second Both : List Packet → List Packet → Type 0) → WhereBothTold old mid First → WhereBothTold mid now Second
    → ((a b c : List Packet) → First a b → Second b c → Both a c) → WhereBothTold old now Both
then_told None mid now First Second Both first second joined = tt
then_told (Some a) None now First Second Both first second joined = absurd first
then_told (Some a) (Some b) None First Second Both first second joined = absurd second
then_told (Some a) (Some b) (Some c) First Second Both first second joined = joined a b c first second

-- ---- the packets of a try

-- where none is left
pub listened_none : (shape : Shape) (request : Request) (count : ℕ) → listened shape request count [] ≡ record { told = Nothing; rest = [] }
unfolding listened
listened_none shape request zero = refl
listened_none shape request (suc count) = refl

-- where it looks at no more
pub listened_enough : (shape : Shape) (request : Request) (packets : List Packet) → listened shape request 0 packets ≡ record { told = Nothing; rest = packets }
unfolding listened
listened_enough shape request packets = refl

-- the first packet
listened_first : (shape : Shape) (request : Request) (count : ℕ) (packet : Packet) (rest : List Packet)
    → listened shape request (suc count) (packet ∷ rest) ≡ first_told (told_by_packet shape request packet.bytes) rest (listened shape request count rest)
unfolding listened
listened_first shape request count packet rest = refl

-- ---- the loop of a try

-- So far so many packets told nothing, and what the try is told is told by the rest. Where the link was quiet, none is left.
abbrev pub GoesOn : Shape → Request → (seen quiets : ℕ) → Option (List Packet) → Option (List Packet) → Type 0
GoesOn shape request seen quiets old now =
    WhereBothTold old now (λ before after.
    (listened shape request packets_of_try before ≡ listened shape request (packets_of_try - seen) after) × (0 < quiets → after ≡ []))

pub goes_first : (shape : Shape) (request : Request) (old : Option (List Packet)) → GoesOn shape request 0 0 old old
goes_first shape request old = same_told old _ (λ packets. (refl, λ some. absurd (omega (arith, some))))

-- one less of so many
one_left : (shape : Shape) (request : Request) (seen : ℕ) (packets : List Packet) → seen < packets_of_try
    → listened shape request (packets_of_try - seen) packets ≡ listened shape request (suc (packets_of_try - (seen + 1))) packets
one_left shape request seen packets few =
    let left : packets_of_try - seen ≡ suc (packets_of_try - (seen + 1)) = omega (arith, few) in
    ap (λ (n : ℕ). listened shape request n packets) left

is_none : (told : Told) → is_nothing told ≡ true → told ≡ Nothing
is_none Nothing is = refl
is_none (Elsewhere hint) is = absurd cc
is_none (Final answer) is = absurd cc

-- a packet that tells nothing
pub goes_on : (shape : Shape) (request : Request) (seen quiets : ℕ) (told : Told) (old mid now : Option (List Packet)) → GoesOn shape request seen quiets old mid → seen < packets_of_try
    → TakesPacket shape request mid now (Some told) → is_nothing told ≡ true → GoesOn shape request (seen + 1) quiets old now
goes_on shape request seen quiets told old mid now so_far few taken none = then_told old mid now _ _ _ so_far taken joined where
  joined : (a b c : List Packet) → (listened shape request packets_of_try a ≡ listened shape request (packets_of_try - seen) b) × (0 < quiets → b ≡ [])
      → (packet : Packet) × (b ≡ packet ∷ c) × (told ≡ told_by_packet shape request packet.bytes)
      → (listened shape request packets_of_try a ≡ listened shape request (packets_of_try - (seen + 1)) c) × (0 < quiets → c ≡ [])
  joined a b c so_far (packet, first, says) = (
    so_far.0 ∙ one_left shape request seen b few
        ∙ ap (listened shape request (suc (packets_of_try - (seen + 1)))) first
        ∙ listened_first shape request (packets_of_try - (seen + 1)) packet c
        ∙ ap (λ (told : Told). first_told told c (listened shape request (packets_of_try - (seen + 1)) c)) (sym says ∙ is_none told none),
    λ some. absurd (let empty = so_far.1 some in cc),
  )

-- no packet
pub goes_on_quiet : (shape : Shape) (request : Request) (seen quiets : ℕ) (old mid now : Option (List Packet)) → GoesOn shape request seen quiets old mid
    → TakesPacket shape request mid now None → GoesOn shape request seen (quiets + 1) old now
goes_on_quiet shape request seen quiets old mid now so_far taken =
    then_told old mid now _ _ _ so_far taken (λ a b c so_far taken.
    (so_far.0 ∙ ap (listened shape request (packets_of_try - seen)) (taken.0 ∙ sym taken.1), λ some. taken.1))

-- a packet that tells something
ends : (told : Told) (rest : List Packet) (later : Listened) → is_nothing told ≡ false → first_told told rest later ≡ record { told = told; rest = rest }
ends Nothing rest later some = absurd cc
ends (Elsewhere hint) rest later some = refl
ends (Final answer) rest later some = refl

pub told_at_last : (shape : Shape) (request : Request) (seen quiets : ℕ) (told : Told) (old mid now : Option (List Packet)) → GoesOn shape request seen quiets old mid
    → seen < packets_of_try → TakesPacket shape request mid now (Some told) → is_nothing told ≡ false → Listens shape request packets_of_try old now told
told_at_last shape request seen quiets told old mid now so_far few taken some = then_told old mid now _ _ _ so_far taken joined where
  joined : (a b c : List Packet) → (listened shape request packets_of_try a ≡ listened shape request (packets_of_try - seen) b) × (0 < quiets → b ≡ [])
      → (packet : Packet) × (b ≡ packet ∷ c) × (told ≡ told_by_packet shape request packet.bytes)
      → listened shape request packets_of_try a ≡ record { told = told; rest = c }
  joined a b c so_far (packet, first, says) =
      so_far.0 ∙ one_left shape request seen b few
      ∙ ap (listened shape request (suc (packets_of_try - (seen + 1)))) first
      ∙ listened_first shape request (packets_of_try - (seen + 1)) packet c
      ∙ ap (λ (t : Told). first_told t c (listened shape request (packets_of_try - (seen + 1)) c)) (sym says)
      ∙ ends told c (listened shape request (packets_of_try - (seen + 1)) c) some

-- the end of a try that was told nothing
pub told_nothing : (shape : Shape) (request : Request) (seen quiets : ℕ) (old now : Option (List Packet)) → GoesOn shape request seen quiets old now
    → seen ≤ packets_of_try → (seen < packets_of_try → 0 < quiets) → Listens shape request packets_of_try old now Nothing
told_nothing shape request seen quiets None now so_far few quiet = tt
told_nothing shape request seen quiets (Some before) None so_far few quiet = absurd so_far
told_nothing shape request seen quiets (Some before) (Some after) so_far few quiet = so_far.0 ∙ at_end (packets_of_try - seen) refl where
  at_end : (left : ℕ) → packets_of_try - seen ≡ left → listened shape request left after ≡ record { told = Nothing; rest = after }
  at_end zero is = listened_enough shape request after
  at_end (suc left) is =
      let empty = so_far.1 (quiet (omega (arith, is))) in
      rw empty (listened_none shape request (suc left))
