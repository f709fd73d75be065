-- What a client did to a link that tells which packets come and which were sent.
use Rattle.std.specs.Prelude.{◌≡◌, ◌⊎◌, ℕ, List, [], ◌∷◌, ◌++◌, Option, None, Some, IfSome, option_map, Result, Ok, Err}
use Rattle.craft_base.specs.Shape.{Shape}
use Rattle.craft_base.specs.declared.command.Reply.{Reply}
use Rattle.craft_base.specs.declared.command.Request.{Request}
use Rattle.craft_edge.specs.Causes.{Rose}
use Rattle.craft_edge.specs.Packets.{Packet}
use Rattle.craft_client.specs.declared.client_fault.ClientFault.{ClientFault}
use Rattle.craft_client.specs.declared.client_fault.ClientFault.TheVariants.{NoAnswer, LinkFault, OutOfMemory}
use Rattle.craft_client.specs.declared.told.Told.{Told}
use Rattle.craft_client.specs.Asking.{Asked, asked, listened, told_by_packet}

-- a fact of the packets that were to come before a call and after it, where they are told; what is told stays told
abbrev pub WhereBothTold : Option (List Packet) → Option (List Packet) → (List Packet → List Packet → Type 0) → Type 0
WhereBothTold None new Fact = Unit {0}
WhereBothTold (Some before) None Fact = ⊥
WhereBothTold (Some before) (Some after) Fact = Fact before after

-- a packet was taken, and told that; or none was left
abbrev pub TakesPacket : Shape → Request → Option (List Packet) → Option (List Packet) → Option Told → Type 0
TakesPacket shape request old new None = WhereBothTold old new (λ before after. (before ≡ []) × (after ≡ []))
TakesPacket shape request old new (Some told) =
    WhereBothTold old new (λ before after. (packet : Packet) × (before ≡ packet ∷ after) × (told ≡ told_by_packet shape request packet.bytes))

-- a try that looks at so many packets was told that, and left these
abbrev pub Listens : Shape → Request → ℕ → Option (List Packet) → Option (List Packet) → Told → Type 0
Listens shape request count old new told = WhereBothTold old new (λ before after. listened shape request count before ≡ record { told = told; rest = after })

-- these packets were sent, behind those that were sent before
abbrev pub SendsAll : Option (List Packet) → Option (List Packet) → List Packet → Type 0
SendsAll old new packets = new ≡ option_map (λ before. before ++ packets) old

-- this packet was sent
abbrev pub Sends : Option (List Packet) → Option (List Packet) → Packet → Type 0
Sends old new packet = SendsAll old new (packet ∷ [])

-- this packet was sent, or none
abbrev pub SendsAtMost : Option (List Packet) → Option (List Packet) → Packet → Type 0
SendsAtMost old new packet = (new ≡ old) ⊎ Sends old new packet

-- a first part of these packets was sent
abbrev pub SendsPart : Option (List Packet) → Option (List Packet) → List Packet → Type 0
SendsPart old new packets = (sends more : List Packet) × (packets ≡ sends ++ more) × SendsAll old new sends

-- what a link tells, and how often it has failed
pub record LinkNow : Type 0 where
  pub coming : Option (List Packet)
  pub sent : Option (List Packet)
  pub faults : ℕ

-- an early end: the link failed, and its count of faults rose, or memory was wanting
abbrev pub EndsEarly : ℕ → ℕ → ClientFault → Type 0
EndsEarly faults_before faults_now LinkFault = Rose faults_before faults_now
EndsEarly faults_before faults_now OutOfMemory = Unit {0}
EndsEarly faults_before faults_now (NoAnswer sent) = ⊥

-- the client made all the sends, left the packets and has the answer that are said
abbrev pub AsksAll : LinkNow → LinkNow → Option (ℕ × Reply) → Asked → Type 0
AsksAll before after answer asked = (asked.answer ≡ answer) × (after.coming ≡ Some asked.rest) × SendsAll before.sent after.sent asked.sends

-- it made a first part of the sends
abbrev pub AsksPart : LinkNow → LinkNow → Asked → Type 0
AsksPart before after asked = SendsPart before.sent after.sent asked.sends

-- What a client answers: the final reply exactly where it comes, or that none came in all the tries; or it ends early.
abbrev pub Answers : Shape → List ℕ → Request → ℕ → LinkNow → LinkNow → Result (ℕ × Reply) ClientFault → Type 0
Answers shape places request tries before after (Ok answer) =
    IfSome before.coming (λ packets. AsksAll before after (Some answer) (asked shape places request tries packets))
Answers shape places request tries before after (Err (NoAnswer sent)) =
    (sent ≡ tries) × IfSome before.coming (λ packets. AsksAll before after None (asked shape places request tries packets))
Answers shape places request tries before after (Err LinkFault) =
    Rose before.faults after.faults × IfSome before.coming (λ packets. AsksPart before after (asked shape places request tries packets))
Answers shape places request tries before after (Err OutOfMemory) = IfSome before.coming (λ packets. AsksPart before after (asked shape places request tries packets))
