-- Packets that are sent one after the other.
use Rattle.std.proofs.Common.{◌≡◌, ℕ, List, [], ◌∷◌, ◌++◌, Option, None, Some, refl, sym, ap, ◌∙◌, append_assoc, append-nil}
use Rattle.std.specs.Prelude.{option_map}
use Rattle.craft_base.specs.Shape.{Shape}
use Rattle.craft_edge.specs.Packets.{Packet}
use Rattle.entry_frames.specs.declared.output.Output.{Output}
use Rattle.net_node.specs.NodeRun.{packets_among, packets_of}
use Rattle.net_node.specs.Sending.{Sends, SendsFront}

pub packets_among-append : (shape : Shape) (places : List ℕ) (me : ℕ) (told more : List Output)
    → packets_among shape places me (told ++ more) ≡ packets_among shape places me told ++ packets_among shape places me more
packets_among-append shape places me [] more = refl
packets_among-append shape places me (o ∷ told) more =
    ap (λ rest. packets_of shape places me o ++ rest) (packets_among-append shape places me told more)
    ∙ sym (append_assoc (packets_of shape places me o) (packets_among shape places me told) (packets_among shape places me more))

pub sends_none : (old : Option (List Packet)) → Sends old old []
sends_none None = refl
sends_none (Some sent) = ap (λ s. Some s) (sym (append-nil sent))

pub sends_more : (old mid new : Option (List Packet)) (first second : List Packet) → Sends old mid first → Sends mid new second → Sends old new (first ++ second)
sends_more None mid new first second one other = other ∙ ap (λ m. option_map (λ sent. sent ++ second) m) one
sends_more (Some sent) mid new first second one other =
    other ∙ ap (λ m. option_map (λ sent. sent ++ second) m) one ∙ ap (λ s. Some s) (append_assoc sent first second)

pub packets_among-one : (shape : Shape) (places : List ℕ) (me : ℕ) (told : List Output) (o : Output)
    → packets_among shape places me told ++ packets_of shape places me o ≡ packets_among shape places me (told ++ o ∷ [])
packets_among-one shape places me told o =
    ap (λ one. packets_among shape places me told ++ one) (sym (append-nil (packets_of shape places me o)))
    ∙ sym (packets_among-append shape places me told (o ∷ []))

-- what was sent so far is a front of all
pub sends_front : (shape : Shape) (places : List ℕ) (me : ℕ) (told sent left : List Output) (old mid new : Option (List Packet)) → told ≡ sent ++ left
    → Sends old mid (packets_among shape places me sent) → new ≡ mid → SendsFront old new (packets_among shape places me told)
sends_front shape places me told sent left old mid new is one same =
    (packets_among shape places me sent, packets_among shape places me left, ap (packets_among shape places me) is ∙ packets_among-append shape places me sent left, same ∙ one)
