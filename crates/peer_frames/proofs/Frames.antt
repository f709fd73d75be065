-- Each field of a frame is a part of it, and so its spelling is one.
use Rattle.std.proofs.Common.{◌≡◌, ℕ, Bool, true, false, refl, sym, ap, ◌∙◌, arith}
use Rattle.std.proofs.lemmas.Bool.{eqb-true}
use Rattle.craft_base.specs.Shape.{Shape, members_of}
use Rattle.entry_frames.specs.Formats.{Format, Value, Number, U8, within}
use Rattle.entry_frames.specs.declared.message.Message.{Message}
use Rattle.entry_frames.specs.declared.message.Message.TheVariants as messages
use Rattle.entry_frames.specs.declared.kind.Kind.{Kind}
use Rattle.entry_frames.specs.declared.kind.Kind.TheVariants as kinds
use Rattle.entry_frames.specs.declared.reply_kind.ReplyKind.{ReplyKind}
use Rattle.entry_frames.specs.declared.reply_kind.ReplyKind.TheVariants as reply_kinds
use Rattle.entry_frames.specs.Kinds.{kind_byte, kind_with, is_kind_byte, kind_of, peer_kind, client_byte, is_from_client, is_to_client, least_end, greatest_end}
use Rattle.entry_frames.specs.MessageFields.{body_fields, request_fields, fields_behind_head, ends_fields, fixed_byte, frame_fields}
use Rattle.entry_frames.specs.MessageParts.{sender_byte, receiver_byte, body_of, term_of, request_of, client_of, seq_of, reply_of}
use Rattle.entry_frames.specs.Operations.{op_kind_with}
use Rattle.entry_frames.specs.Replies.{reply_byte, reply_kind, reply_kind_with, reply_fields_of, reply_fields}
use Rattle.entry_frames.proofs.Entries.{and_left, expected_again, op_back}
use Rattle.entry_frames.proofs.Formats.{Faithful, owes_less, embed_faithful}
use Rattle.entry_frames.proofs.Records.{member_back}
use Rattle.peer_frames.proofs.Peers.{lies_within, bool_back, peer_faithful}

pub request_faithful : Faithful request_fields (λ r. Unit {0})
request_faithful = λ client f1 c1 seq f2 c2 op f3 c3 expected f4 c4 key_length f5 c5 key key_is value_length f6 c6 value value_is.
    ((((((((tt, refl), refl), op_back op expected (and_left _ _ f3.1)), expected_again (op_kind_with op) _ expected f4), key_is), refl), value_is), refl)

reply_faithful_of : (members : ℕ) (kind : ReplyKind) → Faithful (reply_fields_of members kind) (λ r. reply_byte (reply_kind r) ≡ reply_byte kind)
reply_faithful_of members reply_kinds.Done = λ version f1 c1. (refl, refl)
reply_faithful_of members reply_kinds.Differs = λ version f1 c1. (refl, refl)
reply_faithful_of members reply_kinds.Gone = λ was_there f1 c1. (refl, bool_back was_there f1.1)
reply_faithful_of members reply_kinds.Found = λ version f1 c1 len f2 c2 bytes bytes_is. (((refl, refl), bytes_is), refl)
reply_faithful_of members reply_kinds.Nothing = refl
reply_faithful_of members reply_kinds.Old = refl
reply_faithful_of members reply_kinds.Elsewhere = λ hint f1 c1. (refl, member_back hint)
reply_faithful_of members reply_kinds.Preparing = refl
reply_faithful_of members reply_kinds.Busy = refl
reply_faithful_of members reply_kinds.Full = refl

pub reply_faithful : (members : ℕ) → Faithful (reply_fields members) (λ r. Unit {0})
reply_faithful members = λ byte f1 c1.
    owes_less (reply_fields_of members (reply_kind_with byte)) (λ r. reply_byte (reply_kind r) ≡ reply_byte (reply_kind_with byte)) _ (λ r o. (tt, o ∙ eqb-true _ _ f1.1))
    (reply_faithful_of members (reply_kind_with byte))

-- in cursor of a client stands the byte of one
abbrev EndIs : Bool → ℕ → Type 0
EndIs false n = Unit {0}
EndIs true n = n ≡ client_byte

end_is : (is_client : Bool) (shape : Shape) (n : ℕ) → within (least_end is_client) (greatest_end shape is_client) n ≡ true → EndIs is_client n
end_is false shape n e = tt
end_is true shape n e = let w = lies_within client_byte client_byte n e in omega (arith, w.above, w.below)

behind_head_faithful : (shape : Shape) (kind : Kind) (sender receiver : ℕ) → EndIs (is_from_client kind) sender → EndIs (is_to_client kind) receiver
    → Faithful (fields_behind_head shape kind sender receiver) (λ f. ((kind_of f ≡ kind) × (sender_byte f ≡ sender)) × (receiver_byte f ≡ receiver))
behind_head_faithful shape (kinds.Peer kind) sender receiver sender_is receiver_is = λ term f1 c1.
    embed_faithful (body_fields shape.need term kind) (λ b. peer_kind b ≡ kind) body_of (λ body. Value (messages.Peer sender receiver term body))
    (λ f. (((kind_of f ≡ kinds.Peer kind) × (sender_byte f ≡ sender)) × (receiver_byte f ≡ receiver)) × (term_of f ≡ term))
    (peer_faithful shape.need term kind) (λ b is. ((((ap kinds.Peer is, refl), refl), refl), refl))
behind_head_faithful shape kinds.Request sender receiver sender_is receiver_is =
    embed_faithful request_fields (λ r. Unit {0}) request_of (λ request. Value (messages.Request receiver request))
    (λ f. ((kind_of f ≡ kinds.Request) × (sender_byte f ≡ sender)) × (receiver_byte f ≡ receiver)) request_faithful (λ r owed. (((refl, sym sender_is), refl), refl))
behind_head_faithful shape kinds.Answered sender receiver sender_is receiver_is = λ client f1 c1 seq f2 c2.
    embed_faithful (reply_fields (members_of shape)) (λ r. Unit {0}) reply_of (λ reply. Value (messages.Answered sender client seq reply))
    (λ f. ((((kind_of f ≡ kinds.Answered) × (sender_byte f ≡ sender)) × (receiver_byte f ≡ receiver)) × (client_of f ≡ client)) × (seq_of f ≡ seq))
    (reply_faithful (members_of shape)) (λ r owed. (((((refl, refl), sym receiver_is), refl), refl), refl))

ends_faithful : (shape : Shape) (kind : Kind) → Faithful (ends_fields shape kind) (λ f. kind_of f ≡ kind)
ends_faithful shape kind = λ sender f1 c1 receiver f2 c2 apart.
    behind_head_faithful shape kind sender receiver (end_is (is_from_client kind) shape sender f1.1) (end_is (is_to_client kind) shape receiver f2.1)

fixed_faithful : {V : Type 0} (byte : ℕ) (next : Format V) (owed : V → Type 0) → Faithful next owed → Faithful (fixed_byte byte next) owed
fixed_faithful byte next owed faithful = λ n f1 c1.
    let w = lies_within byte byte n f1.1 in
    owes_less next owed (λ v. owed v × (byte ≡ n)) (λ v o. (o, omega (arith, w.above, w.below))) faithful

-- the kind, and what is behind it
abbrev pub kind_fields : Shape → Format Message
kind_fields shape = Number true U8 is_kind_byte (λ f. kind_byte (kind_of f)) λ kind. ends_fields shape (kind_with kind)

kind_faithful : (shape : Shape) → Faithful (kind_fields shape) (λ f. Unit {0})
kind_faithful shape = λ byte f1 c1.
    owes_less (ends_fields shape (kind_with byte)) (λ f. kind_of f ≡ kind_with byte) (λ f. Unit {0} × (kind_byte (kind_of f) ≡ byte)) (λ f is. (tt, ap kind_byte is ∙ eqb-true _ _ f1.1))
    (ends_faithful shape (kind_with byte))

pub frame_faithful : (shape : Shape) → Faithful (frame_fields shape) (λ f. Unit {0})
frame_faithful shape =
    let nothing : Message → Type 0 = λ f. Unit {0} in
    let k = fixed_byte shape.need (kind_fields shape) in
    let faults = fixed_byte shape.faults k in
    let version = fixed_byte 1 faults in
    fixed_faithful 67 (fixed_byte 82 version) nothing (fixed_faithful 82 version nothing (fixed_faithful 1 faults nothing
    (fixed_faithful shape.faults k nothing (fixed_faithful shape.need (kind_fields shape) nothing (kind_faithful shape)))))
