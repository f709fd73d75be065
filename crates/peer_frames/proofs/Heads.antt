-- A frame is spelled by its head and by what is behind it.
use Rattle.std.proofs.Common.{◌≡◌, ℕ, ◌≤◌, List, ◌++◌, length, refl, sym, ap, subst, ◌∙◌, append_assoc, arith}
use Rattle.std.proofs.lemmas.List.{append-nil}
use Rattle.craft_base.specs.Shape.{Shape, members_of}
use Rattle.craft_base.specs.declared.command.Reply.{Reply}
use Rattle.craft_base.specs.declared.command.Reply.TheVariants as replies
use Rattle.craft_base.specs.declared.command.Request.{Request}
use Rattle.entry_frames.specs.Formats.{Format, Value, Fits, spelling}
use Rattle.entry_frames.specs.declared.peer.Peer.{Peer}
use Rattle.entry_frames.specs.declared.message.Message.{Message}
use Rattle.entry_frames.specs.declared.message.Message.TheVariants as messages
use Rattle.entry_frames.specs.declared.kind.Kind.{Kind}
use Rattle.entry_frames.specs.declared.kind.Kind.TheVariants as kinds
use Rattle.entry_frames.specs.Kinds.{kind_byte, kind_of, peer_kind, client_byte}
use Rattle.entry_frames.specs.Limits.{longest_value}
use Rattle.entry_frames.specs.MessageFields.{body_fields, request_fields, fields_behind_head, ends_fields, frame_fields}
use Rattle.entry_frames.specs.MessageParts.{sender_byte, receiver_byte, body_of, request_of, reply_of}
use Rattle.entry_frames.specs.Replies.{reply_fields, value_told}
use Rattle.entry_frames.proofs.Formats.{Faithful, embed_spelling, embedded_fits}
use Rattle.peer_frames.specs.Texts.{byte_text, u64_text, head_text}
use Rattle.peer_frames.proofs.Peers.{lies_within}
use Rattle.peer_frames.proofs.Spelled.{kind_again}

-- the fields behind the head of a frame
abbrev behind : Shape → Message → Format Message
behind shape f = fields_behind_head shape (kind_of f) (sender_byte f) (receiver_byte f)

frame_spelled : (shape : Shape) (f : Message) → spelling (frame_fields shape) f ≡ head_text shape (kind_of f) (sender_byte f) (receiver_byte f) ++ spelling (behind shape f) f
frame_spelled shape f =
    ap (λ (kind : Kind). byte_text 67 ++ (byte_text 82 ++ (byte_text 1 ++ (byte_text shape.faults ++ (byte_text shape.need ++ (byte_text (kind_byte (kind_of f)) ++ spelling (ends_fields shape kind) f))))))
    (kind_again (kind_of f))

behind_fits : (shape : Shape) (f : Message) → Fits (frame_fields shape) f → Fits (behind shape f) f
behind_fits shape f fits = (subst (λ (kind : Kind). Fits (ends_fields shape kind) f) (kind_again (kind_of f)) fits.1.1.1.1.1.1).1.1.1

body_back : (sender receiver term : ℕ) (b : Peer) → Faithful (Value (messages.Peer sender receiver term b)) (λ f. body_of f ≡ b)
body_back sender receiver term b = refl

request_back : (receiver : ℕ) (r : Request) → Faithful (Value (messages.Request receiver r)) (λ f. request_of f ≡ r)
request_back receiver r = refl

reply_back : (sender client seq : ℕ) (r : Reply) → Faithful (Value (messages.Answered sender client seq r)) (λ f. reply_of f ≡ r)
reply_back sender client seq r = refl

pub peer_spelled : (shape : Shape) (from to term : ℕ) (body : Peer) → Fits (frame_fields shape) (messages.Peer from to term body)
    → Fits (body_fields shape.need term (peer_kind body)) body
    × (spelling (frame_fields shape) (messages.Peer from to term body) ≡ head_text shape (kinds.Peer (peer_kind body)) from to ++ (u64_text term ++ spelling (body_fields shape.need term (peer_kind body)) body))
peer_spelled shape from to term body fits =
    let format = body_fields shape.need term (peer_kind body) in
    let make : Peer → Format Message = λ b. Value (messages.Peer from to term b) in
    let inner = embedded_fits format body_of make (messages.Peer from to term body) (body_back from to term) (behind_fits shape (messages.Peer from to term body) fits).1 in (
      inner.0,
      frame_spelled shape (messages.Peer from to term body) ∙ ap (λ (t : List ℕ). head_text shape (kinds.Peer (peer_kind body)) from to ++ (u64_text term ++ t))
          (embed_spelling format body_of make (messages.Peer from to term body) inner.0 ∙ append-nil (spelling format body)),
    )

pub asked_spelled : (shape : Shape) (receiver : ℕ) (r : Request) → Fits (frame_fields shape) (messages.Request receiver r)
    → Fits request_fields r × (spelling (frame_fields shape) (messages.Request receiver r) ≡ head_text shape kinds.Request client_byte receiver ++ spelling request_fields r)
asked_spelled shape receiver r fits =
    let make : Request → Format Message = λ x. Value (messages.Request receiver x) in
    let inner = embedded_fits request_fields request_of make (messages.Request receiver r) (request_back receiver) (behind_fits shape (messages.Request receiver r) fits) in (
      inner.0,
      frame_spelled shape (messages.Request receiver r) ∙ ap (λ (t : List ℕ). head_text shape kinds.Request client_byte receiver ++ t)
          (embed_spelling request_fields request_of make (messages.Request receiver r) inner.0 ∙ append-nil (spelling request_fields r)),
    )

-- how many members there are isn't spelled
reply_same : (members : ℕ) (r : Reply) → spelling (reply_fields members) r ≡ spelling (reply_fields 0) r
reply_same members (replies.Done version) = refl
reply_same members (replies.Differs version) = refl
reply_same members (replies.Gone was_there) = refl
reply_same members (replies.Value version bytes) = refl
reply_same members replies.Nothing = refl
reply_same members replies.Old = refl
reply_same members (replies.Elsewhere hint) = refl
reply_same members replies.Preparing = refl
reply_same members replies.Busy = refl
reply_same members replies.Full = refl

told_length : (members : ℕ) (r : Reply) → Fits (reply_fields members) r → length (value_told r) ≤ longest_value
told_length members (replies.Value version bytes) fits = (lies_within 0 longest_value (length bytes) fits.1.1.0.1).below
told_length members (replies.Done version) fits = omega arith
told_length members (replies.Differs version) fits = omega arith
told_length members (replies.Gone was_there) fits = omega arith
told_length members replies.Nothing fits = omega arith
told_length members replies.Old fits = omega arith
told_length members (replies.Elsewhere hint) fits = omega arith
told_length members replies.Preparing fits = omega arith
told_length members replies.Busy fits = omega arith
told_length members replies.Full fits = omega arith

pub answered_spelled : (shape : Shape) (sender client seq : ℕ) (r : Reply) → Fits (frame_fields shape) (messages.Answered sender client seq r)
    → (length (value_told r) ≤ longest_value)
    × (spelling (frame_fields shape) (messages.Answered sender client seq r) ≡ head_text shape kinds.Answered sender client_byte ++ (u64_text client ++ (u64_text seq ++ spelling (reply_fields 0) r)))
answered_spelled shape sender client seq r fits =
    let format = reply_fields (members_of shape) in
    let make : Reply → Format Message = λ x. Value (messages.Answered sender client seq x) in
    let inner = embedded_fits format reply_of make (messages.Answered sender client seq r) (reply_back sender client seq) (behind_fits shape (messages.Answered sender client seq r) fits).1.1 in (
      told_length (members_of shape) r inner.0,
      frame_spelled shape (messages.Answered sender client seq r)
          ∙ ap (λ (t : List ℕ). head_text shape kinds.Answered sender client_byte ++ (u64_text client ++ (u64_text seq ++ t)))
          (embed_spelling format reply_of make (messages.Answered sender client seq r) inner.0 ∙ append-nil (spelling format r) ∙ reply_same (members_of shape) r),
    )

-- a frame was written where its head and what is behind it were
pub peer_written : (shape : Shape) (from to term : ℕ) (body : Peer) (old f1 f2 : List ℕ) (kind : Kind) (sender receiver k : ℕ) → Fits (frame_fields shape) (messages.Peer from to term body)
    → kind ≡ kinds.Peer (peer_kind body) → sender ≡ from → receiver ≡ to → k ≡ shape.need → f1 ≡ old ++ head_text shape kind sender receiver
    → f2 ≡ f1 ++ u64_text term ++ spelling (body_fields k term (peer_kind body)) body → f2 ≡ old ++ spelling (frame_fields shape) (messages.Peer from to term body)
peer_written shape from to term body old f1 f2 kind sender receiver k fits kind_is sender_is receiver_is k_is e1 e2 =
    let head = head_text shape (kinds.Peer (peer_kind body)) from to in
    let said = spelling (body_fields shape.need term (peer_kind body)) body in
    let first : f1 ≡ old ++ head = e1 ∙ ap (λ (k : Kind). old ++ head_text shape k sender receiver) kind_is ∙ ap (λ (n : ℕ). old ++ head_text shape (kinds.Peer (peer_kind body)) n receiver) sender_is
    ∙ ap (λ (n : ℕ). old ++ head_text shape (kinds.Peer (peer_kind body)) from n) receiver_is in
    e2 ∙ ap (λ (n : ℕ). f1 ++ u64_text term ++ spelling (body_fields n term (peer_kind body)) body) k_is ∙ ap (λ (t : List ℕ). t ++ u64_text term ++ said) first
    ∙ append_assoc (old ++ head) (u64_text term) said ∙ append_assoc old head (u64_text term ++ said) ∙ ap (λ (t : List ℕ). old ++ t) (sym (peer_spelled shape from to term body fits).1)

pub asked_written : (shape : Shape) (receiver to : ℕ) (r : Request) (old f1 f2 : List ℕ) → Fits (frame_fields shape) (messages.Request receiver r) → to ≡ receiver
    → f1 ≡ old ++ head_text shape kinds.Request client_byte to → f2 ≡ f1 ++ spelling request_fields r → f2 ≡ old ++ spelling (frame_fields shape) (messages.Request receiver r)
asked_written shape receiver to r old f1 f2 fits to_is e1 e2 =
    let head = head_text shape kinds.Request client_byte receiver in
    e2 ∙ ap (λ (t : List ℕ). t ++ spelling request_fields r) (e1 ∙ ap (λ (n : ℕ). old ++ head_text shape kinds.Request client_byte n) to_is)
    ∙ append_assoc old head (spelling request_fields r) ∙ ap (λ (t : List ℕ). old ++ t) (sym (asked_spelled shape receiver r fits).1)

pub answered_written : (shape : Shape) (sender from client seq : ℕ) (r : Reply) (old f1 f2 f3 f4 : List ℕ) → Fits (frame_fields shape) (messages.Answered sender client seq r) → from ≡ sender
    → f1 ≡ old ++ head_text shape kinds.Answered from client_byte → f2 ≡ f1 ++ u64_text client → f3 ≡ f2 ++ u64_text seq → f4 ≡ f3 ++ spelling (reply_fields 0) r
    → f4 ≡ old ++ spelling (frame_fields shape) (messages.Answered sender client seq r)
answered_written shape sender from client seq r old f1 f2 f3 f4 fits from_is e1 e2 e3 e4 =
    let head = head_text shape kinds.Answered sender client_byte in
    let reply = spelling (reply_fields 0) r in
    let first : f1 ≡ old ++ head = e1 ∙ ap (λ (n : ℕ). old ++ head_text shape kinds.Answered n client_byte) from_is in
    e4 ∙ ap (λ (t : List ℕ). t ++ reply) (e3 ∙ ap (λ (t : List ℕ). t ++ u64_text seq) (e2 ∙ ap (λ (t : List ℕ). t ++ u64_text client) first))
    ∙ append_assoc (old ++ head ++ u64_text client) (u64_text seq) reply ∙ append_assoc (old ++ head) (u64_text client) (u64_text seq ++ reply)
    ∙ append_assoc old head (u64_text client ++ (u64_text seq ++ reply)) ∙ ap (λ (t : List ℕ). old ++ t) (sym (answered_spelled shape sender client seq r fits).1)
