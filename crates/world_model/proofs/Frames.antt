-- When a message between members has a spelling, and what a spelling says of its ends.
use Rattle.std.proofs.Common.{◌≡◌, ◌≢◌, ℕ, ◌-◌, ◌<◌, ◌≤◌, true, ◌==◌, nat_le, refl, sym, subst, arith}
use Rattle.std.proofs.lemmas.Bool.{and_from, and_parts, le-leb, leb-true, ne_eqb, not_from_false, not-true, eqb-false}
use Rattle.craft_base.specs.Shape.{Shape, members_of}
use Rattle.entry_frames.specs.Formats.{Format, Value, Unsigned, U8, U64, Fits, FitsNumber, limit_of, within}
use Rattle.entry_frames.specs.Limits.{greatest}
use Rattle.entry_frames.specs.declared.message.Message.{Message}
use Rattle.entry_frames.specs.declared.message.Message.TheVariants as messages
use Rattle.entry_frames.specs.declared.peer.Peer.{Peer}
use Rattle.entry_frames.specs.declared.kind.Kind.TheVariants as kinds
use Rattle.entry_frames.specs.declared.kind.PeerKind.{PeerKind}
use Rattle.entry_frames.specs.declared.kind.PeerKind.TheVariants as peer_kinds
use Rattle.entry_frames.specs.Kinds.{kind_byte, kind_with, peer_kind}
use Rattle.entry_frames.specs.MessageFields.{body_fields, peer_fields, ends_fields}
use Rattle.entry_frames.specs.MessageParts.{body_of}
use Rattle.entry_frames.proofs.Formats.{embed_fits, embedded_fits}
use Rattle.world_model.specs.Ranges.{IsMember, IsTerm, HasSpelling}
use Rattle.craft_base.specs.Shape.{IsShape}

-- a message goes from one member to another one, in a term
pub record Ends (shape : Shape) (from to at : ℕ) : Type 0 where
  pub sender : IsMember shape from
  pub receiver : IsMember shape to
  pub apart : from ≢ to
  pub term : IsTerm at

-- a number that lies between two others
pub fits_within : (unsigned : Unsigned) (least most n : ℕ) → n < limit_of unsigned → least ≤ n → n ≤ most → FitsNumber true unsigned (within least most) n
fits_within unsigned least most n small low high = (small, and_from (nat_le least n) (nat_le n most) (le-leb least n low) (le-leb n most high))

pub lies_within : (unsigned : Unsigned) (least most n : ℕ) → FitsNumber true unsigned (within least most) n → (least ≤ n) × (n ≤ most)
lies_within unsigned least most n fits =
    let parts = and_parts (nat_le least n) (nat_le n most) fits.1 in
    (leb-true least n parts.0, leb-true n most parts.1)

-- the kind of a message is told by its byte
kind_read : (kind : PeerKind) → kind_with (kind_byte (kinds.Peer kind)) ≡ kinds.Peer kind
kind_read peer_kinds.Vote = refl
kind_read peer_kinds.VoteReply = refl
kind_read peer_kinds.Append = refl
kind_read peer_kinds.AppendReply = refl
kind_read peer_kinds.Ask = refl
kind_read peer_kinds.Answer = refl

kind_fits : (kind : PeerKind) → (kind_byte (kinds.Peer kind) < limit_of U8) × ((kind_byte (kind_with (kind_byte (kinds.Peer kind))) == kind_byte (kinds.Peer kind)) ≡ true)
kind_fits peer_kinds.Vote = (omega arith, refl)
kind_fits peer_kinds.VoteReply = (omega arith, refl)
kind_fits peer_kinds.Append = (omega arith, refl)
kind_fits peer_kinds.AppendReply = (omega arith, refl)
kind_fits peer_kinds.Ask = (omega arith, refl)
kind_fits peer_kinds.Answer = (omega arith, refl)

module _ {shape : Shape} (is : IsShape shape) {from to at : ℕ} (body : Peer) where
  -- what is said in range, between members, has a spelling
  pub message_fits : Ends shape from to at → Fits (body_fields shape.need at (peer_kind body)) body → HasSpelling shape (messages.Peer from to at body)
  message_fits ends fits =
      let kind : PeerKind = peer_kind body in
      let m : Message = messages.Peer from to at body in
      let inner : Fits (peer_fields shape.need from to kind) m = (
        fits_within U64 1 greatest at (omega (arith, ends.term.1)) ends.term.0 ends.term.1,
        embed_fits (body_fields shape.need at kind) body_of _ m fits refl,
      ) in
      let behind : Fits (ends_fields shape (kinds.Peer kind)) m = (
        fits_within U8 0 (members_of shape - 1) from (omega (arith, is.1, ends.sender)) (omega arith) (omega (arith, ends.sender)),
        (
          fits_within U8 0 (members_of shape - 1) to (omega (arith, is.1, ends.receiver)) (omega arith) (omega (arith, ends.receiver)),
          (not_from_false (from == to) (ne_eqb _ _ ends.apart), inner),
        ),
      ) in (
        tt,
        (
          fits_within U8 67 67 67 (omega arith) (omega arith) (omega arith),
          (
            fits_within U8 82 82 82 (omega arith) (omega arith) (omega arith),
            (
              fits_within U8 1 1 1 (omega arith) (omega arith) (omega arith),
              (
                fits_within U8 shape.faults shape.faults shape.faults (omega (arith, is.1)) (omega arith) (omega arith),
                (
                  fits_within U8 shape.need shape.need shape.need (omega (arith, is.1, is.3)) (omega arith) (omega arith),
                  (kind_fits kind, subst (λ k. Fits (ends_fields shape k) m) (sym (kind_read kind)) behind),
                ),
              ),
            ),
          ),
        ),
      )

  -- a spelling says that much of the ends
  pub ends_of : HasSpelling shape (messages.Peer from to at body) → Ends shape from to at
  ends_of spelled =
      let kind : PeerKind = peer_kind body in
      let fits = spelled.1 in
      let behind : Fits (ends_fields shape (kinds.Peer kind)) (messages.Peer from to at body) =
      subst (λ k. Fits (ends_fields shape k) (messages.Peer from to at body)) (kind_read kind) fits.1.1.1.1.1.1 in
      let sender = lies_within U8 0 (members_of shape - 1) from behind.0 in
      let receiver = lies_within U8 0 (members_of shape - 1) to behind.1.0 in
      record {
        sender = omega (arith, sender.1, is.0);
        receiver = omega (arith, receiver.1, is.0);
        apart = eqb-false from to (not-true _ behind.1.1.0);
        term = lies_within U64 1 greatest at behind.1.1.1.0;
      }

-- a spelling says that the body is in range
pub body_spelled :
    {shape : Shape} (from to at : ℕ) (body : Peer) → HasSpelling shape (messages.Peer from to at body) → Fits (body_fields shape.need at (peer_kind body)) body
body_spelled {shape = shape} from to at body spelled =
    let kind : PeerKind = peer_kind body in
    let m : Message = messages.Peer from to at body in
    let make : Peer → Format Message = λ b. Value (messages.Peer from to at b) in
    let behind : Fits (ends_fields shape (kinds.Peer kind)) m = subst (λ k. Fits (ends_fields shape k) m) (kind_read kind) spelled.1.1.1.1.1.1.1 in
    (embedded_fits (body_fields shape.need at kind) body_of make m (λ b. refl) behind.1.1.1.1).0
