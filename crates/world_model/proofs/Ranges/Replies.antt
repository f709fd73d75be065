-- Replies that can be written: their versions are indexes, and their values are as long as values can be.
use Rattle.std.proofs.Common.{◌≡◌, ℕ, ◌-◌, ◌≤◌, ◌<◌, ◌==◌, nat_lt, Bool, true, false, length, None, Some, refl, ap, arith}
use Rattle.std.specs.Prelude.{◌||◌, if◌then◌else◌}
use Rattle.std.proofs.lemmas.Bool.{lt-ltb, ne_eqb, not_from_false}
use Rattle.craft_base.specs.Shape.{Shape, IsShape, members_of}
use Rattle.craft_base.specs.declared.command.Reply.{Reply}
use Rattle.craft_base.specs.declared.command.Reply.TheVariants as replies
use Rattle.entry_frames.specs.Formats.{Fits, Value, U8, U32, U64}
use Rattle.entry_frames.specs.Limits.{greatest, last_place, longest_value}
use Rattle.entry_frames.specs.MessageFields.{ends_fields}
use Rattle.entry_frames.specs.MessageParts.{reply_of}
use Rattle.entry_frames.specs.Replies.{is_hint_byte, member_with, reply_fields}
use Rattle.entry_frames.specs.declared.kind.Kind.TheVariants as kinds
use Rattle.entry_frames.specs.declared.message.Message.{Message}
use Rattle.entry_frames.specs.declared.message.Message.TheVariants as messages
use Rattle.entry_frames.proofs.Formats.{embed_fits}
use Rattle.world_model.specs.Ranges.{HintInRange, IsClientNumber, IsMember, ReplyHasSpelling}
use Rattle.world_model.specs.declared.call.ClientReply.{ClientReply}
use Rattle.world_model.proofs.Frames.{fits_within}

-- what a reply tells is in range
abbrev pub ReplyInRange : Shape → Reply → Type 0
ReplyInRange shape (replies.Done version) = version ≤ last_place
ReplyInRange shape (replies.Differs version) = version ≤ last_place
ReplyInRange shape (replies.Gone was_there) = Unit {0}
ReplyInRange shape (replies.Value version bytes) = (version ≤ last_place) × (length bytes ≤ longest_value)
ReplyInRange shape replies.Nothing = Unit {0}
ReplyInRange shape replies.Old = Unit {0}
ReplyInRange shape (replies.Elsewhere hint) = HintInRange shape hint
ReplyInRange shape replies.Preparing = Unit {0}
ReplyInRange shape replies.Busy = Unit {0}
ReplyInRange shape replies.Full = Unit {0}

hint_fits : (members : ℕ) (hint : ℕ) → members < 255 → hint < members → (is_hint_byte members hint ≡ true) × (member_with hint ≡ Some hint)
hint_fits members hint small is =
    (passes (nat_lt hint members) (hint == 255) (lt-ltb hint members is), ap (λ (b : Bool). if b then None else Some hint) (ne_eqb hint 255 (omega (arith, small, is)))) where
      passes : (a b : Bool) → a ≡ true → (a || b) ≡ true
      passes true b e = refl
      passes false b e = cc

module _ (shape : Shape) (is : IsShape shape) where
  reply_fits : (reply : Reply) → ReplyInRange shape reply → Fits (reply_fields (members_of shape)) reply
  reply_fits (replies.Done version) most = ((omega arith, refl), (fits_within U64 0 last_place version (omega (arith, most)) (omega arith) most, refl))
  reply_fits (replies.Differs version) most = ((omega arith, refl), (fits_within U64 0 last_place version (omega (arith, most)) (omega arith) most, refl))
  reply_fits (replies.Gone true) most = ((omega arith, refl), ((omega arith, refl), refl))
  reply_fits (replies.Gone false) most = ((omega arith, refl), ((omega arith, refl), refl))
  reply_fits (replies.Value version bytes) most = (
    (omega arith, refl),
    (
      fits_within U64 0 last_place version (omega (arith, most.0)) (omega arith) most.0,
      (fits_within U32 0 longest_value (length bytes) (omega (arith, most.1)) (omega arith) most.1, (refl, refl)),
    ),
  )
  reply_fits replies.Nothing most = ((omega arith, refl), refl)
  reply_fits replies.Old most = ((omega arith, refl), refl)
  reply_fits (replies.Elsewhere None) most = ((omega arith, refl), ((omega arith, is_none (nat_lt 255 (members_of shape))), refl)) where
    is_none : (a : Bool) → (a || true) ≡ true
    is_none true = refl
    is_none false = refl
  reply_fits (replies.Elsewhere (Some member)) most =
      let low : member < members_of shape = most in
      let hint = hint_fits (members_of shape) member (omega (arith, is.1)) low in
      ((omega arith, refl), ((omega (arith, low, is.1), hint.0), ap replies.Elsewhere hint.1))
  reply_fits replies.Preparing most = ((omega arith, refl), refl)
  reply_fits replies.Busy most = ((omega arith, refl), refl)
  reply_fits replies.Full most = ((omega arith, refl), refl)

  -- a reply in range to a request with numbers in range can be written
  pub reply_spelled :
      (member : ℕ) → IsMember shape member → (r : ClientReply) → IsClientNumber r.client → IsClientNumber r.seq → ReplyInRange shape r.reply →
      ReplyHasSpelling shape member r
  reply_spelled member is_member r client seq reply =
      let m : Message = messages.Answered member r.client r.seq r.reply in
      let make : Reply → _ = λ told. Value (messages.Answered member r.client r.seq told) in
      let low : member < members_of shape = is_member in
      let behind : Fits (ends_fields shape kinds.Answered) m = (
        fits_within U8 0 (members_of shape - 1) member (omega (arith, is.1, low)) (omega arith) (omega (arith, low)),
        (
          (omega arith, refl),
          (
            not_from_false (member == 255) (ne_eqb _ _ (omega (arith, low, is.1))),
            (
              fits_within U64 1 greatest r.client (omega (arith, client.1)) client.0 client.1,
              (
                fits_within U64 1 greatest r.seq (omega (arith, seq.1)) seq.0 seq.1,
                embed_fits (reply_fields (members_of shape)) reply_of make m (reply_fits r.reply reply) refl,
              ),
            ),
          ),
        ),
      ) in (
        fits_within U8 67 67 67 (omega arith) (omega arith) (omega arith),
        (
          fits_within U8 82 82 82 (omega arith) (omega arith) (omega arith),
          (
            fits_within U8 1 1 1 (omega arith) (omega arith) (omega arith),
            (
              fits_within U8 shape.faults shape.faults shape.faults (omega (arith, is.1)) (omega arith) (omega arith),
              (
                fits_within U8 shape.need shape.need shape.need (omega (arith, is.1, is.3)) (omega arith) (omega arith),
                ((omega arith, refl), behind),
              ),
            ),
          ),
        ),
      )
