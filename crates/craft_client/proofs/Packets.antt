-- What a packet tells, from what was read of its bytes.
use Rattle.std.proofs.Common.{◌≡◌, ℕ, ◌-◌, ◌<◌, nat_lt, ◌==◌, Bool, true, false, List, None, Some, Ok, Err, refl, sym, ap, ◌∙◌, arith}
use Rattle.std.specs.Prelude.{◌||◌, if◌then◌else◌}
use Rattle.std.proofs.lemmas.Bool.{ltb-true}
use Rattle.craft_base.specs.Shape.{Shape, members_of}
use Rattle.craft_base.specs.declared.command.Reply.{Reply}
use Rattle.craft_base.specs.declared.command.Reply.TheVariants as replies
use Rattle.craft_base.specs.declared.command.Request.{Request}
use Rattle.entry_frames.specs.Formats.{Fits, reading_all}
use Rattle.entry_frames.specs.MessageFields.{frame_fields}
use Rattle.entry_frames.specs.Replies.{member_with}
use Rattle.entry_frames.specs.declared.fault.FrameFault.{FrameFault}
use Rattle.entry_frames.specs.declared.message.Message.{Message}
use Rattle.entry_frames.specs.declared.message.Message.TheVariants as messages
use Rattle.peer_frames.proofs.Peers.{lies_within}
use Rattle.craft_client.specs.Asking.{is_reply_for, told_as, told_by_packet, told_in}
use Rattle.craft_client.specs.Members.{NamesMember}
use Rattle.craft_client.specs.declared.told.Told.TheVariants.{Nothing}

-- bytes that are no message tell nothing
pub tells_without_message : (shape : Shape) (request : Request) (bytes : List ℕ) (fault : FrameFault) → reading_all (frame_fields shape) bytes ≡ Err fault
    → Nothing ≡ told_by_packet shape request bytes
unfolding told_by_packet
tells_without_message shape request bytes fault is = sym (ap (told_as request) is)

-- nor does a message that is no reply to the request
pub tells_without_reply : (shape : Shape) (request : Request) (bytes : List ℕ) (message : Message) → reading_all (frame_fields shape) bytes ≡ Ok message
    → is_reply_for request message ≡ false → Nothing ≡ told_by_packet shape request bytes
unfolding told_by_packet
tells_without_reply shape request bytes message is another =
    sym (ap (told_as request) is ∙ ap (λ (b : Bool). if b then told_in message else Nothing) another)

-- a reply to it tells what it says
pub tells_reply : (shape : Shape) (request : Request) (bytes : List ℕ) (message : Message) → reading_all (frame_fields shape) bytes ≡ Ok message
    → is_reply_for request message ≡ true → told_in message ≡ told_by_packet shape request bytes
unfolding told_by_packet
tells_reply shape request bytes message is this =
    sym (ap (told_as request) is ∙ ap (λ (b : Bool). if b then told_in message else Nothing) this)

-- a byte that stands for a member, and not for none
is_member : (members hint : ℕ) (low none : Bool) → nat_lt hint members ≡ low → (low || none) ≡ true → (if none then None else Some hint) ≡ Some hint → hint < members
is_member members hint true none low either some = ltb-true hint members low
is_member members hint false true low either some = absurd cc
is_member members hint false false low either some = absurd cc

-- who replies is a member of the cluster
sender_is_member : (shape : Shape) (sender client seq : ℕ) (reply : Reply) → Fits (frame_fields shape) (messages.Answered sender client seq reply) → sender < members_of shape
sender_is_member shape sender client seq reply fits =
    let between = lies_within 0 (members_of shape - 1) sender fits.1.1.1.1.1.1.0.1 in
    omega (arith, between.below)

-- a member that a packet names is one of the cluster
pub names_member : (shape : Shape) (message : Message) → Fits (frame_fields shape) message → NamesMember shape (told_in message)
names_member shape (messages.Peer sender receiver term body) fits = tt
names_member shape (messages.Request receiver request) fits = tt
names_member shape (messages.Answered sender client seq (replies.Elsewhere None)) fits = tt
names_member shape (messages.Answered sender client seq (replies.Elsewhere (Some hint))) fits =
    let reply = fits.1.1.1.1.1.1.1.1.1.1.1.1 in
    let same : member_with hint ≡ Some hint = cc reply.1 in
    is_member (members_of shape) hint (nat_lt hint (members_of shape)) (hint == 255) refl reply.0.1 same
names_member shape (messages.Answered sender client seq replies.Preparing) fits = tt
names_member shape (messages.Answered sender client seq replies.Busy) fits = tt
names_member shape (messages.Answered sender client seq reply) fits = sender_is_member shape sender client seq reply fits
