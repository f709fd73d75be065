-- What members send has a spelling, and what is read of its bytes is what was sent.
use Rattle.std.proofs.Common.{◌≡◌, ℕ, zero, suc, List, [], ◌∷◌, ◌++◌, map, refl, sym, subst, None, Some, All, slice_get}
use Rattle.std.proofs.lemmas.List.Elements.{All-cons, All-head, All-nil, All-tail, All-weaker}
use Rattle.std.proofs.lemmas.Option.{slice_get_within, get_or_from_slice_get}
use Rattle.std.specs.Prelude.{Result, Ok, Err}
use Rattle.craft_base.specs.Shape.{Shape, IsShape}
use Rattle.entry_frames.specs.declared.fault.FrameFault.{FrameFault}
use Rattle.entry_frames.specs.declared.message.Message.{Message}
use Rattle.entry_frames.specs.declared.output.Output.{Output}
use Rattle.entry_frames.specs.declared.output.Output.TheVariants as outputs
use Rattle.schedule_text.specs.Sends.{SendsPeer}
use Rattle.world_model.specs.Ranges.{HasSpelling, InRange}
use Rattle.world_model.specs.Spelling.{IsLineOf}
use Rattle.world_model.specs.World as model
use Rattle.world_model.specs.declared.line.Line.{Line}
use Rattle.world_model.proofs.Ranges.Worlds.{step_in_range}
use Rattle.world_model.proofs.Runs.{step_sends}
use Rattle.schedule_replay.specs.Network.{CanBeSent, IsSent, frame_bytes}

can_be_sent : (shape : Shape) (told : List Output) → All (HasSpelling shape) (model.sent_among told) → All (CanBeSent shape) told
can_be_sent shape [] spelled = All-nil (CanBeSent shape)
can_be_sent shape (outputs.Role role term ∷ told) spelled = All-cons (CanBeSent shape) (outputs.Role role term) told tt (can_be_sent shape told spelled)
can_be_sent shape (outputs.Cut index prep ∷ told) spelled = All-cons (CanBeSent shape) (outputs.Cut index prep) told tt (can_be_sent shape told spelled)
can_be_sent shape (outputs.Whole index ∷ told) spelled = All-cons (CanBeSent shape) (outputs.Whole index) told tt (can_be_sent shape told spelled)
can_be_sent shape (outputs.Commit index ∷ told) spelled = All-cons (CanBeSent shape) (outputs.Commit index) told tt (can_be_sent shape told spelled)
can_be_sent shape (outputs.Reply place client seq reply ∷ told) spelled =
    All-cons (CanBeSent shape) (outputs.Reply place client seq reply) told tt (can_be_sent shape told spelled)
can_be_sent shape (outputs.Send m ∷ told) spelled =
    All-cons (CanBeSent shape) (outputs.Send m) told (All-head (HasSpelling shape) m (model.sent_among told) spelled)
    (can_be_sent shape told (All-tail (HasSpelling shape) m (model.sent_among told) spelled))

all_behind : (P : Message → Type 0) (xs ys : List Message) → All P (xs ++ ys) → All P ys
all_behind P [] ys all = all
all_behind P (x ∷ xs) ys all = all_behind P xs ys (All-tail P x (xs ++ ys) all)

-- what a line makes members tell can be sent
pub line_can_send :
    {shape : Shape} → IsShape shape → {w : model.World} → InRange shape w → (line : Line) → IsLineOf shape line → (told : List Output) → told ≡ (model.step w line).outputs → All (CanBeSent shape) told
line_can_send {shape = shape} is {w = w} r line of_line told same =
    let after = step_in_range is r line of_line in
    let spelled = all_behind (HasSpelling shape) w.sent (model.sent_among (model.step w line).outputs) (subst (All (HasSpelling shape)) (step_sends w line) after.sent) in
    subst (All (CanBeSent shape)) (sym same) (can_be_sent shape (model.step w line).outputs spelled)

sends_peer : (shape : Shape) (output : Output) → CanBeSent shape output → SendsPeer output
sends_peer shape (outputs.Role role term) sent = tt
sends_peer shape (outputs.Cut index prep) sent = tt
sends_peer shape (outputs.Whole index) sent = tt
sends_peer shape (outputs.Commit index) sent = tt
sends_peer shape (outputs.Reply place client seq reply) sent = tt
sends_peer shape (outputs.Send m) sent = sent.0

pub send_peers : (shape : Shape) (told : List Output) → All (CanBeSent shape) told → All SendsPeer told
send_peers shape told can = All-weaker (CanBeSent shape) SendsPeer (sends_peer shape) told can

-- frames that are read
pub same_message : (f g : Message) → ◌≡◌ {A = Result Message FrameFault} (Ok f) (Ok g) → f ≡ g
same_message f g same = cc

pub is_no_fault : (f : Message) (fault : FrameFault) → ◌≡◌ {A = Result Message FrameFault} (Ok f) (Err fault) → ⊥
is_no_fault f fault same = cc

-- the frame at a position is that of the message there
pub message_at :
    (shape : Shape) (ms : List Message) (position : ℕ) (bytes : List ℕ) → slice_get (map (frame_bytes shape) ms) position ≡ Some bytes →
    (m : Message) × (slice_get ms position ≡ Some m) × (bytes ≡ frame_bytes shape m)
message_at shape [] position bytes found = cc
message_at shape (m ∷ ms) zero bytes found = (m, refl, cc)
message_at shape (m ∷ ms) (suc position) bytes found = message_at shape ms position bytes found

pub none_at : (shape : Shape) (ms : List Message) (position : ℕ) → slice_get (map (frame_bytes shape) ms) position ≡ None → slice_get ms position ≡ None
none_at shape [] position none = refl
none_at shape (m ∷ ms) zero none = cc
none_at shape (m ∷ ms) (suc position) none = none_at shape ms position none

-- a message in its place has a spelling
pub spelled_at : (shape : Shape) (ms : List Message) → All (HasSpelling shape) ms → (position : ℕ) (m : Message) → slice_get ms position ≡ Some m → HasSpelling shape m
spelled_at shape ms all position m here =
    subst (HasSpelling shape) (get_or_from_slice_get ms position m m here) (all position m (slice_get_within ms position m here))

-- the bytes of messages in range were sent
pub are_sent : (shape : Shape) (ms : List Message) → All (HasSpelling shape) ms → All (IsSent shape) (map (frame_bytes shape) ms)
are_sent shape [] all = All-nil (IsSent shape)
are_sent shape (m ∷ ms) all =
    All-cons (IsSent shape) (frame_bytes shape m) (map (frame_bytes shape) ms) (m, All-head (HasSpelling shape) m ms all, refl)
    (are_sent shape ms (All-tail (HasSpelling shape) m ms all))
