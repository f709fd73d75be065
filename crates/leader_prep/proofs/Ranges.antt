-- What the ranges of entries and messages give.
use Rattle.std.proofs.Common.{◌≡◌, ℕ, ◌≤◌, List, length, Bool, true, false, refl, ap, arith, subst, sym}
use Rattle.std.proofs.lemmas.Bool.Decides.{nat_tests}
use Rattle.std.proofs.lemmas.Bool.{false≢true, true≢false}
use Rattle.craft_base.specs.Parts.{part_length}
use Rattle.craft_base.specs.Shape.{Shape}
use Rattle.craft_base.specs.declared.command.Entry.{Entry}
use Rattle.craft_base.specs.declared.command.Form.{Form}
use Rattle.craft_base.specs.declared.command.Form.TheVariants as forms
use Rattle.craft_base.specs.declared.command.Op.{Op}
use Rattle.craft_base.specs.declared.command.Op.TheVariants as ops
use Rattle.entry_frames.specs.Entries.{entry_fields, form_bytes, is_whole}
use Rattle.entry_frames.specs.Formats.{Fits, within}
use Rattle.entry_frames.specs.Kinds.{kind_of}
use Rattle.entry_frames.specs.Limits.{longest_value, most_entries}
use Rattle.entry_frames.specs.MessageFields.{answer_fields, frame_fields, most_up_to}
use Rattle.entry_frames.specs.MessageParts.{body_of, entries_of}
use Rattle.entry_frames.specs.declared.kind.Kind.{Kind}
use Rattle.entry_frames.specs.declared.kind.Kind.TheVariants as kinds
use Rattle.entry_frames.specs.declared.kind.PeerKind.TheVariants as peer_kinds
use Rattle.entry_frames.specs.declared.message.Message.{Message}
use Rattle.entry_frames.specs.declared.message.Message.TheVariants as messages
use Rattle.entry_frames.specs.declared.peer.Peer.TheVariants as peers
use Rattle.peer_frames.proofs.Heads.{peer_spelled}
use Rattle.peer_frames.proofs.Peers.{lies_within}
use Rattle.peer_frames.specs.FrameViews.{entries_told}

-- ---- entries

entry_with : ℕ → ℕ → ℕ → Op → List ℕ → ℕ → Form → Entry
entry_with term client seq op key vlen form = record { term = term; head = record { client = client; seq = seq; op = op; key = key; vlen = vlen }; form = form }

part_of : (k term client seq : ℕ) (op : Op) (key : List ℕ) (vlen : ℕ) (part : List ℕ) → Fits (entry_fields k) (entry_with term client seq op key vlen (forms.Part part))
    → length part ≡ part_length vlen k
unfolding entry_with
part_of k term client seq ops.Noop key vlen part fits = cc
part_of k term client seq ops.Del key vlen part fits = cc
part_of k term client seq ops.Get key vlen part fits = cc
part_of k term client seq ops.Put key vlen part fits = fits.1.1.1.1.1.1.1.1.1.1.0
part_of k term client seq (ops.PutIf expected) key vlen part fits = fits.1.1.1.1.1.1.1.1.1.1.0

-- a part is as long as the fragments of a value of that length
pub part_long : (k : ℕ) (e : Entry) → Fits (entry_fields k) e → is_whole e.form ≡ false → length (form_bytes e.form) ≡ part_length e.head.vlen k
unfolding entry_with
part_long k e fits is = at e.form refl is where
  at : (form : Form) → e.form ≡ form → is_whole form ≡ false → length (form_bytes e.form) ≡ part_length e.head.vlen k
  at (forms.Whole held) there part = absurd (true≢false part)
  at (forms.Part held) there part =
      subst (λ (f : Form). length (form_bytes f) ≡ part_length e.head.vlen k) (sym there)
      (part_of k e.term e.head.client e.head.seq e.head.op e.head.key e.head.vlen held
      (subst (λ f. Fits (entry_fields k) (entry_with e.term e.head.client e.head.seq e.head.op e.head.key e.head.vlen f)) there fits))

at_most : (least vlen : ℕ) → within least longest_value vlen ≡ true → vlen ≤ longest_value
at_most least vlen is = grind (arith, nat_tests, is)

short : (k term client seq : ℕ) (op : Op) (key : List ℕ) (vlen : ℕ) (form : Form) → Fits (entry_fields k) (entry_with term client seq op key vlen form) → vlen ≤ longest_value
unfolding entry_with
short k term client seq ops.Noop key vlen (forms.Whole b) fits = omega (arith, fits.1.1.1.1.1.1.1.1.1.0)
short k term client seq ops.Del key vlen (forms.Whole b) fits = omega (arith, fits.1.1.1.1.1.1.1.1.1.0)
short k term client seq ops.Get key vlen (forms.Whole b) fits = omega (arith, fits.1.1.1.1.1.1.1.1.1.0)
short k term client seq ops.Put key vlen (forms.Whole b) fits = at_most 0 vlen fits.1.1.1.1.1.1.1.1.1.0.1
short k term client seq (ops.PutIf expected) key vlen (forms.Whole b) fits = at_most 0 vlen fits.1.1.1.1.1.1.1.1.1.0.1
short k term client seq ops.Noop key vlen (forms.Part b) fits = cc
short k term client seq ops.Del key vlen (forms.Part b) fits = cc
short k term client seq ops.Get key vlen (forms.Part b) fits = cc
short k term client seq ops.Put key vlen (forms.Part b) fits = at_most 1 vlen fits.1.1.1.1.1.1.1.1.1.0.1
short k term client seq (ops.PutIf expected) key vlen (forms.Part b) fits = at_most 1 vlen fits.1.1.1.1.1.1.1.1.1.0.1

-- a value isn't too long
pub value_short : (k : ℕ) (e : Entry) → Fits (entry_fields k) e → e.head.vlen ≤ longest_value
unfolding entry_with
value_short k e fits = short k e.term e.head.client e.head.seq e.head.op e.head.key e.head.vlen e.form fits

-- ---- answers

abbrev pub is_answer : Kind → Bool
is_answer (kinds.Peer peer_kinds.Answer) = true
is_answer _ = false

-- it tells as many entries as it has
pub told : (m : Message) → kind_of m ≡ kinds.Peer peer_kinds.Answer → entries_told (body_of m) ≡ length (entries_of (body_of m))
told (messages.Peer sender receiver term (peers.Answer start last slots)) is = refl
told (messages.Peer sender receiver term (peers.Append prev prev_term commit entries)) is = refl
told (messages.Peer sender receiver term (peers.Vote last_term last)) is = refl
told (messages.Peer sender receiver term (peers.VoteReply granted)) is = refl
told (messages.Peer sender receiver term (peers.Matched prev count mask)) is = absurd (false≢true (ap is_answer is))
told (messages.Peer sender receiver term (peers.Refused next)) is = refl
told (messages.Peer sender receiver term (peers.Ask start)) is = refl
told (messages.Request receiver request) is = refl
told (messages.Answered sender client seq reply) is = refl

few_of : (k term start last : ℕ) (slots : List Entry) → Fits (answer_fields k term) (peers.Answer start last slots) → length slots ≤ most_entries
few_of k term start last slots fits =
    let range = lies_within 0 (most_up_to start last) (length slots) fits.1.1.0.1 in
    omega (arith, range.below)

-- An Answer that has a spelling has at most as many entries as a message can have.
pub few_slots : (shape : Shape) (m : Message) → Fits (frame_fields shape) m → kind_of m ≡ kinds.Peer peer_kinds.Answer → length (entries_of (body_of m)) ≤ most_entries
few_slots shape (messages.Peer sender receiver term (peers.Answer start last slots)) fits is =
    few_of shape.need term start last slots (peer_spelled shape sender receiver term (peers.Answer start last slots) fits).0
few_slots shape (messages.Peer sender receiver term (peers.Append prev prev_term commit entries)) fits is = absurd (false≢true (ap is_answer is))
few_slots shape (messages.Peer sender receiver term (peers.Vote last_term last)) fits is = omega arith
few_slots shape (messages.Peer sender receiver term (peers.VoteReply granted)) fits is = omega arith
few_slots shape (messages.Peer sender receiver term (peers.Matched prev count mask)) fits is = omega arith
few_slots shape (messages.Peer sender receiver term (peers.Refused next)) fits is = omega arith
few_slots shape (messages.Peer sender receiver term (peers.Ask start)) fits is = omega arith
few_slots shape (messages.Request receiver request) fits is = omega arith
few_slots shape (messages.Answered sender client seq reply) fits is = omega arith
