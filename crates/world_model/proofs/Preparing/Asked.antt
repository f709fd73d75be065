-- What is asked for is shown: a page covers the index from which on it was asked.
use Rattle.std.proofs.Common.{◌≡◌, ℕ, ◌+◌, ◌-◌, ◌/◌, ◌≤◌, ◌&&◌, ◌||◌, nat_le, nat_lt, true, false, Bool, if◌then◌else◌, List, [], ◌∷◌, length, drop, slice_get, Option, None, Some, refl, sym, ap, subst, ◌∙◌, arith, length-drop}
use Rattle.std.specs.Prelude.{is_some}
use Rattle.std.proofs.Math.Nat.{div-le_self}
use Rattle.std.proofs.lemmas.Bool.{cond_both, leb-false, le-leb, lt-ltb, and_from, leb-true, and_parts}
use Rattle.coded_append.specs.Batches.{batch_of, fitting}
use Rattle.coded_append.proofs.Sizes.{size_is_room}
use Rattle.craft_base.specs.Parts.{part_length}
use Rattle.craft_base.specs.declared.command.Entry.{Entry}
use Rattle.craft_base.specs.declared.command.Form.{Form}
use Rattle.craft_base.specs.declared.command.Form.TheVariants as forms
use Rattle.craft_base.specs.declared.command.Op.{Op}
use Rattle.craft_base.specs.declared.command.Op.TheVariants as ops
use Rattle.craft_base.specs.Shape.{Shape}
use Rattle.entry_frames.specs.Entries.{entry_fields, entry_room}
use Rattle.entry_frames.specs.Formats.{Fits, within}
use Rattle.entry_frames.specs.Limits.{longest_value, most_entry_bytes}
use Rattle.entry_frames.specs.Logs.{last_index}
use Rattle.entry_frames.specs.MessageFields.{entry_size}
use Rattle.entry_frames.specs.Stored.{AreEntries}
use Rattle.leader_prep.specs.Pages.{covers_in}
use Rattle.world_model.specs.Preparing.{AnswersCover}
use Rattle.world_model.proofs.Ranges.Batches.{dropped_are}

-- ---- how long an entry is

abbrev entry_with : ℕ → ℕ → ℕ → Op → List ℕ → ℕ → Form → Entry
entry_with term client seq op key vlen form = record { term = term; head = record { client = client; seq = seq; op = op; key = key; vlen = vlen }; form = form }

most : (least vlen : ℕ) → within least longest_value vlen ≡ true → vlen ≤ longest_value
most least vlen is = leb-true vlen longest_value (and_parts (nat_le least vlen) (nat_le vlen longest_value) is).1

-- a part is at most one byte longer than the value, whatever fragments it is made for
part_short : (vlen k : ℕ) → part_length vlen k ≤ vlen + 1
part_short vlen k =
    let quotient : vlen / k ≤ vlen = div-le_self vlen k in
    omega (arith, quotient)

room_short :
    (k term client seq : ℕ) (op : Op) (key : List ℕ) (vlen : ℕ) (form : Form) → Fits (entry_fields k) (entry_with term client seq op key vlen form) →
    entry_room (entry_with term client seq op key vlen form) ≤ most_entry_bytes
room_short k term client seq ops.Noop key vlen (forms.Whole b) fits = omega (arith, fits.1.1.1.1.1.1.1.0.0, fits.1.1.1.1.1.1.1.1.1.0, fits.1.1.1.1.1.1.1.1.1.1.0)
room_short k term client seq ops.Del key vlen (forms.Whole b) fits = omega (arith, fits.1.1.1.1.1.1.1.0.0, fits.1.1.1.1.1.1.1.1.1.0, fits.1.1.1.1.1.1.1.1.1.1.0)
room_short k term client seq ops.Get key vlen (forms.Whole b) fits = omega (arith, fits.1.1.1.1.1.1.1.0.0, fits.1.1.1.1.1.1.1.1.1.0, fits.1.1.1.1.1.1.1.1.1.1.0)
room_short k term client seq ops.Put key vlen (forms.Whole b) fits =
    omega (arith, fits.1.1.1.1.1.1.1.0.0, most 0 vlen fits.1.1.1.1.1.1.1.1.1.0.1, fits.1.1.1.1.1.1.1.1.1.1.0)
room_short k term client seq (ops.PutIf expected) key vlen (forms.Whole b) fits =
    omega (arith, fits.1.1.1.1.1.1.1.0.0, most 0 vlen fits.1.1.1.1.1.1.1.1.1.0.1, fits.1.1.1.1.1.1.1.1.1.1.0)
room_short k term client seq ops.Noop key vlen (forms.Part b) fits = cc
room_short k term client seq ops.Del key vlen (forms.Part b) fits = cc
room_short k term client seq ops.Get key vlen (forms.Part b) fits = cc
room_short k term client seq ops.Put key vlen (forms.Part b) fits =
    omega (arith, fits.1.1.1.1.1.1.1.0.0, most 1 vlen fits.1.1.1.1.1.1.1.1.1.0.1, part_short vlen k, fits.1.1.1.1.1.1.1.1.1.1.0)
room_short k term client seq (ops.PutIf expected) key vlen (forms.Part b) fits =
    omega (arith, fits.1.1.1.1.1.1.1.0.0, most 1 vlen fits.1.1.1.1.1.1.1.1.1.0.1, part_short vlen k, fits.1.1.1.1.1.1.1.1.1.1.0)

-- one message has room for any entry
entry_short : (k : ℕ) (e : Entry) → Fits (entry_fields k) e → entry_size k e ≤ most_entry_bytes
entry_short k e fits =
    let room : entry_room e ≤ most_entry_bytes = room_short k e.term e.head.client e.head.seq e.head.op e.head.key e.head.vlen e.form fits in
    omega (arith, room, size_is_room k e)

-- ---- a page

first_shown : (k : ℕ) (e : Entry) (es : List Entry) → Fits (entry_fields k) e → slice_get (batch_of k (e ∷ es)) 0 ≡ Some e
first_shown k e es fits =
    cond_both (nat_le (entry_size k e) most_entry_bytes) (e ∷ fitting k 7 (most_entry_bytes - entry_size k e) es) [] (λ batch. slice_get batch 0 ≡ Some e)
    (λ room. refl) (λ none. absurd (omega (arith, entry_short k e fits, leb-false (entry_size k e) most_entry_bytes none)))

abbrev nothing : List Entry
nothing = []

no_slot : (begun : Bool) (place : ℕ) (ends : Bool) → (is_some (if begun then slice_get nothing place else None) || ends) ≡ ends
no_slot true place ends = refl
no_slot false place ends = refl

-- the entries of a log from an index on, and the last index
covered :
    (k high sender start : ℕ) (log left : List Entry) → 1 ≤ start → drop (start - 1) log ≡ left → AreEntries k 0 high left →
    covers_in (record { sender = sender; start = start; last = length log; slots = batch_of k left }) start ≡ true
covered k high sender start log [] from is are =
    let none : length log - (start - 1) ≡ 0 = sym (length-drop (start - 1) log) ∙ ap length is in
    let here : nat_le start start ≡ true = le-leb start start (omega arith) in
    let ends : nat_lt (length log) (start + 0) ≡ true = lt-ltb (length log) (start + 0) (omega (arith, none, from)) in
    let past : nat_lt (length log) start ≡ true = lt-ltb (length log) start (omega (arith, none, from)) in
    no_slot (nat_le start start) (start - start) (nat_lt (length log) (start + 0) && nat_lt (length log) start)
    ∙ and_from (nat_lt (length log) (start + 0)) (nat_lt (length log) start) ends past
covered k high sender start log (e ∷ es) from is are =
    let slots : List Entry = batch_of k (e ∷ es) in
    let here : nat_le start start ≡ true = le-leb start start (omega arith) in
    let none : start - start ≡ 0 = omega arith in
    let slot : (if nat_le start start then slice_get slots (start - start) else None) ≡ Some e =
    ap (λ (b : Bool). if b then slice_get slots (start - start) else None) here ∙ ap (slice_get slots) none ∙ first_shown k e es are.0 in
    ap (λ (o : Option Entry). is_some o || (nat_lt (length log) (start + length slots) && nat_lt (length log) start)) slot

pub answers_cover : AnswersCover
answers_cover shape member n asker start is a from =
    subst (λ (s : Shape). covers_in (record { sender = n.me; start = start; last = last_index n.durable.log; slots = batch_of s.need (drop (start - 1) n.durable.log) }) start ≡ true) (sym a.of_shape)
    (covered shape.need n.durable.term n.me start n.durable.log (drop (start - 1) n.durable.log) from refl
    (dropped_are shape.need 0 n.durable.term (start - 1) n.durable.log a.durable.stored.entries))
