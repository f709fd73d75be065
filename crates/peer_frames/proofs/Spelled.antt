-- The entries of a message are spelled one after the other.
use Rattle.std.proofs.Common.{◌≡◌, ℕ, zero, suc, ◌+◌, ◌-◌, ◌<◌, Bool, true, false, List, [], ◌∷◌, ◌++◌, length, take, Some, None, arith, refl, sym, ap, subst, ◌∙◌, append_assoc}
use Rattle.std.specs.Prelude.{slice_get}
use Rattle.std.specs.List.{flat_map, AllByRecursion}
use Rattle.std.proofs.lemmas.List.{append-nil}
use Rattle.std.proofs.lemmas.List.Concat.{flat_map-cons, flat_map-append}
use Rattle.craft_base.specs.declared.command.Entry.{Entry}
use Rattle.entry_frames.specs.Entries.{entry_fields_in, entry_fields}
use Rattle.entry_frames.specs.Formats.{Format, Value, U8, U32, U64, Fits, number_bytes, spelling}
use Rattle.entry_frames.specs.declared.peer.Peer.{Peer}
use Rattle.entry_frames.specs.declared.peer.Peer.TheVariants as peers
use Rattle.entry_frames.specs.declared.kind.Kind.{Kind}
use Rattle.entry_frames.specs.declared.kind.Kind.TheVariants as kinds
use Rattle.entry_frames.specs.declared.kind.PeerKind.TheVariants as peer_kinds
use Rattle.entry_frames.specs.declared.reply_kind.ReplyKind.TheVariants as reply_kinds
use Rattle.entry_frames.specs.Kinds.{kind_byte, kind_with}
use Rattle.entry_frames.specs.MessageFields.{entry_size, least_next, entries_fields, first_entry, later_entries, append_fields, answer_fields, request_fields}
use Rattle.entry_frames.specs.MessageParts.{entries_of}
use Rattle.entry_frames.specs.Limits.{most_entry_bytes}
use Rattle.peer_frames.specs.Texts.{u64_text, byte_text, append_text, answer_text}
use Rattle.craft_base.specs.declared.command.Reply.TheVariants as replies
use Rattle.craft_base.specs.declared.command.Request.{Request}
use Rattle.entry_frames.specs.declared.op_kind.OpKind.{OpKind}
use Rattle.entry_frames.specs.Operations.{row, op_kind, op_byte, expected_version}
use Rattle.entry_frames.specs.Replies.{reply_fields_of}
use Rattle.entry_frames.proofs.Entries.{fits_any, kind_back}
use Rattle.entry_frames.proofs.Formats.{Faithful, embed_faithful, embed_spelling, embedded_fits}
use Rattle.peer_frames.proofs.Peers.{behind_entry, entries_faithful}

-- entries that fit are spelled one after the other, and each of them fits
pub record Spelled (k : ℕ) (text : List ℕ) (es : List Entry) : Type 0 where
  pub text_is : text ≡ flat_map (spelling (entry_fields k)) es
  pub each : AllByRecursion (Fits (entry_fields k)) es

behind_faithful : (k : ℕ) (rises : Bool) (high count low room : ℕ) (e : Entry) → Faithful (behind_entry k rises high count low room e) (λ es. first_entry es ≡ e)
behind_faithful k rises high count low room e = λ passes.
    embed_faithful (entries_fields k rises high count (least_next rises low e.term) (room - entry_size k e)) (λ es. length es ≡ count) later_entries (λ es. Value (e ∷ es))
    (λ es. first_entry es ≡ e) (entries_faithful k rises high count (least_next rises low e.term) (room - entry_size k e)) (λ es len. (refl, refl))

later_back : (e : Entry) (es : List Entry) → Faithful (Value (e ∷ es)) (λ w. later_entries w ≡ es)
later_back e es = refl

pub entries_spelled : (k : ℕ) (rises : Bool) (high count low room : ℕ) (es : List Entry) → Fits (entries_fields k rises high count low room) es
    → Spelled k (spelling (entries_fields k rises high count low room) es) es
entries_spelled k rises high zero low room es fits = subst (λ (x : List Entry). Spelled k [] x) fits (record { text_is = refl; each = tt })
entries_spelled k rises high (suc count) low room es fits =
    let one = entry_fields_in k low high in
    let e = first_entry es in
    let both = embedded_fits one first_entry (behind_entry k rises high count low room) es (behind_faithful k rises high count low room) fits in
    let more = entries_fields k rises high count (least_next rises low e.term) (room - entry_size k e) in
    let make : List Entry → Format (List Entry) = λ later. Value (e ∷ later) in
    let inner = embedded_fits more later_entries make es (later_back e) both.1.1 in
    let rest = entries_spelled k rises high count (least_next rises low e.term) (room - entry_size k e) (later_entries es) inner.0 in
    record {
      text_is = embed_spelling one first_entry (behind_entry k rises high count low room) es both.0
          ∙ ap (λ (t : List ℕ). spelling (entry_fields k) e ++ t) (embed_spelling more later_entries make es inner.0 ∙ append-nil (spelling more (later_entries es)) ∙ rest.text_is)
          ∙ sym (flat_map-cons (spelling (entry_fields k)) e (later_entries es)) ∙ ap (flat_map (spelling (entry_fields k))) inner.1;
      each = subst (AllByRecursion (Fits (entry_fields k))) inner.1 (fits_any k low high e both.0, rest.each);
    }

pub kind_again : (kind : Kind) → kind_with (kind_byte kind) ≡ kind
kind_again (kinds.Peer peer_kinds.Vote) = refl
kind_again (kinds.Peer peer_kinds.VoteReply) = refl
kind_again (kinds.Peer peer_kinds.Append) = refl
kind_again (kinds.Peer peer_kinds.AppendReply) = refl
kind_again (kinds.Peer peer_kinds.Ask) = refl
kind_again (kinds.Peer peer_kinds.Answer) = refl
kind_again kinds.Request = refl
kind_again kinds.Answered = refl

taken_more : {A : Type 0} (xs : List A) (n : ℕ) (x : A) → slice_get xs n ≡ Some x → take (suc n) xs ≡ take n xs ++ x ∷ []
taken_more [] n x e = absurd cc
taken_more (y ∷ xs) zero x e = cc
taken_more (y ∷ xs) (suc n) x e = ap (λ zs. y ∷ zs) (taken_more xs n x e)

flat_map_more : {A : Type 0} (f : A → List ℕ) (xs : List A) (x : A) → flat_map f (xs ++ x ∷ []) ≡ flat_map f xs ++ f x
flat_map_more f xs x = flat_map-append f xs (x ∷ []) ∙ ap (λ (t : List ℕ). flat_map f xs ++ t) (flat_map-cons f x [] ∙ append-nil (f x))

one_more : (n : ℕ) → suc n ≡ n + 1
one_more n = omega arith

-- one more of a list was written behind those before it
pub written_more : {A : Type 0} (f : A → List ℕ) (xs : List A) (n : ℕ) (x : A) (s0 s1 s2 : List ℕ) → slice_get xs n ≡ Some x → s1 ≡ s0 ++ flat_map f (take n xs) → s2 ≡ s1 ++ f x
    → s2 ≡ s0 ++ flat_map f (take (n + 1) xs)
written_more f xs n x s0 s1 s2 e e1 e2 =
    e2 ∙ ap (λ (t : List ℕ). t ++ f x) e1 ∙ append_assoc s0 (flat_map f (take n xs)) (f x)
    ∙ ap (λ (t : List ℕ). s0 ++ t) (sym (flat_map_more f (take n xs) x) ∙ ap (flat_map f) (sym (taken_more xs n x e))) ∙ ap (λ (m : ℕ). s0 ++ flat_map f (take m xs)) (one_more n)

pub there_is : {A : Type 0} (xs : List A) (n : ℕ) → n < length xs → slice_get xs n ≡ None → ⊥
there_is [] n lt e = omega arith
there_is (y ∷ xs) zero lt e = absurd cc
there_is (y ∷ xs) (suc n) lt e = there_is xs n (omega arith) e

entries_back : (prev prev_term commit : ℕ) (es : List Entry) → Faithful (Value (peers.Append prev prev_term commit es)) (λ b. entries_of b ≡ es)
entries_back prev prev_term commit es = refl

slots_back : (start last : ℕ) (es : List Entry) → Faithful (Value (peers.Answer start last es)) (λ b. entries_of b ≡ es)
slots_back start last es = refl

-- an append and an answer are spelled by their numbers and their entries
pub append_spelled : (k term prev prev_term commit : ℕ) (es : List Entry) → Fits (append_fields k term) (peers.Append prev prev_term commit es)
    → AllByRecursion (Fits (entry_fields k)) es × (append_text k prev prev_term commit es ≡ spelling (append_fields k term) (peers.Append prev prev_term commit es))
append_spelled k term prev prev_term commit es fits =
    let format = entries_fields k true term (length es) prev_term most_entry_bytes in
    let make : List Entry → Format Peer = λ entries. Value (peers.Append prev prev_term commit entries) in
    let body = peers.Append prev prev_term commit es in
    let inner = embedded_fits format entries_of make body (entries_back prev prev_term commit) fits.1.1.1.1 in
    let spelled = entries_spelled k true term (length es) prev_term most_entry_bytes es inner.0 in (
      spelled.each,
      ap (λ (t : List ℕ). u64_text prev ++ (u64_text prev_term ++ (u64_text commit ++ (byte_text (length es) ++ t))))
          (sym (embed_spelling format entries_of make body inner.0 ∙ append-nil (spelling format es) ∙ spelled.text_is)),
    )

pub answer_spelled : (k term start last : ℕ) (es : List Entry) → Fits (answer_fields k term) (peers.Answer start last es)
    → AllByRecursion (Fits (entry_fields k)) es × (answer_text k start last es ≡ spelling (answer_fields k term) (peers.Answer start last es))
answer_spelled k term start last es fits =
    let format = entries_fields k false term (length es) 0 most_entry_bytes in
    let make : List Entry → Format Peer = λ slots. Value (peers.Answer start last slots) in
    let body = peers.Answer start last es in
    let inner = embedded_fits format entries_of make body (slots_back start last) fits.1.1.1 in
    let spelled = entries_spelled k false term (length es) 0 most_entry_bytes es inner.0 in (
      spelled.each,
      ap (λ (t : List ℕ). u64_text start ++ (u64_text last ++ (byte_text (length es) ++ t)))
          (sym (embed_spelling format entries_of make body inner.0 ∙ append-nil (spelling format es) ∙ spelled.text_is)),
    )

-- what was written one after the other
pub written_5 : (s0 s1 s2 s3 s4 s5 a b c d e : List ℕ) → s1 ≡ s0 ++ a → s2 ≡ s1 ++ b → s3 ≡ s2 ++ c → s4 ≡ s3 ++ d → s5 ≡ s4 ++ e → s5 ≡ s0 ++ (a ++ (b ++ (c ++ (d ++ e))))
written_5 s0 s1 s2 s3 s4 s5 a b c d e e1 e2 e3 e4 e5 = rw (e5, e4, e3, e2, e1) (simp append_assoc)

pub written_4 : (s0 s1 s2 s3 s4 a b c d : List ℕ) → s1 ≡ s0 ++ a → s2 ≡ s1 ++ b → s3 ≡ s2 ++ c → s4 ≡ s3 ++ d → s4 ≡ s0 ++ (a ++ (b ++ (c ++ d)))
written_4 s0 s1 s2 s3 s4 a b c d e1 e2 e3 e4 = rw (e4, e3, e2, e1) (simp append_assoc)

pub written_2 : (s0 s1 s2 a b : List ℕ) → s1 ≡ s0 ++ a → s2 ≡ s1 ++ b → s2 ≡ s0 ++ (a ++ b)
written_2 s0 s1 s2 a b e1 e2 = e2 ∙ ap (λ (t : List ℕ). t ++ b) e1 ∙ append_assoc s0 a b

pub found_written : (version : ℕ) (bytes s0 s1 s2 s3 : List ℕ) → s1 ≡ s0 ++ number_bytes true U64 version → s2 ≡ s1 ++ number_bytes true U32 (length bytes) → s3 ≡ s2 ++ bytes
    → s3 ≡ s0 ++ spelling (reply_fields_of 0 reply_kinds.Found) (replies.Value version bytes)
found_written version bytes s0 s1 s2 s3 e1 e2 e3 = rw (e3, e2, e1) (simp (append_assoc, append-nil))

pub request_written : (r : Request) (op expected key_length value_length : ℕ) (key value : List ℕ) (expects sets : Bool) (s0 s1 s2 s3 s4 s5 s6 s7 s8 : List ℕ)
    → op ≡ op_byte r.op → expects ≡ (row (op_kind r.op)).expects → expected ≡ expected_version r.op → key ≡ r.key → key_length ≡ length r.key
    → sets ≡ (row (op_kind r.op)).sets → value ≡ r.value → value_length ≡ length r.value
    → s1 ≡ s0 ++ number_bytes true U64 r.client → s2 ≡ s1 ++ number_bytes true U64 r.seq → s3 ≡ s2 ++ number_bytes true U8 op
    → s4 ≡ s3 ++ number_bytes expects U64 expected → s5 ≡ s4 ++ number_bytes true U8 key_length → s6 ≡ s5 ++ key
    → s7 ≡ s6 ++ number_bytes sets U32 value_length → s8 ≡ s7 ++ value → s8 ≡ s0 ++ spelling request_fields r
request_written r op expected key_length value_length key value expects sets s0 s1 s2 s3 s4 s5 s6 s7 s8
    is_op does_expect is_expected is_key is_length does_set is_value is_value_length e1 e2 e3 e4 e5 e6 e7 e8 =
    let parts : OpKind → List ℕ = λ kind. number_bytes true U64 r.client ++ (number_bytes true U64 r.seq ++ (number_bytes true U8 (op_byte r.op) ++ (number_bytes (row kind).expects U64 (expected_version r.op)
    ++ (number_bytes true U8 (length r.key) ++ (r.key ++ (number_bytes (row kind).sets U32 (length r.value) ++ (r.value ++ []))))))) in
    let spelled : spelling request_fields r ≡ parts (op_kind r.op) = ap parts (kind_back r.op) in
    rw (spelled, e8, e7, e6, e5, e4, e3, e2, e1, is_op, does_expect, is_expected, is_key, is_length, does_set, is_value, is_value_length) (simp (append_assoc, append-nil))

pub said_written : (old f1 f2 a b c : List ℕ) → f1 ≡ old ++ a → f2 ≡ f1 ++ b → b ≡ c → f2 ≡ old ++ a ++ c
said_written old f1 f2 a b c e1 e2 e = e2 ∙ ap (λ (t : List ℕ). t ++ b) e1 ∙ ap (λ (t : List ℕ). old ++ a ++ t) e
