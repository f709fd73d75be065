-- Each field of an entry is a part of it, and so its spelling is one.
use Rattle.std.proofs.Common.{◌≡◌, ℕ, ◌≤◌, Bool, true, false, ◌&&◌, List, [], ◌++◌, length, Result, Ok, refl, sym, ap, ◌∙◌, append_assoc, arith}
use Rattle.std.specs.Prelude.{nat_le}
use Rattle.std.proofs.lemmas.Bool.{eqb-true, le-leb}
use Rattle.std.proofs.lemmas.List.{append-nil}
use Rattle.craft_base.specs.declared.command.Entry.{Entry}
use Rattle.craft_base.specs.declared.command.Op.{Op}
use Rattle.craft_base.specs.declared.command.Op.TheVariants as ops
use Rattle.entry_frames.specs.declared.fault.FrameFault.{FrameFault}
use Rattle.entry_frames.specs.declared.op_kind.OpKind.{OpKind}
use Rattle.entry_frames.specs.declared.op_kind.OpKind.TheVariants.{Noop, Put, PutIf, Del, Get}
use Rattle.entry_frames.specs.declared.tag.Tag.{Tag}
use Rattle.entry_frames.specs.declared.tag.Tag.TheVariants.{Whole, Part}
use Rattle.entry_frames.specs.Entries.{tag_byte, tag_with, is_tag_byte, tag_of, form_bytes, form_with, is_op_byte_under, entry_fields_of, entry_fields_in, entry_fields}
use Rattle.entry_frames.specs.Formats.{AreBytes, U8, U32, U64, number_bytes, FitsNumber, Fits, Cursor, Taken, ◌>>=◌, within, spelling, number_at, reading}
use Rattle.entry_frames.specs.Limits.{greatest}
use Rattle.entry_frames.specs.Operations.{row, op_kind, op_kind_with, is_op_byte, op_byte, expected_version, op_with}
use Rattle.entry_frames.specs.Views.{IsK, Viewed, IsInRange}
use Rattle.entry_frames.proofs.Formats.{Faithful, ReadAs, reads_spelling}

tag_again : (tag : Tag) (bytes : List ℕ) → tag_of (form_with tag bytes) ≡ tag
tag_again Whole bytes = refl
tag_again Part bytes = refl

bytes_back : (tag : Tag) (bytes : List ℕ) → form_bytes (form_with tag bytes) ≡ bytes
bytes_back Whole bytes = refl
bytes_back Part bytes = refl

pub kind_again : (kind : OpKind) (expected : ℕ) → op_kind (op_with kind expected) ≡ kind
kind_again Noop expected = refl
kind_again Put expected = refl
kind_again PutIf expected = refl
kind_again Del expected = refl
kind_again Get expected = refl

pub expected_again : (kind : OpKind) (in_range : ℕ → Bool) (expected : ℕ) → FitsNumber (row kind).expects U64 in_range expected → expected_version (op_with kind expected) ≡ expected
expected_again Noop in_range expected fits = sym fits
expected_again Put in_range expected fits = sym fits
expected_again PutIf in_range expected fits = refl
expected_again Del in_range expected fits = sym fits
expected_again Get in_range expected fits = sym fits

pub and_left : (a b : Bool) → (a && b) ≡ true → a ≡ true
and_left true b e = refl
and_left false b e = absurd cc

pub and_right : (a b : Bool) → (a && b) ≡ true → b ≡ true
and_right true b e = e
and_right false b e = absurd cc

tag_back : (byte : ℕ) (bytes : List ℕ) → is_tag_byte byte ≡ true → tag_byte (tag_of (form_with (tag_with byte) bytes)) ≡ byte
tag_back byte bytes e = ap tag_byte (tag_again (tag_with byte) bytes) ∙ eqb-true _ _ e

pub op_back : (byte expected : ℕ) → is_op_byte byte ≡ true → (row (op_kind (op_with (op_kind_with byte) expected))).byte ≡ byte
op_back byte expected e = ap (λ kind. (row kind).byte) (kind_again (op_kind_with byte) expected) ∙ eqb-true _ _ e

pub entry_faithful : (k low high : ℕ) → Faithful (entry_fields_in k low high) (λ e. Unit {0})
entry_faithful k low high =
    λ tag tag_fits tag_counts op op_fits op_counts term term_fits term_counts between client client_fits client_counts seq seq_fits seq_counts expected expected_fits expected_counts
    key_length key_length_fits key_length_counts key key_is vlen vlen_fits vlen_counts bytes bytes_is. (
      (((((((((tt, tag_back tag bytes tag_fits.1), op_back op expected (and_left _ _ op_fits.1)), refl), refl), refl), expected_again (op_kind_with op) _ expected expected_fits), key_is), refl), refl),
      bytes_back (tag_with tag) bytes,
    )

within_any : (n : ℕ) → within 1 greatest n ≡ true → within 0 greatest n ≡ true
within_any n e = rw (le-leb 0 n (omega arith)) (and_right (nat_le 1 n) (nat_le n greatest) e)

-- an entry with a term between two others is an entry
pub fits_any : (k low high : ℕ) (e : Entry) → Fits (entry_fields_in k low high) e → Fits (entry_fields k) e
fits_any k low high e fits =
    (fits.0, (fits.1.0, (fits.1.1.0, (within_any e.term fits.1.1.0.1, fits.1.1.1.1))))

-- what is read of an entry
pub entry_read : (k low high : ℕ) (cursor : Cursor) (taken : Taken Entry) → AreBytes cursor.rest → reading (entry_fields_in k low high) cursor ≡ Ok taken
    → ReadAs (entry_fields_in k low high) cursor taken
entry_read k low high cursor taken are e = (reads_spelling (entry_fields_in k low high) (λ x. Unit {0}) cursor taken are (entry_faithful k low high) e).1

-- the tag and the operation, and then what depends on them
pub entry_begins : (k low high : ℕ) (cursor behind_tag behind_op : Cursor) (tag : Tag) (kind : OpKind) (tag_read op_read : ℕ) (r : Result (Taken Entry) FrameFault)
    → tag ≡ tag_with tag_read → number_at true U8 is_tag_byte cursor ≡ Ok (record { value = tag_read; cursor = behind_tag })
    → kind ≡ op_kind_with op_read → number_at true U8 (is_op_byte_under tag) behind_tag ≡ Ok (record { value = op_read; cursor = behind_op })
    → reading (entry_fields_of k low high tag kind) behind_op ≡ r → reading (entry_fields_in k low high) cursor ≡ r
entry_begins k low high cursor behind_tag behind_op tag kind tag_read op_read r tag_is tag_at kind_is op_at rest =
    ap (λ (t : Result (Taken ℕ) FrameFault). t >>= λ n. number_at true U8 (is_op_byte_under (tag_with n.value)) n.cursor >>= λ m. reading (entry_fields_of k low high (tag_with n.value) (op_kind_with m.value)) m.cursor) tag_at
    ∙ ap (λ (t : Tag). number_at true U8 (is_op_byte_under t) behind_tag >>= λ m. reading (entry_fields_of k low high t (op_kind_with m.value)) m.cursor) (sym tag_is)
    ∙ ap (λ (t : Result (Taken ℕ) FrameFault). t >>= λ m. reading (entry_fields_of k low high tag (op_kind_with m.value)) m.cursor) op_at
    ∙ ap (λ (other : OpKind). reading (entry_fields_of k low high tag other) behind_op) (sym kind_is)
    ∙ rest

-- an entry that was read meets the ranges
pub read_in_range : (k low high : ℕ) (cursor : Cursor) (taken : Taken Entry) → IsK k → AreBytes cursor.rest → reading (entry_fields_in k low high) cursor ≡ Ok taken
    → IsInRange (record { k = k; entry = taken.value })
read_in_range k low high cursor taken is_k are e =
    record { k = is_k; fits = fits_any k low high taken.value (entry_read k low high cursor taken are e).fits }

-- a key has at most 255 bytes
pub key_fits : (viewed : Viewed) → IsInRange viewed → length viewed.entry.head.key ≤ 255
key_fits viewed is = omega (arith, is.fits.1.1.1.1.1.1.1.0.0)

pub kind_back : (op : Op) → op_kind_with (op_byte op) ≡ op_kind op
kind_back ops.Noop = refl
kind_back ops.Put = refl
kind_back (ops.PutIf version) = refl
kind_back ops.Del = refl
kind_back ops.Get = refl

-- the fields of an entry, one after the other
spelled_parts : (k : ℕ) (e : Entry) → spelling (entry_fields k) e
    ≡ number_bytes true U8 (tag_byte (tag_of e.form)) ++ (number_bytes true U8 (op_byte e.head.op) ++ (number_bytes true U64 e.term ++ (number_bytes true U64 e.head.client
    ++ (number_bytes true U64 e.head.seq ++ (number_bytes (row (op_kind e.head.op)).expects U64 (expected_version e.head.op) ++ (number_bytes true U8 (length e.head.key) ++ (e.head.key
    ++ (number_bytes (row (op_kind e.head.op)).sets U32 e.head.vlen ++ (form_bytes e.form ++ [])))))))))
spelled_parts k e =
    ap (λ (kind : OpKind). number_bytes true U8 (tag_byte (tag_of e.form)) ++ (number_bytes true U8 (op_byte e.head.op) ++ (number_bytes true U64 e.term ++ (number_bytes true U64 e.head.client
    ++ (number_bytes true U64 e.head.seq ++ (number_bytes (row kind).expects U64 (expected_version e.head.op) ++ (number_bytes true U8 (length e.head.key) ++ (e.head.key
    ++ (number_bytes (row kind).sets U32 e.head.vlen ++ (form_bytes e.form ++ [])))))))))) (kind_back e.head.op)

-- an entry whose fields were written one after the other was written
pub entry_written : (k : ℕ) (e : Entry) (tag op term client seq expected key_length vlen : ℕ) (key bytes : List ℕ) (expects sets : Bool) (s0 s1 s2 s3 s4 s5 s6 s7 s8 s9 s10 : List ℕ)
    → tag ≡ tag_byte (tag_of e.form) → op ≡ op_byte e.head.op → term ≡ e.term → client ≡ e.head.client → seq ≡ e.head.seq
    → expects ≡ (row (op_kind e.head.op)).expects → expected ≡ expected_version e.head.op → key ≡ e.head.key → key_length ≡ length e.head.key
    → sets ≡ (row (op_kind e.head.op)).sets → vlen ≡ e.head.vlen → bytes ≡ form_bytes e.form
    → s1 ≡ s0 ++ number_bytes true U8 tag → s2 ≡ s1 ++ number_bytes true U8 op → s3 ≡ s2 ++ number_bytes true U64 term → s4 ≡ s3 ++ number_bytes true U64 client
    → s5 ≡ s4 ++ number_bytes true U64 seq → s6 ≡ s5 ++ number_bytes expects U64 expected → s7 ≡ s6 ++ number_bytes true U8 key_length → s8 ≡ s7 ++ key
    → s9 ≡ s8 ++ number_bytes sets U32 vlen → s10 ≡ s9 ++ bytes
    → s10 ≡ s0 ++ spelling (entry_fields k) e
entry_written k e tag op term client seq expected key_length vlen key bytes expects sets s0 s1 s2 s3 s4 s5 s6 s7 s8 s9 s10
    is_tag is_op is_term is_client is_seq does_expect is_expected is_key is_length does_set is_vlen is_bytes e1 e2 e3 e4 e5 e6 e7 e8 e9 e10 =
    rw (spelled_parts, e10, e9, e8, e7, e6, e5, e4, e3, e2, e1, is_tag, is_op, is_term, is_client, is_seq, does_expect, is_expected, is_key, is_length, does_set, is_vlen, is_bytes) (simp (append_assoc, append-nil))
