-- Each field of a record is a part of it, and so its spelling is one.
use Rattle.std.proofs.Common.{◌≡◌, ℕ, ◌≤◌, Bool, true, false, List, ◌++◌, length, Result, Ok, Err, refl, sym, ap, ◌∙◌, append_assoc, eqb}
use Rattle.std.specs.Prelude.{nat_le}
use Rattle.std.proofs.lemmas.Bool.{eqb-true, leb-true}
use Rattle.std.proofs.lemmas.List.{append-nil}
use Rattle.craft_base.specs.declared.command.Entry.{Entry}
use Rattle.entry_frames.specs.declared.fault.FrameFault.{FrameFault}
use Rattle.entry_frames.specs.declared.record_kind.RecordKind.{RecordKind}
use Rattle.entry_frames.specs.declared.record_kind.RecordKind.TheVariants as kinds
use Rattle.entry_frames.specs.declared.record_view.RecordView.{RecordView}
use Rattle.entry_frames.specs.declared.record_view.RecordView.TheVariants as views
use Rattle.entry_frames.specs.Formats.{Value, U8, U32, U64, Cursor, Taken, ◌>>=◌, number_bytes, spelling, Fits, reading}
use Rattle.entry_frames.specs.Limits.{greatest, longest_value}
use Rattle.entry_frames.specs.Records.{record_byte, record_kind, record_kind_with, record_fields_of, record_fields, added, Add, Whole}
use Rattle.entry_frames.specs.RecordViews.{HasK}
use Rattle.entry_frames.specs.Replies.{member_byte, member_with}
use Rattle.entry_frames.specs.Entries.{entry_fields}
use Rattle.entry_frames.proofs.Entries.{and_right, entry_faithful}
use Rattle.entry_frames.proofs.Formats.{Faithful, owes_less, embed_faithful, embed_reading, embed_spelling, embedded_fits}

pub member_back : (byte : ℕ) → member_byte (member_with byte) ≡ byte
member_back byte = by_test (eqb byte 255) refl
  where
    by_test : (b : Bool) → eqb byte 255 ≡ b → member_byte (member_with byte) ≡ byte
    by_test true e = rw e (sym (eqb-true _ _ e))
    by_test false e = rw e refl

rest_faithful : (k : ℕ) (kind : RecordKind) → Faithful (record_fields_of k kind) (λ r. record_byte (record_kind r) ≡ record_byte kind)
rest_faithful k kinds.Term = λ term term_fits term_counts vote vote_fits vote_counts. ((refl, refl), member_back vote)
rest_faithful k kinds.Add =
    embed_faithful (entry_fields k) (λ e. Unit {0}) added (λ e. Value (Add e)) (λ r. record_byte (record_kind r) ≡ record_byte kinds.Add) (entry_faithful k 0 greatest) (λ e owed. (refl, refl))
rest_faithful k kinds.Cut = λ index index_fits index_counts. (refl, refl)
rest_faithful k kinds.Whole = λ index index_fits index_counts len len_fits len_counts bytes bytes_is. (((refl, refl), bytes_is), refl)
rest_faithful k kinds.Commit = λ index index_fits index_counts. (refl, refl)

pub record_faithful : (k : ℕ) → Faithful (record_fields k) (λ r. Unit {0})
record_faithful k = λ byte byte_fits byte_counts.
    owes_less (record_fields_of k (record_kind_with byte)) (λ r. record_byte (record_kind r) ≡ record_byte (record_kind_with byte)) (λ r. Unit {0} × (record_byte (record_kind r) ≡ byte))
    (λ r o. (tt, o ∙ eqb-true _ _ byte_fits.1)) (rest_faithful k (record_kind_with byte))

-- an entry that is added, and its fault
pub add_read : (k : ℕ) (cursor : Cursor) (t : Taken Entry) → reading (entry_fields k) cursor ≡ Ok t
    → reading (record_fields_of k kinds.Add) cursor ≡ Ok (record { value = Add t.value; cursor = t.cursor })
add_read k cursor t e =
    embed_reading (entry_fields k) added (λ entry. Value (Add entry)) cursor
    ∙ ap (λ (r : Result (Taken Entry) FrameFault). r >>= λ a. reading (Value (Add a.value)) a.cursor) e

pub add_fails : (k : ℕ) (cursor : Cursor) (fault : FrameFault) → reading (entry_fields k) cursor ≡ Err fault → reading (record_fields_of k kinds.Add) cursor ≡ Err fault
add_fails k cursor fault e =
    embed_reading (entry_fields k) added (λ entry. Value (Add entry)) cursor
    ∙ ap (λ (r : Result (Taken Entry) FrameFault). r >>= λ a. reading (Value (Add a.value)) a.cursor) e

-- a record whose fields were written one after the other was written
pub value_written : (index : ℕ) (bytes s0 s1 s2 s3 : List ℕ) → s1 ≡ s0 ++ number_bytes true U8 (record_byte kinds.Whole) ++ number_bytes true U64 index
    → s2 ≡ s1 ++ number_bytes true U32 (length bytes) → s3 ≡ s2 ++ bytes → s3 ≡ s0 ++ spelling (record_fields 0) (Whole index bytes)
value_written index bytes s0 s1 s2 s3 e1 e2 e3 = rw (e3, e2, e1) (simp (append_assoc, append-nil))

added_back : (e : Entry) → Faithful (Value (Add e)) (λ r. added r ≡ e)
added_back e = refl

pub entry_added : (k own : ℕ) (e : Entry) (s0 s1 s2 : List ℕ) → own ≡ k → Fits (record_fields k) (Add e) → s1 ≡ s0 ++ number_bytes true U8 (record_byte kinds.Add)
    → s2 ≡ s1 ++ spelling (entry_fields own) e → s2 ≡ s0 ++ spelling (record_fields k) (Add e)
entry_added k own e s0 s1 s2 same fits e1 e2 =
    let inner = embedded_fits (entry_fields k) added (λ x. Value (Add x)) (Add e) added_back fits.1 in
    let spelled = embed_spelling (entry_fields k) added (λ x. Value (Add x)) (Add e) inner.0 ∙ append-nil (spelling (entry_fields k) e) in
    e2 ∙ ap (λ (n : ℕ). s1 ++ spelling (entry_fields n) e) same ∙ ap (λ (x : List ℕ). x ++ spelling (entry_fields k) e) e1 ∙ append_assoc s0 (number_bytes true U8 (record_byte kinds.Add)) (spelling (entry_fields k) e)
    ∙ ap (λ (x : List ℕ). s0 ++ (number_bytes true U8 (record_byte kinds.Add) ++ x)) (sym spelled)

-- a whole value isn't longer than a value can be
pub value_fits : (k index : ℕ) (bytes : List ℕ) → Fits (record_fields k) (Whole index bytes) → length bytes ≤ longest_value
value_fits k index bytes fits = leb-true _ _ (and_right (nat_le 1 (length bytes)) (nat_le (length bytes) longest_value) fits.1.1.0.1)

-- each record is one of some group
pub some_need : (item : RecordView) → (k : ℕ) × HasK k item
some_need (views.Add entry) = (entry.k, refl)
some_need (views.Term term vote) = (0, tt)
some_need (views.Cut index) = (0, tt)
some_need (views.Whole index bytes) = (0, tt)
some_need (views.Commit index) = (0, tt)
