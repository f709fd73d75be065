-- A batch is the first few of the entries of which it is taken.
use Rattle.std.proofs.Common.{◌≡◌, ℕ, zero, suc, ◌+◌, ◌-◌, ◌<◌, ◌≤◌, nat_le, List, [], ◌∷◌, length, take, drop, slice_get, refl, sym, ap, ◌∙◌, arith, le_trans}
use Rattle.std.proofs.lemmas.Bool.{cond_both}
use Rattle.coded_append.proofs.Places.{entry_behind}
use Rattle.coded_append.specs.Batches.{batch_of, before_part, fitting, whole_batch}
use Rattle.craft_base.specs.declared.command.Entry.{Entry}
use Rattle.entry_frames.specs.Entries.{is_whole}
use Rattle.entry_frames.specs.Limits.{most_entries, most_entry_bytes}
use Rattle.entry_frames.specs.Logs.{entry_at}
use Rattle.entry_frames.specs.MessageFields.{entry_size}

-- a batch is the first few of the entries
pub record IsFirst (entries batch : List Entry) : Type 0 where
  pub fits : length batch ≤ length entries
  pub is : batch ≡ take (length batch) entries

first_none : (entries : List Entry) → IsFirst entries []
first_none entries = record { fits = omega arith; is = refl }

first_more : (entry : Entry) (entries batch : List Entry) → IsFirst entries batch → IsFirst (entry ∷ entries) (entry ∷ batch)
first_more entry entries batch first =
    let fits : length batch ≤ length entries = first.fits in
    record { fits = omega (arith, fits); is = ap (λ rest. entry ∷ rest) first.is }

take_less : (m n : ℕ) (entries : List Entry) → m ≤ n → take m (take n entries) ≡ take m entries
take_less zero n entries le = refl
take_less (suc m) zero entries le = absurd (omega (arith, le))
take_less (suc m) (suc n) [] le = refl
take_less (suc m) (suc n) (entry ∷ entries) le = ap (λ rest. entry ∷ rest) (take_less m n entries (omega (arith, le)))

pub first_trans : (entries front batch : List Entry) → IsFirst entries front → IsFirst front batch → IsFirst entries batch
first_trans entries front batch one other = record {
  fits = le_trans other.fits one.fits;
  is = other.is ∙ ap (take (length batch)) one.is ∙ take_less (length batch) (length front) entries other.fits;
}

fitting_first : (k places room : ℕ) (entries : List Entry) → IsFirst entries (fitting k places room entries)
fitting_first k zero room entries = first_none entries
fitting_first k (suc places) room [] = first_none []
fitting_first k (suc places) room (entry ∷ entries) =
    let rest : List Entry = fitting k places (room - entry_size k entry) entries in
    cond_both (nat_le (entry_size k entry) room) (entry ∷ rest) [] (IsFirst (entry ∷ entries))
    (λ fits. first_more entry entries rest (fitting_first k places (room - entry_size k entry) entries)) (λ full. first_none (entry ∷ entries))

pub before_part_first : (entries : List Entry) → IsFirst entries (before_part entries)
before_part_first [] = first_none []
before_part_first (entry ∷ entries) =
    cond_both (is_whole entry.form) (entry ∷ before_part entries) [] (IsFirst (entry ∷ entries))
    (λ whole. first_more entry entries (before_part entries) (before_part_first entries)) (λ part. first_none (entry ∷ entries))

pub batch_first : (k : ℕ) (entries : List Entry) → IsFirst entries (batch_of k entries)
batch_first k entries = fitting_first k most_entries most_entry_bytes entries

pub whole_batch_first : (k : ℕ) (log : List Entry) (start : ℕ) → IsFirst (drop (start - 1) log) (whole_batch k log start)
whole_batch_first k log start =
    let entries : List Entry = drop (start - 1) log in
    first_trans entries (before_part entries) (whole_batch k log start) (before_part_first entries) (batch_first k (before_part entries))

get_first : (n : ℕ) (entries : List Entry) (place : ℕ) → place < n → slice_get (take n entries) place ≡ slice_get entries place
get_first zero entries place lt = absurd (omega (arith, lt))
get_first (suc n) [] place lt = refl
get_first (suc n) (entry ∷ entries) zero lt = refl
get_first (suc n) (entry ∷ entries) (suc place) lt = get_first n entries place (omega (arith, lt))

-- a batch from an index on has the entries of the log that stand there
pub batch_entry :
    (log batch : List Entry) (start place : ℕ) → 0 < start → IsFirst (drop (start - 1) log) batch → place < length batch →
    entry_at log (start + place) ≡ slice_get batch place
batch_entry log batch start place from first lt =
    entry_behind log (start - 1) place (start + place) (omega (arith, from))
    ∙ sym (ap (λ entries. slice_get entries place) first.is ∙ get_first (length batch) (drop (start - 1) log) place lt)
