-- The bulk of a log, and what changes leave of it.
use Rattle.std.proofs.Common.{◌≡◌, ℕ, zero, suc, ◌+◌, ◌*◌, ◌-◌, ◌≤◌, ◌<◌, List, [], ◌∷◌, ◌++◌, length, take, drop, get_or, refl, ap, ◌∙◌, sym, subst, arith, Bool, true, false}
use Rattle.std.specs.Prelude.{slice_set}
use Rattle.std.proofs.lemmas.List.{take_more, take_rest}
use Rattle.craft_base.specs.declared.command.Entry.{Entry}
use Rattle.entry_frames.specs.Durable.{complete_at, completed}
use Rattle.entry_frames.specs.Operations.{row, op_byte, op_kind_with}
use Rattle.entry_frames.specs.Entries.{entry_fields}
use Rattle.entry_frames.specs.Formats.{Fits, FitsNumber, U32}
use Rattle.entry_frames.specs.Limits.{last_place}
use Rattle.entry_frames.specs.Bulk.{bulk_of}
use Rattle.entry_frames.specs.Stored.{AreEntries}

-- ---- the bulk

pub bulk-append : (log more : List Entry) → bulk_of (log ++ more) ≡ bulk_of log + bulk_of more
bulk-append [] more = omega arith
bulk-append (e ∷ log) more = omega (arith, bulk-append log more)

number_small : (stands : Bool) (in_range : ℕ → Bool) (n : ℕ) → FitsNumber stands U32 in_range n → n < 4294967296
number_small false in_range n fits = omega (arith, fits)
number_small true in_range n fits = fits.0

value_small : (k : ℕ) (e : Entry) → Fits (entry_fields k) e → e.head.vlen < 4294967296
value_small k e fits = number_small (row (op_kind_with (op_byte e.head.op))).sets _ e.head.vlen fits.1.1.1.1.1.1.1.1.1.0

bulk_bound : (k low high : ℕ) (log : List Entry) → AreEntries k low high log → bulk_of log ≤ 4294967296 * length log
bulk_bound k low high [] are = omega arith
bulk_bound k low high (e ∷ log) are = omega (arith, value_small k e are.0, bulk_bound k e.term high log are.3)

bulk_more : (log : List Entry) (i : ℕ) (d : Entry) → i < length log → bulk_of (take (i + 1) log) ≡ bulk_of (take i log) + (get_or log i d).head.vlen
bulk_more log i d within = ap bulk_of (take_more log i d within) ∙ bulk-append (take i log) (get_or log i d ∷ []) ∙ plus_none (bulk_of (take i log)) (get_or log i d).head.vlen
  where
    plus_none : (a b : ℕ) → a + (b + 0) ≡ a + b
    plus_none a b = omega arith

-- what is cut off and what is left
bulk_split : (log : List Entry) (n : ℕ) → bulk_of (take n log) + bulk_of (drop n log) ≡ bulk_of log
bulk_split log zero = omega arith
bulk_split [] (suc n) = refl
bulk_split (e ∷ log) (suc n) = omega (arith, bulk_split log n)

pub bulk_room : (k low high : ℕ) (log : List Entry) → AreEntries k low high log → length log ≤ last_place → bulk_of log < 9000000000000000
bulk_room k low high log are short = omega (arith, bulk_bound k low high log are, short)

-- ---- a sum that goes on by one entry

pub sum_on :
    (log : List Entry) (i : ℕ) (item : Entry) (sum vlen : ℕ) → i < length log → item ≡ get_or log i item → sum ≡ bulk_of (take i log) → vlen ≡ item.head.vlen →
    sum + vlen ≡ bulk_of (take (i + 1) log)
sum_on log i item sum vlen within is s v = omega (arith, bulk_more log i item within, s, v, ap (λ (e : Entry). e.head.vlen) is)

pub sum_small : (log : List Entry) (n : ℕ) → bulk_of log < 18446744073709551616 → bulk_of (take n log) < 18446744073709551616
sum_small log n small = omega (arith, small, bulk_split log n)

pub cut_small : (log : List Entry) (n : ℕ) → bulk_of log < 18446744073709551616 → bulk_of (take (length log - n) (drop n log)) < 18446744073709551616
cut_small log n small = subst (λ l. bulk_of l < 18446744073709551616) (sym (take_rest log n)) (omega (arith, small, bulk_split log n))

pub cut_bulk : (log : List Entry) (n bulk sum : ℕ) → bulk ≡ bulk_of log → sum ≡ bulk_of (take (length log - n) (drop n log)) → (sum ≤ bulk) × (bulk - sum ≡ bulk_of (take n log))
cut_bulk log n bulk sum whole is =
    let rest : sum ≡ bulk_of (drop n log) = is ∙ ap bulk_of (take_rest log n) in
    (omega (arith, whole, rest, bulk_split log n), omega (arith, whole, rest, bulk_split log n))

-- ---- a value at its place

pub complete_set : (log : List Entry) (position : ℕ) (bytes : List ℕ) (d : Entry) → position < length log → slice_set log position (completed (get_or log position d) bytes) ≡ complete_at log position bytes
complete_set [] position bytes d within = absurd (omega (arith, within))
complete_set (e ∷ log) zero bytes d within = refl
complete_set (e ∷ log) (suc position) bytes d within = ap (λ (l : List Entry). e ∷ l) (complete_set log position bytes d (omega (arith, within)))

pub complete_none : (log : List Entry) (position : ℕ) (bytes : List ℕ) → length log ≤ position → log ≡ complete_at log position bytes
complete_none [] position bytes past = refl
complete_none (e ∷ log) zero bytes past = absurd (omega (arith, past))
complete_none (e ∷ log) (suc position) bytes past = ap (λ (l : List Entry). e ∷ l) (complete_none log position bytes (omega (arith, past)))
