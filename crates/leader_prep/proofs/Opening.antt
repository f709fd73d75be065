-- The parts of a log, index by index.
use Rattle.std.proofs.Common.{◌≡◌, ℕ, zero, suc, ◌+◌, ◌<◌, ◌≤◌, List, [], ◌∷◌, length, drop, Bool, true, false, Option, None, Some, refl, ap, add-one, sym, ◌∙◌, arith}
use Rattle.std.specs.Prelude.{slice_get, if◌then◌else◌, is_some}
use Rattle.std.proofs.lemmas.Bool.{false≢true, true≢false}
use Rattle.std.proofs.lemmas.Option.{none-some}
use Rattle.craft_base.specs.declared.command.Entry.{Entry}
use Rattle.entry_frames.specs.Entries.{is_whole}
use Rattle.entry_frames.specs.Logs.{entry_at, viewed_with}
use Rattle.entry_frames.specs.Views.{Viewed}
use Rattle.leader_prep.specs.Decisions.{first_index, if_part, parts_from}
use Rattle.leader_prep.proofs.Lists.{drop_at_place, drop_past, drop_past_next, same_item}

entry_here : (entries : List Entry) (n : ℕ) → entry_at entries (n + 1) ≡ slice_get entries n
entry_here entries n = ap (entry_at entries) (add-one n)

-- an entry that is a part is the first of those that are left
pub part_next : (entries : List Entry) (n : ℕ) (e : Entry) → if_part (entry_at entries (n + 1)) ≡ Some e
    → parts_from (n + 1) (drop n entries) ≡ record { index = n + 1; entry = e } ∷ parts_from (n + 1 + 1) (drop (n + 1) entries)
part_next entries n e is = at (slice_get entries n) refl (sym (ap if_part (entry_here entries n)) ∙ is) where
  at : (o : Option Entry) → slice_get entries n ≡ o → if_part o ≡ Some e
      → parts_from (n + 1) (drop n entries) ≡ record { index = n + 1; entry = e } ∷ parts_from (n + 1 + 1) (drop (n + 1) entries)
  at None there part = absurd (none-some e part)
  at (Some own) there part = ap (parts_from (n + 1)) (drop_at_place entries n own there) ∙ by (is_whole own.form) part where
    by : (whole : Bool) → (if whole then None else Some own) ≡ Some e
        → (if whole then parts_from (n + 1 + 1) (drop (n + 1) entries) else record { index = n + 1; entry = own } ∷ parts_from (n + 1 + 1) (drop (n + 1) entries))
        ≡ record { index = n + 1; entry = e } ∷ parts_from (n + 1 + 1) (drop (n + 1) entries)
    by true e1 = absurd (none-some e e1)
    by false e1 = ap (λ (x : Entry). record { index = n + 1; entry = x } ∷ parts_from (n + 1 + 1) (drop (n + 1) entries)) (same_item own e e1)

-- any other is none of them
pub whole_next : (entries : List Entry) (n : ℕ) → if_part (entry_at entries (n + 1)) ≡ None
    → parts_from (n + 1) (drop n entries) ≡ parts_from (n + 1 + 1) (drop (n + 1) entries)
whole_next entries n is = at (slice_get entries n) refl (sym (ap if_part (entry_here entries n)) ∙ is) where
  at : (o : Option Entry) → slice_get entries n ≡ o → if_part o ≡ None → parts_from (n + 1) (drop n entries) ≡ parts_from (n + 1 + 1) (drop (n + 1) entries)
  at None there part =
      ap (parts_from (n + 1)) (drop_past entries n there) ∙ sym (ap (parts_from (n + 1 + 1)) (drop_past_next entries n there))
  at (Some own) there part = ap (parts_from (n + 1)) (drop_at_place entries n own there) ∙ by (is_whole own.form) part where
    by : (whole : Bool) → (if whole then None else Some own) ≡ None
        → (if whole then parts_from (n + 1 + 1) (drop (n + 1) entries) else record { index = n + 1; entry = own } ∷ parts_from (n + 1 + 1) (drop (n + 1) entries))
        ≡ parts_from (n + 1 + 1) (drop (n + 1) entries)
    by true e1 = refl
    by false e1 = absurd (none-some own (sym e1))

-- behind the last there is none
pub none_left : (entries : List Entry) (n index : ℕ) → length entries ≤ n → parts_from index (drop n entries) ≡ []
none_left entries n index past = ap (parts_from index) (dropped entries n past) where
  dropped : (xs : List Entry) (m : ℕ) → length xs ≤ m → drop m xs ≡ []
  dropped [] zero h = refl
  dropped [] (suc m) h = refl
  dropped (x ∷ xs) zero h = absurd (omega (arith, h))
  dropped (x ∷ xs) (suc m) h = dropped xs m (omega (arith, h))

-- the first of them lies within the log
pub first_within : (index : ℕ) (entries : List Entry) (c : ℕ) → first_index (parts_from index entries) ≡ Some c → (index ≤ c) × (c < index + length entries)
first_within index [] c e = absurd (none-some c e)
first_within index (x ∷ xs) c e = by (is_whole x.form) e (first_within (index + 1) xs c) where
  by : (whole : Bool) → first_index (if whole then parts_from (index + 1) xs else record { index = index; entry = x } ∷ parts_from (index + 1) xs) ≡ Some c
      → (first_index (parts_from (index + 1) xs) ≡ Some c → (index + 1 ≤ c) × (c < index + 1 + length xs)) → (index ≤ c) × (c < index + length (x ∷ xs))
  by true e1 later = let there = later e1 in (omega (arith, there.0), omega (arith, there.1))
  by false e1 later = let same : index ≡ c = same_item index c e1 in (omega (arith, same), omega (arith, same))

-- ---- as the log is read

pub part_found : (entries : List Entry) (n k : ℕ) (read : Option Viewed) → read ≡ viewed_with k (if_part (entry_at entries (n + 1))) → is_some read ≡ true
    → Some (n + 1) ≡ first_index (parts_from (n + 1) (drop n entries))
part_found entries n k read is some = at (if_part (entry_at entries (n + 1))) refl (ap is_some (sym is) ∙ some) where
  at : (o : Option Entry) → if_part (entry_at entries (n + 1)) ≡ o → is_some (viewed_with k o) ≡ true → Some (n + 1) ≡ first_index (parts_from (n + 1) (drop n entries))
  at None there none = absurd (false≢true none)
  at (Some e) there one = sym (ap first_index (part_next entries n e there))

pub part_absent : (entries : List Entry) (n k : ℕ) (read : Option Viewed) → read ≡ viewed_with k (if_part (entry_at entries (n + 1))) → is_some read ≡ false
    → parts_from (n + 1) (drop n entries) ≡ parts_from (n + 1 + 1) (drop (n + 1) entries)
part_absent entries n k read is none = at (if_part (entry_at entries (n + 1))) refl (ap is_some (sym is) ∙ none) where
  at : (o : Option Entry) → if_part (entry_at entries (n + 1)) ≡ o → is_some (viewed_with k o) ≡ false → parts_from (n + 1) (drop n entries) ≡ parts_from (n + 1 + 1) (drop (n + 1) entries)
  at None there none_there = whole_next entries n there
  at (Some e) there one = absurd (true≢false one)
