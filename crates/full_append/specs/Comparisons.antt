-- A log beside the entries of a message: what is the same in both, and what of it becomes whole.
use Rattle.std.specs.Prelude.{◌≡◌, ℕ, ◌+◌, ◌*◌, ◌^◌, List, [], ◌∷◌, ◌++◌, map, Bool, true, not, ◌&&◌, ◌==◌, if◌then◌else◌, Option, None, Some}
use Rattle.craft_base.specs.declared.command.Entry.{Entry}
use Rattle.craft_base.specs.declared.command.Form.TheVariants as forms
use Rattle.entry_frames.specs.Entries.{is_whole, form_bytes}
use Rattle.entry_frames.specs.Records.{first_number}
use Rattle.full_append.specs.declared.compared.Comparison.{Comparison}
use Rattle.leader_prep.specs.Verdicts.{is_same_head}
use Rattle.world_model.specs.Rules.Append.{common, completion, mask_of}

-- ---- one entry

-- whether the log holds a part of the entry and the message has its value
abbrev pub completes : Entry → Entry → Bool
completes own entry = (not (is_whole own.form) && is_whole entry.form) && is_same_head own.head entry.head

-- the log's entry, and after it was made whole
abbrev pub entry_after : Entry → Entry → Entry
entry_after own entry = if completes own entry then record own { form = forms.Whole (form_bytes entry.form) } else own

-- ---- entries side by side

-- what the log holds from there on as far as the message tells it, once it was taken: what it has is kept up to the first that has
-- another term, and may become whole
abbrev pub entries_after : List Entry → List Entry → List Entry
entries_after [] entries = entries
entries_after (own ∷ log) [] = []
entries_after (own ∷ log) (entry ∷ entries) =
    if own.term == entry.term then entry_after own entry ∷ entries_after log entries else entry ∷ entries

-- the indexes of those that become whole, where the first has that index
abbrev pub whole_indexes : ℕ → List Entry → List Entry → List ℕ
whole_indexes index (own ∷ log) (entry ∷ entries) =
    if own.term == entry.term then map first_number (completion index own entry) ++ whole_indexes (index + 1) log entries else []
whole_indexes index _ _ = []

-- ---- the first entries of a message

-- what was found by comparing them, the first of which has the index `first`, with the log from there on
pub record Compares (log entries : List Entry) (first : ℕ) (found : Comparison) : Type 0 where
  pub same : found.same ≡ common log entries
  pub wholes : found.wholes.items ≡ whole_indexes first log entries
  pub mask : found.mask ≡ mask_of (entries_after log entries)

-- the log's entry where all before it are the same and it has the same term
abbrev pub shared : Bool → Option Entry → Entry → Option Entry
shared true (Some own) entry = if own.term == entry.term then Some own else None
shared _ _ _ = None

-- what one entry more adds to what was found
abbrev pub Notes : ℕ → ℕ → Option Entry → Entry → Comparison → Comparison → Type 0
Notes n index (Some own) entry old new =
    (new.same ≡ old.same + 1)
    × (new.wholes.items ≡ old.wholes.items ++ map first_number (completion index own entry))
    × (new.mask ≡ old.mask + (if is_whole (entry_after own entry).form then 1 else 0) * 2 ^ n)
Notes n index None entry old new =
    (new.same ≡ old.same)
    × (new.wholes.items ≡ old.wholes.items)
    × (new.mask ≡ old.mask + (if is_whole entry.form then 1 else 0) * 2 ^ n)
