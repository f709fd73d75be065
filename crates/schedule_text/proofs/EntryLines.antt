-- The lines of a log, of which some are written.
use Rattle.std.proofs.Common.{◌≡◌, ℕ, zero, suc, ◌+◌, List, [], ◌∷◌, ◌++◌, drop, Option, None, Some, ap, ◌∙◌, sym, add-one, append_assoc}
use Rattle.std.specs.Prelude.{slice_get}
use Rattle.std.proofs.lemmas.Option.{same_Some}
use Rattle.craft_base.specs.declared.command.Entry.{Entry}
use Rattle.entry_frames.specs.Logs.{entry_at, viewed_with}
use Rattle.entry_frames.specs.Views.{Viewed}
use Rattle.world_model.specs.Lines.{line_of, entry_words, entry_lines}

-- the lines of the entries behind the first `before` of them are left to write
abbrev pub lines_left : ℕ → List Entry → List ℕ
lines_left before entries = entry_lines (before + 1) (drop before entries)

drop_next : (entries : List Entry) (before : ℕ) (entry : Entry) → slice_get entries before ≡ Some entry → drop before entries ≡ entry ∷ drop (suc before) entries
drop_next [] before entry at = cc
drop_next (e ∷ entries) zero entry at = ap (λ x. x ∷ entries) (same_Some e entry at)
drop_next (e ∷ entries) (suc before) entry at = drop_next entries before entry at

-- what a view shows stands there
shown_at : (found : Option Entry) (k : ℕ) (viewed : Viewed) → Some viewed ≡ viewed_with k found → found ≡ Some viewed.entry
shown_at None k viewed at = cc
shown_at (Some entry) k viewed at = ap (λ v. Some v.entry) (sym (same_Some viewed (record { k = k; entry = entry }) at))

one_more : (entries : List Entry) (before : ℕ) (entry : Entry) → slice_get entries before ≡ Some entry
    → lines_left before entries ≡ line_of (entry_words (before + 1) entry) ++ lines_left (before + 1) entries
one_more entries before entry at = ap (λ es. entry_lines (before + 1) es) (drop_next entries before entry at ∙ ap (λ n. entry ∷ drop n entries) (sym (add-one before)))

-- one line more is written, that of what a view shows
pub one_line : (entries : List Entry) (before k : ℕ) (viewed : Viewed) (old text next : List ℕ)
    → Some viewed ≡ viewed_with k (entry_at entries (before + 1)) → next ≡ text ++ line_of (entry_words (before + 1) viewed.entry)
    → text ++ lines_left before entries ≡ old ++ entry_lines 1 entries → next ++ lines_left (before + 1) entries ≡ old ++ entry_lines 1 entries
one_line entries before k viewed old text next at more so_far =
    let here : entry_at entries (before + 1) ≡ slice_get entries before = ap (entry_at entries) (add-one before) in
    let found : slice_get entries before ≡ Some viewed.entry = shown_at (slice_get entries before) k viewed (at ∙ ap (viewed_with k) here) in
    let line = line_of (entry_words (before + 1) viewed.entry) in
    ap (λ t. t ++ lines_left (before + 1) entries) more
    ∙ append_assoc text line (lines_left (before + 1) entries)
    ∙ ap (λ t. text ++ t) (sym (one_more entries before viewed.entry found))
    ∙ so_far
