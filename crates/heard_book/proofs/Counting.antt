-- The flags that are kept are counted as the definitions count members, and read as they read them.
use Rattle.std.proofs.Common.{◌≡◌, ℕ, ◌+◌, ◌≤◌, List, [], ◌∷◌, Bool, true, false, cond, map, refl, ap, ◌∙◌, sym, take}
use Rattle.std.specs.Prelude.{Option, unwrap_or, if◌then◌else◌}
use Rattle.std.specs.List.{count_by, fold, range_with_len}
use Rattle.std.proofs.lemmas.List.FromFn.{take-map-range_with_len}
use Rattle.craft_base.specs.Shape.{Shape, members_of}
use Rattle.craft_base.specs.Knowledge.{Heard, has_matched, least_refused, match_index, next_index}
use Rattle.heard_book.specs.Kept.{of_each}

fold-map : (g : ℕ → Bool → ℕ) (p : ℕ → Bool) (a : ℕ) (xs : List ℕ) → fold g a (map p xs) ≡ fold (λ b x. g b (p x)) a xs
fold-map g p a [] = refl
fold-map g p a (x ∷ xs) = fold-map g p (g a (p x)) xs

count_by-map : (p : ℕ → Bool) (xs : List ℕ) → count_by (λ answer. answer) (map p xs) ≡ count_by p xs
count_by-map p xs = fold-map (λ n answer. n + cond answer 1 0) p 0 xs

pub count_each : (p : ℕ → Bool) (flags : List Bool) (kept shape : Shape) → flags ≡ of_each p → kept ≡ shape → members_of kept ≤ 15
    → count_by (λ flag. flag) (take (members_of kept) flags) ≡ count_by p (range_with_len 0 (members_of shape))
count_each p flags kept shape is same few =
    ap (λ (l : List Bool). count_by (λ flag. flag) (take (members_of kept) l)) is
    ∙ ap (λ (l : List Bool). count_by (λ flag. flag) l) (take-map-range_with_len p 0 15 (members_of kept) few)
    ∙ count_by-map p (range_with_len 0 (members_of kept)) ∙ ap (λ k. count_by p (range_with_len 0 (members_of k))) same

-- where a match was heard
pub next_matched : (member : ℕ) (heard : List Heard) (first match_at : ℕ) → has_matched member heard ≡ true → match_at ≡ match_index member heard
    → match_at + 1 ≡ next_index member heard first
next_matched member heard first match_at hit is =
    ap (λ (n : ℕ). n + 1) is ∙ sym (ap (λ is. if is then match_index member heard + 1 else unwrap_or (least_refused member heard) first) hit)

-- where none was
pub next_unmatched : (member : ℕ) (heard : List Heard) (first next before : ℕ) (least : Option ℕ) → has_matched member heard ≡ false → least ≡ least_refused member heard
    → before ≡ first → next ≡ unwrap_or least before → next ≡ next_index member heard first
next_unmatched member heard first next before least none is begins named =
    named ∙ ap (λ o. unwrap_or o before) is ∙ ap (λ (n : ℕ). unwrap_or (least_refused member heard) n) begins
    ∙ sym (ap (λ is. if is then match_index member heard + 1 else unwrap_or (least_refused member heard) first) none)
