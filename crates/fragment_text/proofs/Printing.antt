-- Lines that are printed one after the other.
use Rattle.std.proofs.Common.{◌≡◌, ℕ, ◌+◌, List, [], ◌∷◌, ◌++◌, map, sym, ap, ◌∙◌, append_assoc, append-nil, arith}
use Rattle.std.specs.List.{concat, range_with_len}
use Rattle.std.proofs.lemmas.List.Folds.{concat-append}
use Rattle.std.proofs.lemmas.List.FromFn.{map-range_with_len_more}

-- one line more
pub lines_more : (line : ℕ → List ℕ) (head : List ℕ) (n : ℕ) (before after : List ℕ) → before ≡ head ++ concat (map line (range_with_len 0 n)) → after ≡ before ++ line n
    → after ≡ head ++ concat (map line (range_with_len 0 (n + 1)))
lines_more line head n before after so_far more =
    let lines = map line (range_with_len 0 n) in
    let all : concat (map line (range_with_len 0 (n + 1))) ≡ concat lines ++ line n =
    ap concat (map-range_with_len_more line 0 n n (omega arith)) ∙ concat-append lines (line n ∷ []) ∙ ap (λ l. concat lines ++ l) (append-nil (line n)) in
    more ∙ ap (λ l. l ++ line n) so_far ∙ append_assoc head (concat lines) (line n) ∙ ap (λ l. head ++ l) (sym all)
