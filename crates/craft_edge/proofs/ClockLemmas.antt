-- How a clock in memory goes from reading to reading.
use Rattle.std.proofs.Common.{◌≡◌, ℕ, ◌+◌, ◌<◌, ◌≤◌, List, ◌∷◌, length, get_or, drop, refl, sym, ap, ◌∙◌, subst, add-one, drop-cons}
use Rattle.std.proofs.lemmas.List.{drop_all}
use Rattle.std.specs.Prelude.{Some}
use Rattle.craft_edge.specs.MemClock.{ClockState, readings_of}
use Rattle.craft_edge.specs.Readings.{ShowsFirst, after_reading}

-- the readings from a place on
abbrev pub readings_from : List ℕ → ℕ → List ℕ
readings_from xs at = get_or xs at 0 ∷ drop (at + 1) xs

-- where there is a further one, it comes next
pub after_reading-next : (xs : List ℕ) (at : ℕ) → at + 1 < length xs → readings_from xs (at + 1) ≡ after_reading (readings_from xs at)
after_reading-next xs at more =
    let rest : drop (at + 1) xs ≡ readings_from xs (at + 1) = rw (add-one (at + 1)) (drop-cons xs (at + 1) 0 more) in
    sym (ap (λ later. after_reading (get_or xs at 0 ∷ later)) rest)

-- the last one repeats
pub after_reading-last : (xs : List ℕ) (at : ℕ) → length xs ≤ at + 1 → readings_from xs at ≡ after_reading (readings_from xs at)
after_reading-last xs at end =
    subst (λ later. get_or xs at 0 ∷ later ≡ after_reading (get_or xs at 0 ∷ later)) (sym (drop_all (at + 1) xs end)) refl

-- A clock at place a of its readings shows the one there, and goes to the place b.
pub shows_first : (clock : ClockState) (xs ys : List ℕ) (a b reading : ℕ) → readings_from xs a ≡ readings_of clock → reading ≡ get_or xs a 0
    → readings_from ys b ≡ after_reading (readings_from xs a) → ShowsFirst (Some (readings_of clock)) (Some (readings_from ys b)) reading
shows_first clock xs ys a b reading is shown goes_on =
    ((drop (a + 1) xs, sym is ∙ ap (λ x. x ∷ drop (a + 1) xs) (sym shown)), ap (λ r. Some r) (goes_on ∙ ap after_reading is))
