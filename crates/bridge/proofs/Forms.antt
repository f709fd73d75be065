-- The forms in which members hold an entry, one member after the other: where none is whole, and how many have parts.
use Rattle.std.proofs.Common.{◌≡◌, ℕ, zero, suc, ◌+◌, ◌<◌, ◌≤◌, Bool, true, false, cond, List, [], ◌∷◌, length, Option, None, Some, refl, subst, inl, inr, arith, length-append}
use Rattle.std.specs.List.{count_by, range_with_len}
use Rattle.std.specs.Option.{option_or}
use Rattle.std.proofs.lemmas.Bool.{cases_lt}
use Rattle.std.proofs.lemmas.List.Sums.{sum_by-cons}
use Rattle.craft_base.specs.declared.command.Form.{Form}
use Rattle.craft_base.specs.declared.command.Form.TheVariants as forms
use Rattle.leader_prep.specs.Verdicts.{first_whole, part_in, parts_of, whole_in}

-- a part of the value is held
abbrev pub is_part_form : Option Form → Bool
is_part_form (Some (forms.Part bytes)) = true
is_part_form _ = false

none_of : (found later : Option (List ℕ)) → option_or found later ≡ None → (found ≡ None) × (later ≡ None)
none_of None later e = (refl, e)
none_of (Some bytes) later e = cc

module _ (form : ℕ → Option Form) where
  -- where none is found, no member holds one
  pub none_whole : (a n : ℕ) → first_whole form (range_with_len a n) ≡ None → (member : ℕ) → a ≤ member → member < a + n → whole_in (form member) ≡ None
  none_whole a zero e member from below = absurd (omega (arith, from, below))
  none_whole a (suc n) e member from below =
      let both = none_of (whole_in (form a)) (first_whole form (range_with_len (a + 1) n)) e in
      elim (cases_lt a member) [
        | inl later ↦ none_whole (a + 1) n both.1 member (omega (arith, later)) (omega (arith, below))
        | inr first ↦ let same : a ≡ member = omega (arith, from, first) in subst (λ it. whole_in (form it) ≡ None) same both.0
      ]

  one_part : (member : ℕ) (found : Option Form) → length (part_in member found) ≡ cond (is_part_form found) 1 0
  one_part member None = refl
  one_part member (Some (forms.Whole bytes)) = refl
  one_part member (Some (forms.Part bytes)) = refl

  -- there are as many parts as members that hold one
  pub count_parts : (members : List ℕ) → length (parts_of form members) ≡ count_by (λ member. is_part_form (form member)) members
  count_parts [] = refl
  count_parts (member ∷ others) =
      let long = length-append (part_in member (form member)) (parts_of form others) in
      let rest = count_parts others in
      let here = one_part member (form member) in
      omega (arith, long, rest, here, sum_by-cons (λ it. cond (is_part_form (form it)) 1 0) member others)
