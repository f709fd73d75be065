-- The last entry of a leader, sent to those who have all before it, one member after the other.
use Rattle.std.proofs.Common.{◌≡◌, ℕ, ◌+◌, List, [], ◌∷◌, ◌++◌, not, map, filter, ap, ◌∙◌, arith, add-one, append_assoc, append-nil, sym, true, false, Bool}
use Rattle.std.specs.Prelude.{◌==◌, cond}
use Rattle.std.specs.List.{range_with_len}
use Rattle.std.proofs.lemmas.List.{map-append}
use Rattle.std.proofs.lemmas.List.Elements.{filter-append}
use Rattle.commit_rules.proofs.Rows.{row_more}
use Rattle.entry_frames.specs.declared.message.Message.{Message}

module _ (message : ℕ → Message) (waits : ℕ → Bool) (me : ℕ) where
  -- those of the members that wait
  abbrev pub sent_among : List ℕ → List Message
  sent_among members = map message (filter waits members)

  -- a message to each of the first members that waits but the member itself
  abbrev pub sent_below : (members : ℕ) → List Message
  sent_below members = sent_among (filter (λ member. not (member == me)) (range_with_len 0 members))

  both_among : (members more : List ℕ) → sent_among (members ++ more) ≡ sent_among members ++ sent_among more
  both_among members more = ap (map message) (filter-append waits members more) ∙ map-append message (filter waits members) (filter waits more)

  one_below : (number : ℕ) (is_me : Bool) → (number == me) ≡ is_me → sent_below (number + 1) ≡ sent_below number ++ sent_among (cond {A = List ℕ} (not is_me) (number ∷ []) [])
  one_below number is_me e =
      ap (λ ks. sent_among (filter (λ member. not (member == me)) ks)) (rw add-one (row_more 0 number number (omega arith)))
      ∙ ap sent_among (filter-append (λ member. not (member == me)) (range_with_len 0 number) (number ∷ []))
      ∙ both_among (filter (λ member. not (member == me)) (range_with_len 0 number)) (filter (λ member. not (member == me)) (number ∷ []))
      ∙ ap (λ (b : Bool). sent_below number ++ sent_among (cond {A = List ℕ} (not b) (number ∷ []) [])) e

  pub other_below : (number : ℕ) (first before after : List Message) → (number == me) ≡ false → before ≡ first ++ sent_below number → after ≡ before ++ sent_among (number ∷ []) →
      after ≡ first ++ sent_below (number + 1)
  other_below number first before after other so_far more =
      more ∙ ap (λ ms. ms ++ sent_among (number ∷ [])) so_far ∙ append_assoc first (sent_below number) (sent_among (number ∷ []))
      ∙ ap (λ ms. first ++ ms) (sym (one_below number false other))

  pub itself_below : (number : ℕ) (first before : List Message) → (number == me) ≡ true → before ≡ first ++ sent_below number → before ≡ first ++ sent_below (number + 1)
  itself_below number first before own so_far =
      so_far ∙ ap (λ ms. first ++ ms) (sym (append-nil (sent_below number)) ∙ sym (one_below number true own))
