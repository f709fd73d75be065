-- What is kept by an admitted match or refusal.
use Rattle.std.proofs.Common.{◌≡◌, ℕ, ◌+◌, ◌-◌, ◌<◌, List, ◌∷◌, Bool, true, false, get_or, refl, ap, ◌∙◌, sym, arith, max}
use Rattle.std.specs.Prelude.{◌==◌, ◌&&◌, ◌||◌, Option, Some, None, slice_set, nat_le, nat_lt, if◌then◌else◌}
use Rattle.std.specs.Int.{bit_at}
use Rattle.std.proofs.lemmas.Bool.{eq-eqb}
use Rattle.craft_base.specs.Knowledge.{Heard, From, Told, Matched, Refused, told_by, is_admitted, is_matched, is_whole_in, has_matched, is_held_whole, least_of, least_refused, match_index, matched_to, refused_next}
use Rattle.heard_book.specs.declared.window.Window.{Window}
use Rattle.heard_book.specs.Kept.{of_each, is_noted}
use Rattle.heard_book.proofs.Arrays.{each_set, each_at}

-- a message tells of its sender where it is admitted, and of nobody else
told_by_sender : (sender last : ℕ) (told : Told) → told_by sender (From sender last told) ≡ (if is_admitted last told then Some told else None)
told_by_sender sender last told = ap (λ hit. if hit && is_admitted last told then Some told else None) (eq-eqb sender sender refl)

told_by_other : (sender last member : ℕ) (told : Told) → (sender == member) ≡ false → told_by member (From sender last told) ≡ None
told_by_other sender last member told other = ap (λ hit. if hit && is_admitted last told then Some told else None) other

pub told_by_none : (sender last : ℕ) (told : Told) → is_admitted last told ≡ false → (member : ℕ) → told_by member (From sender last told) ≡ None
told_by_none sender last told out member = ap (λ admitted. if (sender == member) && admitted then Some told else None) out ∙ nobody (sender == member) where
  nobody : (hit : Bool) → (if hit && false then Some told else None) ≡ None
  nobody true = refl
  nobody false = refl

pub refused_set : (sender last next : ℕ) (heard : List Heard) (refused : List (Option ℕ)) (place : ℕ) (least : Option ℕ) → place ≡ sender → sender < 15
    → refused ≡ of_each (λ member. least_refused member heard) → least ≡ least_of (if nat_le next (last + 1) then Some next else None) (get_or refused place None)
    → slice_set refused place least ≡ of_each (λ member. least_refused member (From sender last (Refused next) ∷ heard))
refused_set sender last next heard refused place least at small is new =
    each_set (λ member. least_refused member heard) (λ member. least_refused member (From sender last (Refused next) ∷ heard)) refused sender place least is at small
    (new ∙ ap (λ (p : ℕ). least_of (if nat_le next (last + 1) then Some next else None) (get_or refused p None)) at
    ∙ ap (λ before. least_of (if nat_le next (last + 1) then Some next else None) before) (each_at (λ member. least_refused member heard) refused sender None is small)
    ∙ sym (ap (λ told. least_of (refused_next told) (least_refused sender heard)) (told_by_sender sender last (Refused next)) ∙ ap (λ n. least_of n (least_refused sender heard)) (named (nat_le next (last + 1)))))
    (λ member other. sym (ap (λ told. least_of (refused_next told) (least_refused member heard)) (told_by_other sender last member (Refused next) other))) where
      named : (admitted : Bool) → refused_next (if admitted then Some (Refused next) else None) ≡ (if admitted then Some next else None)
      named true = refl
      named false = refl

told_by_it : (sender last : ℕ) (told : Told) → is_admitted last told ≡ true → told_by sender (From sender last told) ≡ Some told
told_by_it sender last told admitted = told_by_sender sender last told ∙ ap (λ is. if is then Some told else None) admitted

pub matches_set : (sender last prev count mask : ℕ) (heard : List Heard) (matches : List ℕ) (place end d : ℕ) → place ≡ sender → sender < 15
    → nat_le (prev + count) last ≡ true → end ≡ prev + count → matches ≡ of_each (λ member. match_index member heard)
    → slice_set matches place (max (get_or matches place d) end) ≡ of_each (λ member. match_index member (From sender last (Matched prev count mask) ∷ heard))
matches_set sender last prev count mask heard matches place end d at small admitted ends is =
    let before : get_or matches place d ≡ match_index sender heard = ap (λ (p : ℕ). get_or matches p d) at ∙ each_at (λ member. match_index member heard) matches sender d is small in
    each_set (λ member. match_index member heard) (λ member. match_index member (From sender last (Matched prev count mask) ∷ heard)) matches sender place (max (get_or matches place d) end) is at small
    (turned (get_or matches place d) end (match_index sender heard) (prev + count) before ends
    ∙ sym (ap (λ told. max (matched_to told) (match_index sender heard)) (told_by_it sender last (Matched prev count mask) admitted)))
    (λ member other. sym (ap (λ told. max (matched_to told) (match_index member heard)) (told_by_other sender last member (Matched prev count mask) other) ∙ zero_max (match_index member heard))) where
      turned : (a b x y : ℕ) → a ≡ x → b ≡ y → max a b ≡ max y x
      turned a b x y e f = omega arith

      zero_max : (n : ℕ) → max 0 n ≡ n
      zero_max n = omega arith

pub matched_set : (sender last prev count mask : ℕ) (heard : List Heard) (matched : List Bool) (place : ℕ) → place ≡ sender → sender < 15
    → nat_le (prev + count) last ≡ true → matched ≡ of_each (λ member. has_matched member heard)
    → slice_set matched place true ≡ of_each (λ member. has_matched member (From sender last (Matched prev count mask) ∷ heard))
matched_set sender last prev count mask heard matched place at small admitted is =
    each_set (λ member. has_matched member heard) (λ member. has_matched member (From sender last (Matched prev count mask) ∷ heard)) matched sender place true is at small
    (sym (ap (λ told. is_matched told || has_matched sender heard) (told_by_it sender last (Matched prev count mask) admitted)))
    (λ member other. sym (ap (λ told. is_matched told || has_matched member heard) (told_by_other sender last member (Matched prev count mask) other)))

-- the window notes the mask
pub wholes_set : (sender last prev count mask : ℕ) (heard : List Heard) (old new : Window) → nat_le (prev + count) last ≡ true → new.settled ≡ old.settled
    → ((other at : ℕ) → new.settled < at → is_noted new other at ≡ (((sender == other) && (nat_lt prev at && (bit_at mask (at - (prev + 1)) == 1))) || is_noted old other at))
    → ((member index : ℕ) → old.settled < index → is_noted old member index ≡ is_held_whole member index heard)
    → (member index : ℕ) → new.settled < index → is_noted new member index ≡ is_held_whole member index (From sender last (Matched prev count mask) ∷ heard)
wholes_set sender last prev count mask heard old new admitted same noted is member index above =
    let whole : Bool = nat_lt prev index && (bit_at mask (index - (prev + 1)) == 1) in
    noted member index above
    ∙ ap (λ was. ((sender == member) && (nat_lt prev index && (bit_at mask (index - (prev + 1)) == 1))) || was) (is member index (omega (arith, same, above)))
    ∙ sym (ap (λ hit. hit || is_held_whole member index heard)
    (ap (λ is. is_whole_in index (if (sender == member) && is then Some (Matched prev count mask) else None)) admitted ∙ told (sender == member))) where
      told : (hit : Bool) → is_whole_in index (if hit && true then Some (Matched prev count mask) else None) ≡ (hit && (nat_lt prev index && (bit_at mask (index - (prev + 1)) == 1)))
      told true = refl
      told false = refl
