-- What is kept by a message of a member.
use Rattle.std.proofs.Common.{◌≡◌, ℕ, ◌<◌, List, ◌∷◌, Bool, true, false, get_or, refl, ap, ◌∙◌, sym, arith, max}
use Rattle.std.specs.Prelude.{◌==◌, ◌&&◌, ◌||◌, Option, Some, None, slice_set, if◌then◌else◌}
use Rattle.std.proofs.lemmas.Bool.{eq-eqb}
use Rattle.craft_base.specs.Shape.{Shape}
use Rattle.craft_base.specs.Knowledge.{Heard, From, Told, Voted, told_by, is_admitted, is_fresh, is_granted, is_matched, is_whole_in, granted_by, has_matched, is_held_whole, least_of, least_refused, match_index, matched_to, refused_next, was_heard, since_beat, before_beat}
use Rattle.heard_book.specs.declared.window.Window.{Window}
use Rattle.heard_book.specs.Kept.{Kept, Stands, of_each, is_noted}
use Rattle.heard_book.proofs.Arrays.{each_same, each_set, each_at}

same_member : (n : ℕ) → (n == n) ≡ true
same_member n = eq-eqb n n refl

-- a word of what was told that the message says nothing of
pub untold : {X : Type 0} (word : Option Told → X) (sender last : ℕ) (told : Told) → word (Some told) ≡ word None
    → (member : ℕ) → word (told_by member (From sender last told)) ≡ word None
untold {X} word sender last told none member = when ((sender == member) && is_admitted last told) where
  when : (is : Bool) → word (if is then Some told else None) ≡ word None
  when true = none
  when false = refl

since_set : (sender last : ℕ) (told : Told) (heard : List Heard) (since : List Bool) (place : ℕ) → place ≡ sender → sender < 15
    → since ≡ of_each (λ member. was_heard member (since_beat heard)) → slice_set since place true ≡ of_each (λ member. was_heard member (since_beat (From sender last told ∷ heard)))
since_set sender last told heard since place at small is =
    each_set (λ member. was_heard member (since_beat heard)) (λ member. was_heard member (since_beat (From sender last told ∷ heard))) since sender place true is at small
    (sym (ap (λ hit. hit || was_heard sender (since_beat heard)) (same_member sender)))
    (λ member other. sym (ap (λ hit. hit || was_heard member (since_beat heard)) other))

fresh_set : (sender last : ℕ) (told : Told) (heard : List Heard) (fresh : List Bool) (place : ℕ) → place ≡ sender → sender < 15
    → fresh ≡ of_each (λ member. is_fresh member heard) → slice_set fresh place true ≡ of_each (λ member. is_fresh member (From sender last told ∷ heard))
fresh_set sender last told heard fresh place at small is =
    each_set (λ member. is_fresh member heard) (λ member. is_fresh member (From sender last told ∷ heard)) fresh sender place true is at small
    (sym (ap (λ hit. (hit || was_heard sender (since_beat heard)) || was_heard sender (since_beat (before_beat heard))) (same_member sender)))
    (λ member other. sym (ap (λ hit. (hit || was_heard member (since_beat heard)) || was_heard member (since_beat (before_beat heard))) other))

zero_max : (n : ℕ) → max 0 n ≡ n
zero_max n = omega arith

pub matches_same : (sender last : ℕ) (told : Told) (heard : List Heard) (matches : List ℕ) → ((member : ℕ) → matched_to (told_by member (From sender last told)) ≡ 0)
    → matches ≡ of_each (λ member. match_index member heard) → matches ≡ of_each (λ member. match_index member (From sender last told ∷ heard))
matches_same sender last told heard matches none is =
    each_same (λ member. match_index member heard) (λ member. match_index member (From sender last told ∷ heard)) matches is
    (λ member. sym (ap (λ (n : ℕ). max n (match_index member heard)) (none member) ∙ zero_max (match_index member heard)))

pub matched_same : (sender last : ℕ) (told : Told) (heard : List Heard) (matched : List Bool) → ((member : ℕ) → is_matched (told_by member (From sender last told)) ≡ false)
    → matched ≡ of_each (λ member. has_matched member heard) → matched ≡ of_each (λ member. has_matched member (From sender last told ∷ heard))
matched_same sender last told heard matched none is =
    each_same (λ member. has_matched member heard) (λ member. has_matched member (From sender last told ∷ heard)) matched is
    (λ member. sym (ap (λ hit. hit || has_matched member heard) (none member)))

pub refused_same : (sender last : ℕ) (told : Told) (heard : List Heard) (refused : List (Option ℕ)) → ((member : ℕ) → refused_next (told_by member (From sender last told)) ≡ None)
    → refused ≡ of_each (λ member. least_refused member heard) → refused ≡ of_each (λ member. least_refused member (From sender last told ∷ heard))
refused_same sender last told heard refused none is =
    each_same (λ member. least_refused member heard) (λ member. least_refused member (From sender last told ∷ heard)) refused is
    (λ member. sym (ap (λ next. least_of next (least_refused member heard)) (none member)))

pub granted_same : (sender last : ℕ) (told : Told) (heard : List Heard) (granted : List Bool) → is_granted told ≡ false
    → granted ≡ of_each (λ member. granted_by member heard) → granted ≡ of_each (λ member. granted_by member (From sender last told ∷ heard))
granted_same sender last told heard granted none is =
    each_same (λ member. granted_by member heard) (λ member. granted_by member (From sender last told ∷ heard)) granted is
    (λ member. sym (ap (λ hit. (hit && (sender == member)) || granted_by member heard) none))

pub wholes_same : (sender last : ℕ) (told : Told) (heard : List Heard) (window : Window) → ((member index : ℕ) → is_whole_in index (told_by member (From sender last told)) ≡ false)
    → ((member index : ℕ) → window.settled < index → is_noted window member index ≡ is_held_whole member index heard)
    → (member index : ℕ) → window.settled < index → is_noted window member index ≡ is_held_whole member index (From sender last told ∷ heard)
wholes_same sender last told heard window none is member index above =
    is member index above ∙ sym (ap (λ hit. hit || is_held_whole member index heard) (none member index))

-- a granted vote
pub granted_set : (sender last : ℕ) (vote : Bool) (heard : List Heard) (granted : List Bool) (place : ℕ) → place ≡ sender → sender < 15
    → granted ≡ of_each (λ member. granted_by member heard)
    → slice_set granted place (get_or granted place false || vote) ≡ of_each (λ member. granted_by member (From sender last (Voted vote) ∷ heard))
granted_set sender last vote heard granted place at small is =
    each_set (λ member. granted_by member heard) (λ member. granted_by member (From sender last (Voted vote) ∷ heard)) granted sender place (get_or granted place false || vote) is at small
    (ap (λ (p : ℕ). get_or granted p false || vote) at ∙ ap (λ was. was || vote) (each_at (λ member. granted_by member heard) granted sender false is small)
    ∙ swap vote (granted_by sender heard) ∙ sym (ap (λ hit. (vote && hit) || granted_by sender heard) (same_member sender)))
    (λ member other. sym (ap (λ hit. (vote && hit) || granted_by member heard) other ∙ none vote (granted_by member heard))) where
      swap : (vote was : Bool) → (was || vote) ≡ ((vote && true) || was)
      swap true true = refl
      swap true false = refl
      swap false true = refl
      swap false false = refl

      none : (vote was : Bool) → ((vote && false) || was) ≡ was
      none true was = refl
      none false was = refl

-- all together
pub heard_stands : (old : Kept) (shape : Shape) (heard : List Heard) (first sender last : ℕ) (told : Told) (place : ℕ) → place ≡ sender → sender < 15 → Stands old shape heard first
    → (matches : List ℕ) (matched : List Bool) (refused : List (Option ℕ)) (granted : List Bool) (window : Window)
    → matches ≡ of_each (λ member. match_index member (From sender last told ∷ heard))
    → matched ≡ of_each (λ member. has_matched member (From sender last told ∷ heard))
    → refused ≡ of_each (λ member. least_refused member (From sender last told ∷ heard))
    → granted ≡ of_each (λ member. granted_by member (From sender last told ∷ heard))
    → ((member index : ℕ) → window.settled < index → is_noted window member index ≡ is_held_whole member index (From sender last told ∷ heard))
    → Stands (record { shape = old.shape; first = old.first; matches = matches; matched = matched; refused = refused; granted = granted; since = slice_set old.since place true; fresh = slice_set old.fresh place true; window = window }) shape (From sender last told ∷ heard) first
heard_stands old shape heard first sender last told place at small s matches matched refused granted window of_matches of_matched of_refused of_granted of_wholes =
    record {
      same_shape = s.same_shape;
      same_first = s.same_first;
      of_matches = of_matches;
      of_matched = of_matched;
      of_refused = of_refused;
      of_granted = of_granted;
      of_since = since_set sender last told heard old.since place at small s.of_since;
      of_fresh = fresh_set sender last told heard old.fresh place at small s.of_fresh;
      of_wholes = of_wholes;
    }
