-- The messages to all others, one member after the other.
use Rattle.std.proofs.Common.{◌≡◌, ℕ, ◌+◌, List, [], ◌∷◌, ◌++◌, not, map, filter, ap, ◌∙◌, arith, add-one, append_assoc, append-nil, sym, true, false, Bool, refl, None, Some}
use Rattle.std.specs.Prelude.{◌==◌, cond}
use Rattle.std.specs.List.{range_with_len}
use Rattle.std.proofs.lemmas.List.{map-append}
use Rattle.std.proofs.lemmas.List.Elements.{filter-append}
use Rattle.std.proofs.lemmas.Option.{same_Some}
use Rattle.commit_rules.proofs.Rows.{row_more}
use Rattle.entry_frames.specs.declared.message.Message.{Message}

-- a message to each of the first members but the member itself
abbrev pub sent_to : (ℕ → Message) → (me : ℕ) → (members : ℕ) → List Message
sent_to message me members = map message (filter (λ member. not (member == me)) (range_with_len 0 members))

-- those of one member more
one_more : (message : ℕ → Message) (me number : ℕ) → sent_to message me (number + 1) ≡ sent_to message me number ++ map message (filter (λ member. not (member == me)) (number ∷ []))
one_more message me number =
    ap (λ ks. map message (filter (λ member. not (member == me)) ks)) (rw add-one (row_more 0 number number (omega arith)))
    ∙ ap (map message) (filter-append (λ member. not (member == me)) (range_with_len 0 number) (number ∷ []))
    ∙ map-append message (filter (λ member. not (member == me)) (range_with_len 0 number)) (filter (λ member. not (member == me)) (number ∷ []))

-- another member is sent to
pub another_sent :
    (message : ℕ → Message) (me number : ℕ) (first before : List Message) → (number == me) ≡ false → before ≡ first ++ sent_to message me number →
    before ++ message number ∷ [] ≡ first ++ sent_to message me (number + 1)
another_sent message me number first before other so_far =
    let one : map message (filter (λ member. not (member == me)) (number ∷ [])) ≡ message number ∷ [] = ap (λ b. map message (cond (not b) (number ∷ []) [])) other in
    ap (λ ms. ms ++ message number ∷ []) so_far ∙ append_assoc first (sent_to message me number) (message number ∷ [])
    ∙ ap (λ ms. first ++ (sent_to message me number ++ ms)) (sym one) ∙ ap (λ ms. first ++ ms) (sym (one_more message me number))

-- the member itself isn't
pub itself_not_sent :
    (message : ℕ → Message) (me number : ℕ) (first before : List Message) → (number == me) ≡ true → before ≡ first ++ sent_to message me number →
    before ≡ first ++ sent_to message me (number + 1)
itself_not_sent message me number first before own so_far =
    let none : map message (filter (λ member. not (member == me)) (number ∷ [])) ≡ [] = ap (λ b. map message (cond (not b) (number ∷ []) [])) own in
    so_far ∙ ap (λ ms. first ++ ms) (sym (append-nil (sent_to message me number)) ∙ ap (λ ms. sent_to message me number ++ ms) (sym none) ∙ sym (one_more message me number))

-- ---- which member is another

pub another_is : (is_me : Bool) (number receiver : ℕ) → Some receiver ≡ cond is_me None (Some number) → (is_me ≡ false) × (receiver ≡ number)
another_is true number receiver e = absurd cc
another_is false number receiver e = (refl, same_Some receiver number e)

pub itself_is : (is_me : Bool) (number : ℕ) → None ≡ cond is_me None (Some number) → is_me ≡ true
itself_is true number e = refl
itself_is false number e = absurd cc
