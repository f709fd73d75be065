-- How many words a line about a member has, and what seven of them say.
use Rattle.std.proofs.Common.{◌≡◌, ◌≢◌, ◌≤◌, ◌<◌, Bool, true, false, not, Bor, List, [], ◌∷◌, ℕ, length, get_or, map, refl, ap, ◌∙◌, sym, arith, Option, None, Some}
use Rattle.std.specs.Prelude.{codes, if◌then◌else◌}
use Rattle.std.specs.Str.{bytes_eq}
use Rattle.craft_base.specs.Shape.{Shape}
use Rattle.craft_base.specs.declared.command.Request.{Request}
use Rattle.world_model.specs.Calls.{request_in}
use Rattle.world_model.specs.Numbers.{number_of}
use Rattle.world_model.specs.Schedule.{call_line, call_of, inner_of_words, member_of}
use Rattle.world_model.specs.declared.line.Inner.{Inner}

-- others than two, three or seven words say nothing
pub no_inner : (shape : Shape) (words : List (List ℕ)) → length words ≢ 2 → length words ≢ 3 → length words ≢ 7 → inner_of_words shape words ≡ None
no_inner shape [] two three seven = refl
no_inner shape (name ∷ []) two three seven = refl
no_inner shape (name ∷ i ∷ []) two three seven = absurd (two refl)
no_inner shape (name ∷ i ∷ w ∷ []) two three seven = absurd (three refl)
no_inner shape (name ∷ i ∷ c ∷ s ∷ []) two three seven = refl
no_inner shape (name ∷ i ∷ c ∷ s ∷ o ∷ []) two three seven = refl
no_inner shape (name ∷ i ∷ c ∷ s ∷ o ∷ k ∷ []) two three seven = refl
no_inner shape (name ∷ i ∷ c ∷ s ∷ o ∷ k ∷ v ∷ []) two three seven = absurd (seven refl)
no_inner shape (name ∷ i ∷ c ∷ s ∷ o ∷ k ∷ v ∷ more ∷ words) two three seven = refl

-- the word with that number
abbrev pub word_at : List (Bor (List ℕ)) → Bor (List ℕ) → ℕ → List ℕ
word_at words none n = (get_or words n none).now

seven_words : (shape : Shape) (words : List (Bor (List ℕ))) (none : Bor (List ℕ)) → 7 ≤ length words → length words < 8
    → inner_of_words shape (map (λ word. word.now) words)
    ≡ call_line shape (word_at words none 0) (word_at words none 1) (word_at words none 2) (word_at words none 3) (word_at words none 4) (word_at words none 5) (word_at words none 6)
seven_words shape [] none few many = absurd (omega (arith, few))
seven_words shape (name ∷ []) none few many = absurd (omega (arith, few))
seven_words shape (name ∷ i ∷ []) none few many = absurd (omega (arith, few))
seven_words shape (name ∷ i ∷ c ∷ []) none few many = absurd (omega (arith, few))
seven_words shape (name ∷ i ∷ c ∷ s ∷ []) none few many = absurd (omega (arith, few))
seven_words shape (name ∷ i ∷ c ∷ s ∷ o ∷ []) none few many = absurd (omega (arith, few))
seven_words shape (name ∷ i ∷ c ∷ s ∷ o ∷ k ∷ []) none few many = absurd (omega (arith, few))
seven_words shape (name ∷ i ∷ c ∷ s ∷ o ∷ k ∷ v ∷ []) none few many = refl
seven_words shape (name ∷ i ∷ c ∷ s ∷ o ∷ k ∷ v ∷ more ∷ words) none few many = absurd (omega (arith, many))

-- seven words of which the first is `call` say what the others make
pub call_said : (shape : Shape) (words : List (Bor (List ℕ))) (none : Bor (List ℕ)) (other : Bool) (name : List ℕ)
    → 7 ≤ length words → length words < 8 → other ≡ not (bytes_eq (word_at words none 0) name) → other ≡ false → name ≡ codes "call"
    → (member : Option ℕ) (request : Option Request) (made : Option Inner)
    → member ≡ number_of (word_at words none 1)
    → request ≡ request_in (word_at words none 2) (word_at words none 3) (word_at words none 4) (word_at words none 5) (word_at words none 6)
    → made ≡ call_of (member_of shape member) request
    → made ≡ inner_of_words shape (map (λ word. word.now) words)
call_said shape words none other name few many is_other not_other is_name member request made is_member is_request is_made =
    let found : Option Inner =
    call_of (member_of shape (number_of (word_at words none 1)))
    (request_in (word_at words none 2) (word_at words none 3) (word_at words none 4) (word_at words none 5) (word_at words none 6)) in
    let same : bytes_eq (word_at words none 0) name ≡ true = passes (bytes_eq (word_at words none 0) name) (sym is_other ∙ not_other) in
    let named : bytes_eq (word_at words none 0) (codes "call") ≡ true = sym (ap (bytes_eq (word_at words none 0)) is_name) ∙ same in
    is_made ∙ ap (λ m. call_of (member_of shape m) request) is_member ∙ ap (call_of (member_of shape (number_of (word_at words none 1)))) is_request
    ∙ sym (ap (λ test. if test then found else None) named) ∙ sym (seven_words shape words none few many) where
      passes : (test : Bool) → not test ≡ false → test ≡ true
      passes true h = refl
      passes false h = cc
