-- The letters of one entry more.
use Rattle.std.proofs.Common.{◌≡◌, ℕ, zero, suc, ◌+◌, List, [], ◌∷◌, ◌++◌, take, Some, ap, ◌∙◌, sym, add-one, append_assoc, append-nil}
use Rattle.std.specs.Prelude.{slice_get}
use Rattle.std.proofs.lemmas.Option.{same_Some}
use Rattle.craft_base.specs.declared.command.Entry.{Entry}
use Rattle.world_model.specs.Lines.{form_letter, form_letters}

letters_next : (entries : List Entry) (n : ℕ) (entry : Entry) → slice_get entries n ≡ Some entry
    → form_letters (take (suc n) entries) ≡ form_letters (take n entries) ++ form_letter entry.form
letters_next [] n entry at = cc
letters_next (e ∷ entries) zero entry at = append-nil (form_letter e.form) ∙ ap (λ x. form_letter x.form) (same_Some e entry at)
letters_next (e ∷ entries) (suc n) entry at =
    ap (λ letters. form_letter e.form ++ letters) (letters_next entries n entry at)
    ∙ sym (append_assoc (form_letter e.form) (form_letters (take n entries)) (form_letter entry.form))

pub letters_more : (entries : List Entry) (n : ℕ) (before after : List ℕ) (entry : Entry) → slice_get entries n ≡ Some entry
    → before ≡ form_letters (take n entries) → after ≡ before ++ form_letter entry.form → after ≡ form_letters (take (n + 1) entries)
letters_more entries n before after entry at so_far more =
    more ∙ ap (λ letters. letters ++ form_letter entry.form) so_far ∙ rw add-one (sym (letters_next entries n entry at))
