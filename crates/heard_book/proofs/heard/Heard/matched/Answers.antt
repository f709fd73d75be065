use Rattle.std.proofs.Common.{◌≡◌, ◌<◌, ◌+◌, Bool, true, false, Option, Some, None, ℕ, ◌∙◌, sym, ap, refl, arith, subst}
use Rattle.std.specs.Prelude.{nat_le, if◌then◌else◌, unwrap_or, slice_set}
use Rattle.craft_base.specs.Knowledge.{Matched, is_matched, is_whole_in, matched_to, refused_next}
use Rattle.heard_book.proofs.Hearing.{heard_stands, untold, matches_same, matched_same, refused_same, granted_same, wholes_same}
use Rattle.heard_book.proofs.Telling.{told_by_none, matches_set, matched_set, wholes_set}
use Rattle.heard_book.specs.Kept.{Stands}
use Rattle.heard_book.proofs.heard.Heard.matched.Goals as goal

abbrev is_there : Option ℕ → Bool
is_there None = false
is_there (Some n) = true

there : (admitted : Bool) (end : ℕ) → is_there (if admitted then Some end else None) ≡ admitted
there true end = refl
there false end = refl

out : (admitted : Bool) (end : ℕ) → None ≡ (if admitted then Some end else None) → admitted ≡ false
out admitted end e = sym (there admitted end) ∙ sym (ap is_there e)

within : (admitted : Bool) (end given : ℕ) → Some given ≡ (if admitted then Some end else None) → admitted ≡ true
within admitted end given e = sym (there admitted end) ∙ sym (ap is_there e)

is_end : (admitted : Bool) (end given : ℕ) → Some given ≡ (if admitted then Some end else None) → given ≡ end
is_end admitted end given e = ap (λ o. unwrap_or o 0) (e ∙ ap (λ is. if is then Some end else None) (within admitted end given e))

pub returns-in-None-clause-heard : goal.returns-in-None-clause-heard
returns-in-None-clause-heard c = λ shape heard first s.
    let kept = subst (λ k. Stands k shape heard first) (sym c.self.view_is) s in
    let at : c.from-place.result ≡ c.args.from = c.from-place.ensures ∙ c.number.ensures.value in
    let small : c.args.from < 15 = omega (arith, c.number.ensures.value, c.number.ensures.range) in
    let is = c.self.inside in
    let none = told_by_none c.args.from c.args.last (Matched c.args.prev c.args.count c.args.mask) (out (nat_le (c.args.prev + c.args.count) c.args.last) (c.args.prev + c.args.count) c.in-None.ensures) in
    heard_stands _ shape heard first c.args.from c.args.last (Matched c.args.prev c.args.count c.args.mask) c.from-place.result at small kept is.matches is.matched is.refused is.granted is.window
    (matches_same c.args.from c.args.last (Matched c.args.prev c.args.count c.args.mask) heard is.matches (λ member. ap matched_to (none member)) kept.of_matches)
    (matched_same c.args.from c.args.last (Matched c.args.prev c.args.count c.args.mask) heard is.matched (λ member. ap is_matched (none member)) kept.of_matched)
    (refused_same c.args.from c.args.last (Matched c.args.prev c.args.count c.args.mask) heard is.refused (λ member. ap refused_next (none member)) kept.of_refused)
    (granted_same c.args.from c.args.last (Matched c.args.prev c.args.count c.args.mask) heard is.granted refl kept.of_granted)
    (wholes_same c.args.from c.args.last (Matched c.args.prev c.args.count c.args.mask) heard is.window (λ member index. ap (is_whole_in index) (none member)) kept.of_wholes)

pub returns-in_ok-note_mask-in-Some-clause-heard : goal.returns-in_ok-note_mask-in-Some-clause-heard
returns-in_ok-note_mask-in-Some-clause-heard c = λ shape heard first s.
    let kept = subst (λ k. Stands k shape heard first) (sym c.self.view_is) s in
    let at : c.from-place.result ≡ c.args.from = c.from-place.ensures ∙ c.number.ensures.value in
    let small : c.args.from < 15 = omega (arith, c.number.ensures.value, c.number.ensures.range) in
    let is = c.self.inside in
    let admitted : nat_le (c.args.prev + c.args.count) c.args.last ≡ true = within (nat_le (c.args.prev + c.args.count) c.args.last) (c.args.prev + c.args.count) c.in-Some.end c.in-Some.ensures in
    let ends : c.in-Some.end ≡ c.args.prev + c.args.count = is_end (nat_le (c.args.prev + c.args.count) c.args.last) (c.args.prev + c.args.count) c.in-Some.end c.in-Some.ensures in
    heard_stands _ shape heard first c.args.from c.args.last (Matched c.args.prev c.args.count c.args.mask) c.from-place.result at small kept _ _ is.refused is.granted c.note_mask.new.self
    (ap (λ (n : ℕ). slice_set is.matches c.from-place.result n) c.max.ensures
    ∙ matches_set c.args.from c.args.last c.args.prev c.args.count c.args.mask heard is.matches c.from-place.result c.in-Some.end _ at small admitted ends kept.of_matches)
    (matched_set c.args.from c.args.last c.args.prev c.args.count c.args.mask heard is.matched c.from-place.result at small admitted kept.of_matched)
    (refused_same c.args.from c.args.last (Matched c.args.prev c.args.count c.args.mask) heard is.refused (untold refused_next c.args.from c.args.last (Matched c.args.prev c.args.count c.args.mask) refl) kept.of_refused)
    (granted_same c.args.from c.args.last (Matched c.args.prev c.args.count c.args.mask) heard is.granted refl kept.of_granted)
    (wholes_set c.args.from c.args.last c.args.prev c.args.count c.args.mask heard is.window c.note_mask.new.self admitted c.in_ok-note_mask-in-Some.ensures.settled c.in_ok-note_mask-in-Some.ensures.noted kept.of_wholes)
