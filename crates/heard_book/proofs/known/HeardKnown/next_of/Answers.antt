use Rattle.std.proofs.Common.{◌≡◌, ◌<◌, Some, None, ◌∙◌, sym, refl, arith, subst}
use Rattle.craft_base.specs.Knowledge.{has_matched, least_refused, match_index}
use Rattle.heard_book.proofs.Arrays.{each_at_place}
use Rattle.heard_book.proofs.Counting.{next_matched, next_unmatched}
use Rattle.heard_book.specs.Kept.{Stands}
use Rattle.heard_book.proofs.known.HeardKnown.next_of.Goals as goal

pub returns-then-self-place : goal.returns-then-self-place
returns-then-self-place c = λ shape heard first s.
    let kept = subst (λ k. Stands k shape heard first) (sym c.self.view_is) s in
    let at : c.from-place.result ≡ c.args.member = c.from-place.ensures ∙ c.number.ensures.value in
    let small : c.args.member < 15 = omega (arith, c.number.ensures.value, c.number.ensures.range) in
    next_matched c.args.member heard first c.from.result
    (sym (each_at_place (λ member. has_matched member heard) c.self.inside.matched c.from-place.result c.args.member _ kept.of_matched at small) ∙ c.if-self-place.true)
    (c.from.ensures ∙ each_at_place (λ member. match_index member heard) c.self.inside.matches c.from-place.result c.args.member _ kept.of_matches at small)

pub returns-in-Some : goal.returns-in-Some
returns-in-Some c = λ shape heard first s.
    let kept = subst (λ k. Stands k shape heard first) (sym c.self.view_is) s in
    let at : c.from-place.result ≡ c.args.member = c.from-place.ensures ∙ c.number.ensures.value in
    let small : c.args.member < 15 = omega (arith, c.number.ensures.value, c.number.ensures.range) in
    next_unmatched c.args.member heard first c.from-in-Some.result c.self.inside.first (Some c.in-Some.next)
    (sym (each_at_place (λ member. has_matched member heard) c.self.inside.matched c.from-place.result c.args.member _ kept.of_matched at small) ∙ c.if-self-place.false)
    (sym c.in-Some.is ∙ each_at_place (λ member. least_refused member heard) c.self.inside.refused c.from-place.result c.args.member _ kept.of_refused at small)
    kept.same_first c.from-in-Some.ensures

pub returns-in-None : goal.returns-in-None
returns-in-None c = λ shape heard first s.
    let kept = subst (λ k. Stands k shape heard first) (sym c.self.view_is) s in
    let at : c.from-place.result ≡ c.args.member = c.from-place.ensures ∙ c.number.ensures.value in
    let small : c.args.member < 15 = omega (arith, c.number.ensures.value, c.number.ensures.range) in
    next_unmatched c.args.member heard first c.self.inside.first c.self.inside.first None
    (sym (each_at_place (λ member. has_matched member heard) c.self.inside.matched c.from-place.result c.args.member _ kept.of_matched at small) ∙ c.if-self-place.false)
    (sym c.in-None.is ∙ each_at_place (λ member. least_refused member heard) c.self.inside.refused c.from-place.result c.args.member _ kept.of_refused at small)
    kept.same_first refl
