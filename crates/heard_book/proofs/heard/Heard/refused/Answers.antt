use Rattle.std.proofs.Common.{◌≡◌, ◌<◌, ◌∙◌, sym, refl, arith, subst}
use Rattle.craft_base.specs.Knowledge.{Refused, is_matched, is_whole_in, matched_to}
use Rattle.heard_book.proofs.Hearing.{heard_stands, untold, matches_same, matched_same, granted_same, wholes_same}
use Rattle.heard_book.proofs.Telling.{refused_set}
use Rattle.heard_book.specs.Kept.{Stands}
use Rattle.heard_book.proofs.heard.Heard.refused.Goals as goal

pub returns-clause-heard : goal.returns-clause-heard
returns-clause-heard c = λ shape heard first s.
    let kept = subst (λ k. Stands k shape heard first) (sym c.self.view_is) s in
    let at : c.from-place.result ≡ c.args.from = c.from-place.ensures ∙ c.number.ensures.value in
    let small : c.args.from < 15 = omega (arith, c.number.ensures.value, c.number.ensures.range) in
    let is = c.self.inside in
    heard_stands _ shape heard first c.args.from c.args.last (Refused c.args.next) c.from-place.result at small kept is.matches is.matched _ is.granted is.window
    (matches_same c.args.from c.args.last (Refused c.args.next) heard is.matches (untold matched_to c.args.from c.args.last (Refused c.args.next) refl) kept.of_matches)
    (matched_same c.args.from c.args.last (Refused c.args.next) heard is.matched (untold is_matched c.args.from c.args.last (Refused c.args.next) refl) kept.of_matched)
    (refused_set c.args.from c.args.last c.args.next heard is.refused c.from-place.result c.least_with.result at small kept.of_refused c.least_with.ensures)
    (granted_same c.args.from c.args.last (Refused c.args.next) heard is.granted refl kept.of_granted)
    (wholes_same c.args.from c.args.last (Refused c.args.next) heard is.window (λ member index. untold (is_whole_in index) c.args.from c.args.last (Refused c.args.next) refl member) kept.of_wholes)
