use Rattle.std.proofs.Common.{◌≡◌, ◌<◌, ◌∙◌, sym, refl, arith, subst}
use Rattle.craft_base.specs.Knowledge.{Answered, is_matched, is_whole_in, matched_to, refused_next}
use Rattle.heard_book.proofs.Hearing.{heard_stands, untold, matches_same, matched_same, refused_same, granted_same, wholes_same}
use Rattle.heard_book.specs.Kept.{Stands}
use Rattle.heard_book.proofs.heard.Heard.answered.Goals as goal

pub returns-clause-heard : goal.returns-clause-heard
returns-clause-heard c = λ last shape heard first s.
    let kept = subst (λ k. Stands k shape heard first) (sym c.self.view_is) s in
    let at : c.from-place.result ≡ c.args.from = c.from-place.ensures ∙ c.number.ensures.value in
    let small : c.args.from < 15 = omega (arith, c.number.ensures.value, c.number.ensures.range) in
    let is = c.self.inside in
    heard_stands _ shape heard first c.args.from last Answered c.from-place.result at small kept is.matches is.matched is.refused is.granted is.window
    (matches_same c.args.from last Answered heard is.matches (untold matched_to c.args.from last Answered refl) kept.of_matches)
    (matched_same c.args.from last Answered heard is.matched (untold is_matched c.args.from last Answered refl) kept.of_matched)
    (refused_same c.args.from last Answered heard is.refused (untold refused_next c.args.from last Answered refl) kept.of_refused)
    (granted_same c.args.from last Answered heard is.granted refl kept.of_granted)
    (wholes_same c.args.from last Answered heard is.window (λ member index. untold (is_whole_in index) c.args.from last Answered refl member) kept.of_wholes)
