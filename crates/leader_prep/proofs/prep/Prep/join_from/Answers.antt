use Rattle.std.proofs.Common.{◌≡◌, ◌≤◌, ◌<◌, ◌∙◌, ℕ, Option, None, ap, refl, arith}
use Rattle.std.specs.Prelude.{slice_set, slice_index_or}
use Rattle.leader_prep.specs.Pages.{end_in, page_of}
use Rattle.leader_prep.specs.Standing.{least_of}
use Rattle.leader_prep.proofs.Standing.{joins_here}
use Rattle.leader_prep.proofs.prep.Prep.join_from.Goals as goal

pub returns-clause-joins : goal.returns-clause-joins
returns-clause-joins c =
    let old = c.args.self.now in
    let page = page_of c.args.page.now.frame in
    let place : c.from-place.result ≡ page.sender = c.from-place.ensures ∙ c.number.ensures.value ∙ c.from.ensures in
    let small : page.sender < 15 = omega (arith, place, c.from-place.ensures, c.number.ensures.range) in
    let low : page.start ≤ c.args.cursor = omega (arith, c.if-start-cursor.false, c.start.ensures) in
    let ends : slice_set old.ends c.from-place.result c.least_of.result ≡ slice_set old.ends page.sender (least_of (end_in page) (slice_index_or old.ends page.sender None)) =
    ap (slice_set old.ends c.from-place.result) (c.least_of.ensures ∙ ap (λ (e : Option ℕ). least_of e (slice_index_or old.ends c.from-place.result None)) c.end_in.ensures)
    ∙ ap (λ (n : ℕ). slice_set old.ends n (least_of (end_in page) (slice_index_or old.ends n None))) place in
    joins_here old _ c.args.cursor page c.requires.cursor refl refl refl c.in_ok-keep.ensures.keeps low small ends
