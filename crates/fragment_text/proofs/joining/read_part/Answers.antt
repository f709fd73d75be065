use Rattle.std.proofs.Common.{◌≡◌, ◌+◌, length, subst, sym, ap, ◌∙◌, arith}
use Rattle.line_input.specs.Lines.{TakesLine}
use Rattle.fragment_text.specs.Said.{part_of_words, words_of}
use Rattle.fragment_text.specs.Kept.{Takes}
use Rattle.fragment_text.proofs.Reading.{no_part, other_line, part_read}
use Rattle.fragment_text.proofs.Joins.{taken_part, taken_none}
use Rattle.fragment_text.proofs.joining.read_part.Goals as goal

pub returns-in-Broken-clause-failed : goal.returns-in-Broken-clause-failed
returns-in-Broken-clause-failed g c = λ shape said stands.
    let counted : c.from-number.result + 2 ≡ length said.parts + 2 = omega (arith, stands.counted, c.count.ensures, c.from-number.ensures) in
    no_part shape said (c.from-number.result + 2) (g.S.Source.left c.args.src.now) (g.S.Source.left c.read_line.new.src) c.read_line.new.line.items counted
    (subst (TakesLine (g.S.Source.left c.args.src.now) (g.S.Source.left c.read_line.new.src) c.read_line.new.line.items) c.in-Broken.is c.in_ok-read_line.ensures.taken)

pub returns-then-branch-clause-read : goal.returns-then-branch-clause-read
returns-then-branch-clause-read g c = λ shape said stands.
    let words = part_of_words shape said (words_of c.deref.result.now) in
    let taken = taken_part shape c.take_line.new.parts words (subst (Takes shape c.take_line.new.parts words) c.if-branch.true (c.in_ok-take_line-in-LineFeed.ensures.taken shape said stands)) in (
      taken.0,
      taken.2,
      part_read shape said taken.0 (g.S.Source.left c.args.src.now) (g.S.Source.left c.read_line.new.src) c.read_line.new.line.items
          (subst (TakesLine (g.S.Source.left c.args.src.now) (g.S.Source.left c.read_line.new.src) c.read_line.new.line.items) c.in-LineFeed.is c.in_ok-read_line.ensures.taken)
          (ap (λ line. part_of_words shape said (words_of line)) (sym c.deref.ensures.value) ∙ taken.1),
    )

pub returns-else-branch-clause-failed : goal.returns-else-branch-clause-failed
returns-else-branch-clause-failed g c = λ shape said stands.
    let words = part_of_words shape said (words_of c.deref.result.now) in
    let counted : c.from-number.result + 2 ≡ length said.parts + 2 = omega (arith, stands.counted, c.count.ensures, c.from-number.ensures) in
    let none = taken_none shape c.take_line.new.parts words (subst (Takes shape c.take_line.new.parts words) c.if-branch.false (c.in_ok-take_line-in-LineFeed.ensures.taken shape said stands)) in
    other_line shape said (c.from-number.result + 2) (g.S.Source.left c.args.src.now) (g.S.Source.left c.read_line.new.src) c.read_line.new.line.items counted
    (subst (TakesLine (g.S.Source.left c.args.src.now) (g.S.Source.left c.read_line.new.src) c.read_line.new.line.items) c.in-LineFeed.is c.in_ok-read_line.ensures.taken)
    (ap (λ line. part_of_words shape said (words_of line)) (sym c.deref.ensures.value) ∙ none)
