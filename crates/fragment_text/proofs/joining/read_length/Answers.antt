use Rattle.std.proofs.Common.{◌≡◌, None, Some, subst}
use Rattle.line_input.specs.Lines.{TakesLine}
use Rattle.fragment_text.specs.Said.{length_of_words, words_of}
use Rattle.fragment_text.proofs.Reading.{no_length, other_first, length_read}
use Rattle.fragment_text.proofs.joining.read_length.Goals as goal

pub returns-in-Some-clause-read : goal.returns-in-Some-clause-read
returns-in-Some-clause-read g c =
    let told : length_of_words (words_of c.read_line.new.line.items) ≡ Some c.in-Some.count = cc (c.in-Some.ensures, c.in_ok-words-in-LineFeed.ensures, c.deref.ensures.value, c.deref-in-LineFeed.ensures.value) in
    length_read (g.S.Source.left c.args.src.now) (g.S.Source.left c.read_line.new.src) c.read_line.new.line.items c.in-Some.count
    (subst (TakesLine (g.S.Source.left c.args.src.now) (g.S.Source.left c.read_line.new.src) c.read_line.new.line.items) c.in-LineFeed.is c.in_ok-read_line.ensures.taken) told

pub returns-in-LineFeed-clause-failed : goal.returns-in-LineFeed-clause-failed
returns-in-LineFeed-clause-failed g c = λ shape.
    let told : length_of_words (words_of c.read_line.new.line.items) ≡ None = cc (c.in-None.ensures, c.in_ok-words-in-LineFeed.ensures, c.deref.ensures.value, c.deref-in-LineFeed.ensures.value) in
    other_first shape (g.S.Source.left c.args.src.now) (g.S.Source.left c.read_line.new.src) c.read_line.new.line.items
    (subst (TakesLine (g.S.Source.left c.args.src.now) (g.S.Source.left c.read_line.new.src) c.read_line.new.line.items) c.in-LineFeed.is c.in_ok-read_line.ensures.taken) told

pub returns : goal.returns
returns g c = record {
  read = tt;
  limit = tt;
  failed = λ shape. no_length shape (g.S.Source.left c.args.src.now) (g.S.Source.left c.read_line.new.src) c.read_line.new.line.items c.in_ok-read_line.field-0 c.in-End.is c.in_ok-read_line.ensures.taken;
  later = c.in_ok-read_line.ensures.later;
}
