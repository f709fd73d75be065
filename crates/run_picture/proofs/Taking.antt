-- Lines that were taken, one behind the other.
use Rattle.std.proofs.Common.{◌≡◌, ℕ, ◌+◌, ◌==◌, List, [], ◌∷◌, ◌++◌, Bool, true, false, length, refl, ap, sym, ◌∙◌, arith, Option, None, Some}
use Rattle.std.proofs.lemmas.List.{append_assoc}
use Rattle.std.specs.List.{filter}
use Rattle.std.proofs.lemmas.List.{length-append}
use Rattle.std.proofs.lemmas.List.Elements.{filter-append}
use Rattle.std.specs.Io.KnownBytes.{Consumes}
use Rattle.line_input.specs.Lines.{HasNoLineFeed, TakesLine}
use Rattle.line_input.specs.declared.line.LineEnd.TheVariants.{LineFeed, Broken}
use Rattle.run_picture.specs.Pictures.{TakesLines, line_feeds}

-- the line feeds of two pieces
pub feeds-append : (a b : List ℕ) → line_feeds (a ++ b) ≡ line_feeds a + line_feeds b
feeds-append a b = ap length (filter-append (λ byte. byte == 10) a b) ∙ length-append (filter (λ byte. byte == 10) a) (filter (λ byte. byte == 10) b)

-- a line's text has none
pub no_feeds : (text : List ℕ) → HasNoLineFeed text → line_feeds text ≡ 0
no_feeds [] none = refl
no_feeds (byte ∷ text) none = by_test (byte == 10) refl none (no_feeds text) where
  by_test : (test : Bool) → (byte == 10) ≡ test → HasNoLineFeed (byte ∷ text) → (HasNoLineFeed text → line_feeds text ≡ 0) → line_feeds (byte ∷ text) ≡ 0
  by_test true is none rest = grind (arith, is, none)
  by_test false is none rest = grind (arith, is, none, rest)

-- what was taken, and then some more
pub consumes_more : (old mid new : Option (List ℕ)) (first second : List ℕ) → Consumes old mid first → Consumes mid new second → Consumes old new (first ++ second)
consumes_more None mid new first second a b = tt
consumes_more (Some x) None new first second a b = absurd a
consumes_more (Some x) (Some y) None first second a b = absurd b
consumes_more (Some x) (Some y) (Some z) first second a b = a ∙ ap (λ rest. first ++ rest) b ∙ sym (append_assoc first second z)

-- lines, and then some more
pub lines_more : (n m sum : ℕ) (old mid new : Option (List ℕ)) → n + m ≡ sum → TakesLines n old mid → TakesLines m mid new → TakesLines sum old new
lines_more n m sum old mid new is first second = (
  first.0 ++ second.0,
  consumes_more old mid new first.0 second.0 first.1 second.1,
  feeds-append first.0 second.0 ∙ both first.2 second.2,
) where
  both : line_feeds first.0 ≡ n → line_feeds second.0 ≡ m → line_feeds first.0 + line_feeds second.0 ≡ sum
  both a b = omega (arith, a, b, is)

-- a line with its line feed
pub line_read : (old new : Option (List ℕ)) (text : List ℕ) → TakesLine old new text LineFeed → TakesLines 1 old new
line_read old new text taken = (text ++ 10 ∷ [], taken.0, feeds-append text (10 ∷ []) ∙ one (line_feeds text) (no_feeds text taken.1)) where
  one : (n : ℕ) → n ≡ 0 → n + 1 ≡ 1
  one n none = omega (arith, none)

-- a piece of a line
pub piece_read : (old new : Option (List ℕ)) (text : List ℕ) → TakesLine old new text Broken → TakesLines 0 old new
piece_read old new text taken = (text, taken.0, no_feeds text taken.1)

-- nothing was taken
pub none_taken : (left : Option (List ℕ)) → TakesLines 0 left left
none_taken None = ([], tt, refl)
none_taken (Some bytes) = ([], refl, refl)
