use Rattle.std.proofs.Common.{◌≡◌, drop}
use Rattle.std.specs.Str.{all_ascii_digits}
use Rattle.line_input.proofs.numeral.are_digits.Given as goal

-- all bytes are digits where those that are left are
abbrev pub invariant-loop-byte : goal.invariant-loop-byte
invariant-loop-byte l = all_ascii_digits l.word ≡ all_ascii_digits (drop l.byte-index l.word)
