use Rattle.std.proofs.Common.{◌≡◌, ◌++◌, length, map}
use Rattle.std.specs.Prelude.{string_bytes}
use Rattle.std.specs.List.{concat, range_with_len}
use Rattle.craft_base.specs.Parts.{part_length}
use Rattle.fragment_text.specs.Texts.{value_line, fragment_line}
use Rattle.fragment_text.proofs.text.text_of.Given as goal

-- the lines of the members so far
abbrev pub invariant-loop-member : goal.invariant-loop-member
invariant-loop-member l = record {
  text : string_bytes l.text ≡ value_line (length l.value) ++ concat (map (fragment_line l.shape l.value) (range_with_len 0 l.member));
  room : length l.part ≡ part_length (length l.value) l.need;
}
