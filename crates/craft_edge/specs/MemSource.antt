-- A source in memory.
use Rattle.std.specs.Prelude.{ℕ, List, length, drop, min}
use Rattle.craft_edge.specs.Calls.{CallBook, after_call, next_fails}

-- the bytes still to come, the most bytes of one call, and the calls
pub record SourceState : Type 0 where
  pub left : List ℕ
  pub piece : ℕ
  pub calls : CallBook

-- how many bytes the next read gives into a buffer of this length, where it doesn't fail
abbrev pub piece_len : SourceState → ℕ → ℕ
piece_len source room = min (min source.piece room) (length source.left)

-- the source after a call that gave n bytes
abbrev pub after_read : SourceState → ℕ → SourceState
after_read source n = record {
  left = drop n source.left;
  piece = source.piece;
  calls = after_call source.calls (next_fails source.calls);
}
