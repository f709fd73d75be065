-- The operations of entries and requests: one row each in one table.
use Rattle.std.specs.Prelude.{ℕ, Bool, true, false, List, [], ◌∷◌, ◌==◌, if◌then◌else◌}
use Rattle.craft_base.specs.declared.command.Op.{Op}
use Rattle.craft_base.specs.declared.command.Op.TheVariants as ops
use Rattle.entry_frames.specs.declared.op_kind.OpKind.{OpKind}
use Rattle.entry_frames.specs.declared.op_kind.OpKind.TheVariants.{Noop, Put, PutIf, Del, Get}

-- what an operation is written as, and which fields stand with it
pub record OpRow : Type 0 where
  pub byte : ℕ
  -- a client asks for it, under a number and for a key
  pub asked : Bool
  -- it names the version that it expects
  pub expects : Bool
  -- it has a value
  pub sets : Bool

abbrev pub row : OpKind → OpRow
row Noop = record { byte = 0; asked = false; expects = false; sets = false }
row Put = record { byte = 1; asked = true; expects = false; sets = true }
row PutIf = record { byte = 2; asked = true; expects = true; sets = true }
row Del = record { byte = 3; asked = true; expects = false; sets = false }
row Get = record { byte = 4; asked = true; expects = false; sets = false }

abbrev pub op_kinds : List OpKind
op_kinds = Noop ∷ Put ∷ PutIf ∷ Del ∷ Get ∷ []

-- the kind in the list that is written as that byte, Noop where there is none
abbrev pub op_kind_in : List OpKind → ℕ → OpKind
op_kind_in [] byte = Noop
op_kind_in (kind ∷ kinds) byte = if (row kind).byte == byte then kind else op_kind_in kinds byte

abbrev pub op_kind_with : ℕ → OpKind
op_kind_with byte = op_kind_in op_kinds byte

-- whether an operation is written as that byte
abbrev pub is_op_byte : ℕ → Bool
is_op_byte byte = (row (op_kind_with byte)).byte == byte

abbrev pub op_kind : Op → OpKind
op_kind ops.Noop = Noop
op_kind ops.Put = Put
op_kind (ops.PutIf version) = PutIf
op_kind ops.Del = Del
op_kind ops.Get = Get

abbrev pub op_byte : Op → ℕ
op_byte op = (row (op_kind op)).byte

-- the version that an operation expects, 0 where it names none
abbrev pub expected_version : Op → ℕ
expected_version (ops.PutIf version) = version
expected_version _ = 0

abbrev pub op_with : OpKind → ℕ → Op
op_with Noop expected = ops.Noop
op_with Put expected = ops.Put
op_with PutIf expected = ops.PutIf expected
op_with Del expected = ops.Del
op_with Get expected = ops.Get
