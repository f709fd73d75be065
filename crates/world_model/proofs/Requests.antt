-- A request that a client can ask for has a spelling in frames.
use Rattle.std.proofs.Common.{◌≡◌, ℕ, ◌≤◌, List, true, false, length, refl, ap, arith}
use Rattle.craft_base.specs.declared.command.Op.{Op}
use Rattle.craft_base.specs.declared.command.Op.TheVariants as ops
use Rattle.craft_base.specs.declared.command.Request.{Request}
use Rattle.entry_frames.specs.Formats.{U8, U32, U64, Fits, FitsNumber, within}
use Rattle.entry_frames.specs.Limits.{greatest, longest_value}
use Rattle.entry_frames.specs.MessageFields.{request_fields}
use Rattle.world_model.specs.Calls.{IsRequest, longest_key}
use Rattle.world_model.proofs.Frames.{fits_within}

number_fits : (n : ℕ) → 1 ≤ n → n ≤ greatest → FitsNumber true U64 (within 1 greatest) n
number_fits n low high = fits_within U64 1 greatest n (omega (arith, high)) low high

version_fits : (n : ℕ) → n ≤ greatest → FitsNumber true U64 (within 0 greatest) n
version_fits n high = fits_within U64 0 greatest n (omega (arith, high)) (omega arith) high

key_fits : (n : ℕ) → 1 ≤ n → n ≤ longest_key → FitsNumber true U8 (within 1 longest_key) n
key_fits n low high = fits_within U8 1 longest_key n (omega (arith, high)) low high

value_fits : (n : ℕ) → n ≤ longest_value → FitsNumber true U32 (within 0 longest_value) n
value_fits n high = fits_within U32 0 longest_value n (omega (arith, high)) (omega arith) high

not_asked : false ≡ true → ⊥
not_asked h = cc

-- ---- requests

by_op : (client seq : ℕ) (op : Op) (key value : List ℕ) → IsRequest (record { client = client; seq = seq; op = op; key = key; value = value })
    → Fits request_fields (record { client = client; seq = seq; op = op; key = key; value = value })
by_op client seq ops.Noop key value is = absurd (not_asked is.asked)
by_op client seq ops.Put key value is = (
  number_fits client is.client.0 is.client.1,
  (number_fits seq is.seq.0 is.seq.1, ((omega arith, refl), (refl, (key_fits (length key) is.key.0 is.key.1, (refl, (value_fits (length value) is.value, (refl, refl))))))),
)
by_op client seq (ops.PutIf version) key value is = (
  number_fits client is.client.0 is.client.1,
  (
    number_fits seq is.seq.0 is.seq.1,
    (
      (omega arith, refl),
      (version_fits version is.expected, (key_fits (length key) is.key.0 is.key.1, (refl, (value_fits (length value) is.value, (refl, refl))))),
    ),
  ),
)
by_op client seq ops.Del key value is =
    let none : length value ≡ 0 = ap length (is.sets refl) in (
      number_fits client is.client.0 is.client.1,
      (number_fits seq is.seq.0 is.seq.1, ((omega arith, refl), (refl, (key_fits (length key) is.key.0 is.key.1, (refl, (none, (none, refl))))))),
    )
by_op client seq ops.Get key value is =
    let none : length value ≡ 0 = ap length (is.sets refl) in (
      number_fits client is.client.0 is.client.1,
      (number_fits seq is.seq.0 is.seq.1, ((omega arith, refl), (refl, (key_fits (length key) is.key.0 is.key.1, (refl, (none, (none, refl))))))),
    )

pub request_fits : (r : Request) → IsRequest r → Fits request_fields r
request_fits r is = by_op r.client r.seq r.op r.key r.value is
