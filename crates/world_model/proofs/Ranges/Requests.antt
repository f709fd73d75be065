-- The entry of a request that can be written can be written too.
use Rattle.std.proofs.Common.{ℕ, ◌≤◌, List, refl, ap, sym, arith}
use Rattle.craft_base.specs.declared.command.Entry.{Entry}
use Rattle.craft_base.specs.declared.command.Form.TheVariants as forms
use Rattle.craft_base.specs.declared.command.Op.{Op}
use Rattle.craft_base.specs.declared.command.Op.TheVariants as ops
use Rattle.craft_base.specs.declared.command.Request.{Request}
use Rattle.entry_frames.specs.Entries.{entry_fields}
use Rattle.entry_frames.specs.Formats.{Fits, U64}
use Rattle.entry_frames.specs.Limits.{greatest}
use Rattle.entry_frames.specs.MessageFields.{request_fields}
use Rattle.world_model.specs.Ranges.{IsClientNumber}
use Rattle.world_model.specs.Rules.Call.{entry_for}
use Rattle.world_model.proofs.Frames.{fits_within, lies_within}

module _ (client seq : ℕ) (key value : List ℕ) where
  abbrev asking : Op → Request
  asking op = record { client = client; seq = seq; op = op; key = key; value = value }

  -- an entry of a client's with that value length
  abbrev with_length : ℕ → Op → ℕ → Entry
  with_length term op vlen = record { term = term; head = record { client = client; seq = seq; op = op; key = key; vlen = vlen }; form = forms.Whole value }

  module _ (k term : ℕ) (least : 1 ≤ term) (most : term ≤ greatest) where
    op_fits : (op : Op) → Fits request_fields (asking op) → Fits (entry_fields k) (entry_for term (asking op))
    op_fits ops.Noop fits = absurd cc
    op_fits ops.Put fits = (
      (omega arith, refl),
      (
        (omega arith, refl),
        (
          fits_within U64 1 greatest term (omega (arith, most)) least most,
          (
            (fits_within U64 0 greatest term (omega (arith, most)) (omega arith) most).1,
            (fits.0, (fits.1.0, (fits.1.1.1.0, (fits.1.1.1.1.0, (refl, (fits.1.1.1.1.1.1.0, (refl, refl))))))),
          ),
        ),
      ),
    )
    op_fits (ops.PutIf expected) fits = (
      (omega arith, refl),
      (
        (omega arith, refl),
        (
          fits_within U64 1 greatest term (omega (arith, most)) least most,
          (
            (fits_within U64 0 greatest term (omega (arith, most)) (omega arith) most).1,
            (fits.0, (fits.1.0, (fits.1.1.1.0, (fits.1.1.1.1.0, (refl, (fits.1.1.1.1.1.1.0, (refl, refl))))))),
          ),
        ),
      ),
    )
    op_fits ops.Del fits = (
      (omega arith, refl),
      (
        (omega arith, refl),
        (
          fits_within U64 1 greatest term (omega (arith, most)) least most,
          (
            (fits_within U64 0 greatest term (omega (arith, most)) (omega arith) most).1,
            (fits.0, (fits.1.0, (fits.1.1.1.0, (fits.1.1.1.1.0, (refl, (fits.1.1.1.1.1.1.0, (fits.1.1.1.1.1.1.0, ap (with_length term ops.Del) (sym fits.1.1.1.1.1.1.0)))))))),
          ),
        ),
      ),
    )
    op_fits ops.Get fits = (
      (omega arith, refl),
      (
        (omega arith, refl),
        (
          fits_within U64 1 greatest term (omega (arith, most)) least most,
          (
            (fits_within U64 0 greatest term (omega (arith, most)) (omega arith) most).1,
            (fits.0, (fits.1.0, (fits.1.1.1.0, (fits.1.1.1.1.0, (refl, (fits.1.1.1.1.1.1.0, (fits.1.1.1.1.1.1.0, ap (with_length term ops.Get) (sym fits.1.1.1.1.1.1.0)))))))),
          ),
        ),
      ),
    )

pub entry_for_fits : (k term : ℕ) → 1 ≤ term → term ≤ greatest → (r : Request) → Fits request_fields r → Fits (entry_fields k) (entry_for term r)
entry_for_fits k term least most r fits = op_fits r.client r.seq r.key r.value k term least most r.op fits

pub client_in_range : (r : Request) → Fits request_fields r → IsClientNumber r.client
client_in_range r fits = lies_within U64 1 greatest r.client fits.0

pub seq_in_range : (r : Request) → Fits request_fields r → IsClientNumber r.seq
seq_in_range r fits = lies_within U64 1 greatest r.seq fits.1.0
