-- A mask tells of each entry of a stretch whether it is whole.
use Rattle.std.proofs.Common.{◌≡◌, ℕ, zero, suc, ◌+◌, ◌*◌, ◌/◌, ◌<◌, Bool, true, false, cond, List, [], ◌∷◌, length, take, drop, refl, sym, ap, ◌∙◌, arith, length-take}
use Rattle.std.specs.Int.{bit_at}
use Rattle.std.proofs.lemmas.Nat.Bits.{bit_at_lowest, bit_at-suc, bit_at-zero}
use Rattle.craft_base.specs.declared.command.Entry.{Entry}
use Rattle.world_model.specs.Quorums as quorums
use Rattle.world_model.specs.Rules.Append.{mask_of}
use Rattle.protocol.specs.Logs.{whole_at}
use Rattle.protocol.proofs.Slots.{whole_at-take}
use Rattle.bridge.specs.Views.{log_seen}
use Rattle.bridge.proofs.Stretches.{whole_at-drop}
use Rattle.bridge.proofs.Views.{drop_seen, mark_is_seen, take_seen}

lowest : (whole : Bool) (rest : ℕ) → bit_at (cond whole 1 0 + 2 * rest) 0 ≡ 1 → whole ≡ true
lowest true rest e = refl
lowest false rest e = absurd (omega (arith, e, bit_at_lowest (0 + 2 * rest)))

halved : (whole : Bool) (rest : ℕ) → (cond whole 1 0 + 2 * rest) / 2 ≡ rest
halved true rest = omega arith
halved false rest = omega arith

-- a bit that is set is one of the stretch, whose entry is whole
mask_bit : (entries : List Entry) (bit : ℕ) → bit_at (mask_of entries) bit ≡ 1 → (bit < length entries) × (whole_at (log_seen entries) (suc bit) ≡ true)
unfolding whole_at
mask_bit [] bit e = absurd (omega (arith, e, bit_at-zero bit))
mask_bit (entry ∷ entries) zero e =
    (omega arith, mark_is_seen entry.form ∙ lowest (quorums.is_whole entry.form) (mask_of entries) e)
mask_bit (entry ∷ entries) (suc bit) e =
    let mask = mask_of (entry ∷ entries) in
    let rest = mask_bit entries bit
    (ap (λ m. bit_at m bit) (sym (halved (quorums.is_whole entry.form) (mask_of entries))) ∙ sym (bit_at-suc mask bit) ∙ e) in
    let within : bit < length entries = rest.0 in
    (omega (arith, within), rest.1)

-- the stretch of a log of so many entries behind an index
pub stretch_bit :
    (log : List Entry) (prev count bit : ℕ) → bit_at (mask_of (take count (drop prev log))) bit ≡ 1 →
    (bit < count) × (whole_at (log_seen log) (prev + 1 + bit) ≡ true)
stretch_bit log prev count bit e =
    let stretch = take count (drop prev log) in
    let of = mask_bit stretch bit e in
    let within : bit < length stretch = of.0 in
    let lt : bit < count = omega (arith, within, length-take count (drop prev log)) in (
      lt,
      sym (whole_at-drop prev (log_seen log) (suc bit) (prev + 1 + bit) (omega arith) (omega arith))
          ∙ sym (ap (λ slots. whole_at slots (suc bit)) (drop_seen prev log))
          ∙ sym (whole_at-take count (log_seen (drop prev log)) (suc bit) (omega (arith, lt)))
          ∙ sym (ap (λ slots. whole_at slots (suc bit)) (take_seen count (drop prev log)))
          ∙ of.1,
    )
