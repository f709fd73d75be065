use Rattle.std.proofs.Common.{◌≡◌, ℕ, ◌+◌, ◌-◌, ◌^◌, ◌<◌, min, List, length, get_or, ap, ◌∙◌, arith}
use Rattle.std.proofs.lemmas.Grind.{common_steps}
use Rattle.std.proofs.lemmas.List.{take_all}
use Rattle.std.specs.Prelude.{leb, ltb, ◌&&◌, if◌then◌else◌}
use Rattle.crash_disk.specs.Kept.{lies_in}
use Rattle.crash_disk.proofs.Spoiling.{spoiled_byte, all_spoiled, one_more_range}
use Rattle.crash_disk.proofs.Writing.{whole_slice}
use Rattle.crash_disk.proofs.spoil.spoil.Goals as goal

pub loop-at-preserved : goal.loop-at-preserved
loop-at-preserved c =
    let items : List ℕ = c.loop-at.bytes.items in
    let new : List ℕ = c.complement.new.bytes in
    let is_len : c.loop-at.bytes.len ≡ length items = grind (arith, common_steps) in
    let same : length new ≡ length items = c.complement.ensures.len ∙ ap length c.deref_mut.ensures.value in
    let whole = whole_slice items new c.loop-at.bytes.len is_len same in
    let n : ℕ = length c.args.held.now in
    let at : ℕ = (get_or c.args.pending.now c.loop-at.at-index (0, 0)).0 in
    let is_end : c.min-end.result ≡ min (min (at + (get_or c.args.pending.now c.loop-at.at-index (0, 0)).1) (2 ^ 64 - 1)) n = c.min-end.ensures ∙ ap (λ (x : ℕ). min x n) c.saturating_add.ensures in
    let small : length c.args.held.now < 2 ^ 64 = omega arith in record {
      same = ap length whole ∙ same ∙ c.loop-at.invariant.same;
      each = λ i lt. ap (λ (xs : List ℕ). get_or xs i 0) whole
          ∙ one_more_range c.args.pending.now c.loop-at.at-index c.args.held.now items new c.min-end.result i c.loop-at-test.true lt small is_end (c.loop-at.invariant.each i lt)
          (c.complement.ensures.each i (omega (arith, lt, ap (length {A = ℕ}) c.deref_mut.ensures.value, c.loop-at.invariant.same))
          ∙ ap (λ (xs : List ℕ). if leb at i && ltb i c.min-end.result then 255 - get_or c.args.held.now i 0 else get_or xs i 0) c.deref_mut.ensures.value);
    }

pub returns : goal.returns
returns c =
    all_spoiled (lies_in c.args.pending.now) c.args.held.now c.loop-at.bytes.items c.loop-at.invariant.same
    (λ i lt. c.loop-at.invariant.each i lt ∙ ap (λ (rs : List (ℕ × ℕ)). spoiled_byte (lies_in rs i) c.args.held.now i) (take_all c.loop-at.at-index c.args.pending.now (omega (arith, c.loop-at-test.false))))
