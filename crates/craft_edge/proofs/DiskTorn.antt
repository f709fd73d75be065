-- A write, also one that failed, leaves in what a read gives no more than a torn write may.
use Rattle.std.proofs.Common.{◌≡◌, ◌⊎◌, ℕ, ◌+◌, ◌<◌, ◌≤◌, min, List, [], ◌∷◌, length, drop, sym, ◌∙◌, arith, inl, inr}
use Rattle.std.proofs.lemmas.List.{drop_all}
use Rattle.craft_edge.specs.Disk.{PartlyWritten, Torn}
use Rattle.craft_edge.proofs.DiskLaws.{length-written_some, same_back, same_front}
use Rattle.craft_edge.proofs.DiskWrites.{kept_outside}

-- what lies behind the range is as it was
same_behind : (old : List ℕ) (at : ℕ) (bytes new : List ℕ) → PartlyWritten old at bytes new → (length new ≡ length old) ⊎ ((length old < at + length bytes) × (length new ≤ at + length bytes))
    → drop (at + length bytes) new ≡ drop (at + length bytes) old
same_behind old at bytes new part (inl size) =
    same_back new old (at + length bytes) size
    (λ i le lt. let below : i < length old = omega (arith, size, lt) in kept_outside old at i bytes new below (inr le) (part.each i lt))
same_behind old at bytes new part (inr short) =
    drop_all (at + length bytes) new short.1 ∙ sym (drop_all (at + length bytes) old (omega (arith, short.0)))

sizes : (old : List ℕ) (at : ℕ) (bytes new : List ℕ) → PartlyWritten old at bytes new → (length new ≡ length old) ⊎ ((length old < at + length bytes) × (length new ≤ at + length bytes))
sizes old at [] new part = inl (omega (arith, part.no_shorter, part.no_longer))
sizes old at (b ∷ bs) new part = grind (arith, part.no_shorter, part.no_longer, length-written_some old at b bs)

pub Torn-PartlyWritten : (old : List ℕ) (at : ℕ) (bytes new : List ℕ) → PartlyWritten old at bytes new → Torn at bytes old new
Torn-PartlyWritten old at bytes new part = record {
  before = same_front new old (min at (length old)) (omega (arith, part.no_shorter)) (omega arith)
      (λ i lt. let below : i < length old = omega (arith, lt) in kept_outside old at i bytes new below (inl (omega (arith, lt))) (part.each i (omega (arith, below, part.no_shorter))));
  after = same_behind old at bytes new part (sizes old at bytes new part);
  no_shorter = part.no_shorter;
  no_longer = part.no_longer;
}
