-- A log with a value in its place.
use Rattle.std.proofs.Common.{◌≡◌, ℕ, zero, suc, ◌+◌, List, [], ◌∷◌, ◌++◌, length, take, drop, refl, ap, arith}
use Rattle.craft_base.specs.declared.command.Entry.{Entry}
use Rattle.entry_frames.specs.Durable.{complete_at}
use Rattle.entry_frames.specs.Bulk.{bulk_of}

pub complete_bulk : (log : List Entry) (position : ℕ) (bytes : List ℕ) → bulk_of (complete_at log position bytes) ≡ bulk_of log
complete_bulk [] position bytes = refl
complete_bulk (e ∷ log) zero bytes = refl
complete_bulk (e ∷ log) (suc position) bytes = ap (λ n. e.head.vlen + n) (complete_bulk log position bytes)

-- a list written over one as long
pub written : (new old : List Entry) (n : ℕ) → n ≡ length old → length new ≡ length old → take n (new ++ drop (length new) old) ≡ new
written [] [] zero is same = refl
written [] [] (suc n) is same = absurd (omega (arith, is))
written [] (y ∷ old) n is same = absurd (omega (arith, same))
written (x ∷ new) [] n is same = absurd (omega (arith, same))
written (x ∷ new) (y ∷ old) zero is same = absurd (omega (arith, is))
written (x ∷ new) (y ∷ old) (suc n) is same = ap (λ (l : List Entry). x ∷ l) (written new old n (omega (arith, is)) (omega (arith, same)))
