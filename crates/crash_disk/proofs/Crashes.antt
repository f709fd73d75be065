-- What the calls do to what a crash may leave.
use Rattle.std.proofs.Common.{ℕ, List, refl, sym, arith, inl, inr, subst}
use Rattle.std.specs.Prelude.{Bool, true, false, if◌then◌else◌}
use Rattle.craft_edge.specs.Disk.{written, PartlyWritten, Torn, Follows, Only}
use Rattle.craft_edge.specs.DiskModel.{DiskState, IsSound, after_write, after_sync}
use Rattle.craft_edge.proofs.DiskLaws.{IsImage-after_sync, after_write-follows}
use Rattle.craft_edge.proofs.DiskWrites.{PartlyWritten-written, PartlyWritten-none}
use Rattle.craft_edge.proofs.DiskTorn.{Torn-PartlyWritten}
use Rattle.crash_disk.specs.Told.{MayLeave}

-- after a sync that succeeded a crash leaves what a read gives
pub only_synced : (now : DiskState) → Only now.bytes (MayLeave (after_sync now))
only_synced now image (inl same) = same
only_synced now image (inr left) = IsImage-after_sync now image left

after_whole : (now : DiskState) (at : ℕ) (bytes : List ℕ) → IsSound now → Follows (Torn at bytes) (MayLeave now) (MayLeave (after_write now at bytes (written now.bytes at bytes)))
after_whole now at bytes sound image (inl same) =
    (now.bytes, inl refl, subst (λ (xs : List ℕ). Torn at bytes now.bytes xs) (sym same) (Torn-PartlyWritten now.bytes at bytes (written now.bytes at bytes) (PartlyWritten-written now.bytes at bytes)))
after_whole now at bytes sound image (inr left) =
    let before = after_write-follows now at bytes (written now.bytes at bytes) sound (omega arith) image left in (before.0, inr before.1, before.2)

-- a write that took effect or didn't leaves no more than a torn write may
pub write_follows : (now : DiskState) (at : ℕ) (bytes : List ℕ) (effect : Bool) → IsSound now
    → Follows (Torn at bytes) (MayLeave now) (MayLeave (if effect then after_write now at bytes (written now.bytes at bytes) else now))
write_follows now at bytes true sound = after_whole now at bytes sound
write_follows now at bytes false sound = λ image left. (image, left, Torn-PartlyWritten image at bytes image (PartlyWritten-none image at bytes))

-- and what a read gives then is what a write that failed may give
pub write_is_part : (now : DiskState) (at : ℕ) (bytes : List ℕ) (effect : Bool)
    → PartlyWritten now.bytes at bytes (if effect then after_write now at bytes (written now.bytes at bytes) else now).bytes
write_is_part now at bytes true = PartlyWritten-written now.bytes at bytes
write_is_part now at bytes false = PartlyWritten-none now.bytes at bytes
