-- The disk model: what a disk holds, and what a crash leaves of it.
use Rattle.std.specs.Prelude.{◌≡◌, ℕ, ◌+◌, ◌<◌, ◌≤◌, ◌⊎◌, List, [], ◌∷◌, length, slice_index}

-- a range of offsets
pub record Range : Type 0 where
  pub at : ℕ
  pub len : ℕ

-- what a read gives, the bytes at the last sync that succeeded, and the ranges written since
pub record DiskState : Type 0 where
  pub bytes : List ℕ
  pub synced : List ℕ
  pub pending : List Range

-- the offset lies in one of the ranges
abbrev pub IsIn : List Range → ℕ → Type 0
IsIn [] offset = ⊥
IsIn (range ∷ ranges) offset = ((range.at ≤ offset) × (offset < range.at + range.len)) ⊎ IsIn ranges offset

-- A crash may leave this image: its length is between the synced and the present one, bytes in written ranges and
-- past the synced length are any, and the others are the synced ones.
pub record IsImage (disk : DiskState) (image : List ℕ) : Type 0 where
  pub no_shorter : length disk.synced ≤ length image
  pub no_longer : length image ≤ length disk.bytes
  pub others : (i : ℕ) → i < length disk.synced → ¬ IsIn disk.pending i → slice_index image i ≡ slice_index disk.synced i

-- what a read gives is one of the images
abbrev pub IsSound : DiskState → Type 0
IsSound disk = IsImage disk disk.bytes

-- after a write, also one that failed, with what a read gives now: its range is pending
abbrev pub after_write : DiskState → ℕ → List ℕ → List ℕ → DiskState
after_write disk at bytes now = record {
  bytes = now;
  synced = disk.synced;
  pending = record { at = at; len = length bytes } ∷ disk.pending;
}

-- after a sync that succeeded; one that fails leaves the disk as it is
abbrev pub after_sync : DiskState → DiskState
after_sync disk = record { bytes = disk.bytes; synced = disk.bytes; pending = [] }
