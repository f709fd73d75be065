-- What the calls of a disk do to its bytes, and what a crash may leave between two syncs.
use Rattle.std.specs.Prelude.{◌≡◌, ◌⊎◌, ◌↔◌, ℕ, ◌+◌, ◌-◌, ◌^◌, ◌<◌, ◌≤◌, min, Bool, List, [], ◌∷◌, ◌++◌, length, take, drop, replicate, slice_get, None, Some, Option, Result, MatchResult, IsTrue, ⊤}

-- the greatest length of a disk
abbrev pub max_len : ℕ
max_len = 2 ^ 62

-- what the disk tells is so
abbrev pub WhereTold : Bool → Type 0 → Type 0
WhereTold told P = IsTrue told → P

-- The file with these bytes at this offset. A gap behind the old end is filled with zeros, and to write no bytes changes nothing.
abbrev pub written : List ℕ → ℕ → List ℕ → List ℕ
written old at [] = old
written old at (byte ∷ bytes) = take at old ++ replicate (at - length old) 0 ++ (byte ∷ bytes) ++ drop (at + length (byte ∷ bytes)) old

-- a write that failed may have written any part of its range: each byte is what it was, or what was to be written
pub record PartlyWritten (old : List ℕ) (at : ℕ) (bytes : List ℕ) (new : List ℕ) : Type 0 where
  pub no_shorter : length old ≤ length new
  pub no_longer : length new ≤ length (written old at bytes)
  pub each : (i : ℕ) → i < length new → (slice_get new i ≡ slice_get old i) ⊎ (slice_get new i ≡ slice_get (written old at bytes) i)

-- what a read gives after a write, where that is told
abbrev pub Writes : {E : Type 0} → Option (List ℕ) → Option (List ℕ) → ℕ → List ℕ → Result (Unit {0}) E → Type 0
Writes None new at bytes result = ⊤
Writes (Some old) None at bytes result = ⊥
Writes (Some old) (Some new) at bytes result = MatchResult result (λ _. new ≡ written old at bytes) (λ _. PartlyWritten old at bytes new)

-- n bytes of the file from this offset on were read to the front of the buffer: none exactly at or past the end, or with no room
pub record ReadsAt (file : List ℕ) (at n : ℕ) (buffer : List ℕ) : Type 0 where
  pub bytes : take n buffer ≡ take n (drop at file)
  pub within : n ≤ length file - at
  pub none : (n ≡ 0) ↔ ((length file ≤ at) ⊎ (length buffer ≡ 0))

-- Until a sync, a crash may leave any bytes in the range of a write, and any bytes past the old end, up to the end of the write.
-- Elsewhere it leaves what it might have left before.
pub record Torn (at : ℕ) (bytes : List ℕ) (old new : List ℕ) : Type 0 where
  pub before : take (min at (length old)) new ≡ take (min at (length old)) old
  pub after : drop (at + length bytes) new ≡ drop (at + length bytes) old
  pub no_shorter : length old ≤ length new
  pub no_longer : length new ≤ length (written old at bytes)

-- each image that a crash may leave now is one that it might have left before, changed by a step
abbrev pub Follows : (List ℕ → List ℕ → Type 0) → (List ℕ → Type 0) → (List ℕ → Type 0) → Type 0
Follows step old new = (image : List ℕ) → new image → (before : List ℕ) × old before × step before image

-- a crash leaves no image that it might not have left before
abbrev pub NoMore : (List ℕ → Type 0) → (List ℕ → Type 0) → Type 0
NoMore old new = (image : List ℕ) → new image → old image

-- a crash leaves the file and nothing else
abbrev pub Only : List ℕ → (List ℕ → Type 0) → Type 0
Only file may_leave = (image : List ℕ) → may_leave image → image ≡ file

-- the same, where what a read gives is told
abbrev pub OnlySeen : Option (List ℕ) → (List ℕ → Type 0) → Type 0
OnlySeen None may_leave = ⊤
OnlySeen (Some file) may_leave = Only file may_leave

-- Time goes on: a crash since t might have left what it might have left before, or what it may leave now.
pub record Elapses (before now : ℕ) (past since : ℕ → List ℕ → Type 0) (may_leave : List ℕ → Type 0) : Type 0 where
  pub later : before ≤ now
  pub nothing_else : (t : ℕ) (image : List ℕ) → t ≤ before → since t image → past t image ⊎ may_leave image
  pub keeps : (t : ℕ) (image : List ℕ) → t ≤ before → past t image → since t image

-- a crash may leave the same images as before
abbrev pub SameImages : (List ℕ → Type 0) → (List ℕ → Type 0) → Type 0
SameImages old new = (image : List ℕ) → old image ↔ new image

-- no time went by: a crash since t might have left the same images as before
pub record StandsStill (before now : ℕ) (past since : ℕ → List ℕ → Type 0) : Type 0 where
  pub same_moment : now ≡ before
  pub same_past : (t : ℕ) → SameImages (past t) (since t)
