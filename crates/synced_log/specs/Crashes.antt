-- What a crash leaves during a call of several device calls.
use Rattle.std.specs.Prelude.{◌≡◌, ◌⊎◌, ℕ, ◌≤◌, Bool, true, false, IsTrue, List, Option, is_some}
use Rattle.craft_edge.specs.Disk.{Torn}
use Rattle.craft_edge.specs.DiskCalls.{DiskHistory, Sync, after_call_of}

-- A crash at any moment since `old`, and a crash now, leaves an image that has P, where the disk tells it.
pub record LeavesOnly {D : Type 0} (tells_crash tells_past : D → Bool) (moment : D → ℕ) (may_leave : D → List ℕ → Type 0) (left_since : D → ℕ → List ℕ → Type 0)
    (old new : D) (P : List ℕ → Type 0) : Type 0 where
  pub same_crash : tells_crash new ≡ tells_crash old
  pub same_past : tells_past new ≡ tells_past old
  pub now : IsTrue (tells_crash old) → (image : List ℕ) → may_leave new image → P image
  pub later : IsTrue (tells_past old) → moment old ≤ moment new
  pub any_moment : IsTrue (tells_crash old) → IsTrue (tells_past old) → (image : List ℕ) → left_since new (moment old) image → P image
  -- for a run that began earlier
  pub before : IsTrue (tells_crash old) → IsTrue (tells_past old) → (t : ℕ) (image : List ℕ) → t ≤ moment old → left_since new t image → left_since old t image ⊎ P image

-- one of these images, torn by a write
abbrev pub TornFrom : (List ℕ → Type 0) → ℕ → List ℕ → List ℕ → Type 0
TornFrom old at bytes image = (before : List ℕ) × old before × Torn at bytes before image

-- The first call is a sync. Until it ends a crash leaves what it might have left before, and then what has P.
pub record BeginsWithSync {D : Type 0} (tells_crash tells_past : D → Bool) (moment : D → ℕ) (may_leave : D → List ℕ → Type 0) (left_since : D → ℕ → List ℕ → Type 0) (history : D → Option DiskHistory)
    (old new : D) (P : List ℕ → Type 0) : Type 0 where
  pub synced : D
  pub failed : Bool
  pub call : history synced ≡ after_call_of (history old) Sync failed
  pub before : LeavesOnly tells_crash tells_past moment may_leave left_since old synced (may_leave old)
  pub behind : failed ≡ false → LeavesOnly tells_crash tells_past moment may_leave left_since synced new P
  pub ended : failed ≡ true → new ≡ synced

-- the disk tells what it told
pub record TellsSame {D : Type 0} (seen : D → Option (List ℕ)) (tells_crash tells_past : D → Bool) (history : D → Option DiskHistory) (old new : D) : Type 0 where
  pub same_seen : is_some (seen new) ≡ is_some (seen old)
  pub same_crash : tells_crash new ≡ tells_crash old
  pub same_past : tells_past new ≡ tells_past old
  pub same_history : is_some (history new) ≡ is_some (history old)
