-- What a crash leaves where a call of `append` failed.
use Rattle.std.specs.Prelude.{◌≡◌, ◌≢◌, ℕ, ◌+◌, ◌<◌, ◌≤◌, Bool, IsTrue, List, length, get_or, None, Some, Option, ⊤}
use Rattle.craft_edge.specs.DiskCalls.{DiskHistory}
use Rattle.entry_frames.specs.Records.{group_bytes}
use Rattle.synced_log.specs.Calls.{FailsIn}
use Rattle.synced_log.specs.Journal.{HasNext, HasSame}
use Rattle.synced_log.specs.Standing.{append_calls}

-- the byte at the gate decides: with a 1 the image has the new group, with any other it has the groups from before
pub record GateDecides (before : List ℕ) (gate : ℕ) (body image : List ℕ) : Type 0 where
  pub counts : get_or image gate 0 ≡ 1 → HasNext before gate body image (gate + length (group_bytes body))
  pub lacks : get_or image gate 0 ≢ 1 → HasSame before gate image

-- Where the first or second of the four calls failed, the image lacks the group; behind that the gate decides.
abbrev pub StopLeaves : Option (List ℕ) → ℕ → List ℕ → ℕ → List ℕ → Type 0
StopLeaves None gate body made image = ⊤
StopLeaves (Some before) gate body made image = (made < 2 → HasSame before gate image) × (2 ≤ made → GateDecides before gate body image)

-- one of the four calls failed, and by which of them it was a crash leaves such an image, where the disk tells it
pub record StopsAppend {D : Type 0} (seen : D → Option (List ℕ)) (tells_crash : D → Bool) (may_leave : D → List ℕ → Type 0) (history : D → Option DiskHistory) (old new : D) (gate : ℕ) (body : List ℕ) : Type 0 where
  pub calls : FailsIn (history old) (history new) (append_calls gate body)
  pub leaves : IsTrue (tells_crash old) → (image : List ℕ) → may_leave new image → StopLeaves (seen old) gate body (length calls.made) image
