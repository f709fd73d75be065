-- A disk in memory.
use Rattle.std.specs.Prelude.{◌≡◌, ℕ, ◌+◌, Bool, List, length, false, ◌||◌, IsTrue}
use Rattle.craft_edge.specs.Calls.{CallBook, next_fails, after_call as after_counted}
use Rattle.craft_edge.specs.DiskCalls.{DiskHistory, DiskWork, with_call}
use Rattle.crash_disk.specs.Told.{Told, made_with, after_call}
use Rattle.crash_disk.specs.Image.{crash_image}
use Rattle.crash_disk.specs.Replay.{FollowsHistory, held_after, takes_effect, is_torn, is_stopped}

-- what it tells, the count of its calls, and whether one of them failed for want of memory or room
pub record DiskInMemory : Type 0 where
  pub told : Told
  pub calls : CallBook
  pub starved : Bool

-- made with these bytes and these calls that are to fail
abbrev pub made_disk : List ℕ → List ℕ → DiskInMemory
made_disk bytes fail = record { told = made_with bytes fail; calls = record { fail = fail; made = 0; faults = 0 }; starved = false }

-- the number of the next call, counted from 1
abbrev pub next_number : DiskHistory → ℕ
next_number history = length history.calls + 1

-- the next call was told to fail: it is listed, or the last stop stops it
abbrev pub next_is_to_fail : DiskInMemory → Bool
next_is_to_fail disk = next_fails disk.calls || is_stopped disk.told.history.last_stop (next_number disk.told.history)

-- the next call is the one that the last stop names
abbrev pub next_is_torn : DiskInMemory → Bool
next_is_torn disk = is_torn disk.told.history.last_stop (next_number disk.told.history)

-- What a call does, which failed or didn't. Only one that fails may find memory or room wanting, and the disk says so from then on.
-- Where nothing was wanting so far, it fails exactly where it was told to, and takes effect where it doesn't fail or is a torn write.
pub record Makes (work : DiskWork) (failed : Bool) (old new : DiskInMemory) : Type 0 where
  pub counted : new.calls ≡ after_counted old.calls failed
  pub history : new.told.history ≡ with_call old.told.history work failed
  pub to_fail : IsTrue (next_is_to_fail old) → IsTrue failed
  pub starved_stays : IsTrue old.starved → IsTrue new.starved
  pub starves : failed ≡ false → new.starved ≡ old.starved
  pub as_told : new.starved ≡ false → failed ≡ next_is_to_fail old
  pub effect : new.starved ≡ false → new.told ≡ after_call old.told work failed (takes_effect work failed (next_is_torn old))
  -- any other call that fails leaves what is held as it was
  pub nothing : IsTrue failed → next_is_torn old ≡ false → new.told.now ≡ old.told.now

-- Where nothing was wanting and at most one stop was told, all follows from the history.
abbrev pub IsAsTold : DiskInMemory → Type 0
IsAsTold disk = disk.starved ≡ false → disk.told.history.stopped_before ≡ false → FollowsHistory disk.told.history disk.told.now

-- what a crash leaves, by the history alone
abbrev pub image_after : DiskHistory → List ℕ
image_after history = crash_image history.last_stop (held_after history)

-- the image is the one that the history names
abbrev pub IsImageOf : DiskInMemory → List ℕ → Type 0
IsImageOf disk image = disk.starved ≡ false → disk.told.history.stopped_before ≡ false → image ≡ image_after disk.told.history
