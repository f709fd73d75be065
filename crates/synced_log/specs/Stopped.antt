-- A journal on a disk in memory that stops during `append`.
use Rattle.std.specs.Prelude.{◌≡◌, ◌≢◌, ℕ, ◌+◌, ◌<◌, ◌≤◌, Bool, true, false, List, length, Some}
use Rattle.crash_disk.specs.Image.{crash_image}
use Rattle.crash_disk.specs.MemDisk.{DiskInMemory, IsAsTold}
use Rattle.crash_disk.specs.Stopped.{IsToldToStop}
use Rattle.crash_disk.specs.Told.{MayLeave}
use Rattle.entry_frames.specs.Durable.{Durable, after}
use Rattle.entry_frames.specs.Records.{Record}
use Rattle.synced_log.specs.declared.owner.Owner.{Owner}
use Rattle.synced_log.specs.Calls.{after_calls}
use Rattle.synced_log.specs.Journal.{IsGroupOf, body_of, shape_of}
use Rattle.synced_log.specs.Standing.{append_calls}
use Rattle.synced_log.specs.States.{HoldsTo, OpensTo}
use Rattle.synced_log.specs.Stops.{StopsAppend}

-- what `append` answers of it where it failed
abbrev pub StopsInMemory : DiskInMemory → DiskInMemory → ℕ → List ℕ → Type 0
StopsInMemory = StopsAppend (λ d. Some d.told.now.bytes) (λ d. true) (λ d. MayLeave d.told.now) (λ d. Some d.told.history)

-- what a crash leaves of it
abbrev pub image_of : DiskInMemory → List ℕ
image_of disk = crash_image disk.told.history.last_stop disk.told.now

-- A group whose records can be applied was being added to the owner's journal, and the disk had been told just before to stop at a
-- call. It failed at that call; a crash leaves the group exactly where the call is the third or fourth and what is pending is kept.
pub record StopDecides (old new : DiskInMemory) (gate : ℕ) (o : Owner) (d : Durable) (records : List Record) (call : ℕ) (keep : Bool) (stops : StopsInMemory old new gate (body_of o.k records)) : Type 0 where
  pub at : length stops.calls.made + 1 ≡ call
  pub with_group : 3 ≤ call → keep ≡ true → OpensTo (image_of new) o (after d records)
  pub without_early : call < 3 → OpensTo (image_of new) o d
  pub without_spoiled : keep ≡ false → OpensTo (image_of new) o d

abbrev pub StoppedAppend : Type 0
StoppedAppend = (old new : DiskInMemory) (gate : ℕ) (o : Owner) (d : Durable) (records : List Record) (call : ℕ) (keep : Bool) → HoldsTo old.told.now.bytes gate o d → IsGroupOf (shape_of o) d records
    → call ≢ 0 → IsToldToStop old.told.history call keep → IsAsTold new → new.starved ≡ false → MayLeave new.told.now (image_of new)
    → (stops : StopsInMemory old new gate (body_of o.k records)) → StopDecides old new gate o d records call keep stops

-- On such a disk, told just before to stop at one of the four calls of `append`, not all of them are made.
abbrev pub StoppedCallFails : Type 0
StoppedCallFails = (old new : DiskInMemory) (gate : ℕ) (body : List ℕ) (call : ℕ) (keep : Bool) → call ≢ 0 → call ≤ 4 → IsToldToStop old.told.history call keep → IsAsTold new → new.starved ≡ false
    → Some new.told.history ≡ after_calls (Some old.told.history) (append_calls gate body) → ⊥
