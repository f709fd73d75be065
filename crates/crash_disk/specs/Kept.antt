-- What the code keeps of a disk in memory.
use Rattle.std.specs.Prelude.{◌≡◌, ℕ, ◌+◌, ◌-◌, ◌^◌, ◌==◌, ◌≤◌, leb, min, Bool, false, List, length, map, None, Some, Option, option_map, is_some}
use Rattle.craft_edge.specs.Calls.{CallBook, counted}
use Rattle.craft_edge.specs.Disk.{max_len}
use Rattle.craft_edge.specs.DiskCalls.{DiskHistory}
use Rattle.craft_edge.specs.DiskModel.{IsSound}
use Rattle.crash_disk.specs.Image.{is_in, keeps}
use Rattle.crash_disk.specs.MemDisk.{DiskInMemory, IsAsTold}

-- by the number of calls until the disk stops, the one at which it does among them: the next call fails for it
abbrev pub is_over : Option ℕ → Bool
is_over None = false
is_over (Some left) = leb left 1

-- the next call is the one at which it stops
abbrev pub is_last : Option ℕ → Bool
is_last None = false
is_last (Some left) = left == 1

abbrev pub one_less : Option ℕ → Option ℕ
one_less None = None
one_less (Some left) = Some (left - 1)

-- what is left after the calls made
abbrev pub calls_left : DiskHistory → Option ℕ
calls_left history = option_map (λ stop. stop.made_before + stop.call - length history.calls) history.last_stop

-- a call was counted
pub record Counts (old new : CallBook) : Type 0 where
  pub same_fail : new.fail ≡ old.fail
  pub count : new.made ≡ counted old.made

-- the offset lies in one of the ranges, each an offset and a length
abbrev pub lies_in : List (ℕ × ℕ) → ℕ → Bool
lies_in ranges = is_in (map (λ (r : ℕ × ℕ). record { at = r.0; len = r.1 }) ranges)

-- what the code keeps, and what the disk tells
pub record Keeps (bytes : List ℕ) (ranges : List (ℕ × ℕ)) (left : Option ℕ) (keep : Bool) (disk : DiskInMemory) : Type 0 where
  pub same_bytes : disk.told.now.bytes ≡ bytes
  pub same_pending : (i : ℕ) → is_in disk.told.now.pending i ≡ lies_in ranges i
  pub within : length bytes ≤ max_len
  pub sound : IsSound disk.told.now
  pub same_fail : disk.calls.fail ≡ disk.told.history.made_with.fail
  pub same_count : disk.calls.made ≡ min (length disk.told.history.calls) (2 ^ 64 - 1)
  pub same_left : left ≡ calls_left disk.told.history
  pub first_stop : is_some disk.told.history.last_stop ≡ false → disk.told.history.stopped_before ≡ false
  pub same_keep : keep ≡ keeps disk.told.history.last_stop
  pub follows : IsAsTold disk
