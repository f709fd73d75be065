-- What a disk in memory holds, computed from what it was made with, its calls and the stop that it was told.
use Rattle.std.specs.Prelude.{ℕ, ◌+◌, ◌-◌, ◌^◌, ◌==◌, leb, min, Bool, List, [], ◌∷◌, ◌≡◌, None, Some, Option, false, not, ◌||◌, if◌then◌else◌, ⊤}
use Rattle.std.specs.List.{list_any}
use Rattle.craft_edge.specs.DiskCalls.{DiskHistory, DiskCall, DiskWork, Len, ReadAt, WriteAt, Sync, StopOrder}
use Rattle.craft_edge.specs.DiskModel.{DiskState}
use Rattle.crash_disk.specs.Told.{at_rest, carried_out}

-- Calls are numbered from 1, and the numbers stand still at the last one of 64 bits.
abbrev pub is_listed : List ℕ → ℕ → Bool
is_listed fail number = list_any (λ n. n == min number (2 ^ 64 - 1)) fail

-- the call with this number is the one that the stop names, or a later one
abbrev pub is_stopped : Option StopOrder → ℕ → Bool
is_stopped None number = false
is_stopped (Some stop) number = leb (stop.made_before + stop.call) number

-- it is the one that the stop names: a write is torn there
abbrev pub is_torn : Option StopOrder → ℕ → Bool
is_torn None number = false
is_torn (Some stop) number = number == stop.made_before + stop.call

-- it was told to fail
abbrev pub is_to_fail : List ℕ → Option StopOrder → ℕ → Bool
is_to_fail fail stop number = is_listed fail number || is_stopped stop number

-- A write or a sync that doesn't fail takes effect, and so does a torn write. A read has none.
abbrev pub takes_effect : DiskWork → Bool → Bool → Bool
takes_effect Len failed torn = false
takes_effect (ReadAt at len) failed torn = false
takes_effect (WriteAt at bytes) failed torn = not failed || torn
takes_effect Sync failed torn = not failed

abbrev pub after_one : Option StopOrder → ℕ → DiskState → DiskCall → DiskState
after_one stop number disk call = if takes_effect call.work call.failed (is_torn stop number) then carried_out disk call.work else disk

-- after these calls, of which the first has this number
abbrev pub after_calls : Option StopOrder → ℕ → DiskState → List DiskCall → DiskState
after_calls stop number disk [] = disk
after_calls stop number disk (call ∷ calls) = after_calls stop (number + 1) (after_one stop number disk call) calls

-- these calls, of which the first has this number, failed exactly where they were told to
abbrev pub FailAsTold : List ℕ → Option StopOrder → ℕ → List DiskCall → Type 0
FailAsTold fail stop number [] = ⊤
FailAsTold fail stop number (call ∷ calls) = (call.failed ≡ is_to_fail fail stop number) × FailAsTold fail stop (number + 1) calls

-- what is held after the whole history
abbrev pub held_after : DiskHistory → DiskState
held_after history = after_calls history.last_stop 1 (at_rest history.made_with.bytes) history.calls

-- the calls failed exactly where they were told to, and what is held follows from them
pub record FollowsHistory (history : DiskHistory) (now : DiskState) : Type 0 where
  pub failed : FailAsTold history.made_with.fail history.last_stop 1 history.calls
  pub held : now ≡ held_after history
