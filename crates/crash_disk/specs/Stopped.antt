-- A disk that was told to stop.
use Rattle.std.specs.Prelude.{◌≡◌, ℕ, ◌-◌, Bool, false, List, [], length, map, Some, if◌then◌else◌}
use Rattle.craft_edge.specs.DiskCalls.{DiskHistory, DiskWork, DiskCall}

-- these calls, none of which failed
abbrev pub made_well : List DiskWork → List DiskCall
made_well = map (λ (w : DiskWork). record { work = w; failed = false })

-- just now it was told, for the first time, to stop at the call-th call from now, and no call is listed to fail
pub record IsToldToStop (history : DiskHistory) (call : ℕ) (keep : Bool) : Type 0 where
  pub stop : history.last_stop ≡ Some (record { call = call; keep = keep; made_before = length history.calls })
  pub first : history.stopped_before ≡ false
  pub none_listed : history.made_with.fail ≡ []

-- a byte that was pending at the stop, as a crash leaves it
abbrev pub stopped_byte : Bool → ℕ → ℕ
stopped_byte keep byte = if keep then byte else 255 - byte
