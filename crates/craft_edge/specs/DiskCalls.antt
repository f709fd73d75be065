-- The calls of a disk, as a disk that tells them lists them.
use Rattle.std.specs.Prelude.{ℕ, Bool, List, [], ◌∷◌, ◌++◌, length, is_some, Some, Option, option_map}

-- what a call asked for: a read and a write have the range that begins at `at`
pub data DiskWork : Type 0 where
  Len : DiskWork
  ReadAt : (at len : ℕ) → DiskWork
  WriteAt : (at : ℕ) (bytes : List ℕ) → DiskWork
  Sync : DiskWork

-- a call, and whether it failed
pub record DiskCall : Type 0 where
  pub work : DiskWork
  pub failed : Bool

-- a stop that a disk was told: at the call-th call from then on, with the pending ranges kept or not
pub record StopOrder : Type 0 where
  pub call : ℕ
  pub keep : Bool
  -- how many calls were made before it
  pub made_before : ℕ

-- what a disk was made with: its first bytes, and the numbers of the calls that are to fail, counted from 1
pub record MadeWith : Type 0 where
  pub bytes : List ℕ
  pub fail : List ℕ

-- what a disk tells of its past
pub record DiskHistory : Type 0 where
  -- the calls made, the oldest first
  pub calls : List DiskCall
  -- the stop that it was last told, if any
  pub last_stop : Option StopOrder
  -- another stop was told before that one
  pub stopped_before : Bool
  pub made_with : MadeWith

-- after one call more
abbrev pub with_call : DiskHistory → DiskWork → Bool → DiskHistory
with_call history work failed = record history { calls = history.calls ++ record { work = work; failed = failed } ∷ [] }

-- after a stop was told, which takes the place of an earlier one and is no call
abbrev pub with_stop : DiskHistory → ℕ → Bool → DiskHistory
with_stop history call keep = record history {
  last_stop = Some (record { call = call; keep = keep; made_before = length history.calls });
  stopped_before = is_some history.last_stop;
}

-- the same, where the disk tells its past
abbrev pub after_call_of : Option DiskHistory → DiskWork → Bool → Option DiskHistory
after_call_of history work failed = option_map (λ h. with_call h work failed) history

abbrev pub after_stop_of : Option DiskHistory → ℕ → Bool → Option DiskHistory
after_stop_of history call keep = option_map (λ h. with_stop h call keep) history
