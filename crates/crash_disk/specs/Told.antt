-- What a disk in memory tells: its calls, what it holds, and what it held before each of them.
use Rattle.std.specs.Prelude.{◌⊎◌, ℕ, Bool, ◌≤◌, ◌≡◌, List, [], ◌∷◌, length, None, false, if◌then◌else◌}
use mathlib.Core.Logic.{inl, inr}
use Rattle.std.proofs.Common.{le_refl, le_trans, lt_irrefl}
use Rattle.std.proofs.Math.Nat.{le_of_suc-le}
use Rattle.craft_edge.specs.Disk.{written}
use Rattle.craft_edge.specs.DiskCalls.{DiskHistory, DiskWork, Len, ReadAt, WriteAt, Sync, with_call, with_stop}
use Rattle.craft_edge.specs.DiskModel.{DiskState, IsImage, after_write, after_sync}

-- the calls and the stop, what is held now, and what was held before each call, the latest first
pub record Told : Type 0 where
  pub history : DiskHistory
  pub now : DiskState
  pub earlier : List DiskState

-- a disk with these bytes, of which none is pending
abbrev pub at_rest : List ℕ → DiskState
at_rest bytes = record { bytes = bytes; synced = bytes; pending = [] }

-- made with these bytes, and with the numbers of the calls that are to fail
abbrev pub made_with : List ℕ → List ℕ → Told
made_with bytes fail = record {
  history = record { calls = []; last_stop = None; stopped_before = false; made_with = record { bytes = bytes; fail = fail } };
  now = at_rest bytes;
  earlier = [];
}

-- what a call leaves where it is carried out
abbrev pub carried_out : DiskState → DiskWork → DiskState
carried_out disk Len = disk
carried_out disk (ReadAt at len) = disk
carried_out disk (WriteAt at bytes) = after_write disk at bytes (written disk.bytes at bytes)
carried_out disk Sync = after_sync disk

-- after a call that failed or didn't, and took effect or left all as it was
abbrev pub after_call : Told → DiskWork → Bool → Bool → Told
after_call told work failed effect = record {
  history = with_call told.history work failed;
  now = if effect then carried_out told.now work else told.now;
  earlier = told.now ∷ told.earlier;
}

-- after a stop was told
abbrev pub after_stop : Told → ℕ → Bool → Told
after_stop told call keep = record { history = with_stop told.history call keep; now = told.now; earlier = told.earlier }

-- what a crash may leave: what a read gives, or any other image of the disk model
abbrev pub MayLeave : DiskState → List ℕ → Type 0
MayLeave disk image = (image ≡ disk.bytes) ⊎ IsImage disk image

-- A moment is the number of the calls made. At one of those from t on a crash might have left this image;
-- the states are the latest first, the last of them at moment 0.
abbrev pub LeftSince : List DiskState → ℕ → List ℕ → Type 0
LeftSince [] t image = ⊥
LeftSince (state ∷ states) t image = ((t ≤ length states) × MayLeave state image) ⊎ LeftSince states t image

abbrev pub left_since : Told → ℕ → List ℕ → Type 0
left_since told = LeftSince (told.now ∷ told.earlier)

none_left : (states : List DiskState) (t : ℕ) (image : List ℕ) → length states ≤ t → LeftSince states t image → ⊥
none_left [] t image le left = left
none_left (state ∷ states) t image le (inl last) = lt_irrefl (length states) (le_trans le last.0)
none_left (state ∷ states) t image le (inr left) = none_left states t image (le_of_suc-le le) left

-- since the present moment there is only what is held now
pub now_alone : (now : DiskState) (earlier : List DiskState) (image : List ℕ) → LeftSince (now ∷ earlier) (length earlier) image → MayLeave now image
now_alone now earlier image (inl last) = last.1
now_alone now earlier image (inr left) = absurd (none_left earlier (length earlier) image (le_refl (length earlier)) left)
