-- A disk tells what it told.
use Rattle.std.proofs.Common.{◌≡◌, ℕ, Bool, List, Result, Ok, Err, ap, ◌∙◌}
use Rattle.std.specs.Prelude.{Option, is_some}
use Rattle.craft_edge.specs.DiskCalls.{DiskHistory, DiskWork}
use Rattle.synced_log.specs.Calls.{Makes}
use Rattle.synced_log.specs.Crashes.{LeavesOnly, TellsSame}
use Rattle.synced_log.proofs.Made.{told_calls, told_failed}

told_makes : {T E : Type 0} (old new : Option DiskHistory) (works : List DiskWork) (r : Result T E) → Makes old new works r → is_some new ≡ is_some old
told_makes old new works (Ok x) m = ap is_some m ∙ told_calls old works
told_makes old new works (Err e) m = told_failed old new works m

module _ {D : Type 0} (seen : D → Option (List ℕ)) (tells_crash tells_past : D → Bool) (moment : D → ℕ) (may_leave : D → List ℕ → Type 0) (left_since : D → ℕ → List ℕ → Type 0) (history : D → Option DiskHistory) where
  -- after some calls
  pub tells_on : {T E : Type 0} (old new : D) (P : List ℕ → Type 0) (works : List DiskWork) (r : Result T E) → is_some (seen new) ≡ is_some (seen old)
      → LeavesOnly tells_crash tells_past moment may_leave left_since old new P → Makes (history old) (history new) works r → TellsSame seen tells_crash tells_past history old new
  tells_on old new P works r told leaves made = record {
    same_seen = told;
    same_crash = leaves.same_crash;
    same_past = leaves.same_past;
    same_history = told_makes (history old) (history new) works r made;
  }

  -- and after more
  pub tells_both : (old mid new : D) → TellsSame seen tells_crash tells_past history old mid → TellsSame seen tells_crash tells_past history mid new → TellsSame seen tells_crash tells_past history old new
  tells_both old mid new a b = record {
    same_seen = b.same_seen ∙ a.same_seen;
    same_crash = b.same_crash ∙ a.same_crash;
    same_past = b.same_past ∙ a.same_past;
    same_history = b.same_history ∙ a.same_history;
  }
