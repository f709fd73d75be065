-- How the logic stores what a disk in memory tells.
use Rattle.std.specs.Prelude.{◌≡◌, ◌⊎◌, ℕ, Bool, true, false, List, Option, refl}
use mathlib.Core.Logic.{inl, inr}
use Rattle.std.specs.Coded.{Coded, code_by, coded×, coded⊎, coded_ℕ, coded_bool, coded_list, coded_option}
use Rattle.craft_edge.specs.Calls.{CallBook}
use Rattle.craft_edge.specs.DiskCalls.{DiskHistory, DiskCall, DiskWork, Len, ReadAt, WriteAt, Sync, StopOrder, MadeWith}
use Rattle.craft_edge.specs.DiskModel.{DiskState, Range}
use Rattle.crash_disk.specs.Told.{Told}
use Rattle.crash_disk.specs.MemDisk.{DiskInMemory}

abbrev WorkParts : Type 0
WorkParts = Bool ⊎ ((ℕ × ℕ) ⊎ (ℕ × List ℕ))

abbrev work_to : DiskWork → WorkParts
work_to Len = inl false
work_to Sync = inl true
work_to (ReadAt at len) = inr (inl (at, len))
work_to (WriteAt at bytes) = inr (inr (at, bytes))

abbrev work_from : WorkParts → DiskWork
work_from (inl false) = Len
work_from (inl true) = Sync
work_from (inr (inl p)) = ReadAt p.0 p.1
work_from (inr (inr p)) = WriteAt p.0 p.1

pub work_same : (work : DiskWork) → work_from (work_to work) ≡ work
work_same Len = refl
work_same Sync = refl
work_same (ReadAt at len) = refl
work_same (WriteAt at bytes) = refl

abbrev pub work_code : Coded DiskWork
work_code = code_by WorkParts (coded⊎ coded_bool (coded⊎ (coded× coded_ℕ coded_ℕ) (coded× coded_ℕ (coded_list coded_ℕ)))) work_to work_from work_same

abbrev pub call_code : Coded DiskCall
call_code = code_by (DiskWork × Bool) (coded× work_code coded_bool) (λ c. (c.work, c.failed)) (λ p. record { work = p.0; failed = p.1 }) (λ _. refl)

abbrev pub stop_code : Coded StopOrder
stop_code = code_by (ℕ × (Bool × ℕ)) (coded× coded_ℕ (coded× coded_bool coded_ℕ)) (λ s. (s.call, (s.keep, s.made_before))) (λ p. record { call = p.0; keep = p.1.0; made_before = p.1.1 }) (λ _. refl)

abbrev pub made_code : Coded MadeWith
made_code = code_by (List ℕ × List ℕ) (coded× (coded_list coded_ℕ) (coded_list coded_ℕ)) (λ m. (m.bytes, m.fail)) (λ p. record { bytes = p.0; fail = p.1 }) (λ _. refl)

abbrev HistoryParts : Type 0
HistoryParts = List DiskCall × (Option StopOrder × (Bool × MadeWith))

abbrev pub history_code : Coded DiskHistory
history_code =
    code_by HistoryParts (coded× (coded_list call_code) (coded× (coded_option stop_code) (coded× coded_bool made_code)))
    (λ h. (h.calls, (h.last_stop, (h.stopped_before, h.made_with))))
    (λ p. record { calls = p.0; last_stop = p.1.0; stopped_before = p.1.1.0; made_with = p.1.1.1 }) (λ _. refl)

abbrev pub range_code : Coded Range
range_code = code_by (ℕ × ℕ) (coded× coded_ℕ coded_ℕ) (λ r. (r.at, r.len)) (λ p. record { at = p.0; len = p.1 }) (λ _. refl)

abbrev pub state_code : Coded DiskState
state_code =
    code_by (List ℕ × (List ℕ × List Range)) (coded× (coded_list coded_ℕ) (coded× (coded_list coded_ℕ) (coded_list range_code)))
    (λ d. (d.bytes, (d.synced, d.pending))) (λ p. record { bytes = p.0; synced = p.1.0; pending = p.1.1 }) (λ _. refl)

abbrev pub told_code : Coded Told
told_code =
    code_by (DiskHistory × (DiskState × List DiskState)) (coded× history_code (coded× state_code (coded_list state_code)))
    (λ t. (t.history, (t.now, t.earlier))) (λ p. record { history = p.0; now = p.1.0; earlier = p.1.1 }) (λ _. refl)

abbrev pub book_code : Coded CallBook
book_code =
    code_by (List ℕ × (ℕ × ℕ)) (coded× (coded_list coded_ℕ) (coded× coded_ℕ coded_ℕ))
    (λ b. (b.fail, (b.made, b.faults))) (λ p. record { fail = p.0; made = p.1.0; faults = p.1.1 }) (λ _. refl)

abbrev pub disk_code : Coded DiskInMemory
disk_code =
    code_by (Told × (CallBook × Bool)) (coded× told_code (coded× book_code coded_bool))
    (λ d. (d.told, (d.calls, d.starved))) (λ p. record { told = p.0; calls = p.1.0; starved = p.1.1 }) (λ _. refl)
