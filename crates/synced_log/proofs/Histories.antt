-- What a disk tells after calls more: they stand behind the others, and what it was made with and the stops told stay.
use Rattle.std.proofs.Common.{◌≡◌, List, [], ◌∷◌, ◌++◌, sym, ap, ◌∙◌, append_assoc, append-nil}
use Rattle.std.specs.Prelude.{true, false, Option, None, Some}
use Rattle.craft_edge.specs.DiskCalls.{DiskHistory, DiskWork, DiskCall, after_call_of}
use Rattle.crash_disk.specs.Stopped.{made_well}
use Rattle.synced_log.specs.Calls.{after_calls, FailsIn}

abbrev pub with_calls : DiskHistory → List DiskCall → DiskHistory
with_calls h calls = record h { calls = h.calls ++ calls }

pub spelled_out : (h : DiskHistory) (works : List DiskWork) → after_calls (Some h) works ≡ Some (with_calls h (made_well works))
spelled_out h [] = ap (λ (l : List DiskCall). Some (record h { calls = l })) (sym (append-nil h.calls))
spelled_out h (w ∷ works) =
    let call : DiskCall = record { work = w; failed = false } in
    spelled_out (with_calls h (call ∷ [])) works ∙ ap (λ (l : List DiskCall). Some (record h { calls = l })) (append_assoc h.calls (call ∷ []) (made_well works))

abbrev pub last_call : DiskWork → DiskCall
last_call w = record { work = w; failed = true }

abbrev history_or : DiskHistory → Option DiskHistory → DiskHistory
history_or d None = d
history_or d (Some h) = h

-- after calls that were all made
pub made_history : (old new : DiskHistory) (works : List DiskWork) → Some new ≡ after_calls (Some old) works → new ≡ with_calls old (made_well works)
made_history old new works is = ap (history_or old) (is ∙ spelled_out old works)

-- after calls up to and with the first that failed
pub failed_history : (old new : DiskHistory) (works : List DiskWork) (f : FailsIn (Some old) (Some new) works) → new ≡ with_calls old (made_well f.made ++ last_call f.failed ∷ [])
failed_history old new works f =
    ap (history_or old) (f.is ∙ ap (λ (h : Option DiskHistory). after_call_of h f.failed true) (spelled_out old f.made))
    ∙ ap (λ (l : List DiskCall). record old { calls = l }) (append_assoc old.calls (made_well f.made) (last_call f.failed ∷ []))

-- ---- what calls leave as it was

pub record KeepsOrders (old new : DiskHistory) : Type 0 where
  pub same_start : new.made_with ≡ old.made_with
  pub same_stop : new.last_stop ≡ old.last_stop
  pub same_first : new.stopped_before ≡ old.stopped_before

keeps_orders : (old new : DiskHistory) (calls : List DiskCall) → new ≡ with_calls old calls → KeepsOrders old new
keeps_orders old new calls is = record {
  same_start = ap (λ (h : DiskHistory). h.made_with) is;
  same_stop = ap (λ (h : DiskHistory). h.last_stop) is;
  same_first = ap (λ (h : DiskHistory). h.stopped_before) is;
}

pub made_keeps_orders : (old new : DiskHistory) (works : List DiskWork) → Some new ≡ after_calls (Some old) works → KeepsOrders old new
made_keeps_orders old new works is = keeps_orders old new (made_well works) (made_history old new works is)

pub failed_keeps_orders : (old new : DiskHistory) (works : List DiskWork) → FailsIn (Some old) (Some new) works → KeepsOrders old new
failed_keeps_orders old new works f = keeps_orders old new (made_well f.made ++ last_call f.failed ∷ []) (failed_history old new works f)
