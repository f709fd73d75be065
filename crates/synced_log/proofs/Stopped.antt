-- What a crash leaves of a disk in memory that stopped during `append`.
use Rattle.std.proofs.Common.{◌≡◌, ◌≢◌, inl, inr, ℕ, ◌+◌, ◌<◌, ◌≤◌, List, [], ◌∷◌, ◌++◌, length, get_or, refl, ap, ◌∙◌, subst, arith, length-append}
use Rattle.std.specs.Prelude.{Bool, true, false, Option, Some, ◌==◌, leb, if◌then◌else◌}
use Rattle.std.proofs.lemmas.Bool.{cases_lt}
use Rattle.std.proofs.lemmas.Bool.Decides.{nat_tests}
use Rattle.craft_edge.specs.Disk.{written}
use Rattle.craft_edge.specs.DiskCalls.{DiskHistory, DiskWork, DiskCall, WriteAt, Sync, StopOrder}
use Rattle.craft_edge.specs.DiskModel.{DiskState, after_write}
use Rattle.crash_disk.specs.Image.{crash_image}
use Rattle.crash_disk.specs.MemDisk.{DiskInMemory, IsAsTold}
use Rattle.crash_disk.specs.Replay as replay
use Rattle.crash_disk.specs.Stopped.{IsToldToStop, made_well, stopped_byte}
use Rattle.crash_disk.specs.Told.{at_rest}
use Rattle.crash_disk.proofs.Stopping.{after_calls-append, byte_left, fail_as_told-behind, fails_where_stopped}
use Rattle.entry_frames.specs.Records.{Record}
use Rattle.synced_log.specs.declared.owner.Owner.{Owner}
use Rattle.synced_log.specs.Calls.{after_calls, FailsIn}
use Rattle.synced_log.specs.Journal.{body_of}
use Rattle.synced_log.specs.Standing.{append_calls}
use Rattle.synced_log.specs.States.{OpensTo}
use Rattle.synced_log.specs.Stopped.{StoppedAppend, StoppedCallFails, image_of}
use Rattle.synced_log.proofs.Histories.{with_calls, last_call, made_history, failed_history}
use Rattle.synced_log.proofs.States.{holds_opens, holds_same, opens_with, opens_without}

-- ---- the gate

torn_at : (n m : ℕ) → n ≡ m → (n == m) ≡ true
torn_at n m is = grind (arith, nat_tests, is)

-- where the third or fourth call failed, the last write that took effect is the gate's
gate_written : (stop : StopOrder) (n : ℕ) (before : DiskState) (made : List DiskWork) (failed : DiskWork) (left : List DiskWork) (gate : ℕ) (body : List ℕ) → append_calls gate body ≡ made ++ failed ∷ left → 2 ≤ length made
    → n + length made ≡ stop.made_before + stop.call → (disk : DiskState) × (replay.after_calls (Some stop) n before (made_well made ++ last_call failed ∷ []) ≡ after_write disk gate (1 ∷ []) (written disk.bytes gate (1 ∷ [])))
gate_written stop n before [] failed left gate body are some at = absurd (omega arith)
gate_written stop n before (a ∷ []) failed left gate body are some at = absurd (omega arith)
gate_written stop n before (a ∷ b ∷ []) failed left gate body are some at =
    let disk = replay.after_calls (Some stop) n before (made_well (a ∷ b ∷ [])) in
    let is : failed ≡ WriteAt gate (1 ∷ []) = cc in
    let torn = torn_at (n + 1 + 1) (stop.made_before + stop.call) (omega (arith, at)) in (
      disk,
      ap (λ (w : DiskWork). replay.after_one (Some stop) (n + 1 + 1) disk (last_call w)) is ∙ ap (λ (t : Bool). if t then after_write disk gate (1 ∷ []) (written disk.bytes gate (1 ∷ [])) else disk) torn,
    )
gate_written stop n before (a ∷ b ∷ c ∷ []) failed left gate body are some at =
    let disk = replay.after_calls (Some stop) n before (made_well (a ∷ b ∷ [])) in
    let write : c ≡ WriteAt gate (1 ∷ []) = cc in
    let sync : failed ≡ Sync = cc in (
      disk,
      ap (λ (w : DiskWork). replay.after_one (Some stop) (n + 1 + 1 + 1) (replay.after_one (Some stop) (n + 1 + 1) disk (record { work = c; failed = false })) (last_call w)) sync
          ∙ ap (λ (w : DiskWork). replay.after_one (Some stop) (n + 1 + 1) disk (record { work = w; failed = false })) write,
    )
gate_written stop n before (a ∷ b ∷ c ∷ e ∷ more) failed left gate body are some at = absurd (omega (arith, ap length are, length-append more (failed ∷ left)))

module _ (old new : DiskInMemory) (gate : ℕ) (o : Owner) (records : List Record) (call : ℕ) (keep : Bool) (some : call ≢ 0) (told : IsToldToStop old.told.history call keep) (as_told : IsAsTold new) (fed : new.starved ≡ false)
    (f : FailsIn (Some old.told.history) (Some new.told.history) (append_calls gate (body_of o.k records))) where
  abbrev past : DiskHistory
  past = old.told.history

  abbrev stop : StopOrder
  stop = record { call = call; keep = keep; made_before = length old.told.history.calls }

  abbrev added : List DiskCall
  added = made_well f.made ++ last_call f.failed ∷ []

  now_is : new.told.history ≡ with_calls old.told.history (made_well f.made ++ last_call f.failed ∷ [])
  now_is = failed_history old.told.history new.told.history (append_calls gate (body_of o.k records)) f

  stop_is : new.told.history.last_stop ≡ Some (record { call = call; keep = keep; made_before = length old.told.history.calls })
  stop_is = ap (λ (h : DiskHistory). h.last_stop) now_is ∙ told.stop

  follows : replay.FollowsHistory new.told.history new.told.now
  follows = as_told fed (ap (λ (h : DiskHistory). h.stopped_before) now_is ∙ told.first)

  failed_as_told : replay.FailAsTold [] (Some (record { call = call; keep = keep; made_before = length old.told.history.calls })) (1 + length old.told.history.calls) (made_well f.made ++ last_call f.failed ∷ [])
  failed_as_told =
      let here = subst (λ (h : DiskHistory). replay.FailAsTold h.made_with.fail h.last_stop 1 h.calls) now_is follows.failed in
      let none = subst (λ (fail : List ℕ). replay.FailAsTold fail past.last_stop 1 (past.calls ++ added)) told.none_listed here in
      fail_as_told-behind [] (Some stop) 1 past.calls added (subst (λ (s : Option StopOrder). replay.FailAsTold [] s 1 (past.calls ++ added)) told.stop none)

  pub stopped_at : length f.made + 1 ≡ call
  stopped_at = omega (arith, fails_where_stopped stop (1 + length past.calls) f.made f.failed (omega (arith, some)) failed_as_told)

  held : new.told.now ≡ replay.after_calls (Some (record { call = call; keep = keep; made_before = length old.told.history.calls })) (1 + length old.told.history.calls)
      (replay.after_calls (Some (record { call = call; keep = keep; made_before = length old.told.history.calls })) 1 (at_rest old.told.history.made_with.bytes) old.told.history.calls) (made_well f.made ++ last_call f.failed ∷ [])
  held =
      follows.held ∙ ap (λ (h : DiskHistory). replay.held_after h) now_is
      ∙ ap (λ (s : Option StopOrder). replay.after_calls s 1 (at_rest past.made_with.bytes) (past.calls ++ added)) told.stop
      ∙ after_calls-append (Some stop) 1 (at_rest past.made_with.bytes) past.calls added

  pub gate_byte : 2 ≤ length f.made → get_or (image_of new) gate 0 ≡ stopped_byte keep 1
  gate_byte many =
      let first = replay.after_calls (Some stop) 1 (at_rest past.made_with.bytes) past.calls in
      let last = gate_written stop (1 + length past.calls) first f.made f.failed f.left gate (body_of o.k records) f.are many (omega (arith, stopped_at)) in
      ap (λ (s : Option StopOrder). get_or (crash_image s new.told.now) gate 0) stop_is
      ∙ ap (λ (disk : DiskState). get_or (crash_image (Some stop) disk) gate 0) (held ∙ last.1)
      ∙ byte_left stop last.0 gate 1

-- ---- the law

pub stopped_append : StoppedAppend
stopped_append old new gate o d records call keep holds can some told as_told fed left stops =
    let body = body_of o.k records in
    let image = image_of new in
    let f = stops.calls in
    let at = stopped_at old new gate o records call keep some told as_told fed f in
    let leaves = stops.leaves refl image left in
    let byte = gate_byte old new gate o records call keep some told as_told fed f in
    let early : length f.made < 2 → OpensTo image o d = λ few. holds_opens image gate o d (holds_same old.told.now.bytes gate o d holds image (leaves.0 few)) in
    let spoiled : 2 ≤ length f.made → keep ≡ false → OpensTo image o d
    = λ many lost. opens_without old.told.now.bytes gate o d holds body records refl can image (leaves.1 many)
    (λ one. absurd (omega (arith, one, byte many, ap (λ (k : Bool). stopped_byte k 1) lost))) in
    record {
      at = at;
      with_group = λ late kept. let many : 2 ≤ length f.made = omega (arith, at, late) in
          opens_with old.told.now.bytes gate o d holds body records refl can image (leaves.1 many) (byte many ∙ ap (λ (k : Bool). stopped_byte k 1) kept);
      without_early = λ soon. early (omega (arith, at, soon));
      without_spoiled = λ lost. elim (cases_lt (length f.made) 2) [ inl few ↦ early few | inr many ↦ spoiled many lost ];
    }

-- ---- not all of the calls were made

too_late : (stop number : ℕ) → stop ≤ number → false ≡ leb stop number → ⊥
too_late stop number late is = grind (arith, nat_tests)

pub stopped_call_fails : StoppedCallFails
stopped_call_fails old new gate body call keep some early told as_told fed made =
    let past = old.told.history in
    let works = append_calls gate body in
    let stop : StopOrder = record { call = call; keep = keep; made_before = length past.calls } in
    let now_is : new.told.history ≡ with_calls past (made_well works) = made_history past new.told.history works made in
    let follows : replay.FollowsHistory new.told.history new.told.now = as_told fed (ap (λ (h : DiskHistory). h.stopped_before) now_is ∙ told.first) in
    let here = subst (λ (h : DiskHistory). replay.FailAsTold h.made_with.fail h.last_stop 1 h.calls) now_is follows.failed in
    let none = subst (λ (fail : List ℕ). replay.FailAsTold fail past.last_stop 1 (past.calls ++ made_well works)) told.none_listed here in
    let stopped = subst (λ (s : Option StopOrder). replay.FailAsTold [] s 1 (past.calls ++ made_well works)) told.stop none in
    let added = fail_as_told-behind [] (Some stop) 1 past.calls (made_well works) stopped in
    too_late (stop.made_before + stop.call) (1 + length past.calls + 1 + 1 + 1) (omega (arith, early)) added.1.1.1.0
