use Rattle.std.proofs.Common.{◌≡◌, ◌+◌, ℕ, List, [], ◌∷◌, length, sym, ap, ◌∙◌, subst, arith, length-append}
use Rattle.std.specs.Prelude.{Option, IsTrue, option_map}
use Rattle.craft_edge.specs.Disk.{written}
use Rattle.craft_edge.specs.DiskCalls.{DiskHistory, DiskWork, WriteAt, Sync}
use Rattle.entry_frames.specs.Records.{group_bytes}
use Rattle.synced_log.specs.Calls.{FailsIn, after_calls}
use Rattle.synced_log.specs.Crashes.{LeavesOnly, TornFrom}
use Rattle.synced_log.specs.Standing.{AddedOrNot}
use Rattle.synced_log.proofs.Answering.{on_err}
use Rattle.synced_log.proofs.Appending.{added, stage_leaves, gate_leaves, stage_stops, gate_stops}
use Rattle.synced_log.proofs.Made.{fails_before, fails_behind, made_within}
use Rattle.synced_log.proofs.Telling.{tells_on, tells_both}
use Rattle.synced_log.proofs.Watching.{leaves_less, then_leaves}
use Rattle.synced_log.proofs.journal.add_group.Goals as goal

abbrev written_at : ℕ → List ℕ → List DiskWork
written_at at bytes = WriteAt at bytes ∷ Sync ∷ []

pub returns-in_err-write_steadily-clause-crash : goal.returns-in_err-write_steadily-clause-crash
returns-in_err-write_steadily-clause-crash g c = λ settled.
    let d = g.D.Disk in
    let old = c.args.disk.now in
    let bytes_are : c.as_bytes-bytes.result.now ≡ group_bytes c.args.group.now = c.as_bytes-bytes.ensures in
    let crash = subst (λ (b : List ℕ). LeavesOnly d.tells_crash d.tells_past d.moment d.may_leave d.left_since old c.write_steadily.new.disk (TornFrom (d.may_leave old) (c.args.gate + 1) b)) bytes_are c.write_steadily.ensures.crash in
    leaves_less d.tells_crash d.tells_past d.moment d.may_leave d.left_since old c.write_steadily.new.disk (TornFrom (d.may_leave old) (c.args.gate + 1) (group_bytes c.args.group.now)) (AddedOrNot (d.seen old) c.args.gate c.args.group.now)
    (λ told image t. stage_leaves (d.seen old) (d.may_leave old) c.args.gate c.args.group.now image (settled told) t) crash

pub returns-in_err-write_steadily-clause-calls_err : goal.returns-in_err-write_steadily-clause-calls_err
returns-in_err-write_steadily-clause-calls_err g c = λ settled.
    let d = g.D.Disk in
    let old = c.args.disk.now in
    let new = c.write_steadily.new.disk in
    let gate = c.args.gate in
    let body = c.args.group.now in
    let bytes_are : c.as_bytes-bytes.result.now ≡ group_bytes body = c.as_bytes-bytes.ensures in
    let fails = subst (λ (b : List ℕ). FailsIn (d.history old) (d.history new) (written_at (gate + 1) b)) bytes_are c.in_err-write_steadily.ensures.history in
    on_err _ c.from_residual.result (record {
      calls = fails_before (d.history old) (d.history new) (written_at (gate + 1) (group_bytes body)) (written_at gate (1 ∷ [])) fails;
      leaves = λ told image left. stage_stops (d.seen old) (d.may_leave old) gate body image (length fails.made) (made_within (d.history old) (d.history new) (written_at (gate + 1) (group_bytes body)) fails) (settled told)
          (subst (λ (b : List ℕ). TornFrom (d.may_leave old) (gate + 1) b image) bytes_are (c.write_steadily.ensures.crash.now told image left));
    })

pub returns-in_err-write_steadily-clause-told : goal.returns-in_err-write_steadily-clause-told
returns-in_err-write_steadily-clause-told g c = λ settled.
    let d = g.D.Disk in
    tells_on d.seen d.tells_crash d.tells_past d.moment d.may_leave d.left_since d.history c.args.disk.now c.write_steadily.new.disk (TornFrom (d.may_leave c.args.disk.now) (c.args.gate + 1) c.as_bytes-bytes.result.now) (written_at (c.args.gate + 1) c.as_bytes-bytes.result.now) c.write_steadily.result c.write_steadily.ensures.told c.write_steadily.ensures.crash
    c.write_steadily.ensures.history

pub returns-in_err-write_steadily-2-clause-crash : goal.returns-in_err-write_steadily-2-clause-crash
returns-in_err-write_steadily-2-clause-crash g c = λ settled.
    let d = g.D.Disk in
    let old = c.args.disk.now in
    let mid = c.write_steadily.new.disk in
    let new = c.write_steadily-2.new.disk in
    let gate = c.args.gate in
    let body = c.args.group.now in
    let P = AddedOrNot (d.seen old) gate body in
    let bytes_are : c.as_bytes-bytes.result.now ≡ group_bytes body = c.as_bytes-bytes.ensures in
    let crash = subst (λ (b : List ℕ). LeavesOnly d.tells_crash d.tells_past d.moment d.may_leave d.left_since old mid (TornFrom (d.may_leave old) (gate + 1) b)) bytes_are c.write_steadily.ensures.crash in
    let one = leaves_less d.tells_crash d.tells_past d.moment d.may_leave d.left_since old mid (TornFrom (d.may_leave old) (gate + 1) (group_bytes body)) P
    (λ told image t. stage_leaves (d.seen old) (d.may_leave old) gate body image (settled told) t) crash in
    let mid_is = c.in_ok-write_steadily.ensures.seen ∙ ap (λ (b : List ℕ). option_map (λ f. written f (gate + 1) b) (d.seen old)) bytes_are in
    let two = leaves_less d.tells_crash d.tells_past d.moment d.may_leave d.left_since mid new (TornFrom (d.may_leave mid) gate (1 ∷ [])) P
    (λ told image t. gate_leaves (d.seen old) (d.seen mid) (d.may_leave mid) gate body image mid_is (c.in_ok-write_steadily.ensures.durable (subst IsTrue one.same_crash told)) t) c.write_steadily-2.ensures.crash in
    then_leaves d.tells_crash d.tells_past d.moment d.may_leave d.left_since old mid new P one two

pub returns-in_err-write_steadily-2-clause-calls_err : goal.returns-in_err-write_steadily-2-clause-calls_err
returns-in_err-write_steadily-2-clause-calls_err g c = λ settled.
    let d = g.D.Disk in
    let old = c.args.disk.now in
    let mid = c.write_steadily.new.disk in
    let new = c.write_steadily-2.new.disk in
    let gate = c.args.gate in
    let body = c.args.group.now in
    let bytes_are : c.as_bytes-bytes.result.now ≡ group_bytes body = c.as_bytes-bytes.ensures in
    let first = written_at (gate + 1) (group_bytes body) in
    let done = subst (λ (b : List ℕ). d.history mid ≡ after_calls (d.history old) (written_at (gate + 1) b)) bytes_are c.in_ok-write_steadily.ensures.history in
    let fails : FailsIn (d.history mid) (d.history new) (written_at gate (1 ∷ [])) = c.in_err-write_steadily-2.ensures.history in
    let both = fails_behind (d.history old) (d.history mid) (d.history new) first (written_at gate (1 ∷ [])) done fails in
    let mid_is = c.in_ok-write_steadily.ensures.seen ∙ ap (λ (b : List ℕ). option_map (λ f. written f (gate + 1) b) (d.seen old)) bytes_are in
    on_err _ c.from_residual-in_err-write_steadily-2.result (record {
      calls = both;
      leaves = λ told image left. let here : IsTrue (d.tells_crash mid) = subst IsTrue (sym c.write_steadily.ensures.crash.same_crash) told in
          gate_stops (d.seen old) (d.seen mid) (d.may_leave mid) gate body image (length both.made) (omega (arith, length-append first fails.made)) mid_is
          (c.in_ok-write_steadily.ensures.durable told) (c.write_steadily-2.ensures.crash.now here image left);
    })

pub returns-in_err-write_steadily-2-clause-told : goal.returns-in_err-write_steadily-2-clause-told
returns-in_err-write_steadily-2-clause-told g c = λ settled.
    let d = g.D.Disk in
    let old = c.args.disk.now in
    let mid = c.write_steadily.new.disk in
    let new = c.write_steadily-2.new.disk in
    tells_both d.seen d.tells_crash d.tells_past d.moment d.may_leave d.left_since d.history old mid new
    (tells_on d.seen d.tells_crash d.tells_past d.moment d.may_leave d.left_since d.history old mid (TornFrom (d.may_leave old) (c.args.gate + 1) c.as_bytes-bytes.result.now) (written_at (c.args.gate + 1) c.as_bytes-bytes.result.now) c.write_steadily.result c.write_steadily.ensures.told c.write_steadily.ensures.crash c.write_steadily.ensures.history)
    (tells_on d.seen d.tells_crash d.tells_past d.moment d.may_leave d.left_since d.history mid new (TornFrom (d.may_leave mid) c.args.gate (1 ∷ [])) (written_at c.args.gate (1 ∷ [])) c.write_steadily-2.result c.write_steadily-2.ensures.told c.write_steadily-2.ensures.crash c.write_steadily-2.ensures.history)

pub returns-clause-calls : goal.returns-clause-calls
returns-clause-calls g c =
    let d = g.D.Disk in
    let old = d.history c.args.disk.now in
    let mid = d.history c.write_steadily.new.disk in
    let gate = c.args.gate in
    let bytes_are : c.as_bytes-bytes.result.now ≡ group_bytes c.args.group.now = c.as_bytes-bytes.ensures in
    let done = subst (λ (b : List ℕ). mid ≡ after_calls old (written_at (gate + 1) b)) bytes_are c.in_ok-write_steadily.ensures.history in
    c.in_ok-write_steadily-2.ensures.history ∙ ap (λ (h : Option DiskHistory). after_calls h (written_at gate (1 ∷ []))) done

pub returns-clause-calls_err : goal.returns-clause-calls_err
returns-clause-calls_err g c = λ settled. tt

pub returns-clause-told : goal.returns-clause-told
returns-clause-told g c = λ settled.
    let d = g.D.Disk in
    let old = c.args.disk.now in
    let mid = c.write_steadily.new.disk in
    let new = c.write_steadily-2.new.disk in
    tells_both d.seen d.tells_crash d.tells_past d.moment d.may_leave d.left_since d.history old mid new
    (tells_on d.seen d.tells_crash d.tells_past d.moment d.may_leave d.left_since d.history old mid (TornFrom (d.may_leave old) (c.args.gate + 1) c.as_bytes-bytes.result.now) (written_at (c.args.gate + 1) c.as_bytes-bytes.result.now) c.write_steadily.result c.write_steadily.ensures.told c.write_steadily.ensures.crash c.write_steadily.ensures.history)
    (tells_on d.seen d.tells_crash d.tells_past d.moment d.may_leave d.left_since d.history mid new (TornFrom (d.may_leave mid) c.args.gate (1 ∷ [])) (written_at c.args.gate (1 ∷ [])) c.write_steadily-2.result c.write_steadily-2.ensures.told c.write_steadily-2.ensures.crash c.write_steadily-2.ensures.history)

pub returns-clause-added : goal.returns-clause-added
returns-clause-added g c =
    let d = g.D.Disk in
    let gate = c.args.gate in
    let body = c.args.group.now in
    let bytes_are : c.as_bytes-bytes.result.now ≡ group_bytes body = c.as_bytes-bytes.ensures in
    added (d.seen c.args.disk.now) (d.seen c.write_steadily.new.disk) (d.seen c.write_steadily-2.new.disk) gate body (gate + length c.as_bytes-bytes.result.now)
    (c.in_ok-write_steadily.ensures.seen ∙ ap (λ (b : List ℕ). option_map (λ f. written f (gate + 1) b) (d.seen c.args.disk.now)) bytes_are)
    c.in_ok-write_steadily-2.ensures.seen (ap (λ (b : List ℕ). gate + length b) bytes_are)

pub returns-clause-crash : goal.returns-clause-crash
returns-clause-crash g c = λ settled.
    let d = g.D.Disk in
    let old = c.args.disk.now in
    let mid = c.write_steadily.new.disk in
    let new = c.write_steadily-2.new.disk in
    let gate = c.args.gate in
    let body = c.args.group.now in
    let P = AddedOrNot (d.seen old) gate body in
    let bytes_are : c.as_bytes-bytes.result.now ≡ group_bytes body = c.as_bytes-bytes.ensures in
    let crash = subst (λ (b : List ℕ). LeavesOnly d.tells_crash d.tells_past d.moment d.may_leave d.left_since old mid (TornFrom (d.may_leave old) (gate + 1) b)) bytes_are c.write_steadily.ensures.crash in
    let one = leaves_less d.tells_crash d.tells_past d.moment d.may_leave d.left_since old mid (TornFrom (d.may_leave old) (gate + 1) (group_bytes body)) P
    (λ told image t. stage_leaves (d.seen old) (d.may_leave old) gate body image (settled told) t) crash in
    let mid_is = c.in_ok-write_steadily.ensures.seen ∙ ap (λ (b : List ℕ). option_map (λ f. written f (gate + 1) b) (d.seen old)) bytes_are in
    let two = leaves_less d.tells_crash d.tells_past d.moment d.may_leave d.left_since mid new (TornFrom (d.may_leave mid) gate (1 ∷ [])) P
    (λ told image t. gate_leaves (d.seen old) (d.seen mid) (d.may_leave mid) gate body image mid_is (c.in_ok-write_steadily.ensures.durable (subst IsTrue one.same_crash told)) t) c.write_steadily-2.ensures.crash in
    then_leaves d.tells_crash d.tells_past d.moment d.may_leave d.left_since old mid new P one two
