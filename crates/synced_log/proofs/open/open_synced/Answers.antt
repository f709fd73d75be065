use Rattle.std.proofs.Common.{◌≡◌, ℕ, List, [], sym, ap, ◌∙◌, subst}
use Rattle.std.proofs.lemmas.Result.{err_from_is_err_and}
use Rattle.std.specs.Prelude.{Option, Some, IsTrue}
use Rattle.craft_base.specs.Shape.{Shape}
use Rattle.synced_log.specs.declared.span.GroupSpan.{GroupSpan}
use Rattle.synced_log.specs.declared.fault.OpenFault.{OpenFault}
use Rattle.synced_log.specs.Calls.{AreReadings, MakesUpTo, ReadsAndCreates, creation_calls, FailsIn, after_calls}
use Rattle.synced_log.specs.Crashes.{LeavesOnly}
use Rattle.synced_log.specs.Creation.{CreationLeaves}
use Rattle.synced_log.specs.Journal.{IsUnborn, Placed, Kept, owned}
use Rattle.synced_log.specs.Standing.{Opens, Stays}
use Rattle.synced_log.specs.Walks.{all_placed}
use Rattle.synced_log.proofs.Opening.{created_opens}
use Rattle.synced_log.proofs.Made.{disk_failed, as_error}
use Rattle.synced_log.proofs.OpeningCalls.{reading_faulty, created_all, created_some}
use Rattle.synced_log.proofs.Staying.{only_less, stays_same, stays_creating}
use Rattle.synced_log.proofs.Watching.{leaves_less, then_leaves}
use Rattle.synced_log.proofs.open.open_synced.Goals as goal

abbrev some_of : List ℕ → Option (List ℕ)
some_of l = Some l

abbrev kept_as : Shape → List Placed → Kept
kept_as shape placed = record { shape = shape; placed = placed }

pub returns-then-is_unborn-clause-opened : goal.returns-then-is_unborn-clause-opened
returns-then-is_unborn-clause-opened g c =
    let d = g.D.Disk in
    let o = c.owner_of-owner.result in
    let file = c.in_ok-file.file.items in
    let unborn : IsUnborn file = subst IsUnborn c.deref.ensures.value (c.is_unborn.ensures.0 c.if-is_unborn.true) in
    let kept_is = c.of.ensures ∙ ap (λ (l : List GroupSpan). kept_as c.args.shape.now (all_placed file l)) c.new.ensures.items ∙ ap (λ s. kept_as s []) (sym c.owner_of-owner.ensures.shape) in
    subst (λ w. Opens (d.seen c.args.disk.now) (d.seen c.create.new.disk) w 32 c.of.result) c.owner_of-owner.ensures.value
    (created_opens (d.seen c.args.disk.now) (d.seen c.read_all.new.disk) (d.seen c.create.new.disk) file o c.of.result c.owner_of-owner.ensures.owner c.in_ok-file.ensures.seen c.in_ok-file.ensures.bytes unborn
    (λ there. c.in_ok-create.ensures.seen (there ∙ ap some_of (sym c.deref-then-is_unborn.ensures.value))) kept_is)

pub returns-in_err-create-clause-crash : goal.returns-in_err-create-clause-crash
returns-in_err-create-clause-crash g c = λ settled.
    let d = g.D.Disk in
    let old = c.args.disk.now in
    let mid = c.read_all.new.disk in
    let new = c.create.new.disk in
    let file = c.in_ok-file.file.items in
    let unborn : IsUnborn file = subst IsUnborn c.deref.ensures.value (c.is_unborn.ensures.0 c.if-is_unborn.true) in
    let wanted = owned c.args.shape.now c.args.me in
    let P = Stays wanted (d.seen old) in
    let read = c.in_ok-file.ensures.crash in
    let one = leaves_less d.tells_crash d.tells_past d.moment d.may_leave d.left_since old mid (d.may_leave old) P (λ told image left. stays_same wanted (d.seen old) (d.may_leave old) image (settled told) left) read in
    let made = subst (λ (f : List ℕ). LeavesOnly d.tells_crash d.tells_past d.moment d.may_leave d.left_since mid new (CreationLeaves (λ x. x ≡ f) (d.seen mid) (d.may_leave mid) wanted)) c.deref-then-is_unborn.ensures.value
    (subst (λ w. LeavesOnly d.tells_crash d.tells_past d.moment d.may_leave d.left_since mid new (CreationLeaves (λ x. x ≡ c.deref-then-is_unborn.result.now) (d.seen mid) (d.may_leave mid) w)) c.owner_of-owner.ensures.value c.create.ensures.crash) in
    let two = leaves_less d.tells_crash d.tells_past d.moment d.may_leave d.left_since mid new (CreationLeaves (λ x. x ≡ file) (d.seen mid) (d.may_leave mid) wanted) P
    (λ told image left.
    let before : IsTrue (d.tells_crash old) = subst IsTrue read.same_crash told in
    stays_creating wanted (d.seen old) (d.seen mid) (d.may_leave mid) file image c.in_ok-file.ensures.seen c.in_ok-file.ensures.bytes unborn
    (only_less (d.seen old) (d.may_leave old) (d.may_leave mid) (settled before) (λ i m. read.now before i m)) left)
    made in
    then_leaves d.tells_crash d.tells_past d.moment d.may_leave d.left_since old mid new P one two

pub returns-then-is_unborn-clause-crash : goal.returns-then-is_unborn-clause-crash
returns-then-is_unborn-clause-crash g c = λ settled.
    let d = g.D.Disk in
    let old = c.args.disk.now in
    let mid = c.read_all.new.disk in
    let new = c.create.new.disk in
    let file = c.in_ok-file.file.items in
    let unborn : IsUnborn file = subst IsUnborn c.deref.ensures.value (c.is_unborn.ensures.0 c.if-is_unborn.true) in
    let wanted = owned c.args.shape.now c.args.me in
    let P = Stays wanted (d.seen old) in
    let read = c.in_ok-file.ensures.crash in
    let one = leaves_less d.tells_crash d.tells_past d.moment d.may_leave d.left_since old mid (d.may_leave old) P (λ told image left. stays_same wanted (d.seen old) (d.may_leave old) image (settled told) left) read in
    let made = subst (λ (f : List ℕ). LeavesOnly d.tells_crash d.tells_past d.moment d.may_leave d.left_since mid new (CreationLeaves (λ x. x ≡ f) (d.seen mid) (d.may_leave mid) wanted)) c.deref-then-is_unborn.ensures.value
    (subst (λ w. LeavesOnly d.tells_crash d.tells_past d.moment d.may_leave d.left_since mid new (CreationLeaves (λ x. x ≡ c.deref-then-is_unborn.result.now) (d.seen mid) (d.may_leave mid) w)) c.owner_of-owner.ensures.value c.create.ensures.crash) in
    let two = leaves_less d.tells_crash d.tells_past d.moment d.may_leave d.left_since mid new (CreationLeaves (λ x. x ≡ file) (d.seen mid) (d.may_leave mid) wanted) P
    (λ told image left.
    let before : IsTrue (d.tells_crash old) = subst IsTrue read.same_crash told in
    stays_creating wanted (d.seen old) (d.seen mid) (d.may_leave mid) file image c.in_ok-file.ensures.seen c.in_ok-file.ensures.bytes unborn
    (only_less (d.seen old) (d.may_leave old) (d.may_leave mid) (settled before) (λ i m. read.now before i m)) left)
    made in
    then_leaves d.tells_crash d.tells_past d.moment d.may_leave d.left_since old mid new P one two

pub returns-in_err-file-clause-calls : goal.returns-in_err-file-clause-calls
returns-in_err-file-clause-calls g c =
    let d = g.D.Disk in
    let old = d.history c.args.disk.now in
    let new = d.history c.read_all.new.disk in
    let wanted = owned c.args.shape.now c.args.me in
    let kind = ReadsAndCreates (d.seen c.args.disk.now) wanted in
    let e = err_from_is_err_and c.from_residual.result c.from_residual.ensures.1 in
    as_error old new kind AreReadings c.from_residual.result e.0 e.1
    (reading_faulty old new (d.seen c.args.disk.now) wanted e.0 (subst (λ (f : OpenFault). MakesUpTo f old new AreReadings AreReadings) (sym e.2) c.in_err-file.ensures.made))

pub returns-in_err-create-clause-calls : goal.returns-in_err-create-clause-calls
returns-in_err-create-clause-calls g c =
    let d = g.D.Disk in
    let old = d.history c.args.disk.now in
    let mid = d.history c.read_all.new.disk in
    let new = d.history c.create.new.disk in
    let file = c.in_ok-file.file.items in
    let wanted = owned c.args.shape.now c.args.me in
    let unborn : IsUnborn file = subst IsUnborn c.deref.ensures.value (c.is_unborn.ensures.0 c.if-is_unborn.true) in
    let e = err_from_is_err_and c.from_residual-in_err-create.result c.from_residual-in_err-create.ensures.1 in
    let fails = subst (λ w. FailsIn mid new (creation_calls file w)) c.owner_of-owner.ensures.value
    (subst (λ (f : List ℕ). FailsIn mid new (creation_calls f c.owner_of-owner.result)) c.deref-then-is_unborn.ensures.value c.in_err-create.ensures.calls) in
    disk_failed old new (ReadsAndCreates (d.seen c.args.disk.now) wanted) AreReadings c.from_residual-in_err-create.result e.0 e.1 e.2
    (created_some old mid new (d.seen c.args.disk.now) wanted file c.in_ok-file.ensures.made c.in_ok-file.ensures.bytes unborn fails)

pub returns-then-is_unborn-clause-calls : goal.returns-then-is_unborn-clause-calls
returns-then-is_unborn-clause-calls g c =
    let d = g.D.Disk in
    let old = d.history c.args.disk.now in
    let mid = d.history c.read_all.new.disk in
    let new = d.history c.create.new.disk in
    let file = c.in_ok-file.file.items in
    let wanted = owned c.args.shape.now c.args.me in
    let unborn : IsUnborn file = subst IsUnborn c.deref.ensures.value (c.is_unborn.ensures.0 c.if-is_unborn.true) in
    let made = subst (λ w. new ≡ after_calls mid (creation_calls file w)) c.owner_of-owner.ensures.value
    (subst (λ (f : List ℕ). new ≡ after_calls mid (creation_calls f c.owner_of-owner.result)) c.deref-then-is_unborn.ensures.value c.in_ok-create.ensures.calls) in
    created_all old mid new (d.seen c.args.disk.now) wanted file c.in_ok-file.ensures.made c.in_ok-file.ensures.bytes unborn made
