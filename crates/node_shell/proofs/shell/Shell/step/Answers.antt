use Rattle.std.proofs.Common.{◌≡◌, ◌≢◌, [], refl, sym, subst}
use Rattle.std.specs.Prelude.{IsTrue}
use Rattle.node_core.specs.Stands.{Stands}
use Rattle.node_core.specs.Turns.{event_of}
use Rattle.node_shell.specs.declared.outputs.Outputs.{Outputs}
use Rattle.node_shell.specs.Standing.{AllOpenTo, owner_of}
use Rattle.node_shell.specs.Stepping.{BeforeOrAfter, MakesStep, StepsTo, StopsStep}
use Rattle.node_shell.proofs.Stepping.{before_or_after, can_add, has_records, made_calls, new_durable, no_calls, opens_to_first, some_bytes, steps, stopped_step, upheld_on, upheld_still}
use Rattle.synced_log.specs.Crashes.{LeavesOnly}
use Rattle.synced_log.specs.Standing.{AddedOrNot}
use Rattle.synced_log.proofs.Watching.{begins, leaves_less}
use Rattle.world_model.specs.Nodes.{Node}
use Rattle.world_model.specs.Turn as turns
use Rattle.node_shell.proofs.shell.Shell.step.Goals as goal

pub invariant_of-result : goal.invariant_of-result
invariant_of-result g c =
    let d = g.D.Disk in
    let was = c.self.inside in
    let none : c.in-Ok.done.1.group ≡ [] = c.is_empty.ensures.0 c.if-is_empty.true in
    upheld_still was.core c.in-Ok.done.0 (event_of c.args.event.now) c.in-Ok.done.1 c.in-Ok.ensures.stands c.in-Ok.ensures.turned
    (d.tells_crash was.journal.disk) (d.seen was.journal.disk) (d.may_leave was.journal.disk) was.journal.gate c.self.invariant none

pub returns-then-is_empty-clause-durable : goal.returns-then-is_empty-clause-durable
returns-then-is_empty-clause-durable g c =
    let d = g.D.Disk in
    let was = c.self.inside in
    let none : c.in-Ok.done.1.group ≡ [] = c.is_empty.ensures.0 c.if-is_empty.true in
    let event = event_of c.args.event.now in
    let up = upheld_still was.core c.in-Ok.done.0 event c.in-Ok.done.1 c.in-Ok.ensures.stands c.in-Ok.ensures.turned
    (d.tells_crash was.journal.disk) (d.seen was.journal.disk) (d.may_leave was.journal.disk) was.journal.gate c.self.invariant none in λ told.
    subst (λ s. AllOpenTo (d.seen was.journal.disk) (d.may_leave was.journal.disk) (owner_of s.core) c.in-Ok.done.0.durable) c.self.view_is
    (new_durable was.core c.in-Ok.done.0 event c.in-Ok.done.1 c.in-Ok.ensures.stands c.in-Ok.ensures.turned
    (d.tells_crash was.journal.disk) (d.seen was.journal.disk) (d.may_leave was.journal.disk) was.journal.gate up told)

pub returns-then-is_empty-clause-any_moment : goal.returns-then-is_empty-clause-any_moment
returns-then-is_empty-clause-any_moment g c =
    let d = g.D.Disk in
    let was = c.self.inside in
    let event = event_of c.args.event.now in
    let disk = was.journal.disk in
    subst (λ s. LeavesOnly d.tells_crash d.tells_past d.moment d.may_leave d.left_since s.disk disk (BeforeOrAfter (d.seen s.disk) s.core event)) c.self.view_is
    (begins d.tells_crash d.tells_past d.moment d.may_leave d.left_since disk (BeforeOrAfter (d.seen disk) was.core event)
    (λ crash image now. opens_to_first (d.seen disk) (d.may_leave disk) was.journal.gate was.core event c.self.invariant.kept (c.self.invariant.durable crash) image now)
    (λ image. g.met.D.Disk.only_now disk image))

pub append-requires-clause-can : goal.append-requires-clause-can
append-requires-clause-can g c =
    let d = g.D.Disk in
    let was = c.self.inside in
    let some : c.in-Ok.done.1.group ≢ [] = some_bytes c.is_empty.result c.in-Ok.done.1.group c.if-is_empty.false c.is_empty.ensures.1 in
    can_add was.core c.in-Ok.done.0 (event_of c.args.event.now) c.in-Ok.done.1 c.in-Ok.ensures.stands c.in-Ok.ensures.turned (d.seen was.journal.disk) was.journal.gate c.self.invariant.kept some

pub invariant_of-result-in-Ok-append : goal.invariant_of-result-in-Ok-append
invariant_of-result-in-Ok-append g c =
    let d = g.D.Disk in
    let was = c.self.inside in
    let new = c.in-Ok-append.journal in
    let e = c.in-Ok-append.ensures in
    let some : c.in-Ok.done.1.group ≢ [] = some_bytes c.is_empty.result c.in-Ok.done.1.group c.if-is_empty.false c.is_empty.ensures.1 in
    upheld_on was.core c.in-Ok.done.0 (event_of c.args.event.now) c.in-Ok.done.1 c.in-Ok.ensures.stands c.in-Ok.ensures.turned
    (d.tells_crash was.journal.disk) (d.tells_crash new.disk) (d.seen was.journal.disk) (d.seen new.disk) (d.may_leave new.disk) was.journal.gate new.gate c.self.invariant.kept some e.added
    e.told.same_seen e.durable e.told.same_crash

pub returns-in-Err-append-clause-any_moment_err : goal.returns-in-Err-append-clause-any_moment_err
returns-in-Err-append-clause-any_moment_err g c =
    let d = g.D.Disk in
    let was = c.self.inside in
    let event = event_of c.args.event.now in
    let disk = was.journal.disk in
    let new = c.in-Err-append.disk in
    let some : c.in-Ok.done.1.group ≢ [] = some_bytes c.is_empty.result c.in-Ok.done.1.group c.if-is_empty.false c.is_empty.ensures.1 in
    subst (λ s. LeavesOnly d.tells_crash d.tells_past d.moment d.may_leave d.left_since s.disk new (BeforeOrAfter (d.seen s.disk) s.core event)) c.self.view_is
    (leaves_less d.tells_crash d.tells_past d.moment d.may_leave d.left_since disk new (AddedOrNot (d.seen disk) was.journal.gate c.in-Ok.done.1.group) (BeforeOrAfter (d.seen disk) was.core event)
    (λ crash image added. before_or_after was.core c.in-Ok.done.0 event c.in-Ok.done.1 c.in-Ok.ensures.stands c.in-Ok.ensures.turned (d.seen disk) was.journal.gate c.self.invariant.kept some image added)
    c.in-Err-append.ensures.any_moment_err)

pub returns-in-Err-append-clause-either : goal.returns-in-Err-append-clause-either
returns-in-Err-append-clause-either g c =
    let d = g.D.Disk in
    let was = c.self.inside in
    let event = event_of c.args.event.now in
    let disk = was.journal.disk in
    let new = c.in-Err-append.disk in
    let some : c.in-Ok.done.1.group ≢ [] = some_bytes c.is_empty.result c.in-Ok.done.1.group c.if-is_empty.false c.is_empty.ensures.1 in
    let leaves = c.in-Err-append.ensures.any_moment_err in λ told image left.
    subst (λ s. BeforeOrAfter (d.seen s.disk) s.core event image) c.self.view_is
    (before_or_after was.core c.in-Ok.done.0 event c.in-Ok.done.1 c.in-Ok.ensures.stands c.in-Ok.ensures.turned (d.seen disk) was.journal.gate c.self.invariant.kept some image
    (leaves.now (subst IsTrue leaves.same_crash told) image left))

pub returns-in-Err-append-clause-calls_err : goal.returns-in-Err-append-clause-calls_err
returns-in-Err-append-clause-calls_err g c =
    let d = g.D.Disk in
    let was = c.self.inside in
    let event = event_of c.args.event.now in
    let new = c.in-Err-append.disk in
    let some : c.in-Ok.done.1.group ≢ [] = some_bytes c.is_empty.result c.in-Ok.done.1.group c.if-is_empty.false c.is_empty.ensures.1 in λ is_fault.
    subst (λ s. (n : Node) → Stands s.core n → StopsStep d.seen d.tells_crash d.may_leave d.history s.disk new s.gate s.core event n) c.self.view_is
    (stopped_step was.core c.in-Ok.done.0 event c.in-Ok.done.1 c.in-Ok.ensures.stands c.in-Ok.ensures.turned d.seen d.tells_crash d.may_leave d.history was.journal.disk new was.journal.gate some
    c.in-Err-append.ensures.calls_err)

pub returns-in-Ok-append-clause-durable : goal.returns-in-Ok-append-clause-durable
returns-in-Ok-append-clause-durable g c =
    let d = g.D.Disk in
    let was = c.self.inside in
    let event = event_of c.args.event.now in
    let new = c.in-Ok-append.journal in
    let e = c.in-Ok-append.ensures in
    let some : c.in-Ok.done.1.group ≢ [] = some_bytes c.is_empty.result c.in-Ok.done.1.group c.if-is_empty.false c.is_empty.ensures.1 in
    let up = upheld_on was.core c.in-Ok.done.0 event c.in-Ok.done.1 c.in-Ok.ensures.stands c.in-Ok.ensures.turned
    (d.tells_crash was.journal.disk) (d.tells_crash new.disk) (d.seen was.journal.disk) (d.seen new.disk) (d.may_leave new.disk) was.journal.gate new.gate c.self.invariant.kept some e.added
    e.told.same_seen e.durable e.told.same_crash in λ told.
    subst (λ s. AllOpenTo (d.seen new.disk) (d.may_leave new.disk) (owner_of s.core) c.in-Ok.done.0.durable) c.self.view_is
    (new_durable was.core c.in-Ok.done.0 event c.in-Ok.done.1 c.in-Ok.ensures.stands c.in-Ok.ensures.turned
    (d.tells_crash new.disk) (d.seen new.disk) (d.may_leave new.disk) new.gate up told)

pub returns-in-Ok-append-clause-any_moment : goal.returns-in-Ok-append-clause-any_moment
returns-in-Ok-append-clause-any_moment g c =
    let d = g.D.Disk in
    let was = c.self.inside in
    let event = event_of c.args.event.now in
    let disk = was.journal.disk in
    let new = c.in-Ok-append.journal.disk in
    let some : c.in-Ok.done.1.group ≢ [] = some_bytes c.is_empty.result c.in-Ok.done.1.group c.if-is_empty.false c.is_empty.ensures.1 in
    subst (λ s. LeavesOnly d.tells_crash d.tells_past d.moment d.may_leave d.left_since s.disk new (BeforeOrAfter (d.seen s.disk) s.core event)) c.self.view_is
    (leaves_less d.tells_crash d.tells_past d.moment d.may_leave d.left_since disk new (AddedOrNot (d.seen disk) was.journal.gate c.in-Ok.done.1.group) (BeforeOrAfter (d.seen disk) was.core event)
    (λ crash image added. before_or_after was.core c.in-Ok.done.0 event c.in-Ok.done.1 c.in-Ok.ensures.stands c.in-Ok.ensures.turned (d.seen disk) was.journal.gate c.self.invariant.kept some image added)
    c.in-Ok-append.ensures.any_moment)

pub returns-in-Ok-append-clause-calls : goal.returns-in-Ok-append-clause-calls
returns-in-Ok-append-clause-calls g c =
    let d = g.D.Disk in
    let was = c.self.inside in
    let event = event_of c.args.event.now in
    let some : c.in-Ok.done.1.group ≢ [] = some_bytes c.is_empty.result c.in-Ok.done.1.group c.if-is_empty.false c.is_empty.ensures.1 in
    subst (λ s. MakesStep s.core event s.gate (d.history s.disk) (d.history c.in-Ok-append.journal.disk)) c.self.view_is
    (made_calls was.core c.in-Ok.done.0 event c.in-Ok.done.1 c.in-Ok.ensures.stands c.in-Ok.ensures.turned (d.history was.journal.disk) (d.history c.in-Ok-append.journal.disk) was.journal.gate some
    c.in-Ok-append.ensures.calls)

pub returns-then-is_empty-clause-kept : goal.returns-then-is_empty-clause-kept
returns-then-is_empty-clause-kept g c =
    let d = g.D.Disk in
    let was = c.self.inside in
    let none : c.in-Ok.done.1.group ≡ [] = c.is_empty.ensures.0 c.if-is_empty.true in
    (upheld_still was.core c.in-Ok.done.0 (event_of c.args.event.now) c.in-Ok.done.1 c.in-Ok.ensures.stands c.in-Ok.ensures.turned
    (d.tells_crash was.journal.disk) (d.seen was.journal.disk) (d.may_leave was.journal.disk) was.journal.gate c.self.invariant none).kept

pub returns-in-Ok-append-clause-kept : goal.returns-in-Ok-append-clause-kept
returns-in-Ok-append-clause-kept g c =
    let d = g.D.Disk in
    let was = c.self.inside in
    let new = c.in-Ok-append.journal in
    let e = c.in-Ok-append.ensures in
    let some : c.in-Ok.done.1.group ≢ [] = some_bytes c.is_empty.result c.in-Ok.done.1.group c.if-is_empty.false c.is_empty.ensures.1 in
    (upheld_on was.core c.in-Ok.done.0 (event_of c.args.event.now) c.in-Ok.done.1 c.in-Ok.ensures.stands c.in-Ok.ensures.turned
    (d.tells_crash was.journal.disk) (d.tells_crash new.disk) (d.seen was.journal.disk) (d.seen new.disk) (d.may_leave new.disk) was.journal.gate new.gate c.self.invariant.kept some e.added
    e.told.same_seen e.durable e.told.same_crash).kept

pub returns-then-is_empty-clause-stepped : goal.returns-then-is_empty-clause-stepped
returns-then-is_empty-clause-stepped g c =
    let was = c.self.inside in
    let event = event_of c.args.event.now in
    let told : Outputs = record { list = c.in-Ok.done.1.outputs } in
    subst (λ s. (n : Node) → Stands s.core n → StepsTo s.core n event c.in-Ok.done.0 told) c.self.view_is
    (λ n stands. steps was.core n event c.in-Ok.done.0 c.in-Ok.done.1 told refl (c.in-Ok.ensures.turned n stands))

pub returns-in-Ok-append-clause-stepped : goal.returns-in-Ok-append-clause-stepped
returns-in-Ok-append-clause-stepped g c =
    let was = c.self.inside in
    let event = event_of c.args.event.now in
    let told : Outputs = record { list = c.in-Ok.done.1.outputs } in
    subst (λ s. (n : Node) → Stands s.core n → StepsTo s.core n event c.in-Ok.done.0 told) c.self.view_is
    (λ n stands. steps was.core n event c.in-Ok.done.0 c.in-Ok.done.1 told refl (c.in-Ok.ensures.turned n stands))

pub returns-then-is_empty-clause-calls : goal.returns-then-is_empty-clause-calls
returns-then-is_empty-clause-calls g c =
    let d = g.D.Disk in
    let was = c.self.inside in
    let event = event_of c.args.event.now in
    let none : c.in-Ok.done.1.group ≡ [] = c.is_empty.ensures.0 c.if-is_empty.true in
    subst (λ s. MakesStep s.core event s.gate (d.history s.disk) (d.history was.journal.disk)) c.self.view_is
    (λ n stands. no_calls was.core n event c.in-Ok.done.0 c.in-Ok.done.1 (d.history was.journal.disk) was.journal.gate (c.in-Ok.ensures.turned n stands) none)

pub returns-in-Ok-append-clause-quiet : goal.returns-in-Ok-append-clause-quiet
returns-in-Ok-append-clause-quiet g c =
    let was = c.self.inside in
    let event = event_of c.args.event.now in
    let new = c.in-Ok-append.journal in
    let some : c.in-Ok.done.1.group ≢ [] = some_bytes c.is_empty.result c.in-Ok.done.1.group c.if-is_empty.false c.is_empty.ensures.1 in
    subst (λ s. (n : Node) → Stands s.core n → (turns.turn event n).records ≡ [] → (new.disk ≡ s.disk) × (new.gate ≡ s.gate)) c.self.view_is
    (λ n stands quiet. absurd (has_records was.core n event c.in-Ok.done.0 c.in-Ok.done.1 stands (c.in-Ok.ensures.turned n stands) some quiet))

pub returns-in-Err-clause-any_moment_err : goal.returns-in-Err-clause-any_moment_err
returns-in-Err-clause-any_moment_err g c =
    let d = g.D.Disk in
    let was = c.self.inside in
    let event = event_of c.args.event.now in
    let disk = was.journal.disk in
    subst (λ back. LeavesOnly d.tells_crash d.tells_past d.moment d.may_leave d.left_since c.args.self.disk back (BeforeOrAfter (d.seen c.args.self.disk) c.args.self.core event)) (sym c.give_back.ensures)
    (subst (λ s. LeavesOnly d.tells_crash d.tells_past d.moment d.may_leave d.left_since s.disk disk (BeforeOrAfter (d.seen s.disk) s.core event)) c.self.view_is
    (begins d.tells_crash d.tells_past d.moment d.may_leave d.left_since disk (BeforeOrAfter (d.seen disk) was.core event)
    (λ crash image now. opens_to_first (d.seen disk) (d.may_leave disk) was.journal.gate was.core event c.self.invariant.kept (c.self.invariant.durable crash) image now)
    (λ image. g.met.D.Disk.only_now disk image)))
