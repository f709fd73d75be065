use Rattle.std.proofs.Common.{◌≡◌, List, ℕ, ap, ◌∙◌, subst}
use Rattle.std.proofs.lemmas.Result.{err_from_is_err_and}
use Rattle.std.specs.Prelude.{Option, Some, IsTrue, is_err}
use Rattle.craft_edge.specs.Disk.{Only}
use Rattle.synced_log.specs.Calls.{blank_calls, birth_calls}
use Rattle.synced_log.specs.Creation.{CreationLeaves, IsBlank}
use Rattle.synced_log.proofs.Answering.{on_ok}
use Rattle.synced_log.proofs.Made.{made_first, made_both}
use Rattle.synced_log.proofs.Watching.{leaves_less, then_leaves}
use Rattle.synced_log.proofs.create.create.Goals as goal

abbrev some_of : List ℕ → Option (List ℕ)
some_of l = Some l

pub returns-clause-seen : goal.returns-clause-seen
returns-clause-seen g c = on_ok _ _ c.write_born.result (λ now seen_is. let blank = c.in_ok-make_blank.ensures.seen seen_is in now blank.0 blank.1 blank.2) c.write_born.ensures.seen

pub returns-clause-crash : goal.returns-clause-crash
returns-clause-crash g c =
    let d = g.D.Disk in
    let old = c.args.disk.now in
    let mid = c.make_blank.new.disk in
    let new = c.write_born.new.disk in
    let owner = c.args.owner in
    let P = CreationLeaves (λ f. f ≡ c.args.file.now) (d.seen old) (d.may_leave old) owner in
    let one = c.make_blank.ensures.crash in
    let two = leaves_less d.tells_crash d.tells_past d.moment d.may_leave d.left_since mid new (CreationLeaves IsBlank (d.seen mid) (d.may_leave mid) owner) P
    (λ crash image left file seen_is is only.
    let told : IsTrue (d.tells_crash old) = subst IsTrue one.same_crash crash in
    let blank = c.in_ok-make_blank.ensures.blank (seen_is ∙ ap some_of is) (λ _. subst (λ (f : List ℕ). Only f (d.may_leave old)) is only) in
    left blank.file blank.seen_is blank.blank (blank.durable told))
    c.write_born.ensures.crash in
    then_leaves d.tells_crash d.tells_past d.moment d.may_leave d.left_since old mid new P one two

pub returns-in_err-make_blank-clause-calls : goal.returns-in_err-make_blank-clause-calls
returns-in_err-make_blank-clause-calls g c =
    let d = g.D.Disk in
    let failed = err_from_is_err_and c.from_residual.result c.from_residual.ensures.1 in
    made_first (d.history c.args.disk.now) (d.history c.make_blank.new.disk) (blank_calls c.args.file.now) (birth_calls c.args.owner) c.make_blank.result c.from_residual.result (ap is_err c.in_err-make_blank.was) (ap is_err failed.1)
    c.make_blank.ensures.calls

pub returns-clause-calls : goal.returns-clause-calls
returns-clause-calls g c =
    let d = g.D.Disk in
    made_both (d.history c.args.disk.now) (d.history c.make_blank.new.disk) (d.history c.write_born.new.disk) (blank_calls c.args.file.now) (birth_calls c.args.owner) c.make_blank.result c.write_born.result (ap is_err c.in_ok-make_blank.was)
    c.make_blank.ensures.calls c.write_born.ensures.calls
