use Rattle.std.proofs.Common.{ℕ, ◌-◌, ◌∙◌, length, Some, refl, sym, ap, arith}
use Rattle.std.proofs.lemmas.Option.{slice_get_read, slice_get_past}
use Rattle.entry_frames.specs.Logs.{viewed_with}
use Rattle.entry_frames.proofs.Logs.{viewed_at, none_at}
use Rattle.leader_prep.proofs.kept_log.KeptLogLogView.at.Goals as goal

pub returns-in-Some : goal.returns-in-Some
returns-in-Some c =
    let views = c.args.self.now.views.items in
    let place : ℕ = c.args.index - 1 in
    let shown = c.in-Some.ensures.lookup in
    let found = slice_get_read views (length views) place c.in-Some.view.now refl (rw c.deref.ensures.value at shown.3.0) (rw c.deref.ensures.value at shown.1) in
    ap (λ v. Some v) c.again.ensures ∙ viewed_at c.args.self.now.k views c.args.index place c.in-Some.view.now (omega (arith, c.if-index-eq0.false)) found (c.args.self.now.same_k place c.in-Some.view.now found)

pub returns-in-None : goal.returns-in-None
returns-in-None c =
    let views = c.args.self.now.views.items in
    let place : ℕ = c.args.index - 1 in
    sym (ap (viewed_with c.args.self.now.k) (none_at views c.args.index place (omega (arith, c.if-index-eq0.false)) (slice_get_past views place (rw c.deref.ensures.value at c.in-None.ensures.lookup.3))))
