use Rattle.std.proofs.Common.{ℕ, ◌-◌, ◌∙◌, length, refl, sym, ap, arith}
use Rattle.std.proofs.lemmas.Option.{slice_get_read}
use Rattle.entry_frames.specs.Logs.{term_of_entry}
use Rattle.entry_frames.proofs.Logs.{found_at}
use Rattle.leader_prep.proofs.kept_log.KeptLogLogView.term_at.Goals as goal

pub returns-in-Some : goal.returns-in-Some
returns-in-Some c =
    let views = c.args.self.now.views.items in
    let place : ℕ = c.args.index - 1 in
    let shown = c.in-Some.ensures.lookup in
    let found = slice_get_read views (length views) place c.in-Some.view.now refl (rw c.deref.ensures.value at shown.3.0) (rw c.deref.ensures.value at shown.1) in
    c.term.ensures ∙ sym (ap term_of_entry (found_at views c.args.index place c.in-Some.view.now (omega (arith, c.if-index-eq0.false)) found))
