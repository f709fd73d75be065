use Rattle.std.proofs.Common.{◌≡◌, inl, List, ℕ, [], ◌∷◌, sym, ap, ◌∙◌, subst}
use Rattle.craft_edge.specs.Disk.{Torn}
use Rattle.synced_log.specs.Calls.{needs_zero}
use Rattle.synced_log.specs.Crashes.{TornFrom}
use Rattle.synced_log.specs.Creation.{CreationLeaves}
use Rattle.synced_log.proofs.Creating.{blank_torn}
use Rattle.synced_log.proofs.Watching.{leaves_less}
use Rattle.synced_log.proofs.create.make_blank.Goals as goal

pub returns-clause-crash : goal.returns-clause-crash
returns-clause-crash g c =
    let d = g.D.Disk in
    let old = c.args.disk.now in
    leaves_less d.tells_crash d.tells_past d.moment d.may_leave d.left_since old c.write_steadily.new.disk (TornFrom (d.may_leave old) 0 (0 ∷ [])) (CreationLeaves (λ f. f ≡ c.args.file.now) (d.seen old) (d.may_leave old) c.args.owner)
    (λ crash image t file seen_is is only. inl (blank_torn file image (ap needs_zero is ∙ sym c.needs_zero.ensures ∙ c.if-not-needs_zero.false)
    (subst (λ (f : List ℕ). Torn 0 (0 ∷ []) f image) (only t.0 t.1) t.2)))
    c.write_steadily.ensures.crash
