use Rattle.std.proofs.Common.{◌<◌, ℕ, subst, sym, ap, ◌∙◌, arith}
use Rattle.craft_base.specs.declared.command.Entry.{Entry}
use Rattle.entry_frames.specs.Views.{IsInRange}
use Rattle.gather_read.proofs.Keeping.{put_kept}
use Rattle.gather_read.proofs.slots.Slots.put.Goals as goal

pub invariant_of-self : goal.invariant_of-self
invariant_of-self c =
    let within : c.from-place.result < 15 = omega (arith, c.from-place.ensures, c.requires.sender) in
    put_kept (record { k = c.self.inside.k; places = c.self.inside.places.items }) c.from-place.result c.in_ok-entry.entry
    c.self.invariant within
    (subst (λ (e : Entry). IsInRange (record { k = c.self.inside.k; entry = e })) (sym c.in_ok-entry.ensures)
    (subst (λ (k : ℕ). IsInRange (record { k = k; entry = c.args.view.now.entry })) (c.requires.need ∙ sym (ap (λ s. s.k) c.self.view_is)) c.requires.in_range))
