use Rattle.std.proofs.Common.{ℕ, subst, sym, ap, ◌∙◌}
use Rattle.craft_base.specs.declared.command.Entry.{Entry}
use Rattle.entry_frames.specs.Views.{IsInRange}
use Rattle.leader_prep.proofs.Placing.{put_kept}
use Rattle.leader_prep.proofs.slots.Slots.put.Goals as goal

pub invariant_of-self : goal.invariant_of-self
invariant_of-self c =
    put_kept (record { k = c.self.inside.k; places = c.self.inside.places.items }) c.place_of.result (record { index = c.args.index; entry = c.in_ok-entry.entry })
    c.self.invariant c.place_of.ensures.range
    (subst (λ (e : Entry). IsInRange (record { k = c.self.inside.k; entry = e })) (sym c.in_ok-entry.ensures)
    (subst (λ (k : ℕ). IsInRange (record { k = k; entry = c.args.view.now.entry })) (c.requires.need ∙ sym (ap (λ s. s.k) c.self.view_is)) c.requires.in_range))
