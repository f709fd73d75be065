use Rattle.std.proofs.Common.{◌∙◌, ◌∷◌, [], ◌++◌, length, ap, arith}
use Rattle.entry_frames.proofs.Batches.{pushed, as_many, is_batch_more}
use Rattle.peer_frames.proofs.slots.Slots.push.Goals as goal

pub invariant_of-self : goal.invariant_of-self
invariant_of-self c = is_batch_more c.self.inside.views.items c.push.new.self.items c.args.view c.self.invariant c.push.ensures.items
    (omega (arith, as_many c.self.inside.views.items c.self.invariant, ap length c.self.view_is))

pub returns : goal.returns
returns c = pushed c.self.inside.views.items c.push.new.self.items c.args.view c.push.ensures.items ∙ ap (λ xs. xs ++ c.args.view ∷ []) c.self.view_is
