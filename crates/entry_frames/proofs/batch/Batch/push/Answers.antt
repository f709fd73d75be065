use Rattle.std.proofs.Common.{◌∙◌, ◌∷◌, [], ◌++◌, length, ap, arith}
use Rattle.entry_frames.proofs.Batches.{pushed, as_many, is_batch_more}
use Rattle.entry_frames.proofs.batch.Batch.push.Goals as goal

pub invariant_of-self : goal.invariant_of-self
invariant_of-self c = is_batch_more c.self.inside.entries.items c.push.new.self.items c.args.entry c.self.invariant c.push.ensures.items
    (omega (arith, as_many c.self.inside.entries.items c.self.invariant, ap length c.self.view_is))

pub returns : goal.returns
returns c = pushed c.self.inside.entries.items c.push.new.self.items c.args.entry c.push.ensures.items ∙ ap (λ xs. xs ++ c.args.entry ∷ []) c.self.view_is
