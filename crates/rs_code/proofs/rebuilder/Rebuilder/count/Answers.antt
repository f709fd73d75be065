use Rattle.std.proofs.Common.{length, sym, ap, ◌∙◌}
use Rattle.rs_code.proofs.Keeping.{parts_long}
use Rattle.rs_code.proofs.rebuilder.Rebuilder.count.Goals as goal

pub returns-clause-value : goal.returns-clause-value
returns-clause-value c = sym (parts_long c.self.inside c.self.invariant) ∙ ap (λ rebuilding. length rebuilding.parts) c.self.view_is
