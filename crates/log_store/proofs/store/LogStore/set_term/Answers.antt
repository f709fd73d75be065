use Rattle.std.proofs.Common.{◌≤◌, ap, subst, arith}
use Rattle.entry_frames.specs.Limits.{greatest}
use Rattle.entry_frames.proofs.Stored.{most_of, no_earlier, risen}
use Rattle.log_store.proofs.store.LogStore.set_term.Goals as goal

pub invariant_of-self : goal.invariant_of-self
invariant_of-self c =
    let later = no_earlier c.args.self.now.shape c.args.self.now.kept c.args.term c.args.vote c.requires in
    let rises : c.self.inside.term ≤ c.args.term = omega (arith, later, ap (λ v. v.kept.term) c.self.view_is) in
    let low : c.args.self.now.kept.term ≤ greatest = subst (λ v. v.kept.term ≤ greatest) c.self.view_is c.self.invariant.0.term_most in (
      record {
        k = c.self.invariant.0.k;
        term_most = most_of c.args.self.now.shape c.args.self.now.kept c.args.term c.args.vote low c.requires;
        entries = risen c.self.inside.shape.need 0 c.self.inside.term c.args.term c.self.inside.entries.items rises c.self.invariant.0.entries;
      },
      c.self.invariant.1,
    )
