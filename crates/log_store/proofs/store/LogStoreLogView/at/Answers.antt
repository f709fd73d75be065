use Rattle.std.proofs.Common.{◌∙◌, ap, sym, subst}
use Rattle.entry_frames.specs.Entries.{entry_fields}
use Rattle.entry_frames.specs.Formats.{Fits}
use Rattle.entry_frames.specs.Logs.{entry_at}
use Rattle.entry_frames.proofs.Stored.{fits_at}
use Rattle.log_store.proofs.store.LogStoreLogView.at.Goals as goal

pub of-requires-clause-fits : goal.of-requires-clause-fits
of-requires-clause-fits c =
    subst (λ n. Fits (entry_fields n) c.in-Some.entry.now) (sym c.need.ensures.value)
    (fits_at c.self.inside.shape.need 0 c.self.inside.term c.self.inside.entries.items c.args.index c.in-Some.entry.now c.self.invariant.0.entries
    (ap (λ v. entry_at v.kept.log c.args.index) c.self.view_is ∙ c.in-Some.ensures))
