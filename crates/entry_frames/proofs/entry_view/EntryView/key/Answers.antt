use Rattle.entry_frames.proofs.Entries.{key_fits}
use Rattle.entry_frames.proofs.entry_view.EntryView.key.Goals as goal

pub returns-clause-range : goal.returns-clause-range
returns-clause-range c = key_fits _ c.self.invariant
