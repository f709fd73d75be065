use Rattle.log_store.proofs.Entries.{complete_set, complete_none}
use Rattle.log_store.proofs.store.complete.Goals as goal

pub returns-then-position-entries : goal.returns-then-position-entries
returns-then-position-entries c = complete_set c.args.entries.now c.args.position c.args.bytes _ c.if-position-entries.true

pub returns-else-position-entries : goal.returns-else-position-entries
returns-else-position-entries c = complete_none c.args.entries.now c.args.position c.args.bytes c.if-position-entries.false
