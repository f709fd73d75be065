use Rattle.synced_log.proofs.Outlines.{set_whole, none_whole}
use Rattle.synced_log.proofs.outline.make_whole.Goals as goal

pub returns-then-position-entries : goal.returns-then-position-entries
returns-then-position-entries c = set_whole c.args.entries.now c.args.position _ c.if-position-entries.true

pub returns-else-position-entries : goal.returns-else-position-entries
returns-else-position-entries c = none_whole c.args.entries.now c.args.position c.if-position-entries.false
