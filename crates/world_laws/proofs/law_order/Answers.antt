use Rattle.bridge.proofs.Safe.{every_run_is_ordered}
use Rattle.world_laws.proofs.law_order.Goals as goal

pub returns-clause-each : goal.returns-clause-each
returns-clause-each c shape events is commands are = (every_run_is_ordered shape events is commands are).each

pub returns-clause-above : goal.returns-clause-above
returns-clause-above c shape events is commands are = (every_run_is_ordered shape events is commands are).above

pub returns-clause-counts : goal.returns-clause-counts
returns-clause-counts c shape events is commands are = (every_run_is_ordered shape events is commands are).counts
