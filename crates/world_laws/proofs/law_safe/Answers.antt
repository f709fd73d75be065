use Rattle.bridge.proofs.Safe.{every_run_is_safe}
use Rattle.world_laws.proofs.Shapes.{one_list}
use Rattle.world_laws.proofs.law_safe.Goals as goal

pub returns-clause-one_list : goal.returns-clause-one_list
returns-clause-one_list c = one_list

pub returns-clause-stays : goal.returns-clause-stays
returns-clause-stays c shape events is = (every_run_is_safe shape events is).stays

pub returns-clause-removes : goal.returns-clause-removes
returns-clause-removes c shape events is = (every_run_is_safe shape events is).removes

pub returns-clause-one_leader : goal.returns-clause-one_leader
returns-clause-one_leader c shape events is = (every_run_is_safe shape events is).one_leader
