use Rattle.kv_apply.proofs.Within.{answer_within, same_within, version_within}
use Rattle.kv_apply.proofs.versions_are_indexes.Goals as goal

pub returns-clause-kept : goal.returns-clause-kept
returns-clause-kept _ = same_within

pub returns-clause-answered : goal.returns-clause-answered
returns-clause-answered _ = answer_within

pub returns-clause-of_keys : goal.returns-clause-of_keys
returns-clause-of_keys _ = version_within
