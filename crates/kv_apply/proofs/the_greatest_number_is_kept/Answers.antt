use Rattle.kv_apply.proofs.Numbers.{above_all_others}
use Rattle.kv_apply.proofs.Once.{kept_is_kept}
use Rattle.kv_apply.proofs.the_greatest_number_is_kept.Goals as goal

pub returns-clause-greatest : goal.returns-clause-greatest
returns-clause-greatest _ = above_all_others

pub returns-clause-kept : goal.returns-clause-kept
returns-clause-kept _ = kept_is_kept
