use Rattle.kv_apply.proofs.Once.{no_second, outcome_stays}
use Rattle.kv_apply.proofs.each_number_takes_effect_once.Goals as goal

pub returns : goal.returns
returns _ = record {
  stays = outcome_stays;
  alone = no_second;
}
