use Rattle.fragment_text.proofs.SplitTexts.{split_is_spelled, split_is_read, value_comes_back}
use Rattle.fragment_text.proofs.laws.a_value_comes_back.Goals as goal

pub returns : goal.returns
returns c = record { spelled = split_is_spelled; read = split_is_read; joined = value_comes_back }
