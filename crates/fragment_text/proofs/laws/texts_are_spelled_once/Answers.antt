use Rattle.fragment_text.proofs.Spelled.{text_is_read, one_text, first_bad_is_read}
use Rattle.fragment_text.proofs.laws.texts_are_spelled_once.Goals as goal

pub returns : goal.returns
returns c = record { read = text_is_read; once = one_text; bad = first_bad_is_read }
