-- The records of a turn can be applied, each to what those before it leave, and its replies can be written.
use Rattle.world_model.specs.Ranges.{EveryReplyHasSpelling, EveryTurnCanBeApplied}
use Rattle.world_model.proofs.Ranges.Turns.{act_in_range}

pub every_turn_can_be_applied : EveryTurnCanBeApplied
every_turn_can_be_applied shape member n event is a told = (act_in_range is event told a).applies

pub every_reply_has_a_spelling : EveryReplyHasSpelling
every_reply_has_a_spelling shape member n event is a told = (act_in_range is event told a).replies
