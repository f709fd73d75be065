-- What is said of a reply, by what it tells.
use Rattle.std.proofs.Common.{◌≡◌, ℕ, List, Some, subst}
use Rattle.craft_base.specs.declared.command.Reply.{Reply}
use Rattle.craft_base.specs.declared.command.Reply.TheVariants as replies
use Rattle.kv_apply.specs.Commands.{map_reply}
use Rattle.world_model.specs.Order.{TellsOutcome}
use Rattle.world_model.specs.Safety.{HasGreater, IsOfOneMap, heads_in, value_in}
use Rattle.world_model.specs.Traces.{Command}

module _ (commands : List Command) (client seq : ℕ) where
  pub outcome_told : (reply : Reply) → TellsOutcome reply → IsOfOneMap commands client seq reply → map_reply (value_in commands) client seq (heads_in commands) ≡ Some reply
  outcome_told (replies.Done version) tells is = is
  outcome_told (replies.Differs version) tells is = is
  outcome_told (replies.Gone was_there) tells is = is
  outcome_told (replies.Value version value) tells is = is
  outcome_told replies.Nothing tells is = is
  outcome_told replies.Old tells is = absurd tells
  outcome_told (replies.Elsewhere hint) tells is = absurd tells
  outcome_told replies.Preparing tells is = absurd tells
  outcome_told replies.Busy tells is = absurd tells
  outcome_told replies.Full tells is = absurd tells

  pub old_told : (reply : Reply) → reply ≡ replies.Old → IsOfOneMap commands client seq reply → HasGreater commands client seq
  old_told reply old is = subst (IsOfOneMap commands client seq) old is
