-- How a leader takes a request of a client.
use Rattle.std.specs.Prelude.{ℕ, length, Bool, ◌==◌}
use Rattle.craft_base.specs.Knowledge.{next_index}
use Rattle.craft_base.specs.declared.command.Request.{Request}
use Rattle.kv_apply.specs.Commands.{kept_of}
use Rattle.world_model.specs.Nodes.{Node}
use Rattle.world_model.specs.Rules.Acts.{Act}
use Rattle.world_model.specs.Rules.Call.{act_of_request, applied_heads}

-- by what is kept for its number
abbrev pub request_act : ℕ → Request → Node → Act
request_act place r n = act_of_request place r (kept_of r.client r.seq (applied_heads n)) n

-- whether a member has all that is before the last entry
abbrev pub is_current : Node → ℕ → Bool
is_current n member = next_index member n.volatile.heard n.volatile.first == length n.durable.log
