-- How a member applies entries of its log.
use Rattle.std.specs.Prelude.{◌≡◌, ℕ, List, ◌++◌, take, Option, None, Some, option_map}
use Rattle.craft_base.specs.declared.command.Entry.{Entry}
use Rattle.craft_base.specs.declared.command.Head.{Head}
use Rattle.entry_frames.specs.Durable.{Durable}
use Rattle.kv_apply.specs.Commands.{heads_of}
use Rattle.kv_apply.specs.Services as services
use Rattle.kv_apply.specs.Services.{count_of}
use Rattle.kv_apply.specs.declared.outcome.Outcome.{Outcome}
use Rattle.world_model.specs.Rules.Applying.{newly_committed, reads_among, reads_with, replies_among, reply_of, reply_to, version_awaited}
use Rattle.world_model.specs.declared.call.Called.{Called}
use Rattle.world_model.specs.declared.call.ClientReply.{ClientReply}
use Rattle.node_core.specs.declared.act.Act.{Act}
use Rattle.node_core.specs.declared.member.Member.{Member}

-- the commands of a log up to an index, the latest first
abbrev pub heads_up_to : ℕ → Durable → List Head
heads_up_to index d = heads_of (take index d.log)

-- so far the map has taken what is committed
abbrev pub IsServed : Member → Type 0
IsServed m = count_of m.service ≡ m.store.kept.commit

-- what is told to one who waits for its answer, if there is one
abbrev pub reply_told : List Entry → Outcome → Option Called → Option ClientReply
reply_told log outcome None = None
reply_told log outcome (Some c) = option_map (reply_to c) (reply_of log outcome)

-- the requests that wait for a value then
abbrev pub reads_told : List Entry → Outcome → Option Called → List Called → List Called
reads_told log outcome None reads = reads
reads_told log outcome (Some c) reads = reads_with c (version_awaited log outcome) reads

-- The entries behind an index up to another one were applied, and those who wait for them were told, or wait for a value now; nothing
-- else changed.
pub record Serves (from index : ℕ) (before after : Act) : Type 0 where
  pub rest : after ≡ record before { member = record before.member { service = after.member.service; reads = after.member.reads }; replies = after.replies }
  pub count : count_of after.member.service ≡ index
  pub service : services.Stands before.member.service (heads_up_to from before.member.store.kept) → services.Stands after.member.service (heads_up_to index before.member.store.kept)
  pub replies : services.Stands before.member.service (heads_up_to from before.member.store.kept) →
      after.replies.items ≡ before.replies.items ++ replies_among before.member.store.kept.log before.member.calls.items (newly_committed from index)
  pub reads : services.Stands before.member.service (heads_up_to from before.member.store.kept) →
      after.member.reads.items ≡ reads_among before.member.store.kept.log before.member.calls.items (newly_committed from index) before.member.reads.items
