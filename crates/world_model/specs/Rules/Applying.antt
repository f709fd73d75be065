-- Applying: the commit index grows, and the map takes what is committed. A leader tells each client whose request is applied what it
-- came to, or keeps the request where the value that was found is still to be had from others.
use Rattle.std.specs.Prelude.{ℕ, ◌+◌, ◌-◌, List, [], ◌∷◌, ◌++◌, map, filter, take, ◌==◌, nat_lt, if◌then◌else◌, Option, None, Some, option_map}
use Rattle.std.specs.List.{find, range_with_len}
use Rattle.std.specs.Option.{option_to_list}
use Rattle.craft_base.specs.declared.command.Entry.{Entry}
use Rattle.craft_base.specs.declared.command.Form.{Form}
use Rattle.craft_base.specs.declared.command.Form.TheVariants as forms
use Rattle.craft_base.specs.declared.command.Head.{Head}
use Rattle.craft_base.specs.declared.command.Reply.{Reply}
use Rattle.craft_base.specs.declared.command.Reply.TheVariants as replies
use Rattle.entry_frames.specs.Logs.{entry_at}
use Rattle.entry_frames.specs.Records.{Commit}
use Rattle.kv_apply.specs.Commands.{answer, heads_of, told}
use Rattle.kv_apply.specs.declared.outcome.Outcome.{Outcome}
use Rattle.kv_apply.specs.declared.outcome.Outcome.TheVariants.{Found}
use Rattle.world_model.specs.Nodes.{Node, Volatile}
use Rattle.world_model.specs.Rules.Acts.{Act, stays, recording, keeping, answering}
use Rattle.world_model.specs.declared.call.Called.{Called}
use Rattle.world_model.specs.declared.call.ClientReply.{ClientReply}

-- ---- an outcome as it is told

-- the bytes of a value that is held whole
abbrev pub whole_bytes : Form → Option (List ℕ)
whole_bytes (forms.Whole bytes) = Some bytes
whole_bytes (forms.Part bytes) = None

abbrev pub value_of : Option Entry → Option (List ℕ)
value_of None = None
value_of (Some entry) = whole_bytes entry.form

-- the value of the version that was found, where the log holds it whole
abbrev pub value_reply : (version : ℕ) → Option (List ℕ) → Option Reply
value_reply version value = option_map (replies.Value version) value

-- what an outcome is told as, by whoever has that log: a value that isn't held whole can't be told yet
abbrev pub reply_of : List Entry → Outcome → Option Reply
reply_of log (Found version) = value_reply version (value_of (entry_at log version))
reply_of log outcome = Some (told (λ version. []) outcome)

-- ---- who is told

-- the request whose entry has that index, if it isn't answered yet
abbrev pub call_at : ℕ → List Called → Option Called
call_at index calls = find (λ c. c.index == index) calls

abbrev pub reply_to : Called → Reply → ClientReply
reply_to c reply = record { place = c.place; client = c.client; seq = c.seq; reply = reply }

-- what is told of an entry that is applied behind those
abbrev pub replies_for : List Entry → Option Called → Option Entry → List Head → List ClientReply
replies_for log (Some c) (Some entry) earlier = map (reply_to c) (option_to_list (reply_of log (answer entry.head earlier)))
replies_for log _ _ earlier = []

-- what is told as the entry at an index is applied, behind all before it
abbrev pub replies_at : List Entry → List Called → ℕ → List ClientReply
replies_at log calls index = replies_for log (call_at index calls) (entry_at log index) (heads_of (take (index - 1) log))

-- as those at some indexes are, in order
abbrev pub replies_among : List Entry → List Called → List ℕ → List ClientReply
replies_among log calls [] = []
replies_among log calls (index ∷ indexes) = replies_at log calls index ++ replies_among log calls indexes

-- ---- who goes on waiting

-- the version whose value an outcome waits for: that which was found, where the log holds its value in part alone
abbrev pub awaited : (version : ℕ) → Option (List ℕ) → Option ℕ
awaited version None = Some version
awaited version (Some value) = None

abbrev pub version_awaited : List Entry → Outcome → Option ℕ
version_awaited log (Found version) = awaited version (value_of (entry_at log version))
version_awaited log outcome = None

-- a client waits for the value of one version: its earlier read goes without an answer. The reads stand in order of clients.
abbrev pub reading : Called → List Called → List Called
reading c reads = filter (λ r. nat_lt r.client c.client) reads ++ c ∷ filter (λ r. nat_lt c.client r.client) reads

-- with a request that waits for that version, if it waits for one
abbrev pub reads_with : Called → Option ℕ → List Called → List Called
reads_with c None reads = reads
reads_with c (Some version) reads = reading (record c { index = version }) reads

-- the reads behind an entry that is applied
abbrev pub reads_for : List Entry → Option Called → Option Entry → List Head → List Called → List Called
reads_for log (Some c) (Some entry) earlier reads = reads_with c (version_awaited log (answer entry.head earlier)) reads
reads_for log _ _ earlier reads = reads

-- behind the entry at an index, which is applied behind all before it
abbrev pub reads_at : List Entry → List Called → ℕ → List Called → List Called
reads_at log calls index reads = reads_for log (call_at index calls) (entry_at log index) (heads_of (take (index - 1) log)) reads

-- as those at some indexes are, in order
abbrev pub reads_among : List Entry → List Called → List ℕ → List Called → List Called
reads_among log calls [] reads = reads
reads_among log calls (index ∷ indexes) reads = reads_among log calls indexes (reads_at log calls index reads)

-- ---- the rule

-- the indexes that a commit index passes as it grows
abbrev pub newly_committed : (before now : ℕ) → List ℕ
newly_committed before now = range_with_len (before + 1) (now - before)

-- the requests behind an index aren't answered yet, and neither are those up to it that wait for a value
abbrev pub waiting : ℕ → Node → Volatile
waiting index n =
    record n.volatile {
      calls = filter (λ c. nat_lt index c.index) n.volatile.calls;
      reads = reads_among n.durable.log n.volatile.calls (newly_committed n.durable.commit index) n.volatile.reads;
    }

abbrev pub act_of_applying : ℕ → Node → Act
act_of_applying index n =
    answering (replies_among n.durable.log n.volatile.calls (newly_committed n.durable.commit index))
    (keeping (waiting index n) (recording (Commit index) (stays n)))

-- up to that index, where it is above the commit index
abbrev pub act_of_commit : ℕ → Node → Act
act_of_commit index n = if nat_lt n.durable.commit index then act_of_applying index n else stays n
