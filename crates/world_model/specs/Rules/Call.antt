-- Call: a client asks. Who doesn't lead says who does, as far as it knows. A leader answers anew what it has answered before; else it
-- adds the request to its log, where there is room for it, and answers when it is applied.
use Rattle.std.specs.Prelude.{ℕ, ◌-◌, List, [], ◌∷◌, ◌++◌, length, map, filter, take, Bool, ◌||◌, ◌==◌, nat_le, if◌then◌else◌}
use Rattle.std.specs.Option.{option_to_list}
use Rattle.craft_base.specs.Knowledge.{next_index}
use Rattle.craft_base.specs.declared.command.Entry.{Entry}
use Rattle.craft_base.specs.declared.command.Form.TheVariants as forms
use Rattle.craft_base.specs.declared.command.Head.{Head}
use Rattle.craft_base.specs.declared.command.Reply.{Reply}
use Rattle.craft_base.specs.declared.command.Reply.TheVariants as replies
use Rattle.craft_base.specs.declared.command.Request.{Request}
use Rattle.entry_frames.specs.Bulk.{bulk_of}
use Rattle.entry_frames.specs.Records.{Add}
use Rattle.entry_frames.specs.declared.role.Role.{Role}
use Rattle.entry_frames.specs.declared.role.Role.TheVariants.{Follower, Candidate, Preparing, Leader}
use Rattle.kv_apply.specs.Commands.{heads_of, kept_of}
use Rattle.kv_apply.specs.declared.outcome.Kept.{Kept}
use Rattle.kv_apply.specs.declared.outcome.Kept.TheVariants as keeps
use Rattle.kv_apply.specs.declared.outcome.Outcome.{Outcome}
use Rattle.world_model.specs.Nodes.{Node, Volatile}
use Rattle.world_model.specs.Rules.Acts.{Act, stays, recording, keeping, answering, sending, followed_by, others}
use Rattle.world_model.specs.Rules.Applying.{reads_with, reply_of, version_awaited}
use Rattle.world_model.specs.Rules.Say.{append_to}
use Rattle.world_model.specs.declared.call.Called.{Called}
use Rattle.world_model.specs.declared.call.ClientReply.{ClientReply}

-- ---- limits

-- from so many entries on, or so many bytes of values, a log takes no more requests
abbrev pub full_entries : ℕ
full_entries = 900_000

abbrev pub full_bytes : ℕ
full_bytes = 500_000_000

abbrev pub is_full : List Entry → Bool
is_full log = nat_le full_entries (length log) || nat_le full_bytes (bulk_of log)

-- while so many entries aren't committed yet, no more are added
abbrev pub most_open : ℕ
most_open = 64

abbrev pub is_busy : (commit : ℕ) → List Entry → Bool
is_busy commit log = nat_le most_open (length log - commit)

-- ---- answers

abbrev pub reply_for : ℕ → Request → Reply → ClientReply
reply_for place r reply = record { place = place; client = r.client; seq = r.seq; reply = reply }

-- the client is told that at once
abbrev pub act_of_reply : ℕ → Request → Reply → Node → Act
act_of_reply place r reply n = answering (reply_for place r reply ∷ []) (stays n)

-- ---- a request that was answered before

-- the request, at the place from which it comes now
abbrev pub call_from : ℕ → Request → Called
call_from place r = record { index = 0; place = place; client = r.client; seq = r.seq }

-- it waits again, where the value that it found is still to be had from others
abbrev pub reading_anew : ℕ → Request → Outcome → Node → Volatile
reading_anew place r outcome n =
    record n.volatile { reads = reads_with (call_from place r) (version_awaited n.durable.log outcome) n.volatile.reads }

-- what it came to is told as when it was applied
abbrev pub act_of_kept : ℕ → Request → Outcome → Node → Act
act_of_kept place r outcome n =
    answering (map (reply_for place r) (option_to_list (reply_of n.durable.log outcome))) (keeping (reading_anew place r outcome n) (stays n))

-- ---- a request that is added

-- the entry of a request in a term: it has the whole value
abbrev pub entry_for : ℕ → Request → Entry
entry_for term r =
    record {
      term = term;
      head = record { client = r.client; seq = r.seq; op = r.op; key = r.key; vlen = length r.value };
      form = forms.Whole r.value;
    }

-- it waits for its answer, at the end of the log
abbrev pub calling : ℕ → Request → Node → Volatile
calling place r n =
    record n.volatile {
      calls = n.volatile.calls ++ record { index = length n.durable.log; place = place; client = r.client; seq = r.seq } ∷ [];
    }

abbrev pub act_of_entry : Request → Node → Act
act_of_entry r n = recording (Add (entry_for n.durable.term r)) (stays n)

abbrev pub act_of_adding : ℕ → Request → Node → Act
act_of_adding place r n = keeping (calling place r (act_of_entry r n).node) (act_of_entry r n)

-- those who have all that was in the log before, in order
abbrev pub up_to_date : Node → List ℕ
up_to_date n = filter (λ member. next_index member n.volatile.heard n.volatile.first == length n.durable.log) (others n)

-- they are sent the entry at once; the others are sent it later, behind what they lack
abbrev pub act_of_telling : Node → Act
act_of_telling n = sending (map (append_to n) (up_to_date n)) (stays n)

abbrev pub act_of_asking : ℕ → Request → Node → Act
act_of_asking place r n = followed_by (act_of_adding place r n) act_of_telling

-- ---- the rule

-- a request that wasn't answered before
abbrev pub act_of_new_request : ℕ → Request → Node → Act
act_of_new_request place r n =
    if is_full n.durable.log then act_of_reply place r replies.Full n
    else if is_busy n.durable.commit n.durable.log then act_of_reply place r replies.Busy n
    else act_of_asking place r n

-- by what is kept for its number
abbrev pub act_of_request : ℕ → Request → Kept → Node → Act
act_of_request place r keeps.New n = act_of_new_request place r n
act_of_request place r (keeps.Same outcome) n = act_of_kept place r outcome n
act_of_request place r keeps.Old n = act_of_reply place r replies.Old n

-- the commands that are applied, the latest first
abbrev pub applied_heads : Node → List Head
applied_heads n = heads_of (take n.durable.commit n.durable.log)

abbrev pub act_of_call_as : Role → ℕ → Request → Node → Act
act_of_call_as Follower place r n = act_of_reply place r (replies.Elsewhere n.volatile.hint) n
act_of_call_as Candidate place r n = act_of_reply place r (replies.Elsewhere n.volatile.hint) n
act_of_call_as Preparing place r n = act_of_reply place r replies.Preparing n
act_of_call_as Leader place r n = act_of_request place r (kept_of r.client r.seq (applied_heads n)) n

abbrev pub act_of_call : ℕ → Request → Node → Act
act_of_call place r n = act_of_call_as n.volatile.role place r n
