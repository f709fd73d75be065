-- What clients are told, worked out by hand: a leader of three members, in term 1, with a put and a get of one client in its log.
use Rattle.std.proofs.Common.{◌≡◌, ℕ, List, [], ◌∷◌, ◌++◌, map, replicate, Option, None, Some, refl}
use Rattle.craft_base.specs.Knowledge.{From, Matched}
use Rattle.craft_base.specs.Shape.{Shape}
use Rattle.craft_base.specs.declared.command.Entry.{Entry}
use Rattle.craft_base.specs.declared.command.Op.{Op}
use Rattle.craft_base.specs.declared.command.Op.TheVariants.{Put, Del, Get}
use Rattle.craft_base.specs.declared.command.Reply.{Reply}
use Rattle.craft_base.specs.declared.command.Reply.TheVariants as replies
use Rattle.craft_base.specs.declared.command.Request.{Request}
use Rattle.entry_frames.specs.MessageParts.{receiver_byte}
use Rattle.entry_frames.specs.declared.role.Role.{Role}
use Rattle.entry_frames.specs.declared.role.Role.TheVariants.{Follower, Candidate, Leader}
use Rattle.world_model.specs.Nodes.{Node, node_with}
use Rattle.world_model.specs.Rules.Applying.{act_of_commit}
use Rattle.world_model.specs.Rules.Call.{act_of_call, entry_for}
use Rattle.world_model.specs.Rules.Prepare.{noop}
use Rattle.world_model.specs.declared.call.Called.{Called}
use Rattle.world_model.specs.declared.call.ClientReply.{ClientReply}

abbrev three : Shape
three = record { faults = 1; need = 1 }

abbrev asking : (seq : ℕ) → Op → List ℕ → Request
asking seq op value = record { client = 7; seq = seq; op = op; key = 97 ∷ []; value = value }

abbrev put : Request
put = asking 1 Put (0 ∷ 128 ∷ [])

abbrev get : Request
get = asking 2 Get []

abbrev log : List Entry
log = noop 1 ∷ entry_for 1 put ∷ entry_for 1 get ∷ []

-- the caller of the entry at an index
abbrev called : (index seq : ℕ) → Called
called index seq = record { index = index; place = 70; client = 7; seq = seq }

abbrev both : List Called
both = called 2 1 ∷ called 3 2 ∷ []

-- member 1 is known to have the first three entries, of member 2 nothing is known
abbrev member : Role → Option ℕ → List Entry → (commit : ℕ) → List Called → Node
member role hint entries commit calls =
    node_with three 0 (record { term = 1; vote = Some 0; log = entries; commit = commit })
    (record { role = role; quiet = 0; hint = hint; heard = From 1 3 (Matched 0 3 7) ∷ []; first = 1; pages = []; calls = calls; reads = []; want = None })

abbrev leader : List Entry → ℕ → List Called → Node
leader = member Leader (Some 0)

abbrev tells : (place seq : ℕ) → Reply → ClientReply
tells place seq reply = record { place = place; client = 7; seq = seq; reply = reply }

-- ---- what is applied

both_are_told : (act_of_commit 3 (leader log 1 both)).replies ≡ tells 70 1 (replies.Done 2) ∷ tells 70 2 (replies.Value 2 (0 ∷ 128 ∷ [])) ∷ []
both_are_told = refl

none_waits : (act_of_commit 3 (leader log 1 both)).node.volatile.calls ≡ []
none_waits = refl

one_waits : (act_of_commit 2 (leader log 1 both)).node.volatile.calls ≡ called 3 2 ∷ []
one_waits = refl

-- nobody asked here, or not in this run
nobody_is_told : (act_of_commit 3 (leader log 1 [])).replies ≡ []
nobody_is_told = refl

-- the same number a second time: the answer of the first, and nothing is set
again : (act_of_commit 4 (leader (log ++ entry_for 1 (asking 2 Put (9 ∷ [])) ∷ []) 3 (called 4 2 ∷ []))).replies
    ≡ tells 70 2 (replies.Value 2 (0 ∷ 128 ∷ [])) ∷ []
again = refl

-- ---- what is answered at once

kept : (act_of_call 71 get (leader log 3 [])).replies ≡ tells 71 2 (replies.Value 2 (0 ∷ 128 ∷ [])) ∷ []
kept = refl

old : (act_of_call 71 put (leader log 3 [])).replies ≡ tells 71 1 replies.Old ∷ []
old = refl

-- what isn't committed isn't answered: the request is added again
not_yet : (act_of_call 71 get (leader log 2 [])).replies ≡ []
not_yet = refl

elsewhere : (act_of_call 71 get (member Follower (Some 2) log 3 [])).replies ≡ tells 71 2 (replies.Elsewhere (Some 2)) ∷ []
elsewhere = refl

nowhere : (act_of_call 71 get (member Candidate None log 3 [])).replies ≡ tells 71 2 (replies.Elsewhere None) ∷ []
nowhere = refl

-- ---- what is added

added : (act_of_call 71 (asking 3 Del []) (leader log 3 [])).node.durable.log ≡ log ++ entry_for 1 (asking 3 Del []) ∷ []
added = refl

waits : (act_of_call 71 (asking 3 Del []) (leader log 3 [])).node.volatile.calls ≡ record { index = 4; place = 71; client = 7; seq = 3 } ∷ []
waits = refl

-- it is sent to the member that is known to have all before it, and not to the other
sent_to : map receiver_byte (act_of_call 71 (asking 3 Del []) (leader log 3 [])).sends ≡ 1 ∷ []
sent_to = refl

-- 63 entries that aren't committed, and 64
busy : (act_of_call 71 (asking 3 Get []) (leader (replicate 65 (noop 1)) 1 [])).replies ≡ tells 71 3 replies.Busy ∷ []
busy = refl

not_busy : (act_of_call 71 (asking 3 Get []) (leader (replicate 64 (noop 1)) 1 [])).replies ≡ []
not_busy = refl
