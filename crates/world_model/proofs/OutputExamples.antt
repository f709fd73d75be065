-- The lines of outputs and the refusals of a lower term, worked out by hand.
use Rattle.std.proofs.Common.{◌≡◌, [], ◌∷◌, refl, Some, None, true, false}
use Rattle.std.specs.Prelude.{codes}
use Rattle.std.specs.Fmt.{digits}
use Rattle.hex.specs.Hex.{encode_with}
use Rattle.craft_base.specs.declared.command.Entry.{Entry}
use Rattle.craft_base.specs.declared.command.Form.TheVariants.{Whole, Part}
use Rattle.craft_base.specs.declared.command.Op.TheVariants.{Noop, Put}
use Rattle.craft_base.specs.declared.command.Reply.TheVariants as replies
use Rattle.entry_frames.specs.declared.peer.Peer.{Peer}
use Rattle.entry_frames.specs.declared.peer.Peer.TheVariants as peers
use Rattle.entry_frames.specs.declared.message.Message.{Message}
use Rattle.entry_frames.specs.declared.message.Message.TheVariants as messages
use Rattle.entry_frames.specs.declared.output.Output.{Output}
use Rattle.entry_frames.specs.declared.output.Output.TheVariants as outputs
use Rattle.entry_frames.specs.declared.role.Role.{Role}
use Rattle.entry_frames.specs.declared.role.Role.TheVariants.{Follower, Preparing, Leader}
use Rattle.entry_frames.specs.Durable.{Durable}
use Rattle.entry_frames.specs.Records as records
use Rattle.world_model.specs.Lines.{output_lines}
use Rattle.world_model.specs.Nodes.{Node, started}
use Rattle.world_model.specs.Rules.Acts.{stays}
use Rattle.world_model.specs.Turn.{Tick, Frame, act_of, act_of_message, changes_told}

-- an entry that is held whole, and one that is held as a fragment
abbrev whole : Entry
whole = record { term = 2; head = record { client = 0; seq = 0; op = Noop; key = []; vlen = 0 }; form = Whole [] }

abbrev part : Entry
part = record { term = 2; head = record { client = 1; seq = 3; op = Put; key = 97 ∷ []; vlen = 2 }; form = Part (7 ∷ []) }

abbrev from_1 : Peer → Output
from_1 body = outputs.Send (messages.Peer 1 0 2 body)

changes : output_lines 1 7 (outputs.Role Preparing 2 ∷ outputs.Cut 3 true ∷ outputs.Cut 4 false ∷ outputs.Whole 2 ∷ outputs.Commit 12 ∷ []) ≡
    codes "role 1 preparing 2\ncut 1 3 prep\ncut 1 4 lead\nwhole 1 2\ncommit 1 12\n"
unfolding digits
changes = refl

replies_told : output_lines 1 7
    (outputs.Reply 5 5 6 (replies.Done 5) ∷ outputs.Reply 5 5 6 (replies.Differs 0) ∷ outputs.Reply 5 5 6 (replies.Gone true) ∷ outputs.Reply 5 5 6 (replies.Gone false)
    ∷ outputs.Reply 5 5 6 (replies.Value 5 (10 ∷ 255 ∷ [])) ∷ outputs.Reply 5 5 6 (replies.Value 5 []) ∷ [])
    ≡ codes "reply 1 5 6 done 5\nreply 1 5 6 differs 0\nreply 1 5 6 gone yes\nreply 1 5 6 gone no\nreply 1 5 6 value 5 0aff\nreply 1 5 6 value 5 -\n"
unfolding digits encode_with
replies_told = refl

refusals_told : output_lines 1 7
    (outputs.Reply 5 5 6 replies.Nothing ∷ outputs.Reply 5 5 6 replies.Old ∷ outputs.Reply 5 5 6 (replies.Elsewhere (Some 2)) ∷ outputs.Reply 5 5 6 (replies.Elsewhere None)
    ∷ outputs.Reply 5 5 6 replies.Preparing ∷ outputs.Reply 5 5 6 replies.Busy ∷ outputs.Reply 5 5 6 replies.Full ∷ [])
    ≡ codes "reply 1 5 6 nothing\nreply 1 5 6 old\nreply 1 5 6 elsewhere 2\nreply 1 5 6 elsewhere -\nreply 1 5 6 preparing\nreply 1 5 6 busy\nreply 1 5 6 full\n"
unfolding digits
refusals_told = refl

-- frames are counted, and an entry goes by the letter of its form
sends : output_lines 1 7
    (from_1 (peers.Append 3 2 1 (whole ∷ part ∷ [])) ∷ outputs.Commit 4 ∷ from_1 (peers.Append 3 2 1 []) ∷ from_1 (peers.Matched 3 2 11) ∷ from_1 (peers.Refused 4)
    ∷ from_1 (peers.Ask 4) ∷ from_1 (peers.Answer 4 5 (part ∷ whole ∷ [])) ∷ from_1 (peers.Answer 4 3 []) ∷ [])
    ≡ codes "send 7 1 0 append 2 3 2 1 wp\ncommit 1 4\nsend 8 1 0 append 2 3 2 1 -\nsend 9 1 0 matched 2 3 2 0b\nsend 10 1 0 refused 2 4\nsend 11 1 0 ask 2 4\nsend 12 1 0 answer 2 4 5 pw\nsend 13 1 0 answer 2 4 3 -\n"
unfolding digits encode_with
sends = refl

-- member 0 of three, in term 5, committed up to its second entry
abbrev ahead : Node
ahead = started (record { faults = 1; need = 1 }) 0 (record { term = 5; vote = None; log = whole ∷ part ∷ []; commit = 2 })

abbrev to_0 : Peer → Message
to_0 body = messages.Peer 1 0 4 body

abbrev refused : Message
refused = messages.Peer 0 1 5 (peers.Refused 3)

append_refused : act_of_message (to_0 (peers.Append 0 0 0 [])) ahead ≡ record { node = ahead; records = []; replies = []; sends = refused ∷ [] }
append_refused = refl

ask_refused : act_of_message (to_0 (peers.Ask 1)) ahead ≡ record { node = ahead; records = []; replies = []; sends = refused ∷ [] }
ask_refused = refl

answer_dropped : act_of_message (to_0 (peers.Answer 1 2 [])) ahead ≡ stays ahead
answer_dropped = refl

-- ---- records, and what follows from them

-- the same member, which has been quiet for long, in another role
abbrev ahead_as : Role → Durable → Node
ahead_as role durable = record ahead { durable = durable; volatile = record { role = role; quiet = 100; hint = None; heard = []; first = 0; pages = []; calls = []; reads = []; want = None } }

-- who stands records its term and its own vote; a vote for another is recorded once
stands_recorded : (act_of (Tick 0) (ahead_as Follower ahead.durable)).records ≡ records.Term 6 (Some 0) ∷ []
stands_recorded = refl

vote_recorded : (act_of (Frame (messages.Peer 1 0 6 (peers.Vote 2 2))) ahead).records ≡ records.Term 6 None ∷ records.Term 6 (Some 1) ∷ []
vote_recorded = refl

vote_again : (act_of (Frame (messages.Peer 1 0 5 (peers.Vote 2 2))) (ahead_as Follower (record ahead.durable { vote = Some 1 }))).records ≡ []
vote_again = refl

-- a member that prepared its term removes an entry that it can't rebuild, and leads; one whose log a later leader cuts had not prepared
-- that leader's term
abbrev rebuilt : Durable
rebuilt = record ahead.durable { commit = 3 }

prepared : changes_told (ahead_as Preparing ahead.durable)
    (record { node = ahead_as Leader rebuilt; records = records.Whole 2 (7 ∷ []) ∷ records.Cut 3 ∷ records.Whole 4 (8 ∷ []) ∷ records.Commit 3 ∷ []; replies = []; sends = [] })
    ≡ outputs.Role Leader 5 ∷ outputs.Cut 3 true ∷ outputs.Whole 2 ∷ outputs.Whole 4 ∷ outputs.Commit 3 ∷ []
prepared = refl

cut_by_a_leader : changes_told (ahead_as Preparing ahead.durable)
    (record { node = ahead_as Follower (record ahead.durable { term = 6 }); records = records.Term 6 None ∷ records.Cut 3 ∷ []; replies = []; sends = [] })
    ≡ outputs.Role Follower 6 ∷ outputs.Cut 3 false ∷ []
cut_by_a_leader = refl
