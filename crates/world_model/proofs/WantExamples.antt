-- What a leader wants that holds a value in part alone, and what it does with it, at logs worked out by hand.
use Rattle.std.proofs.Common.{◌≡◌, ℕ, List, [], ◌∷◌, ◌++◌, Option, refl, Some, None}
use Rattle.craft_base.specs.Knowledge.{Heard, From, Matched}
use Rattle.craft_base.specs.Shape.{Shape}
use Rattle.craft_base.specs.declared.command.Entry.{Entry}
use Rattle.craft_base.specs.declared.command.Form.{Form}
use Rattle.craft_base.specs.declared.command.Form.TheVariants as forms
use Rattle.craft_base.specs.declared.command.Op.TheVariants.{Get, Put}
use Rattle.craft_base.specs.declared.command.Reply.TheVariants as replies
use Rattle.craft_base.specs.declared.command.Request.{Request}
use Rattle.entry_frames.specs.Records as records
use Rattle.entry_frames.specs.declared.message.Message.{Message}
use Rattle.entry_frames.specs.declared.message.Message.TheVariants as messages
use Rattle.entry_frames.specs.declared.peer.Peer.{Peer}
use Rattle.entry_frames.specs.declared.peer.Peer.TheVariants as peers
use Rattle.entry_frames.specs.declared.role.Role.TheVariants.{Leader}
use Rattle.leader_prep.specs.Pages.{Page}
use Rattle.rs_code.specs.Fragments.{fragment}
use Rattle.world_model.specs.Nodes.{Node}
use Rattle.world_model.specs.Rules.Acts.{Act}
use Rattle.world_model.specs.Rules.Applying.{act_of_commit}
use Rattle.world_model.specs.Rules.Prepare.{noop}
use Rattle.world_model.specs.Turn.{Tick, Frame, Call, act_of}
use Rattle.world_model.specs.declared.call.Called.{Called}

-- three members, of which two rebuild a value from their fragments
abbrev three : Shape
three = record { faults = 1; need = 2 }

-- an entry whose value is the two bytes 1 and 2, or some other value of two bytes
abbrev put : (seq : ℕ) → Form → Entry
put seq form = record { term = 2; head = record { client = 7; seq = seq; op = Put; key = 97 ∷ []; vlen = 2 }; form = form }

abbrev part_of : (seq holder : ℕ) → Entry
part_of seq holder = put seq (forms.Part (fragment (1 ∷ 2 ∷ []) 2 holder))

abbrev whole : ℕ → Entry
whole seq = put seq (forms.Whole (1 ∷ 2 ∷ []))

abbrev get : Entry
get = record { term = 4; head = record { client = 9; seq = 1; op = Get; key = 97 ∷ []; vlen = 0 }; form = forms.Whole [] }

-- what its client asked
abbrev request : Request
request = record { client = 9; seq = 1; op = Get; key = 97 ∷ []; value = [] }

-- member 0 leads term 4: it holds the values of its second and third entries in part alone
abbrev log : List Entry
log = noop 1 ∷ part_of 1 0 ∷ part_of 2 0 ∷ noop 4 ∷ get ∷ []

-- both others have all of it
abbrev heard : List Heard
heard = From 1 5 (Matched 0 5 25) ∷ From 2 5 (Matched 0 5 25) ∷ []

abbrev called : (index client seq : ℕ) → Called
called index client seq = record { index = index; place = client; client = client; seq = seq }

abbrev leader : (commit : ℕ) → List Heard → List Page → (calls reads : List Called) → Option ℕ → Node
leader commit known pages calls reads want =
    record {
      shape = three;
      me = 0;
      durable = record { term = 4; vote = Some 0; log = log; commit = commit };
      volatile = record { role = Leader; quiet = 0; hint = Some 0; heard = known; first = 4; pages = pages; calls = calls; reads = reads; want = want };
    }

abbrev hears : Peer → Node → Act
hears body n = act_of (Frame (messages.Peer 1 0 4 body)) n

abbrev to : ℕ → Peer → Message
to receiver body = messages.Peer 0 receiver 4 body

abbrev to_both : Peer → List Message
to_both body = to 1 body ∷ to 2 body ∷ []

-- ---- what waits

-- the version that the get finds is the third entry, of which the leader holds a part: nothing is told yet
not_told : (act_of_commit 5 (leader 4 heard [] (called 5 9 1 ∷ []) [] None)).replies ≡ []
not_told = refl

reads_on : (act_of_commit 5 (leader 4 heard [] (called 5 9 1 ∷ []) [] None)).node.volatile.reads ≡ called 3 9 1 ∷ []
reads_on = refl

-- an earlier read of the client goes, and the reads stand in order of clients
in_order : (act_of_commit 5 (leader 4 heard [] (called 5 9 1 ∷ []) (called 2 8 1 ∷ called 2 9 0 ∷ called 2 10 1 ∷ []) None)).node.volatile.reads
    ≡ called 2 8 1 ∷ called 3 9 1 ∷ called 2 10 1 ∷ []
in_order = refl

-- who asks again what it has asked before waits too, at its new place
asked_anew : (act_of (Call 71 request) (leader 5 heard [] [] [] None)).node.volatile.reads ≡ record (called 3 9 1) { place = 71 } ∷ []
asked_anew = refl

asked_anew_sends : (act_of (Call 71 request) (leader 5 heard [] [] [] None)).sends ≡ to_both (peers.Ask 3)
asked_anew_sends = refl

-- ---- what is wanted

-- the value that somebody reads: the least that is held in part
asked : (hears (peers.Matched 0 5 25) (leader 5 heard [] [] (called 3 9 1 ∷ []) None)).sends ≡ to_both (peers.Ask 3)
asked = refl

wanted : (hears (peers.Matched 0 5 25) (leader 5 heard [] [] (called 3 9 1 ∷ called 2 10 1 ∷ []) None)).node.volatile.want ≡ Some 2
wanted = refl

-- who has only the first entry is to be sent the second, and that is held in part
for_a_member : (act_of (Tick 0) (leader 5 (From 1 5 (Matched 0 5 25) ∷ From 2 5 (Matched 0 1 1) ∷ []) [] [] [] None)).node.volatile.want ≡ Some 2
for_a_member = refl

-- on a tick they are asked again, and once
asked_again : (act_of (Tick 0) (leader 5 heard [] [] (called 3 9 1 ∷ []) (Some 3))).sends ≡ to_both (peers.Append 5 4 5 []) ++ to_both (peers.Ask 3)
asked_again = refl

-- in another turn they aren't, while the want stays
not_asked : (hears (peers.Matched 0 5 25) (leader 5 heard [] [] (called 3 9 1 ∷ []) (Some 3))).sends ≡ []
not_asked = refl

-- nobody reads it any more
goes : (hears (peers.Matched 0 5 25) (leader 5 heard [] [] [] (Some 3))).node.volatile.want ≡ None
goes = refl

-- what was shown for one want is nothing to another
abbrev page : (start : ℕ) → List Entry → Page
page start slots = record { sender = 2; start = start; last = 5; slots = slots }

forgotten : (hears (peers.Matched 0 5 25) (leader 5 heard (page 2 (part_of 1 2 ∷ part_of 2 2 ∷ []) ∷ []) [] (called 2 8 1 ∷ called 3 9 1 ∷ []) (Some 3))).node.volatile.pages ≡ []
forgotten = refl

-- ---- what is had

abbrev shown : (start : ℕ) → List Entry → Act
shown start slots = hears (peers.Answer start 5 slots) (leader 5 heard [] [] (called 3 9 1 ∷ called 2 10 1 ∷ []) (Some 2))

-- one other holds the value whole: so does the leader then
had : (shown 2 (whole 1 ∷ part_of 2 1 ∷ [])).records ≡ records.Whole 2 (1 ∷ 2 ∷ []) ∷ []
had = refl

-- only who waits for that version is told
told : (shown 2 (whole 1 ∷ part_of 2 1 ∷ [])).replies ≡ record { place = 10; client = 10; seq = 1; reply = replies.Value 2 (1 ∷ 2 ∷ []) } ∷ []
told = refl

still_reads : (shown 2 (whole 1 ∷ part_of 2 1 ∷ [])).node.volatile.reads ≡ called 3 9 1 ∷ []
still_reads = refl

-- and the next value is asked for
next_asked : (shown 2 (whole 1 ∷ part_of 2 1 ∷ [])).sends ≡ to_both (peers.Ask 3)
next_asked = refl

-- an entry of another request is no part of it, and neither is what stands behind
other_request : (shown 2 (whole 3 ∷ [])).records ≡ []
other_request = refl

behind : (shown 3 (whole 1 ∷ [])).records ≡ []
behind = refl

-- who lacks it is sent its part of it; it isn't known to lack more, and nothing else is wanted
supplied : (hears (peers.Answer 2 5 (whole 1 ∷ [])) (leader 5 (From 1 5 (Matched 0 5 25) ∷ From 2 5 (Matched 0 1 1) ∷ []) [] [] [] (Some 2))).sends
    ≡ to 2 (peers.Append 1 1 5 (part_of 1 2 ∷ [])) ∷ []
supplied = refl

-- ---- a new term

gone : (act_of (Frame (messages.Peer 1 0 5 (peers.Vote 4 5))) (leader 5 heard [] [] (called 3 9 1 ∷ []) (Some 3))).node.volatile.reads ≡ []
gone = refl

gone_too : (act_of (Frame (messages.Peer 1 0 5 (peers.Vote 4 5))) (leader 5 heard [] [] (called 3 9 1 ∷ []) (Some 3))).node.volatile.want ≡ None
gone_too = refl
