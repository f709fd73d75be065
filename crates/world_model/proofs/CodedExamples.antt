-- What goes as parts and what goes whole, and how who has won comes to lead, at logs worked out by hand.
use Rattle.std.proofs.Common.{◌≡◌, ℕ, List, [], ◌∷◌, refl, Some, None, true}
use Rattle.craft_base.specs.Knowledge.{Heard, Beat, From, Matched}
use Rattle.craft_base.specs.Shape.{Shape}
use Rattle.craft_base.specs.declared.command.Entry.{Entry}
use Rattle.craft_base.specs.declared.command.Form.{Form}
use Rattle.craft_base.specs.declared.command.Form.TheVariants as forms
use Rattle.craft_base.specs.declared.command.Op.TheVariants.{Put}
use Rattle.entry_frames.specs.Records as records
use Rattle.entry_frames.specs.declared.message.Message.{Message}
use Rattle.entry_frames.specs.declared.message.Message.TheVariants as messages
use Rattle.entry_frames.specs.declared.peer.Peer.{Peer}
use Rattle.entry_frames.specs.declared.peer.Peer.TheVariants as peers
use Rattle.entry_frames.specs.declared.role.Role.{Role}
use Rattle.entry_frames.specs.declared.role.Role.TheVariants.{Candidate, Preparing, Leader}
use Rattle.rs_code.specs.Fragments.{fragment}
use Rattle.world_model.specs.Nodes.{Node}
use Rattle.world_model.specs.Rules.Acts.{Act}
use Rattle.world_model.specs.Rules.Prepare.{noop}
use Rattle.world_model.specs.Turn.{Tick, Frame, act_of}

-- three members, of which two rebuild a value from their fragments
abbrev three : Shape
three = record { faults = 1; need = 2 }

-- member 0 of three in term 4, with its first entry committed
abbrev member : Role → List Entry → List Heard → Node
member role log heard =
    record {
      shape = three;
      me = 0;
      durable = record { term = 4; vote = Some 0; log = log; commit = 1 };
      volatile = record { role = role; quiet = 0; hint = None; heard = heard; first = 2; pages = []; calls = []; reads = []; want = None };
    }

-- an entry whose value is the two bytes 1 and 2
abbrev put : Form → Entry
put form = record { term = 2; head = record { client = 7; seq = 1; op = Put; key = 97 ∷ []; vlen = 2 }; form = form }

abbrev whole : Entry
whole = put (forms.Whole (1 ∷ 2 ∷ []))

-- the same with a member's fragment of the value
abbrev part_of : ℕ → Entry
part_of holder = put (forms.Part (fragment (1 ∷ 2 ∷ []) 2 holder))

-- what it makes of what member 1 says in that term, and what it says to a member
abbrev hears : Peer → Node → Act
hears body n = act_of (Frame (messages.Peer 1 0 4 body)) n

abbrev ticks : Node → Act
ticks n = act_of (Tick 0) n

abbrev to : ℕ → Peer → Message
to receiver body = messages.Peer 0 receiver 4 body

abbrev to_both : Peer → List Message
to_both body = to 1 body ∷ to 2 body ∷ []

-- ---- a leader

-- a member told that it holds the first entry
abbrev begun : ℕ → Heard
begun sender = From sender 2 (Matched 0 1 1)

abbrev leader : List Heard → Node
leader heard = member Leader (noop 1 ∷ whole ∷ []) heard

-- where both others were heard of late each is sent its own fragment
parts_told : (ticks (leader (begun 1 ∷ begun 2 ∷ []))).sends
    ≡ to 1 (peers.Append 1 1 1 (part_of 1 ∷ [])) ∷ to 2 (peers.Append 1 1 1 (part_of 2 ∷ [])) ∷ []
parts_told = refl

-- where one wasn't since the second last beat the value goes whole
whole_told : (ticks (leader (begun 1 ∷ Beat ∷ Beat ∷ begun 2 ∷ []))).sends ≡ to_both (peers.Append 1 1 1 (whole ∷ []))
whole_told = refl

-- who holds its part isn't sent it again while both are heard; where one isn't any more it is sent the value whole
part_kept : (ticks (leader (From 1 2 (Matched 1 1 0) ∷ begun 2 ∷ []))).sends
    ≡ to 1 (peers.Append 2 2 1 []) ∷ to 2 (peers.Append 1 1 1 (part_of 2 ∷ [])) ∷ []
part_kept = refl

part_replaced : (ticks (leader (From 1 2 (Matched 1 1 0) ∷ []))).sends ≡ to_both (peers.Append 1 1 1 (whole ∷ []))
part_replaced = refl

-- ---- a candidate that wins

abbrev held : List Entry
held = noop 1 ∷ part_of 0 ∷ noop 2 ∷ []

abbrev won : Act
won = hears (peers.VoteReply true) (member Candidate held [])

-- it holds a part above its commit index: it prepares, and asks both others from there on
wins_role : won.node.volatile.role ≡ Preparing
wins_role = refl

wins_records : won.records ≡ []
wins_records = refl

wins_sends : won.sends ≡ to_both (peers.Ask 2)
wins_sends = refl

-- ---- who prepares

abbrev answered : (start last : ℕ) → List Entry → Act
answered start last slots = hears (peers.Answer start last slots) (member Preparing held [])

-- it asks again at each tick
asks_again : (ticks (member Preparing held [])).sends ≡ to_both (peers.Ask 2)
asks_again = refl

-- one other holds the value whole: so does it then, and leads
whole_records : (answered 2 3 (whole ∷ noop 2 ∷ [])).records ≡ records.Whole 2 (1 ∷ 2 ∷ []) ∷ records.Add (noop 4) ∷ []
whole_records = refl

whole_role : (answered 2 3 (whole ∷ noop 2 ∷ [])).node.volatile.role ≡ Leader
whole_role = refl

whole_sends : (answered 2 3 (whole ∷ noop 2 ∷ [])).sends ≡ to_both (peers.Append 1 1 1 (whole ∷ noop 2 ∷ noop 4 ∷ []))
whole_sends = refl

-- the log of one other ends before: nobody can have committed it, and the log is cut there
cut_records : (answered 2 1 []).records ≡ records.Cut 2 ∷ records.Add (noop 4) ∷ []
cut_records = refl

cut_sends : (answered 2 1 []).sends ≡ to_both (peers.Append 1 1 1 (noop 4 ∷ []))
cut_sends = refl

-- one other holds an entry of another term there: that is no part of it
other_term : (answered 2 2 (noop 3 ∷ [])).records ≡ records.Cut 2 ∷ records.Add (noop 4) ∷ []
other_term = refl

-- what begins behind that index shows nothing
behind_records : (answered 3 1 []).records ≡ []
behind_records = refl

behind_sends : (answered 3 1 []).sends ≡ []
behind_sends = refl

behind_role : (answered 3 1 []).node.volatile.role ≡ Preparing
behind_role = refl

-- the next part is asked for once the first is whole
next_part : (hears (peers.Answer 2 3 (whole ∷ [])) (member Preparing (noop 1 ∷ part_of 0 ∷ part_of 0 ∷ []) [])).sends ≡ to_both (peers.Ask 3)
next_part = refl
