-- What a leader sends and commits, and what a follower makes of it, at logs worked out by hand.
use Rattle.std.proofs.Common.{◌≡◌, ℕ, List, [], ◌∷◌, refl, Some, None, Bool, true, false}
use Rattle.craft_base.specs.Knowledge.{Heard, Beat, From, Matched}
use Rattle.craft_base.specs.Shape.{Shape}
use Rattle.craft_base.specs.declared.command.Entry.{Entry}
use Rattle.craft_base.specs.declared.command.Form.{Form}
use Rattle.craft_base.specs.declared.command.Form.TheVariants as forms
use Rattle.craft_base.specs.declared.command.Op.TheVariants.{Put}
use Rattle.entry_frames.specs.Records as records
use Rattle.entry_frames.specs.declared.message.Message.{Message}
use Rattle.entry_frames.specs.declared.message.Message.TheVariants as messages
use Rattle.entry_frames.specs.declared.peer.Peer.{Peer}
use Rattle.entry_frames.specs.declared.peer.Peer.TheVariants as peers
use Rattle.entry_frames.specs.declared.role.Role.{Role}
use Rattle.entry_frames.specs.declared.role.Role.TheVariants.{Follower, Candidate, Leader}
use Rattle.world_model.specs.Nodes.{Node}
use Rattle.world_model.specs.Rules.Acts.{Act}
use Rattle.world_model.specs.Rules.Prepare.{noop}
use Rattle.world_model.specs.Turn.{Tick, Frame, act_of}

abbrev three : Shape
three = record { faults = 1; need = 1 }

-- member 0 of three in term 4, with its first entry committed
abbrev member : Role → List Entry → List Heard → Node
member role log heard =
    record {
      shape = three;
      me = 0;
      durable = record { term = 4; vote = Some 0; log = log; commit = 1 };
      volatile = record { role = role; quiet = 0; hint = None; heard = heard; first = 4; pages = []; calls = []; reads = []; want = None };
    }

abbrev log : List Entry
log = noop 1 ∷ noop 2 ∷ noop 2 ∷ []

-- what it makes of what member 1 says in that term, and what it says to a member
abbrev hears : Peer → Node → Act
hears body n = act_of (Frame (messages.Peer 1 0 4 body)) n

abbrev to : ℕ → Peer → Message
to receiver body = messages.Peer 0 receiver 4 body

-- ---- a follower

-- the log is cut where the leader has an entry of another term, and goes on as the leader's
replaced : (hears (peers.Append 1 1 1 (noop 2 ∷ noop 4 ∷ [])) (member Follower log [])).records ≡ records.Cut 3 ∷ records.Add (noop 4) ∷ []
replaced = refl

-- a message of less than the log has removes nothing behind, and commits no further than it goes
shorter : (hears (peers.Append 1 1 3 (noop 2 ∷ [])) (member Follower log [])).records ≡ records.Commit 2 ∷ []
shorter = refl

shorter_told : (hears (peers.Append 1 1 3 (noop 2 ∷ [])) (member Follower log [])).sends ≡ to 1 (peers.Matched 1 1 1) ∷ []
shorter_told = refl

-- what is committed isn't removed, and who says otherwise isn't answered
clash : (hears (peers.Append 0 0 1 (noop 3 ∷ [])) (member Follower log [])).records ≡ []
clash = refl

clash_told : (hears (peers.Append 0 0 1 (noop 3 ∷ [])) (member Follower log [])).sends ≡ []
clash_told = refl

-- behind an entry that it lacks, or has of another term, nothing is taken: it may go on behind the commit index
gap_told : (hears (peers.Append 4 4 1 (noop 4 ∷ [])) (member Follower log [])).sends ≡ to 1 (peers.Refused 2) ∷ []
gap_told = refl

other_term_told : (hears (peers.Append 3 3 1 (noop 4 ∷ [])) (member Follower log [])).sends ≡ to 1 (peers.Refused 2) ∷ []
other_term_told = refl

-- a part becomes whole
abbrev put : Form → Entry
put form = record { term = 2; head = record { client = 7; seq = 1; op = Put; key = 97 ∷ []; vlen = 2 }; form = form }

completed : (hears (peers.Append 1 1 1 (put (forms.Whole (5 ∷ 6 ∷ [])) ∷ [])) (member Follower (noop 1 ∷ put (forms.Part (9 ∷ [])) ∷ []) [])).records
    ≡ records.Whole 2 (5 ∷ 6 ∷ []) ∷ []
completed = refl

-- ---- a vote

-- its log has three entries, the last of term 2: it grants a vote in a new term to one whose log ends in a later term, or in the same
-- and with no fewer entries
abbrev answers : (last_term last : ℕ) → List Message
answers last_term last = (act_of (Frame (messages.Peer 1 0 5 (peers.Vote last_term last))) (member Follower log [])).sends

abbrev voted : Bool → List Message
voted granted = messages.Peer 0 1 5 (peers.VoteReply granted) ∷ []

older_last_term : answers 1 9 ≡ voted false
older_last_term = refl

fewer_entries : answers 2 2 ≡ voted false
fewer_entries = refl

as_many_entries : answers 2 3 ≡ voted true
as_many_entries = refl

later_last_term : answers 3 1 ≡ voted true
later_last_term = refl

-- ---- a candidate that wins

wins : (hears (peers.VoteReply true) (member Candidate log [])).records ≡ records.Add (noop 4) ∷ []
wins = refl

-- ---- a leader

-- where too few members were heard of late it sends from the first entry on that a member isn't known to hold: member 1 holds the second and lacks the third, of member 2
-- nothing is known
beat_told : (act_of (Tick 0) (member Leader log (Beat ∷ Beat ∷ From 1 3 (Matched 1 1 1) ∷ []))).sends
    ≡ to 1 (peers.Append 2 2 1 (noop 2 ∷ [])) ∷ to 2 (peers.Append 1 1 1 (noop 2 ∷ noop 2 ∷ [])) ∷ []
beat_told = refl

-- member 1 has all of the log, but of the second entry a part: it is sent that again
part_told : (act_of (Tick 0) (member Leader log (Beat ∷ Beat ∷ From 1 3 (Matched 1 2 2) ∷ From 2 3 (Matched 1 2 3) ∷ []))).sends
    ≡ to 1 (peers.Append 1 1 1 (noop 2 ∷ noop 2 ∷ [])) ∷ to 2 (peers.Append 3 2 1 []) ∷ []
part_told = refl

-- where enough were heard of late each is sent from behind what it matched; who wasn't heard, from where the leader began
coded_told : (act_of (Tick 0) (member Leader log (From 1 3 (Matched 1 1 2) ∷ []))).sends
    ≡ to 1 (peers.Append 2 2 1 (noop 2 ∷ [])) ∷ to 2 (peers.Append 3 2 1 []) ∷ []
coded_told = refl

-- a member that refuses is sent from where it says
refused_told : (hears (peers.Refused 1) (member Leader log [])).sends ≡ to 1 (peers.Append 0 0 1 log) ∷ []
refused_told = refl

-- two of three hold an entry of its own term
counts : (hears (peers.Matched 1 2 3) (member Leader (noop 1 ∷ noop 2 ∷ noop 4 ∷ []) [])).records ≡ records.Commit 3 ∷ []
counts = refl

-- a follower counts nothing
follower_counts_nothing : (hears (peers.Matched 1 2 3) (member Follower (noop 1 ∷ noop 2 ∷ noop 4 ∷ []) [])).records ≡ []
follower_counts_nothing = refl
