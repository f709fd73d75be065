-- How rules are put together: what stays, one move, and one rule after another.
use Rattle.std.proofs.Common.{◌≡◌, ℕ, ◌==◌, true, not, [], ◌∷◌, sym}
use Rattle.std.specs.List.{All}
use Rattle.std.proofs.lemmas.Bool.{not-true, eqb-false}
use Rattle.std.proofs.lemmas.List.Elements.{All-nil, All-cons, All-append, All-map, All-weaker, filter_passes}
use Rattle.craft_base.specs.Shape.{Shape}
use Rattle.craft_base.specs.Knowledge.{members}
use Rattle.entry_frames.specs.declared.peer.Peer.{Peer}
use Rattle.entry_frames.specs.declared.message.Message.{Message}
use Rattle.world_model.specs.Nodes.{Node}
use Rattle.world_model.specs.Rules.Acts.{Act, followed_by, message_of, messages_to_others, others, stays}
use Rattle.protocol.specs.History.{History}
use Rattle.protocol.specs.Moves.{Move, Allowed, Moves, Reached, None_yet, Then, after}
use Rattle.protocol.specs.Growth.{Grows, mover}
use Rattle.protocol.proofs.Growth.{grows_kept}
use Rattle.protocol.proofs.Others.{others_stay, untouched_refl, untouched_trans}
use Rattle.protocol.proofs.Runs.{moves_trans, sound_reached}
use Rattle.bridge.specs.Agreement.{PeerAgrees, MessageAgrees, NodeAgrees}
use Rattle.bridge.specs.Bridges.{ActBridged, OwnMoves}
use Rattle.bridge.proofs.Facts.{messages_stay}

-- no move of the member, one, and one after another
pub own_none : {F member : ℕ} (g : History) → OwnMoves F member g g
own_none g = record { run = None_yet; others = λ k apart. untouched_refl g k }

pub own_move : {F : ℕ} {g : History} (move : Move) → Allowed F g move → OwnMoves F (mover move) g (after g move)
own_move {g = g} move allowed = record { run = Then g move allowed None_yet; others = others_stay g move }

pub own_then : {F member : ℕ} {g h k : History} → OwnMoves F member g h → OwnMoves F member h k → OwnMoves F member g k
own_then {F = F} {g = g} {h = h} {k = k} one other = record {
  run = moves_trans F g h k one.run other.run;
  others = λ j apart. untouched_trans (one.others j apart) (other.others j apart);
}

-- history grows from what a run reached
pub reached_grows : {F : ℕ} {g h : History} → Reached F g → Moves F g h → Grows g h
reached_grows {F = F} {g = g} {h = h} reached run = grows_kept F g h (sound_reached F g reached) run

pub sends_none : (g : History) → All (MessageAgrees g) []
sends_none g = All-nil (MessageAgrees g)

pub sends_one : (g : History) (m : Message) → MessageAgrees g m → All (MessageAgrees g) (m ∷ [])
sends_one g m a = All-cons (MessageAgrees g) m [] a (sends_none g)

-- what goes to all others agrees where what it says does
pub sends_to_others :
    (h : History) (n : Node) (body : Peer) → ((receiver : ℕ) → PeerAgrees h n.durable.term n.me receiver body) →
    All (MessageAgrees h) (messages_to_others n body)
sends_to_others h n body says_so =
    let each : (receiver : ℕ) → not (receiver == n.me) ≡ true → MessageAgrees h (message_of n body receiver) =
    λ receiver passes. record { apart = λ e. eqb-false receiver n.me (not-true _ passes) (sym e); body_agrees = says_so receiver } in
    All-map (MessageAgrees h) (message_of n body) (others n)
    (All-weaker (λ receiver. not (receiver == n.me) ≡ true) (λ receiver. MessageAgrees h (message_of n body receiver)) each (others n)
    (filter_passes (λ receiver. not (receiver == n.me)) (members n.shape)))

-- a rule that makes moves of its member
pub moved :
    {shape : Shape} {g h : History} {member : ℕ} (act : Act) → OwnMoves shape.faults member g h →
    NodeAgrees shape h member act.node → All (MessageAgrees h) act.sends → ActBridged shape g member act
moved {h = h} act moves node sends = record { history = h; moves = moves; node = node; sends = sends }

-- a rule that makes none: the node agrees, and so does what it sends
pub unmoved :
    {shape : Shape} {g : History} {member : ℕ} (act : Act) →
    NodeAgrees shape g member act.node → All (MessageAgrees g) act.sends → ActBridged shape g member act
unmoved {g = g} act node sends = moved act (own_none g) node sends

-- the same where it sends nothing
pub unmoved_stays : {shape : Shape} {g : History} {member : ℕ} {n : Node} → NodeAgrees shape g member n → ActBridged shape g member (stays n)
unmoved_stays {g = g} {n = n} node = unmoved (stays n) node (sends_none g)

-- a rule, and then another of what it makes of the node
abbrev pub then_moved :
    {shape : Shape} {g : History} {member : ℕ} (reached : Reached shape.faults g) (act : Act) (rule : Node → Act)
    (first : ActBridged shape g member act) → ActBridged shape first.history member (rule act.node) → ActBridged shape g member (followed_by act rule)
then_moved {shape = shape} {g = g} reached act rule first next =
    let later : Reached shape.faults first.history = moves_trans shape.faults _ g first.history reached (first.moves).run in
    let still : All (MessageAgrees next.history) act.sends = messages_stay (reached_grows later (next.moves).run) act.sends first.sends in
    record {
      history = next.history;
      moves = own_then first.moves next.moves;
      node = next.node;
      sends = All-append (MessageAgrees next.history) act.sends (rule act.node).sends still next.sends;
    }

-- the same, where the history between the two is wanted by name
pub moved_then :
    {shape : Shape} {g h : History} {member : ℕ} (reached : Reached shape.faults g) (act : Act) (rule : Node → Act) →
    OwnMoves shape.faults member g h → NodeAgrees shape h member act.node → All (MessageAgrees h) act.sends →
    (Reached shape.faults h → ActBridged shape h member (rule act.node)) → ActBridged shape g member (followed_by act rule)
moved_then {shape = shape} {g = g} {h = h} reached act rule moves node sends next =
    let first : ActBridged shape g _ act = record { history = h; moves = moves; node = node; sends = sends } in
    then_moved reached act rule first (next (moves_trans shape.faults _ g h reached moves.run))

-- a rule that is bridged from the history which moves of the member made
abbrev pub after_moves :
    {shape : Shape} {g h : History} {member : ℕ} {act : Act} → OwnMoves shape.faults member g h → ActBridged shape h member act →
    ActBridged shape g member act
after_moves moves next = record { history = next.history; moves = own_then moves next.moves; node = next.node; sends = next.sends }
