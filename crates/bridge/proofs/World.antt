-- The world after one event.
use Rattle.std.proofs.Common.{◌≡◌, ℕ, ◌-◌, ◌<◌, List, ◌++◌, Option, None, Some, option_map, slice_get, get_or, refl, subst}
use Rattle.std.specs.List.{All}
use Rattle.std.proofs.lemmas.List.Elements.{All-from_get_or, All-nil}
use Rattle.std.proofs.lemmas.Option.{slice_get_within, get_or_from_slice_get, same_Some}
use Rattle.craft_base.specs.Shape.{IsShape, Shape}
use Rattle.entry_frames.specs.Durable.{Durable}
use Rattle.entry_frames.specs.declared.message.Message.{Message}
use Rattle.world_model.specs.Nodes.{Node, Volatile, fresh, node_with}
use Rattle.world_model.specs.Spelling.{IsInnerOf, IsLineOf}
use Rattle.world_model.specs.Traces.{Proposal}
use Rattle.world_model.specs.Turn as turns
use Rattle.world_model.specs.World.{Aim, Member, World, after_turn, aim_of, counting, delivery_of, down_as, down_of, down_with, happening, show_as, show_of, step, turn_as, turn_at, turn_of, up_as, up_of}
use Rattle.world_model.specs.declared.line.Inner.{Inner}
use Rattle.world_model.specs.declared.line.Inner.TheVariants as inners
use Rattle.world_model.specs.declared.line.Line.{Line}
use Rattle.world_model.specs.declared.line.Line.TheVariants as lines
use Rattle.world_model.proofs.Stops.{said_before, stops_keep, unsaid}
use Rattle.protocol.specs.History as protocol
use Rattle.protocol.specs.Moves.{Reached, Restart, None_yet, after}
use Rattle.protocol.proofs.Runs.{moves_trans}
use Rattle.bridge.specs.Agreement.{HeardAgrees, MessageAgrees, NodeAgrees, WorldAgrees}
use Rattle.bridge.specs.Bridges.{TurnBridged, WorldBridged}
use Rattle.bridge.specs.Traced.{AllStand, MessageStands, PageStands, holder}
use Rattle.bridge.proofs.Book.Asking.{act_turned, tick_turned}
use Rattle.bridge.proofs.Book.Called.{call_turned}
use Rattle.bridge.proofs.Book.Turn.{message_turned}
use Rattle.bridge.proofs.Members.{changed_bridged, turned_bridged}
use Rattle.bridge.proofs.Restarting.{restarted_agrees, restarts}
use Rattle.bridge.proofs.Steps.{own_none}

-- what an event makes of a node that agrees is bridged and traced
abbrev IsTold : Shape → protocol.History → List Proposal → Aim → Type 0
IsTold shape g book aim =
    (n : Node) → NodeAgrees shape g aim.member n → AllStand (holder shape aim.member) book 1 n.durable.log → All (PageStands shape book) n.volatile.pages →
    TurnBridged shape g book aim.member n.durable (turns.act_of aim.event n)

module _
    {shape : Shape} {g : protocol.History} {w : World} (reached : Reached shape.faults g) (is : IsShape shape) (a : WorldAgrees shape g w)
  where
    -- nothing happens
    nothing_bridged : WorldBridged shape g w
    nothing_bridged = record { history = g; moves = None_yet; agrees = a }

    -- a message that was sent can be told to its receiver
    aim_agrees : (inner : Inner) → IsInnerOf shape inner → (aim : Aim) → aim_of w inner ≡ Some aim → IsTold shape g w.book aim
    aim_agrees (inners.Tick member word) within aim e = subst (IsTold shape g w.book) (same_Some _ _ e)
        (λ n agrees stand seen. act_turned (turns.Tick word) n (tick_turned word reached agrees stand seen))
    aim_agrees (inners.Call member request) within aim e = subst (IsTold shape g w.book) (same_Some _ _ e)
        (λ n agrees stand seen.
        act_turned (turns.Call request.client request) n
        (call_turned n reached agrees stand seen a.proposals request.client request (All-from_get_or (λ byte. byte < 256) request.value 0 (λ i lt. within.2.value_bytes.each i)) is))
    aim_agrees (inners.Take frame) within aim e = delivered (slice_get w.sent (frame - 1)) refl e where
      delivered :
          (found : Option Message) → slice_get w.sent (frame - 1) ≡ found → option_map delivery_of found ≡ Some aim → IsTold shape g w.book aim
      delivered None here is_aim = cc
      delivered (Some m) here is_aim =
          let at_frame : MessageAgrees g (get_or w.sent (frame - 1) m) = a.sent (frame - 1) m (slice_get_within w.sent (frame - 1) m here) in
          let told : MessageAgrees g m = subst (MessageAgrees g) (get_or_from_slice_get w.sent (frame - 1) m m here) at_frame in
          let stands_at : MessageStands shape w.book (get_or w.sent (frame - 1) m) = a.stand (frame - 1) m (slice_get_within w.sent (frame - 1) m here) in
          let stands : MessageStands shape w.book m = subst (MessageStands shape w.book) (get_or_from_slice_get w.sent (frame - 1) m m here) stands_at in
          subst (IsTold shape g w.book) (same_Some _ _ is_aim)
          (λ n agrees stand seen. act_turned (turns.Frame m) n (message_turned m reached is agrees told stand seen a.proposals stands))

    turn_as_bridged :
        (aim : Aim) → IsTold shape g w.book aim → (d : Durable) (running : Option Volatile) →
        slice_get w.members aim.member ≡ Some (record { durable = d; running = running }) → WorldBridged shape g (turn_as after_turn w aim d running).world
    turn_as_bridged aim rule d None here = nothing_bridged
    turn_as_bridged aim rule d (Some volatile) here =
        let m : Member = record { durable = d; running = Some volatile } in
        turned_bridged reached a m aim.event here (rule (node_with w.shape aim.member d volatile) (a.members aim.member m here) (a.logs aim.member m here) (a.pages aim.member m here))

    turn_of_bridged :
        (aim : Aim) → IsTold shape g w.book aim → (found : Option Member) →
        slice_get w.members aim.member ≡ found → WorldBridged shape g (turn_of after_turn w aim found).world
    turn_of_bridged aim rule None here = nothing_bridged
    turn_of_bridged aim rule (Some m) here = turn_as_bridged aim rule m.durable m.running here

    turn_at_bridged : (inner : Inner) → IsInnerOf shape inner → (aim : Option Aim) → aim_of w inner ≡ aim → WorldBridged shape g (turn_at after_turn w aim).world
    turn_at_bridged inner within None e = nothing_bridged
    turn_at_bridged inner within (Some aim) e = turn_of_bridged aim (aim_agrees inner within aim e) (slice_get w.members aim.member) refl

    -- a member goes down
    down_as_bridged :
        (me : ℕ) (d : Durable) (running : Option Volatile) → slice_get w.members me ≡ Some (record { durable = d; running = running }) →
        WorldBridged shape g (down_as w me d running).world
    down_as_bridged me d None here = nothing_bridged
    down_as_bridged me d (Some volatile) here =
        changed_bridged reached a (down_with d) (restarts g me)
        (restarted_agrees (a.members me (record { durable = d; running = Some volatile }) here) fresh refl (All-nil (HeardAgrees (after g (Restart me)) d.term me)))
        here refl (All-nil (PageStands shape w.book))

    down_bridged : (me : ℕ) (found : Option Member) → slice_get w.members me ≡ found → WorldBridged shape g (down_of w me found).world
    down_bridged me None here = nothing_bridged
    down_bridged me (Some m) here = down_as_bridged me m.durable m.running here

    -- a member that starts is the node as which it would have started
    up_as_bridged :
        (me : ℕ) (d : Durable) (running : Option Volatile) → slice_get w.members me ≡ Some (record { durable = d; running = running }) →
        WorldBridged shape g (up_as w me d running).world
    up_as_bridged me d None here =
        changed_bridged reached a (record { durable = d; running = Some fresh }) (own_none g) (a.members me (record { durable = d; running = None }) here) here refl
        (All-nil (PageStands shape w.book))
    up_as_bridged me d (Some volatile) here = nothing_bridged

    up_bridged : (me : ℕ) (found : Option Member) → slice_get w.members me ≡ found → WorldBridged shape g (up_of w me found).world
    up_bridged me None here = nothing_bridged
    up_bridged me (Some m) here = up_as_bridged me m.durable m.running here

    show_as_bridged : (me : ℕ) (d : Durable) (running : Option Volatile) → WorldBridged shape g (show_as w me d running).world
    show_as_bridged me d None = nothing_bridged
    show_as_bridged me d (Some volatile) = nothing_bridged

    show_bridged : (me : ℕ) (found : Option Member) → WorldBridged shape g (show_of w me found).world
    show_bridged me None = nothing_bridged
    show_bridged me (Some m) = show_as_bridged me m.durable m.running

-- what a bridged world says and loses leaves the rest bridged
unsaid_bridged :
    {shape : Shape} {g : protocol.History} (w now : World) (more : List Message) → now.sent ≡ w.sent ++ more → WorldBridged shape g now → WorldBridged shape g (unsaid w now)
unsaid_bridged {shape = shape} w now more is b = record {
  history = b.history;
  moves = b.moves;
  agrees = record {
    of_shape = b.agrees.of_shape;
    many = b.agrees.many;
    members = b.agrees.members;
    sent = said_before (MessageAgrees b.history) w now more is b.agrees.sent;
    proposals = b.agrees.proposals;
    removals = b.agrees.removals;
    commits = b.agrees.commits;
    logs = b.agrees.logs;
    pages = b.agrees.pages;
    stand = said_before (MessageStands shape now.book) w now more is b.agrees.stand;
  };
}

-- after moves a member goes down
down_later :
    {shape : Shape} {g : protocol.History} → Reached shape.faults g → IsShape shape → (w : World) (me : ℕ) → WorldBridged shape g w →
    WorldBridged shape g (down_of w me (slice_get w.members me)).world
down_later {shape = shape} {g = g} reached is w me b =
    let next = down_bridged (moves_trans shape.faults _ g b.history reached b.moves) is b.agrees me (slice_get w.members me) refl in
    record { history = next.history; moves = moves_trans shape.faults g b.history next.history b.moves next.moves; agrees = next.agrees }

happening_bridged :
    {shape : Shape} {g : protocol.History} {w : World} → Reached shape.faults g → IsShape shape → WorldAgrees shape g w → (line : Line) → IsLineOf shape line →
    WorldBridged shape g (happening w line).world
happening_bridged {w = w} reached is a (lines.Do inner) within = turn_at_bridged reached is a inner within (aim_of w inner) refl
happening_bridged {w = w} reached is a (lines.Down me) within = down_bridged reached is a me (slice_get w.members me) refl
happening_bridged {w = w} reached is a (lines.Up me) within = up_bridged reached is a me (slice_get w.members me) refl
happening_bridged {w = w} reached is a (lines.Show me) within = show_bridged reached is a me (slice_get w.members me)
happening_bridged {shape = shape} {g = g} {w = w} reached is a (lines.Stop call keep inner) within =
    stops_keep (WorldBridged shape g) unsaid_bridged (down_later reached is) w call keep (nothing_bridged reached is a) inner
    (turn_at_bridged reached is a inner within.2 (aim_of w inner) refl)

-- one event more counted
counted : {shape : Shape} {g : protocol.History} {w : World} → WorldAgrees shape g w → WorldAgrees shape g (counting w)
counted a = assumption a

pub step_bridged :
    {shape : Shape} {g : protocol.History} {w : World} → Reached shape.faults g → IsShape shape → WorldAgrees shape g w → (line : Line) → IsLineOf shape line →
    WorldBridged shape g (step w line).world
step_bridged reached is a line within = happening_bridged reached is (counted a) line within
