-- The world after one event: each member's requests still stand, and what was told in it is told of what is committed then, all of which was
-- proposed by then.
use Rattle.std.proofs.Common.{◌≡◌, ℕ, ◌-◌, Bool, true, false, List, ◌++◌, map, Option, None, Some, option_map, slice_get, refl, subst, arith}
use Rattle.std.specs.Prelude.{slice_set}
use Rattle.std.specs.List.{All}
use Rattle.std.proofs.lemmas.List.Elements.{All-append, All-map, All-same, All-set, All-weaker}
use Rattle.std.proofs.lemmas.Option.{get_or_from_slice_get, same_Some, slice_get_within}
use Rattle.craft_base.specs.Shape.{Shape}
use Rattle.entry_frames.specs.Durable.{Durable}
use Rattle.entry_frames.specs.declared.message.Message.{Message}
use Rattle.world_model.specs.Nodes.{Node, Volatile, fresh, node_with}
use Rattle.world_model.specs.Safety.{HoldsCommitted, IsFront, committed, committed_log}
use Rattle.world_model.specs.Spelling.{IsInnerOf, IsLineOf}
use Rattle.world_model.specs.Traces.{Command, Proposal, Replied, proposals_in, replies_told}
use Rattle.world_model.specs.Turn as turns
use Rattle.world_model.specs.World.{Aim, Member, World, after_stop, after_turn, aim_of, counting, delivery_of, down_as, down_of, happening, is_applied, running_as, show_as, show_of, step, stopped, turn_as, turn_at, turn_of, up_as, up_of, volatile_of}
use Rattle.world_model.specs.declared.call.ClientReply.{ClientReply}
use Rattle.world_model.specs.declared.line.Inner.{Inner}
use Rattle.world_model.specs.declared.line.Inner.TheVariants as inners
use Rattle.world_model.specs.declared.line.Line.{Line}
use Rattle.world_model.specs.declared.line.Line.TheVariants as lines
use Rattle.world_model.proofs.Positions.{set_here}
use Rattle.bridge.proofs.Replies.Answering.{ActAnswers, IsAnswering, Waits, want_answers}
use Rattle.bridge.proofs.Replies.Asking.{call_answers}
use Rattle.bridge.proofs.Replies.Calls.{IsToldBy}
use Rattle.bridge.proofs.Replies.Dates.{AreDated, IsDated, IsProposedBy, all_proposed_more, dated_later, front_proposed, proposals_dated}
use Rattle.bridge.proofs.Replies.Lists.{front_refl, front_trans}
use Rattle.bridge.proofs.Replies.Outcomes.{IsTold}
use Rattle.bridge.proofs.Replies.Rules.{message_answers, tick_answers}
use Rattle.bridge.proofs.Replies.Standing.{Gathered, gather, stands_answers}
use Rattle.bridge.proofs.Replies.Told.{replied, replies_kept}

-- each request that waits at the member stands in its log, or found what it waits for
abbrev pub MemberAnswers : Member → Type 0
MemberAnswers m = Waits (volatile_of m.running).role m.durable (volatile_of m.running)

-- a reply that is told of commands which that list begins with, each of which was proposed by then
pub record IsToldOf (listed : List (Option Command)) (book : List Proposal) (r : Replied) : Type 0 where
  pub commands : List Command
  pub front : IsFront (map Some commands) listed
  pub told : IsTold commands r.client r.seq r.reply
  pub dated : All (IsProposedBy book r.event) commands

-- in a list and a book that go on
told_longer_on :
    (one listed : List (Option Command)) (book more : List Proposal) → IsFront one listed → (r : Replied) → IsToldOf one book r → IsToldOf listed (book ++ more) r
told_longer_on one listed book more front r is = record {
  commands = is.commands;
  front = front_trans (map Some is.commands) one listed is.front front;
  told = is.told;
  dated = all_proposed_more book more r.event is.commands is.dated;
}

-- what an event makes of each node whose requests stand
abbrev IsAnswered : Aim → Type 0
IsAnswered aim = (n : Node) → IsAnswering n → ActAnswers (turns.act_of aim.event n)

aim_answers : (shape : Shape) (w : World) (inner : Inner) → IsInnerOf shape inner → (aim : Aim) → aim_of w inner ≡ Some aim → IsAnswered aim
aim_answers shape w (inners.Tick member word) within aim e = subst IsAnswered (same_Some _ aim e) (λ n calls. want_answers (turns.act_of_event (turns.Tick word) n) (tick_answers word n calls))
aim_answers shape w (inners.Call member request) within aim e =
    subst IsAnswered (same_Some _ aim e) (λ n calls. want_answers (turns.act_of_event (turns.Call request.client request) n) (call_answers request.client request n calls (within.2).asked))
aim_answers shape w (inners.Take frame) within aim e = delivered (slice_get w.sent (frame - 1)) e where
  delivered : (found : Option Message) → option_map delivery_of found ≡ Some aim → IsAnswered aim
  delivered None is = cc
  delivered (Some m) is = subst IsAnswered (same_Some _ aim is) (λ n calls. want_answers (turns.act_of_event (turns.Frame m) n) (message_answers m n calls))

-- ---- what was told in a turn

module _ (w : World) (me : ℕ) (m : Member) (event : turns.Event) (volatile : Volatile) where
  abbrev node : Node
  node = node_with w.shape me m.durable volatile

  abbrev now : World
  now = (after_turn w me m.durable (turns.turn event node)).world

  module _ (here : slice_get w.members me ≡ Some m) (answers : ActAnswers (turns.act_of event node)) (holds : HoldsCommitted now) (dated : AreDated w.count now.book) where
    abbrev act : turns.Turned
    act = turns.turn event node

    each_told : (r : ClientReply) → IsToldBy act.node.durable.log act.node.durable.commit r → IsToldOf (committed now) now.book (replied w.count me r)
    each_told r by =
        let there : slice_get now.members me ≡ Some (running_as act.node) = set_here w.members me m (running_as act.node) here in
        let up_to : Gathered act.node.durable.log (committed now) by.0 =
        gather act.node.durable.log (committed now) by.0
        (λ place lt.
        let h = holds me (running_as act.node) place there (omega (arith, lt, by.1)) in
        (h.0, h.1, h.2, h.3, stands_answers now.shape.need me h.0 h.1 h.4)) in
        record {
          commands = up_to.commands;
          front = up_to.front;
          told = by.2 up_to.commands up_to.stand;
          dated = front_proposed now.book w.count dated 1 (committed_log now) up_to.commands up_to.front;
        }

    turn_told : All (IsToldOf (committed now) now.book) (replies_told w.count me act.outputs)
    turn_told =
        let a = turns.act_of event node in
        All-same (IsToldOf (committed now) now.book) (replies_told w.count me act.outputs) (map (replied w.count me) a.replies) (replies_kept w.count me node a)
        (All-map (IsToldOf (committed now) now.book) (replied w.count me) a.replies
        (All-weaker (IsToldBy act.node.durable.log act.node.durable.commit) (λ r. IsToldOf (committed now) now.book (replied w.count me r)) each_told a.replies answers.replies))

-- ---- the world

-- the members' requests stand, all replies are told of that list, and what was proposed was so by now
pub record WorldAnswers (listed : List (Option Command)) (w : World) : Type 0 where
  pub members : All MemberAnswers w.members
  pub told : All (IsToldOf listed w.book) w.replies
  pub dated : AreDated w.count w.book

module _ (shape : Shape) (listed : List (Option Command)) (w : World) (a : WorldAnswers listed w) where
  -- one member changes, and nothing is told
  changed_answers : (me : ℕ) (next : Member) → MemberAnswers next → WorldAnswers listed (record w { members = slice_set w.members me next })
  changed_answers me next calls = record { members = All-set MemberAnswers w.members me next calls a.members; told = a.told; dated = a.dated }

  member_answers : (me : ℕ) (m : Member) → slice_get w.members me ≡ Some m → MemberAnswers m
  member_answers me m here =
      subst MemberAnswers (get_or_from_slice_get w.members me m m here) (a.members me m (slice_get_within w.members me m here))

  turn_as_answers :
      (aim : Aim) → IsAnswered aim → (d : Durable) (running : Option Volatile) →
      slice_get w.members aim.member ≡ Some (record { durable = d; running = running }) → HoldsCommitted (turn_as after_turn w aim d running).world →
      IsFront (committed (turn_as after_turn w aim d running).world) listed → WorldAnswers listed (turn_as after_turn w aim d running).world
  turn_as_answers aim rule d None here holds front = a
  turn_as_answers aim rule d (Some volatile) here holds front =
      let m : Member = record { durable = d; running = Some volatile } in
      let n = node_with w.shape aim.member d volatile in
      let answers : ActAnswers (turns.act_of aim.event n) = rule n (member_answers aim.member m here) in
      let now = (after_turn w aim.member d (turns.turn aim.event n)).world in
      let t : turns.Turned = turns.turn aim.event n in
      let more : List Proposal = proposals_in w.count t.node.volatile.role d t.records in
      let dated : AreDated w.count now.book = All-append (IsDated w.count) w.book more a.dated (proposals_dated w.count t.node.volatile.role d t.records) in
      let told = replies_told w.count aim.member t.outputs in
      let new : All (IsToldOf (committed now) now.book) told = turn_told w aim.member m aim.event volatile here answers holds dated in
      record {
        members = All-set MemberAnswers w.members aim.member (running_as (turns.act_of aim.event n).node) answers.calls a.members;
        told = All-append (IsToldOf listed now.book) w.replies told
            (All-weaker (IsToldOf listed w.book) (IsToldOf listed now.book) (told_longer_on listed listed w.book more (front_refl listed)) w.replies a.told)
            (All-weaker (IsToldOf (committed now) now.book) (IsToldOf listed now.book)
            (λ r is. record { commands = is.commands; front = front_trans (map Some is.commands) (committed now) listed is.front front; told = is.told; dated = is.dated })
            told new);
        dated = dated;
      }

  turn_of_answers :
      (aim : Aim) → IsAnswered aim → (found : Option Member) → slice_get w.members aim.member ≡ found →
      HoldsCommitted (turn_of after_turn w aim found).world → IsFront (committed (turn_of after_turn w aim found).world) listed →
      WorldAnswers listed (turn_of after_turn w aim found).world
  turn_of_answers aim rule None here holds front = a
  turn_of_answers aim rule (Some m) here holds front = turn_as_answers aim rule m.durable m.running here holds front

  turn_at_answers :
      (inner : Inner) → IsInnerOf shape inner → (aim : Option Aim) → aim_of w inner ≡ aim → HoldsCommitted (turn_at after_turn w aim).world →
      IsFront (committed (turn_at after_turn w aim).world) listed → WorldAnswers listed (turn_at after_turn w aim).world
  turn_at_answers inner within None e holds front = a
  turn_at_answers inner within (Some aim) e holds front =
      turn_of_answers aim (aim_answers shape w inner within aim e) (slice_get w.members aim.member) refl holds front

  -- a turn that stops tells nothing, and the member is down
  stopped_answers : (test : Bool) (me : ℕ) (d : Durable) (t : turns.Turned) → WorldAnswers listed (stopped test w me d t).world
  stopped_answers true me d t =
      let more : List Proposal = proposals_in w.count t.node.volatile.role d t.records in
      record {
        members = All-set MemberAnswers w.members me (record { durable = t.node.durable; running = None }) (refl, refl) a.members;
        told = All-weaker (IsToldOf listed w.book) (IsToldOf listed (w.book ++ more)) (told_longer_on listed listed w.book more (front_refl listed)) w.replies a.told;
        dated = All-append (IsDated w.count) w.book more a.dated (proposals_dated w.count t.node.volatile.role d t.records);
      }
  stopped_answers false me d t = changed_answers me (record { durable = d; running = None }) (refl, refl)

  stop_as_answers : (call : ℕ) (keep : Bool) (aim : Aim) (d : Durable) (running : Option Volatile) → WorldAnswers listed (turn_as (after_stop call keep) w aim d running).world
  stop_as_answers call keep aim d None = a
  stop_as_answers call keep aim d (Some volatile) =
      stopped_answers (is_applied call keep) aim.member d (turns.turn aim.event (node_with w.shape aim.member d volatile))

  stop_of_answers : (call : ℕ) (keep : Bool) (aim : Aim) (found : Option Member) → WorldAnswers listed (turn_of (after_stop call keep) w aim found).world
  stop_of_answers call keep aim None = a
  stop_of_answers call keep aim (Some m) = stop_as_answers call keep aim m.durable m.running

  stop_at_answers : (call : ℕ) (keep : Bool) (aim : Option Aim) → WorldAnswers listed (turn_at (after_stop call keep) w aim).world
  stop_at_answers call keep None = a
  stop_at_answers call keep (Some aim) = stop_of_answers call keep aim (slice_get w.members aim.member)

  down_as_answers : (me : ℕ) (d : Durable) (running : Option Volatile) → WorldAnswers listed (down_as w me d running).world
  down_as_answers me d None = a
  down_as_answers me d (Some volatile) = changed_answers me (record { durable = d; running = None }) (refl, refl)

  down_of_answers : (me : ℕ) (found : Option Member) → WorldAnswers listed (down_of w me found).world
  down_of_answers me None = a
  down_of_answers me (Some m) = down_as_answers me m.durable m.running

  up_as_answers : (me : ℕ) (d : Durable) (running : Option Volatile) → WorldAnswers listed (up_as w me d running).world
  up_as_answers me d None = changed_answers me (record { durable = d; running = Some fresh }) (refl, refl)
  up_as_answers me d (Some volatile) = a

  up_of_answers : (me : ℕ) (found : Option Member) → WorldAnswers listed (up_of w me found).world
  up_of_answers me None = a
  up_of_answers me (Some m) = up_as_answers me m.durable m.running

  show_as_answers : (me : ℕ) (d : Durable) (running : Option Volatile) → WorldAnswers listed (show_as w me d running).world
  show_as_answers me d None = a
  show_as_answers me d (Some volatile) = a

  show_of_answers : (me : ℕ) (found : Option Member) → WorldAnswers listed (show_of w me found).world
  show_of_answers me None = a
  show_of_answers me (Some m) = show_as_answers me m.durable m.running

pub step_answers :
    (shape : Shape) (listed : List (Option Command)) (w : World) → WorldAnswers listed w → (line : Line) → IsLineOf shape line →
    HoldsCommitted (step w line).world → IsFront (committed (step w line).world) listed → WorldAnswers listed (step w line).world
step_answers shape listed w a line within holds front =
    by_line shape listed (counting w) (record { members = a.members; told = a.told; dated = dated_later w.count w.book a.dated }) line within holds front where
      by_line :
          (shape : Shape) (listed : List (Option Command)) (w : World) → WorldAnswers listed w → (line : Line) → IsLineOf shape line →
          HoldsCommitted (happening w line).world → IsFront (committed (happening w line).world) listed → WorldAnswers listed (happening w line).world
      by_line shape listed w a (lines.Do inner) within holds front = turn_at_answers shape listed w a inner within (aim_of w inner) refl holds front
      by_line shape listed w a (lines.Down me) within holds front = down_of_answers shape listed w a me (slice_get w.members me)
      by_line shape listed w a (lines.Up me) within holds front = up_of_answers shape listed w a me (slice_get w.members me)
      by_line shape listed w a (lines.Show me) within holds front = show_of_answers shape listed w a me (slice_get w.members me)
      by_line shape listed w a (lines.Stop call keep inner) within holds front = stop_at_answers shape listed w a call keep (aim_of w inner)
