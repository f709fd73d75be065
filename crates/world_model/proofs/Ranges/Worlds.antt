-- Turns, events and runs keep a world in range.
use Rattle.std.specs.List.{All}
use Rattle.std.proofs.Common.{◌≡◌, ℕ, ◌-◌, Bool, true, false, List, [], ◌∷◌, Option, None, Some, option_map, slice_get, slice_set, get_or, refl, sym, subst, ◌∙◌, inl, inr, arith}
use Rattle.std.proofs.lemmas.Bool.{cases_eq}
use Rattle.std.proofs.lemmas.List.Elements.{All-append, All-head, All-nil, All-same, All-tail}
use Rattle.std.proofs.lemmas.Option.{slice_get_within, get_or_from_slice_get, same_Some}
use Rattle.craft_base.specs.Shape.{Shape, IsShape, members_of}
use Rattle.entry_frames.specs.Durable.{Durable, born}
use Rattle.entry_frames.specs.Stored.{DurableInRange}
use Rattle.entry_frames.specs.declared.message.Message.{Message}
use Rattle.world_model.specs.Nodes.{Node, Volatile, fresh, node_with}
use Rattle.world_model.specs.Ranges.{CallInRange, EventInRange, IsMember, IsOfNoLog, NodeInRange, HasSpelling, InRange, PageInRange, EveryRunInRange}
use Rattle.world_model.specs.Rules.Acts.{Act}
use Rattle.world_model.specs.Turn as turns
use Rattle.world_model.specs.Turn.{turned}
use Rattle.world_model.specs.Spelling.{IsInnerOf, IsLineOf}
use Rattle.world_model.specs.World.{Aim, Ending, Member, World, after_stop, after_turn, aim_of, becoming, counting, delivery_of, down_as, down_of, down_with, happening, is_applied, newborn, node_of, run_from, show_as, show_of, start, step, stopped, tracing, turn_as, turn_at, turn_of, up_as, up_of}
use Rattle.world_model.specs.declared.line.Inner.{Inner}
use Rattle.world_model.specs.declared.line.Inner.TheVariants as inners
use Rattle.world_model.specs.declared.line.Line.{Line}
use Rattle.world_model.specs.declared.line.Line.TheVariants as lines
use Rattle.world_model.specs.declared.verdict.Verdict.{Verdict}
use Rattle.world_model.specs.declared.verdict.Verdict.TheVariants.{Done, Stop}
use Rattle.world_model.proofs.Positions.{repeated_at, set_here, set_there}
use Rattle.world_model.proofs.Turns.{sent_among-turned}
use Rattle.world_model.proofs.Requests.{request_fits}
use Rattle.world_model.proofs.Ranges.Acts.{ActInRange}
use Rattle.world_model.proofs.Ranges.Turns.{act_in_range}

-- what is delivered was sent, and has a spelling; what is aimed at a member can be told to it
aim_in_range : {shape : Shape} {w : World} → InRange shape w → (inner : Inner) → IsInnerOf shape inner → (aim : Aim) → aim_of w inner ≡ Some aim → EventInRange shape aim.member aim.event
aim_in_range {shape = shape} r (inners.Tick member word) told aim e = subst (λ a. EventInRange shape a.member a.event) (same_Some _ _ e) tt
aim_in_range {shape = shape} {w = w} r (inners.Take frame) told aim e = delivered (slice_get w.sent (frame - 1)) refl e where
  delivered : (found : Option Message) → slice_get w.sent (frame - 1) ≡ found → option_map delivery_of found ≡ Some aim → EventInRange shape aim.member aim.event
  delivered None here is_aim = cc
  delivered (Some m) here is_aim =
      let at_frame : HasSpelling shape (get_or w.sent (frame - 1) m) = r.sent (frame - 1) m (slice_get_within w.sent (frame - 1) m here) in
      let spelled : HasSpelling shape m = subst (HasSpelling shape) (get_or_from_slice_get w.sent (frame - 1) m m here) at_frame in
      subst (λ a. EventInRange shape a.member a.event) (same_Some _ _ is_aim) (spelled, refl)
aim_in_range {shape = shape} r (inners.Call member request) told aim e =
    subst (λ a. EventInRange shape a.member a.event) (same_Some _ _ e) (request_fits request told.2)

module _ {shape : Shape} {w : World} (r : InRange shape w) where
  members_after :
      (me : ℕ) (m next : Member) → slice_get w.members me ≡ Some m → NodeInRange shape me (node_of w.shape me next) →
      (k : ℕ) (it : Member) → slice_get (slice_set w.members me next) k ≡ Some it → NodeInRange shape k (node_of w.shape k it)
  members_after me m next here a k it e = elim (cases_eq k me) [
    | inl same ↦
        let now : slice_get (slice_set w.members me next) me ≡ Some it = subst (λ i. slice_get (slice_set w.members me next) i ≡ Some it) same e in
        let is : next ≡ it = same_Some _ _ (sym (set_here w.members me m next here) ∙ now) in
        rw same (subst (λ n. NodeInRange shape me (node_of w.shape me n)) is a)
    | inr apart ↦ r.members k it (sym (set_there w.members me k next apart) ∙ e)
  ]

  becoming_in_range :
      (verdict : Verdict) (me : ℕ) (m next : Member) → slice_get w.members me ≡ Some m → NodeInRange shape me (node_of w.shape me next) →
      InRange shape (becoming w verdict me next).world
  becoming_in_range verdict me m next here a = record { of_shape = r.of_shape; members = members_after me m next here a; sent = r.sent }

  -- whichever way its turn ends
  abbrev EndsInRange : Ending → Type 0
  EndsInRange ending =
      (aim : Aim) (d : Durable) (volatile : Volatile) → slice_get w.members aim.member ≡ Some (record { durable = d; running = Some volatile }) →
      (act : Act) → ActInRange shape aim.member (node_with w.shape aim.member d volatile) act →
      InRange shape (ending w aim.member d (turned (node_with w.shape aim.member d volatile) act)).world

  module _ (is : IsShape shape) (ending : Ending) (ends : EndsInRange ending) where
    turn_as_in_range :
        (aim : Aim) → EventInRange shape aim.member aim.event → (d : Durable) (running : Option Volatile) →
        slice_get w.members aim.member ≡ Some (record { durable = d; running = running }) → InRange shape (turn_as ending w aim d running).world
    turn_as_in_range aim told d None here = r
    turn_as_in_range aim told d (Some volatile) here =
        let n : Node = node_with w.shape aim.member d volatile in
        let a : NodeInRange shape aim.member n = r.members aim.member (record { durable = d; running = Some volatile }) here in
        ends aim d volatile here (turns.act_of aim.event n) (act_in_range is aim.event told a)

    turn_of_in_range :
        (aim : Aim) → EventInRange shape aim.member aim.event → (found : Option Member) → slice_get w.members aim.member ≡ found →
        InRange shape (turn_of ending w aim found).world
    turn_of_in_range aim told None here = r
    turn_of_in_range aim told (Some m) here = turn_as_in_range aim told m.durable m.running here

    turn_at_in_range : (inner : Inner) → IsInnerOf shape inner → (aim : Option Aim) → aim_of w inner ≡ aim → InRange shape (turn_at ending w aim).world
    turn_at_in_range inner told None e = r
    turn_at_in_range inner told (Some aim) e = turn_of_in_range aim (aim_in_range r inner told aim e) (slice_get w.members aim.member) refl

  after_turn_in_range : EndsInRange after_turn
  after_turn_in_range aim d volatile here act b =
      let n : Node = node_with w.shape aim.member d volatile in
      let next : NodeInRange shape aim.member (node_with w.shape aim.member act.node.durable act.node.volatile) =
      record { of_shape = r.of_shape; me = refl; is_member = b.node.is_member; durable = b.node.durable; clients = b.node.clients; knows = b.node.knows; pages = b.node.pages } in record {
        of_shape = r.of_shape;
        members = members_after aim.member _ (record { durable = act.node.durable; running = Some act.node.volatile }) here next;
        sent = All-append (HasSpelling shape) w.sent _ r.sent (All-same (HasSpelling shape) _ act.sends (sent_among-turned n act) b.sends);
      }

  -- a member that is down would start with nothing heard
  down_next : (me : ℕ) (d : Durable) → IsMember shape me → DurableInRange shape d → NodeInRange shape me (node_of w.shape me (down_with d))
  down_next me d is_member keeps = record { of_shape = r.of_shape; me = refl; is_member = is_member; durable = keeps; clients = (tt, (All-nil CallInRange, All-nil CallInRange)); knows = All-nil IsOfNoLog; pages = All-nil (PageInRange shape.need) }

  down_as_in_range :
      (me : ℕ) (d : Durable) (running : Option Volatile) → slice_get w.members me ≡ Some (record { durable = d; running = running }) →
      InRange shape (down_as w me d running).world
  down_as_in_range me d None here = r
  down_as_in_range me d (Some volatile) here =
      let a = r.members me (record { durable = d; running = Some volatile }) here in
      becoming_in_range Done me _ (down_with d) here (down_next me d a.is_member a.durable)

  down_in_range : (me : ℕ) (found : Option Member) → slice_get w.members me ≡ found → InRange shape (down_of w me found).world
  down_in_range me None here = r
  down_in_range me (Some m) here = down_as_in_range me m.durable m.running here

  up_as_in_range :
      (me : ℕ) (d : Durable) (running : Option Volatile) → slice_get w.members me ≡ Some (record { durable = d; running = running }) →
      InRange shape (up_as w me d running).world
  up_as_in_range me d None here =
      becoming_in_range Done me _ (record { durable = d; running = Some fresh }) here (r.members me (record { durable = d; running = None }) here)
  up_as_in_range me d (Some volatile) here = r

  up_in_range : (me : ℕ) (found : Option Member) → slice_get w.members me ≡ found → InRange shape (up_of w me found).world
  up_in_range me None here = r
  up_in_range me (Some m) here = up_as_in_range me m.durable m.running here

  show_as_in_range : (me : ℕ) (d : Durable) (running : Option Volatile) → InRange shape (show_as w me d running).world
  show_as_in_range me d None = r
  show_as_in_range me d (Some volatile) = r

  show_in_range : (me : ℕ) (found : Option Member) → InRange shape (show_of w me found).world
  show_in_range me None = r
  show_in_range me (Some m) = show_as_in_range me m.durable m.running

module _ {shape : Shape} {w : World} (r : InRange shape w) where
  -- lists of what was done have no range
  pub tracing_in_range : (me : ℕ) (before : Durable) (t : turns.Turned) → InRange shape (tracing w me before t)
  tracing_in_range me before t = record { of_shape = r.of_shape; members = r.members; sent = r.sent }

  pub counting_in_range : InRange shape (counting w)
  counting_in_range = record { of_shape = r.of_shape; members = r.members; sent = r.sent }

  stopped_in_range : (counts : Bool) → EndsInRange r (stopped counts)
  stopped_in_range true aim d volatile here act b =
      let t = turned (node_with w.shape aim.member d volatile) act in
      becoming_in_range (tracing_in_range aim.member d t) Stop aim.member _ (down_with act.node.durable) here
      (down_next r aim.member act.node.durable b.node.is_member b.node.durable)
  stopped_in_range false aim d volatile here act b =
      let a = r.members aim.member (record { durable = d; running = Some volatile }) here in
      becoming_in_range r Stop aim.member _ (down_with d) here (down_next r aim.member d a.is_member a.durable)

happening_in_range : {shape : Shape} → IsShape shape → {w : World} → InRange shape w → (line : Line) → IsLineOf shape line → InRange shape (happening w line).world
happening_in_range is {w = w} r (lines.Do inner) told = turn_at_in_range r is after_turn (after_turn_in_range r) inner told (aim_of w inner) refl
happening_in_range is {w = w} r (lines.Down me) told = down_in_range r me (slice_get w.members me) refl
happening_in_range is {w = w} r (lines.Up me) told = up_in_range r me (slice_get w.members me) refl
happening_in_range is {w = w} r (lines.Show me) told = show_in_range r me (slice_get w.members me)
happening_in_range is {w = w} r (lines.Stop call keep inner) told =
    turn_at_in_range r is (after_stop call keep) (stopped_in_range r (is_applied call keep)) inner told.2 (aim_of w inner) refl

pub step_in_range : {shape : Shape} → IsShape shape → {w : World} → InRange shape w → (line : Line) → IsLineOf shape line → InRange shape (step w line).world
step_in_range is r line told = happening_in_range is (counting_in_range r) line told

newborn_durable : (shape : Shape) → IsShape shape → DurableInRange shape born
newborn_durable shape is = record {
  stored = record { k = (is.2, omega (arith, is.1, is.3)); term_most = omega arith; entries = tt };
  short = omega arith;
  commit = omega arith;
}

newborn_in_range : (shape : Shape) → IsShape shape → (me : ℕ) → IsMember shape me → NodeInRange shape me (node_of shape me newborn)
newborn_in_range shape is me is_member = record {
  of_shape = refl;
  me = refl;
  is_member = is_member;
  durable = newborn_durable shape is;
  clients = (tt, (All-nil CallInRange, All-nil CallInRange));
  knows = All-nil IsOfNoLog;
  pages = All-nil (PageInRange shape.need);
}

pub start_in_range : {shape : Shape} → IsShape shape → InRange shape (start shape)
start_in_range {shape = shape} is = record {
  of_shape = refl;
  members = λ me m e.
      let at = repeated_at (members_of shape) newborn me m e in
      subst (λ it. NodeInRange shape me (node_of shape me it)) at.1 (newborn_in_range shape is me at.0);
  sent = All-nil (HasSpelling shape);
}

run_in_range : {shape : Shape} → IsShape shape → (events : List Line) → All (IsLineOf shape) events → {w : World} → InRange shape w → InRange shape (run_from w events)
run_in_range is [] told r = r
run_in_range {shape = shape} is (event ∷ events) told r =
    run_in_range is events (All-tail (IsLineOf shape) event events told) (step_in_range is r event (All-head (IsLineOf shape) event events told))

pub every_run_in_range : EveryRunInRange
every_run_in_range shape events run = run_in_range run.of_shape events run.in_range (start_in_range run.of_shape)
