-- What is asked of a member, done in its place.
use Rattle.std.specs.Prelude.{if◌then◌else◌}
use Rattle.std.proofs.Common.{◌≡◌, ℕ, Bool, true, false, List, [], Some, get_or, slice_get, slice_set, refl, ap, ◌∙◌, sym, subst}
use Rattle.craft_base.specs.Shape.{Shape}
use Rattle.entry_frames.specs.Durable.{Durable}
use Rattle.entry_frames.specs.declared.message.Message.{Message}
use Rattle.entry_frames.specs.declared.message.Message.TheVariants as messages
use Rattle.entry_frames.specs.Kinds.{kind_of}
use Rattle.entry_frames.specs.declared.kind.Kind.TheVariants as kinds
use Rattle.entry_frames.specs.MessageParts.{IsPeer}
use Rattle.world_model.specs.Lines.{show_lines}
use Rattle.world_model.specs.Nodes.{Volatile}
use Rattle.world_model.specs.Turn as turns
use Rattle.world_model.specs.World as model
use Rattle.world_model.specs.declared.verdict.Verdict.{Verdict}
use Rattle.world_model.specs.declared.verdict.Verdict.TheVariants as verdicts
use Rattle.world_model.proofs.Positions.{set_twice}
use Rattle.schedule_replay.specs.Actions.{IsDone, act_of}
use Rattle.schedule_replay.specs.declared.happened.Happened.{Happened}
use Rattle.schedule_replay.specs.declared.lines.Action.{Action}
use Rattle.schedule_replay.specs.declared.lines.Action.TheVariants as actions
use Rattle.schedule_replay.specs.declared.seat.Resting.{Resting}
use Rattle.schedule_replay.specs.declared.seat.Seat.{Seat}
use Rattle.schedule_replay.specs.declared.seat.Seat.TheVariants.{Down}
use Rattle.schedule_replay.specs.Seats.{AreSeats, Rests, Sits, running_with}
use Rattle.schedule_replay.specs.Told.{TellsOf}
use Rattle.schedule_replay.proofs.Seating.{seated, stays_put}

-- it happened at a member, which tells nothing
pub record IsSilent (told : Happened) (verdict : Verdict) (me : ℕ) : Type 0 where
  pub verdict_is : told.verdict ≡ verdict
  pub member_is : told.member ≡ me
  pub no_outputs : told.outputs.items ≡ []
  pub none_shown : told.shown.items ≡ []

pub tells_nothing : (told : Happened) (w : model.World) (verdict : Verdict) → IsSilent told verdict 0 → TellsOf told (model.nothing w verdict)
tells_nothing told w verdict s = record { verdict = s.verdict_is; member = s.member_is; outputs = s.no_outputs; shown = s.none_shown }

-- the member becomes another one
pub becomes_done :
    (shape : Shape) (me : ℕ) (seat : Seat) (told : Happened) (w : model.World) (verdict : Verdict) (next : model.Member) → Sits shape me seat next → IsSilent told verdict me →
    IsDone shape me seat told w (model.becoming w verdict me next)
becomes_done shape me seat told w verdict next sits s = record {
  next = next;
  members = refl;
  sits = sits;
  tells = record { verdict = s.verdict_is; member = s.member_is; outputs = s.no_outputs; shown = s.none_shown };
}

-- the member is passed over
pub skipped_done :
    (shape : Shape) (me : ℕ) (seat : Seat) (told : Happened) (w : model.World) (m : model.Member) → slice_get w.members me ≡ Some m → Sits shape me seat m → IsSilent told verdicts.Skip 0 →
    IsDone shape me seat told w (model.nothing w verdicts.Skip)
skipped_done shape me seat told w m here sits s = record {
  next = m;
  members = stays_put w.members me m here;
  sits = sits;
  tells = tells_nothing told w verdicts.Skip s;
}

-- it is shown
pub shown_done :
    (shape : Shape) (me : ℕ) (seat : Seat) (told : Happened) (w : model.World) (d : Durable) (v : Volatile) → slice_get w.members me ≡ Some (running_with d v) →
    Sits shape me seat (running_with d v) → told.verdict ≡ verdicts.Done → told.member ≡ me → told.outputs.items ≡ [] → told.shown.items ≡ show_lines me d →
    IsDone shape me seat told w (model.show_as w me d (Some v))
shown_done shape me seat told w d v here sits verdict member outputs shown = record {
  next = running_with d v;
  members = stays_put w.members me (running_with d v) here;
  sits = sits;
  tells = record { verdict = verdict; member = member; outputs = outputs; shown = shown };
}

-- its turn is made
pub turned_done :
    (shape : Shape) (me : ℕ) (seat : Seat) (told : Happened) (w : model.World) (d : Durable) (t : turns.Turned) → Sits shape me seat (model.running_as t.node) → told.verdict ≡ verdicts.Done →
    told.member ≡ me → told.outputs.items ≡ t.outputs → told.shown.items ≡ [] → IsDone shape me seat told w (model.after_turn w me d t)
turned_done shape me seat told w d t sits verdict member outputs shown = record {
  next = model.running_as t.node;
  members = refl;
  sits = sits;
  tells = record { verdict = verdict; member = member; outputs = outputs; shown = shown };
}

-- its machine stops in its turn
pub stopped_done :
    (shape : Shape) (me : ℕ) (resting : Resting) (told : Happened) (w : model.World) (d : Durable) (t : turns.Turned) (test : Bool) →
    Rests shape me resting (if test then t.node.durable else d) → IsSilent told verdicts.Stop me → IsDone shape me (Down resting) told w (model.stopped test w me d t)
stopped_done shape me resting told w d t true rests s =
    record {
      next = model.down_with t.node.durable;
      members = refl;
      sits = (refl, rests);
      tells = record { verdict = s.verdict_is; member = s.member_is; outputs = s.no_outputs; shown = s.none_shown };
    }
stopped_done shape me resting told w d t false rests s = becomes_done shape me (Down resting) told w verdicts.Stop (model.down_with d) (refl, rests) s

-- ---- in the member's place

-- what was done to the member in a place was done to the cluster
pub placed :
    (shape : Shape) (seats later : List Seat) (w : model.World) → AreSeats shape seats w.members → (me : ℕ) (vacant seat : Seat) (told : Happened) (m : model.Member) (h : model.Happened) →
    slice_get w.members me ≡ Some m → IsDone shape me seat told w h → later ≡ slice_set (slice_set seats me vacant) me seat → AreSeats shape later h.world.members
placed shape seats later w a me vacant seat told m h here done later_is =
    subst (λ s. AreSeats shape s h.world.members) (sym (later_is ∙ set_twice seats me vacant seat))
    (subst (λ ms. AreSeats shape (slice_set seats me seat) ms) (sym done.members) (seated shape seats w.members a me seat m done.next here done.sits))

-- a member that is down is passed over, but where it is to start
pub skips_down : (a : Action) (w : model.World) (me : ℕ) (d : Durable) → (a ≡ actions.Up → ⊥) → act_of a w me (Some (model.down_with d)) ≡ model.nothing w verdicts.Skip
skips_down (actions.Turn event ending) w me d other = refl
skips_down actions.Down w me d other = refl
skips_down actions.Up w me d other = absurd (other refl)
skips_down actions.Show w me d other = refl

-- what was taken out of a place is what stood there
pub here_is : (seats : List Seat) (position me : ℕ) (taken there : Seat) → taken ≡ there → there ≡ get_or seats position there → position ≡ me → get_or seats me taken ≡ taken
here_is seats position me taken there same is at = ap (λ p. get_or seats p taken) (sym at) ∙ ap (get_or seats position) same ∙ sym is ∙ sym same

-- a member's message is no answer to a client
pub no_answer : (m : Message) → IsPeer m → kind_of m ≡ kinds.Answered → ⊥
no_answer (messages.Peer from to at body) is e = cc
no_answer (messages.Request to request) is e = absurd is
no_answer (messages.Answered from client seq reply) is e = absurd is
