-- What each turn of a node keeps, and holds of a node that starts, holds of each member after a run.
use Rattle.std.proofs.Common.{◌≡◌, ℕ, List, [], ◌∷◌, Option, None, Some, slice_get, slice_set, refl, sym, subst, ◌∙◌, inl, inr}
use Rattle.std.proofs.lemmas.Bool.{cases_eq}
use Rattle.std.proofs.lemmas.Option.{same_Some}
use Rattle.craft_base.specs.Shape.{Shape, members_of}
use Rattle.entry_frames.specs.Durable.{Durable}
use Rattle.world_model.specs.Nodes.{Volatile, fresh, node_with}
use Rattle.world_model.specs.Turn as turns
use Rattle.world_model.specs.World.{Aim, Member, World, after_turn, aim_of, counting, down_as, down_of, down_with, happening, newborn, run_from, show_as, show_of, start, step, turn_as, turn_at, turn_of, up_as, up_of, volatile_of}
use Rattle.world_model.specs.declared.line.Line.{Line}
use Rattle.world_model.specs.declared.line.Line.TheVariants as lines
use Rattle.world_model.proofs.Positions.{repeated_at, set_here, set_there}
use Rattle.world_model.proofs.Stops.{stops_keep}

-- what is said of a member of a cluster, by what it holds and by what a crash loses
abbrev pub OfMember : Type 1
OfMember = Shape → (me : ℕ) → Durable → Volatile → Type 0

module _
    (P : OfMember) (starts : (shape : Shape) (me : ℕ) (d : Durable) → P shape me d fresh)
    (turns_keep :
    (event : turns.Event) (shape : Shape) (me : ℕ) (d : Durable) (v : Volatile) → P shape me d v →
    P shape me (turns.act_of event (node_with shape me d v)).node.durable (turns.act_of event (node_with shape me d v)).node.volatile)
  where
    module _ (shape : Shape) where
      -- the world is of that cluster, and it holds of each member
      abbrev Each : World → Type 0
      Each w = (w.shape ≡ shape) × ((me : ℕ) (m : Member) → slice_get w.members me ≡ Some m → P shape me m.durable (volatile_of m.running))

      -- one member is exchanged
      changed :
          (w : World) (me : ℕ) (m next : Member) → slice_get w.members me ≡ Some m → Each w → P shape me next.durable (volatile_of next.running) →
          (k : ℕ) (it : Member) → slice_get (slice_set w.members me next) k ≡ Some it → P shape k it.durable (volatile_of it.running)
      changed w me m next here all new k it e = elim (cases_eq k me) [
        | inl same ↦
            let now : slice_get (slice_set w.members me next) me ≡ Some it = subst (λ i. slice_get (slice_set w.members me next) i ≡ Some it) same e in
            let is : next ≡ it = same_Some next it (sym (set_here w.members me m next here) ∙ now) in
            rw same (subst (λ (x : Member). P shape me x.durable (volatile_of x.running)) is new)
        | inr apart ↦ all.1 k it (sym (set_there w.members me k next apart) ∙ e)
      ]

      turn_as_keeps :
          (w : World) (aim : Aim) (d : Durable) (running : Option Volatile) → slice_get w.members aim.member ≡ Some (record { durable = d; running = running }) →
          Each w → Each (turn_as after_turn w aim d running).world
      turn_as_keeps w aim d None here all = all
      turn_as_keeps w aim d (Some v) here all =
          let m : Member = record { durable = d; running = Some v } in
          let act = turns.act_of aim.event (node_with w.shape aim.member d v) in (
            all.0,
            changed w aim.member m (record { durable = act.node.durable; running = Some act.node.volatile }) here all
                (subst (λ s. P s aim.member act.node.durable act.node.volatile) all.0
                (turns_keep aim.event w.shape aim.member d v (subst (λ s. P s aim.member d v) (sym all.0) (all.1 aim.member m here)))),
          )

      turn_of_keeps : (w : World) (aim : Aim) (found : Option Member) → slice_get w.members aim.member ≡ found → Each w → Each (turn_of after_turn w aim found).world
      turn_of_keeps w aim None here all = all
      turn_of_keeps w aim (Some m) here all = turn_as_keeps w aim m.durable m.running here all

      turn_at_keeps : (w : World) (aim : Option Aim) → Each w → Each (turn_at after_turn w aim).world
      turn_at_keeps w None all = all
      turn_at_keeps w (Some aim) all = turn_of_keeps w aim (slice_get w.members aim.member) refl all

      down_as_keeps :
          (w : World) (me : ℕ) (d : Durable) (running : Option Volatile) → slice_get w.members me ≡ Some (record { durable = d; running = running }) →
          Each w → Each (down_as w me d running).world
      down_as_keeps w me d None here all = all
      down_as_keeps w me d (Some v) here all =
          (all.0, changed w me (record { durable = d; running = Some v }) (down_with d) here all (starts shape me d))

      down_keeps : (w : World) (me : ℕ) (found : Option Member) → slice_get w.members me ≡ found → Each w → Each (down_of w me found).world
      down_keeps w me None here all = all
      down_keeps w me (Some m) here all = down_as_keeps w me m.durable m.running here all

      up_as_keeps :
          (w : World) (me : ℕ) (d : Durable) (running : Option Volatile) → slice_get w.members me ≡ Some (record { durable = d; running = running }) →
          Each w → Each (up_as w me d running).world
      up_as_keeps w me d None here all =
          (all.0, changed w me (record { durable = d; running = None }) (record { durable = d; running = Some fresh }) here all (starts shape me d))
      up_as_keeps w me d (Some v) here all = all

      up_keeps : (w : World) (me : ℕ) (found : Option Member) → slice_get w.members me ≡ found → Each w → Each (up_of w me found).world
      up_keeps w me None here all = all
      up_keeps w me (Some m) here all = up_as_keeps w me m.durable m.running here all

      show_as_keeps : (w : World) (me : ℕ) (d : Durable) (running : Option Volatile) → Each w → Each (show_as w me d running).world
      show_as_keeps w me d None all = all
      show_as_keeps w me d (Some v) all = all

      show_keeps : (w : World) (me : ℕ) (found : Option Member) → Each w → Each (show_of w me found).world
      show_keeps w me None all = all
      show_keeps w me (Some m) all = show_as_keeps w me m.durable m.running all

      happening_keeps : (w : World) (line : Line) → Each w → Each (happening w line).world
      happening_keeps w (lines.Do inner) all = turn_at_keeps w (aim_of w inner) all
      happening_keeps w (lines.Down me) all = down_keeps w me (slice_get w.members me) refl all
      happening_keeps w (lines.Up me) all = up_keeps w me (slice_get w.members me) refl all
      happening_keeps w (lines.Show me) all = show_keeps w me (slice_get w.members me) all
      happening_keeps w (lines.Stop call keep inner) all =
          stops_keep Each (λ before now more is each. each) (λ before me each. down_keeps before me (slice_get before.members me) refl each) w call keep all inner
          (turn_at_keeps w (aim_of w inner) all)

      run_keeps : (events : List Line) (w : World) → Each w → Each (run_from w events)
      run_keeps [] w all = all
      run_keeps (event ∷ events) w all = run_keeps events (step w event).world (happening_keeps (counting w) event all)

      pub members_keep :
          (events : List Line) (me : ℕ) (m : Member) → slice_get (run_from (start shape) events).members me ≡ Some m → P shape me m.durable (volatile_of m.running)
      members_keep events me m here =
          (run_keeps events (start shape)
          (refl, λ k it e. subst (λ (x : Member). P shape k x.durable (volatile_of x.running)) (repeated_at (members_of shape) newborn k it e).1 (starts shape k newborn.durable))).1
          me m here
