-- The book of a run only grows: what was proposed in a front of the events comes first.
use Rattle.std.proofs.Common.{◌≡◌, ℕ, List, [], ◌∷◌, ◌++◌, Option, None, Some, slice_get, refl, sym, ap, ◌∙◌}
use Rattle.std.proofs.lemmas.List.{append-nil, append_assoc}
use Rattle.entry_frames.specs.Durable.{Durable}
use Rattle.world_model.specs.Nodes.{Volatile}
use Rattle.world_model.specs.Traces.{Proposal}
use Rattle.world_model.specs.World.{Aim, Member, World, after_turn, aim_of, counting, down_as, down_of, happening, run_from, show_as, show_of, step, turn_as, turn_at, turn_of, up_as, up_of}
use Rattle.world_model.specs.declared.line.Line.{Line}
use Rattle.world_model.specs.declared.line.Line.TheVariants as lines
use Rattle.world_model.proofs.Stops.{stops_keep}

-- the book of the later world is the earlier one's with more behind it
abbrev pub HasMore : List Proposal → World → Type 0
HasMore book now = (more : List Proposal) × (now.book ≡ book ++ more)

more_after : (book : List Proposal) (w : World) → HasMore book w → (now : World) → HasMore w.book now → HasMore book now
more_after book w first now second =
    (first.0 ++ second.0, second.1 ∙ ap (λ it. it ++ second.0) first.1 ∙ append_assoc book first.0 second.0)

no_more : (w : World) → HasMore w.book w
no_more w = ([], sym (append-nil w.book))

module _ (w : World) where
  turn_as_grows : (aim : Aim) (d : Durable) (running : Option Volatile) → HasMore w.book (turn_as after_turn w aim d running).world
  turn_as_grows aim d None = no_more w
  turn_as_grows aim d (Some volatile) = (_, refl)

  turn_of_grows : (aim : Aim) (found : Option Member) → HasMore w.book (turn_of after_turn w aim found).world
  turn_of_grows aim None = no_more w
  turn_of_grows aim (Some m) = turn_as_grows aim m.durable m.running

  turn_at_grows : (aim : Option Aim) → HasMore w.book (turn_at after_turn w aim).world
  turn_at_grows None = no_more w
  turn_at_grows (Some aim) = turn_of_grows aim (slice_get w.members aim.member)

  up_as_grows : (me : ℕ) (d : Durable) (running : Option Volatile) → HasMore w.book (up_as w me d running).world
  up_as_grows me d None = no_more w
  up_as_grows me d (Some volatile) = no_more w

  up_grows : (me : ℕ) (found : Option Member) → HasMore w.book (up_of w me found).world
  up_grows me None = no_more w
  up_grows me (Some m) = up_as_grows me m.durable m.running

  show_as_grows : (me : ℕ) (d : Durable) (running : Option Volatile) → HasMore w.book (show_as w me d running).world
  show_as_grows me d None = no_more w
  show_as_grows me d (Some volatile) = no_more w

  show_grows : (me : ℕ) (found : Option Member) → HasMore w.book (show_of w me found).world
  show_grows me None = no_more w
  show_grows me (Some m) = show_as_grows me m.durable m.running

module _ (book : List Proposal) where
  down_as_grows : (w : World) → HasMore book w → (me : ℕ) (d : Durable) (running : Option Volatile) → HasMore book (down_as w me d running).world
  down_as_grows w more me d None = more
  down_as_grows w more me d (Some volatile) = more

  down_grows : (w : World) → HasMore book w → (me : ℕ) (found : Option Member) → HasMore book (down_of w me found).world
  down_grows w more me None = more
  down_grows w more me (Some m) = down_as_grows w more me m.durable m.running

happening_grows : (w : World) (line : Line) → HasMore w.book (happening w line).world
happening_grows w (lines.Do inner) = turn_at_grows w (aim_of w inner)
happening_grows w (lines.Down me) = down_grows w.book w (no_more w) me (slice_get w.members me)
happening_grows w (lines.Up me) = up_grows w me (slice_get w.members me)
happening_grows w (lines.Show me) = show_grows w me (slice_get w.members me)
happening_grows w (lines.Stop call keep inner) =
    stops_keep (HasMore w.book) (λ before now sent is more. more) (λ now me more. down_grows w.book now more me (slice_get now.members me)) w call keep
    (no_more w) inner (turn_at_grows w (aim_of w inner))

pub run_grows : (w : World) (events : List Line) → HasMore w.book (run_from w events)
run_grows w [] = no_more w
run_grows w (event ∷ events) =
    more_after w.book (step w event).world (happening_grows (counting w) event) (run_from (step w event).world events) (run_grows (step w event).world events)
