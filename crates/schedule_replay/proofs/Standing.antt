-- A world stands for one event more.
use Rattle.std.proofs.Common.{◌≡◌, ℕ, ◌+◌, ◌^◌, ◌<◌, List, [], ◌∷◌, ◌++◌, length, map, refl, ap, ◌∙◌, sym, subst, arith}
use Rattle.std.specs.List.{count_by}
use Rattle.std.proofs.lemmas.List.{length-map, map-append}
use Rattle.craft_base.specs.Shape.{Shape, IsShape, members_of}
use Rattle.entry_frames.specs.declared.output.Output.{Output}
use Rattle.world_model.specs.Ranges.{InRange}
use Rattle.world_model.specs.Schedule.{most_lines}
use Rattle.world_model.specs.Tallies.{counted, greatest_commit, is_cut, is_reply, tally_of, tells_leader}
use Rattle.world_model.specs.Spelling.{IsLineOf}
use Rattle.world_model.specs.World as model
use Rattle.world_model.specs.declared.line.Line.{Line}
use Rattle.world_model.specs.declared.tally.Tally.{Tally}
use Rattle.world_model.proofs.Ranges.Worlds.{counting_in_range, start_in_range, step_in_range}
use Rattle.world_model.proofs.Runs.{run_from-append, step_sends}
use Rattle.schedule_replay.specs.declared.seat.Seat.{Seat}
use Rattle.schedule_replay.specs.Network.{frame_bytes}
use Rattle.schedule_replay.specs.Seats.{AreSeats}
use Rattle.schedule_replay.specs.Worlds.{PartsStand, StandsFor}
use Rattle.schedule_replay.proofs.Seating.{AreNewborn, newborns_sit}
use Rattle.schedule_replay.proofs.Tallying.{nothing_yet, tally_more}

-- one more event that is counted changes no place and no frame
pub counting_stands : {shape : Shape} {seats : List Seat} {sent : List (List ℕ)} {w : model.World} → PartsStand shape seats sent w → PartsStand shape seats sent (model.counting w)
counting_stands parts = record { is_shape = parts.is_shape; in_range = counting_in_range parts.in_range; seats_are = parts.seats_are; sent_are = parts.sent_are }

module _ (shape : Shape) (events : List Line) (line : Line) where
  abbrev w : model.World
  w = model.run shape events

  abbrev h : model.Happened
  h = model.step (model.run shape events) line

  run_more : model.run shape (events ++ line ∷ []) ≡ h.world
  run_more = run_from-append (model.start shape) events (line ∷ [])

  -- the frames that were sent since
  pub frames_more : (sent later : List (List ℕ)) (outputs : List Output) → sent ≡ map (frame_bytes shape) w.sent → outputs ≡ h.outputs
      → later ≡ sent ++ map (frame_bytes shape) (model.sent_among outputs) → later ≡ map (frame_bytes shape) h.world.sent
  frames_more sent later outputs are same more =
      more ∙ ap (λ frames. frames ++ map (frame_bytes shape) (model.sent_among outputs)) are
      ∙ ap (λ told. map (frame_bytes shape) w.sent ++ map (frame_bytes shape) (model.sent_among told)) same
      ∙ sym (map-append (frame_bytes shape) w.sent (model.sent_among h.outputs)) ∙ ap (map (frame_bytes shape)) (sym (step_sends w line))

  pub stands_more :
      (seats later_seats : List Seat) (sent later_sent : List (List ℕ)) (tally : Tally) (outputs : List Output) → PartsStand shape seats sent w →
      IsLineOf shape line → AreSeats shape later_seats h.world.members → outputs ≡ h.outputs → later_sent ≡ sent ++ map (frame_bytes shape) (model.sent_among outputs) →
      tally ≡ tally_of shape (events ++ line ∷ []) →
      StandsFor (record { shape = shape; seats = later_seats; sent = later_sent; tally = tally }) (events ++ line ∷ [])
  stands_more seats later_seats sent later_sent tally outputs parts of_line sit same more counted = record {
    parts = record {
      is_shape = parts.is_shape;
      in_range = subst (InRange shape) (sym run_more) (step_in_range parts.is_shape parts.in_range line of_line);
      seats_are = subst (λ now. AreSeats shape later_seats now.members) (sym run_more) sit;
      sent_are = frames_more sent later_sent outputs parts.sent_are same more ∙ ap (λ now. map (frame_bytes shape) now.sent) (sym run_more);
    };
    tally = counted;
  }

-- a cluster that has just started
pub stands_first : (shape : Shape) → IsShape shape → (seats : List Seat) (count : ℕ) → AreNewborn shape seats count → count ≡ members_of shape
    → StandsFor (record { shape = shape; seats = seats; sent = []; tally = record { events = 0; frames = 0; replies = 0; leaders = 0; commit = 0; cuts = 0 } }) []
stands_first shape is seats count a all = record {
  parts = record { is_shape = is; in_range = start_in_range is; seats_are = newborns_sit shape seats (subst (AreNewborn shape seats) all a); sent_are = refl };
  tally = nothing_yet shape;
}

-- all of it
pub world_more :
    (shape : Shape) (events : List Line) (line : Line) (seats later_seats : List Seat) (sent later_sent : List (List ℕ)) (before after : Tally) (outputs : List Output) →
    StandsFor (record { shape = shape; seats = seats; sent = sent; tally = before }) events → IsLineOf shape line → AreSeats shape later_seats (h shape events line).world.members → outputs ≡ (h shape events line).outputs →
    later_sent ≡ sent ++ map (frame_bytes shape) (model.sent_among outputs) → after.events ≡ counted (before.events + 1) → after.frames ≡ length later_sent → after.frames < 2 ^ 64 →
    after.replies ≡ counted (before.replies + count_by is_reply outputs) → after.leaders ≡ counted (before.leaders + count_by tells_leader outputs) →
    after.commit ≡ greatest_commit (h shape events line).world.members → after.commit < 2 ^ 64 → after.cuts ≡ counted (before.cuts + count_by is_cut outputs) →
    StandsFor (record { shape = shape; seats = later_seats; sent = later_sent; tally = after }) (events ++ line ∷ [])
world_more shape events line seats later_seats sent later_sent before after outputs s of_line sit same more count frames few_frames replies leaders commit few_commit cuts =
    let all_frames = ap length (frames_more shape events line sent later_sent outputs s.parts.sent_are same more) ∙ length-map (h shape events line).world.sent (frame_bytes shape) in
    stands_more shape events line seats later_seats sent later_sent after outputs s.parts of_line sit same more
    (tally_more shape events line before after outputs s.tally same count (frames ∙ all_frames) few_frames replies leaders commit few_commit cuts)

-- the number of an event, and of the next frame
pub event_number : (shape : Shape) (events : List Line) (tally : Tally) → tally ≡ tally_of shape events → tally.events < most_lines → tally.events + 1 ≡ length events + 1
event_number shape events tally is few = omega (arith, ap (λ t. t.events) is, few)
