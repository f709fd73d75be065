-- A storm goes on by one line, and ends.
use Rattle.std.proofs.Common.{◌≡◌, ℕ, suc, ◌+◌, ◌-◌, ◌<◌, ◌≤◌, List, [], ◌∷◌, ◌++◌, refl, ap, ◌∙◌, sym, subst, arith, append_assoc, append-nil, length, length-append}
use Rattle.std.specs.List.{All}
use Rattle.std.proofs.lemmas.List.Elements.{All-nil, All-cons, All-append}
use Rattle.bridge.proofs.Safe.{every_run_is_safe}
use Rattle.craft_base.specs.Shape.{Shape, IsShape}
use Rattle.schedule_replay.specs.Worlds.{Kept, StandsFor}
use Rattle.storm_gen.specs.Storm.{Storm, after_line, next_line}
use Rattle.storm_gen.specs.declared.storm.TheConstants.{MOST_EVENTS}
use Rattle.storm_run.specs.Storms.{lines_from, storm_lines}
use Rattle.world_model.specs.Safety.{IsSafe}
use Rattle.world_model.specs.Schedule.{most_lines}
use Rattle.world_model.specs.Spelling.{IsLineOf}
use Rattle.world_model.specs.Tallies.{counted, tally_of}
use Rattle.world_model.specs.World.{run, start, step}
use Rattle.world_model.specs.declared.line.Line.{Line}
use Rattle.world_model.specs.declared.tally.Tally.{Tally}
use Rattle.world_model.proofs.Runs.{run_from-append}

-- So far these lines were made and carried out; the line with this number is the next. With those that are still to be made they are
-- the storm's.
pub record Progress (shape : Shape) (seed count n : ℕ) (world : Kept) (storm : Storm) : Type 0 where
  pub of_shape : world.shape ≡ shape
  pub of_storm : storm.shape ≡ shape
  pub events : List Line
  pub counted : n ≡ 1 + length events
  pub reached : StandsFor world events
  pub whole : events ++ lines_from ((count + 1) - n) storm n (run shape events) ≡ storm_lines shape seed count
  pub in_range : All (IsLineOf shape) events

-- none was made yet
pub begins : (shape : Shape) (seed count : ℕ) (world : Kept) (storm : Storm) → world.shape ≡ shape → storm ≡ record { shape = shape; state = seed }
    → StandsFor world [] → Progress shape seed count 1 world storm
begins shape seed count world storm of_shape is started =
    let all : (count + 1) - 1 ≡ count = omega arith in
    record {
      of_shape = of_shape;
      of_storm = ap (λ s. s.shape) is;
      events = [];
      counted = refl;
      reached = started;
      whole = ap (λ left. lines_from left storm 1 (start shape)) all ∙ ap (λ s. lines_from count s 1 (start shape)) is;
      in_range = All-nil (IsLineOf shape);
    }

module _ (shape : Shape) (seed count n : ℕ) (world : Kept) (storm : Storm) (p : Progress shape seed count n world storm) where
  -- a next line can be carried out
  pub few : n ≤ MOST_EVENTS → world.tally.events < most_lines
  few within = small world.tally.events (length p.events) (ap (λ t. t.events) p.reached.tally) p.counted where
    small : (events many : ℕ) → events ≡ counted many → n ≡ 1 + many → events < most_lines
    small events many is counting = omega (arith, within, is, counting)

  -- it is carried out
  pub goes_on : (next : Kept) (after : Storm) (line : Line) → n < count + 1 → next.shape ≡ world.shape
      → line ≡ next_line storm n (length (run world.shape p.events).sent) → after ≡ after_line storm → IsLineOf storm.shape line
      → StandsFor next (p.events ++ line ∷ []) → Progress shape seed count (n + 1) next after
  goes_on next after line more same is is_after ranged stands =
      let left : (count + 1) - n ≡ suc ((count + 1) - (n + 1)) = omega (arith, more) in
      let w = run shape p.events in
      let made : next_line storm n (length w.sent) ≡ line = ap (λ s. next_line storm n (length (run s p.events).sent)) (sym p.of_shape) ∙ sym is in
      let rest = (count + 1) - (n + 1) in
      record {
        of_shape = same ∙ p.of_shape;
        of_storm = ap (λ s. s.shape) is_after ∙ p.of_storm;
        events = p.events ++ line ∷ [];
        counted = omega (arith, p.counted, length-append p.events (line ∷ []));
        reached = stands;
        whole =
            append_assoc p.events (line ∷ []) (lines_from rest after (n + 1) (run shape (p.events ++ line ∷ [])))
            ∙ ap (λ v. p.events ++ line ∷ lines_from rest after (n + 1) v) (run_from-append (start shape) p.events (line ∷ []))
            ∙ ap (λ s. p.events ++ line ∷ lines_from rest s (n + 1) (step w line).world) is_after
            ∙ ap (λ l. p.events ++ l ∷ lines_from rest (after_line storm) (n + 1) (step w l).world) (sym made)
            ∙ ap (λ many. p.events ++ lines_from many storm n w) (sym left) ∙ p.whole;
        in_range = All-append (IsLineOf shape) p.events (line ∷ []) p.in_range (All-cons (IsLineOf shape) line [] (subst (λ s. IsLineOf s line) p.of_storm ranged) (All-nil (IsLineOf shape)));
      }

  -- all lines were
  all_made : n ≡ count + 1 → p.events ≡ storm_lines shape seed count
  all_made done =
      let none : (count + 1) - n ≡ 0 = omega (arith, done) in
      sym (append-nil p.events) ∙ ap (λ many. p.events ++ lines_from many storm n (run shape p.events)) (sym none) ∙ p.whole

  pub ends : (tally : Tally) → n ≡ count + 1 → tally ≡ tally_of world.shape p.events → tally ≡ tally_of shape (storm_lines shape seed count)
  ends tally done is = is ∙ ap (λ s. tally_of s p.events) p.of_shape ∙ ap (tally_of shape) (all_made done)

  pub is_safe : n ≡ count + 1 → IsSafe shape (storm_lines shape seed count)
  is_safe done =
      subst (IsSafe shape) (all_made done)
      (every_run_is_safe shape p.events (record { of_shape = subst IsShape p.of_shape p.reached.parts.is_shape; in_range = p.in_range }))
