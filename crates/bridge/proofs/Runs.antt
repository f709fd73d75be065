-- Whole runs, by induction on the list of events.
use Rattle.std.proofs.Common.{◌≡◌, ℕ, zero, suc, ◌+◌, List, [], ◌∷◌, take, refl, sym, subst, arith}
use Rattle.std.specs.List.{All}
use Rattle.std.proofs.lemmas.List.Elements.{All-head, All-tail}
use Rattle.craft_base.specs.Shape.{IsShape, Shape}
use Rattle.world_model.specs.Spelling.{IsLineOf}
use Rattle.world_model.specs.World.{World, run_from, step}
use Rattle.world_model.specs.declared.line.Line.{Line}
use Rattle.protocol.specs.History.{History}
use Rattle.protocol.specs.Moves.{Moves, Reached, None_yet}
use Rattle.protocol.proofs.Runs.{moves_trans}
use Rattle.bridge.specs.Agreement.{WorldAgrees}
use Rattle.bridge.specs.Bridges.{RunBridged, WorldBridged}
use Rattle.bridge.specs.Laws.{RunsAreBridged}
use Rattle.bridge.proofs.Start.{start_agrees}
use Rattle.bridge.proofs.World.{step_bridged}

-- a history, and then others
first_then : History → (ℕ → History) → ℕ → History
first_then g rest zero = g
first_then g rest (suc count) = rest count

module _ {shape : Shape} {g : History} {w : World} (a : WorldAgrees shape g w) where
  no_events : (count : ℕ) → WorldAgrees shape g (run_from w (take count []))
  no_events zero = a
  no_events (suc count) = a

  one_more_moves :
      (h : History) (rest : ℕ → History) → Moves shape.faults g h → rest zero ≡ h →
      ((count : ℕ) → Moves shape.faults (rest count) (rest (suc count))) →
      (count : ℕ) → Moves shape.faults (first_then g rest count) (first_then g rest (suc count))
  unfolding first_then
  one_more_moves h rest run e moves zero = subst (Moves shape.faults g) (sym e) run
  one_more_moves h rest run e moves (suc count) = moves count

  one_more_agrees :
      (rest : ℕ → History) (event : Line) (events : List Line) →
      ((count : ℕ) → WorldAgrees shape (rest count) (run_from (step w event).world (take count events))) →
      (count : ℕ) → WorldAgrees shape (first_then g rest count) (run_from w (take count (event ∷ events)))
  unfolding first_then
  one_more_agrees rest event events agrees zero = a
  one_more_agrees rest event events agrees (suc count) = agrees count

  -- one event, and then a run
  one_more :
      (event : Line) (events : List Line) (b : WorldBridged shape g (step w event).world) →
      RunBridged shape b.history (step w event).world events → RunBridged shape g w (event ∷ events)
  unfolding first_then
  one_more event events b rest = record {
    history = first_then g rest.history;
    first = refl;
    moves = one_more_moves b.history rest.history b.moves rest.first rest.moves;
    agrees = one_more_agrees rest.history event events rest.agrees;
  }

run_bridged :
    (shape : Shape) → IsShape shape → (events : List Line) → All (IsLineOf shape) events → (g : History) (w : World) → Reached shape.faults g → WorldAgrees shape g w →
    RunBridged shape g w events
run_bridged shape is [] within g w reached a = record { history = λ count. g; first = refl; moves = λ count. None_yet; agrees = no_events a }
run_bridged shape is (event ∷ events) within g w reached a =
    let b : WorldBridged shape g (step w event).world = step_bridged reached is a event (All-head (IsLineOf shape) event events within) in
    let later : Reached shape.faults b.history = moves_trans shape.faults _ g b.history reached b.moves in
    one_more a event events b (run_bridged shape is events (All-tail (IsLineOf shape) event events within) b.history (step w event).world later b.agrees)

pub runs_are_bridged : RunsAreBridged
runs_are_bridged shape events run = run_bridged shape run.of_shape events run.in_range _ _ None_yet (start_agrees shape)

module _ {shape : Shape} {g : History} {w : World} {events : List Line} (r : RunBridged shape g w events) where
  -- of a run's histories, each comes by moves of each before it
  pub moves_between : (count more : ℕ) → Moves shape.faults (r.history count) (r.history (count + more))
  moves_between count zero =
      let e : count ≡ count + 0 = omega arith in subst (λ k. Moves shape.faults (r.history count) (r.history k)) e None_yet
  moves_between count (suc more) =
      let e : suc (count + more) ≡ count + suc more = omega arith in
      subst (λ k. Moves shape.faults (r.history count) (r.history k)) e
      (moves_trans shape.faults _ _ _ (moves_between count more) (r.moves (count + more)))

  -- and each is reached
  pub history_reached : Reached shape.faults g → (count : ℕ) → Reached shape.faults (r.history count)
  history_reached reached zero = subst (Reached shape.faults) (sym r.first) reached
  history_reached reached (suc count) = moves_trans shape.faults _ _ _ (history_reached reached count) (r.moves count)
