-- Turn after turn.
use Rattle.std.proofs.Common.{◌≡◌, ◌<◌, ◌+◌, inr, ℕ, suc, min, List, ◌∷◌, Some, sym, ap, subst, ◌∙◌, append-nil, arith}
use Rattle.craft_base.specs.Shape.{Shape}
use Rattle.craft_edge.specs.Readings.{ShowsFirst, after_reading}
use Rattle.node_core.specs.Stands.{Stands}
use Rattle.synced_log.specs.Journal.{owned}
use Rattle.synced_log.specs.States.{OpensTo}
use Rattle.world_model.specs.Nodes.{Node}
use Rattle.net_node.specs.Ends.{EndsEarly, FaultCounts, HasEnded}
use Rattle.net_node.specs.NodeRun.{first_reading, node_run, opened, turn_of_node}
use Rattle.net_node.specs.Runs.{HaltsAmong, IsLeft, StopsAmong, WhereRun}
use Rattle.net_node.specs.Serving.{Edges, Follows, Halts, Makes, Moment, StopsIn}
use Rattle.net_node.specs.declared.serve_end.ServeEnd.{ServeEnd}
use Rattle.net_node.specs.declared.serve_end.ServeEnd.TheVariants.{Turns, SinkFault, DiskFault, LinkFault, NoMemory}
use Rattle.net_node.proofs.Stopping.{first_adds, stops_before}
use Rattle.net_node.proofs.Turning.{no_fewer, stopped_since, told_as}

pub makes_on : (places : List ℕ) (n : ℕ) (shape : Shape) (me : ℕ) (old mid new : Moment) → Makes (node_run places n) shape me n old mid
    → Makes (turn_of_node places) shape me 1 mid new → Makes (node_run places (n + 1)) shape me (n + 1) old new
makes_on places n shape me old mid new so_far turn =
    let next : suc n ≡ n + 1 = omega arith in
    record {
      run = λ text before s f.
          subst (λ k. Follows text before new (node_run places k s)) next (turn.run text before (node_run places n s) (so_far.run text before s f));
      goes_on = record {
        member = turn.goes_on.member;
        events = omega (arith, so_far.goes_on.events, turn.goes_on.events);
        told = told_as old.edges mid.edges new.edges so_far.goes_on.told turn.goes_on.told;
        later = no_fewer old.faults mid.faults new.faults so_far.goes_on.later turn.goes_on.later;
      };
    }

pub halts_on : (places : List ℕ) (n turns : ℕ) (shape : Shape) (me : ℕ) (old mid : Moment) (edges : Edges) (faults : FaultCounts) (leaves : List ℕ → Type 0) (ending : ServeEnd)
    → n < turns → Makes (node_run places n) shape me n old mid → Halts (turn_of_node places) shape me mid edges faults leaves ending
    → HaltsAmong places turns shape me old edges faults leaves ending
halts_on places n turns shape me old mid edges faults leaves ending below so_far halts =
    let next : suc n ≡ min (suc n) turns = omega (arith, below) in
    record {
      run = λ text before s f. record {
        turn = n;
        within = omega (arith, below);
        stops = subst (λ k. StopsIn text before edges (owned shape me) leaves (node_run places n s) (node_run places k s)) next
            (halts.run text before (node_run places n s) (so_far.run text before s f));
      };
      ended = stopped_since old mid edges faults ending so_far.goes_on.told so_far.goes_on.later halts.ended;
    }

-- ---- before the first turn and after the last

-- the node begins where its run begins
pub begins : (n : Node) (seed : ℕ) (old : Edges) (m : Moment) → Stands m.core n → m.counts.words ≡ seed → m.counts.events ≡ 0 → m.counts.frame ≡ 1
    → ShowsFirst old.readings m.edges.readings m.counts.shown → m.edges.coming ≡ old.coming → m.edges.sent ≡ old.sent → m.edges.taken ≡ old.taken
    → WhereRun n seed old (λ text sent s. Follows text sent m s)
begins n seed old m stands words events frame shows coming sent taken = λ shown later packets before text is_readings is_coming is_sent is_taken.
    let first = subst (λ r. ShowsFirst r m.edges.readings m.counts.shown) is_readings shows in
    record {
      node = stands;
      words = words;
      shown = sym (ap (first_reading shown) first.0.1);
      events = events;
      frame = frame;
      readings = first.1;
      coming = coming ∙ is_coming;
      sent = sent ∙ is_sent ∙ ap (λ p. Some p) (sym (append-nil before));
      taken = taken ∙ is_taken ∙ ap (λ t. Some t) (sym (append-nil text));
    }

-- all turns made
pub run_is_left : (places : List ℕ) (turns : ℕ) (n : Node) (seed : ℕ) (shape : Shape) (me : ℕ) (old : Edges) (m new : Moment) (leaves : List ℕ → Type 0)
    → WhereRun n seed old (λ text sent s. Follows text sent m s) → Makes (node_run places turns) shape me turns m new
    → ((image : List ℕ) → leaves image → OpensTo image (owned shape me) new.core.durable)
    → WhereRun n seed old (λ text sent s. IsLeft text sent new.edges (owned shape me) leaves (node_run places turns s))
run_is_left places turns n seed shape me old m new leaves follows makes opens = λ shown later packets before text is_readings is_coming is_sent is_taken.
    let f = makes.run text before (opened n seed (after_reading (shown ∷ later)) shown packets) (follows shown later packets before text is_readings is_coming is_sent is_taken) in
    record {
      readings = f.readings;
      coming = f.coming;
      sent = f.sent;
      taken = f.taken;
      crash = λ image left. subst (OpensTo image (owned shape me)) f.node.of_durable (opens image left);
    }

-- it stopped within one
pub run_is_stopped : (places : List ℕ) (turns : ℕ) (n : Node) (seed : ℕ) (shape : Shape) (me : ℕ) (old : Edges) (m : Moment) (edges : Edges) (faults : FaultCounts) (leaves : List ℕ → Type 0) (ending : ServeEnd)
    → WhereRun n seed old (λ text sent s. Follows text sent m s) → HaltsAmong places turns shape me m edges faults leaves ending
    → WhereRun n seed old (λ text sent s. StopsAmong places turns text sent edges (owned shape me) leaves s)
run_is_stopped places turns n seed shape me old m edges faults leaves ending follows halts = λ shown later packets before text is_readings is_coming is_sent is_taken.
    halts.run text before (opened n seed (after_reading (shown ∷ later)) shown packets) (follows shown later packets before text is_readings is_coming is_sent is_taken)

-- it stopped before the first
pub run_is_not_begun : (places : List ℕ) (turns : ℕ) (n : Node) (seed : ℕ) (shape : Shape) (me : ℕ) (old : Edges) (m : Moment) (edges : Edges) (leaves : List ℕ → Type 0)
    → WhereRun n seed old (λ text sent s. Follows text sent m s) → edges.sent ≡ m.edges.sent → edges.taken ≡ m.edges.taken
    → ((image : List ℕ) → leaves image → OpensTo image (owned shape me) m.core.durable)
    → WhereRun n seed old (λ text sent s. StopsAmong places turns text sent edges (owned shape me) leaves s)
run_is_not_begun places turns n seed shape me old m edges leaves follows sent taken opens = λ shown later packets before text is_readings is_coming is_sent is_taken.
    let s = opened n seed (after_reading (shown ∷ later)) shown packets in
    let f : Follows text before m s = follows shown later packets before text is_readings is_coming is_sent is_taken in
    record {
      turn = 0;
      within = omega arith;
      stops = stops_before text before m edges (owned shape me) leaves s (node_run places (min 1 turns) s) f (first_adds places turns s) taken sent
          (λ image left. inr (subst (OpensTo image (owned shape me)) f.node.of_durable (opens image left)));
    }

pub has_ended : (before now : FaultCounts) (ending : ServeEnd) → EndsEarly before now ending → HasEnded before now ending
has_ended before now Turns ends = tt
has_ended before now SinkFault ends = ends
has_ended before now DiskFault ends = ends
has_ended before now LinkFault ends = ends
has_ended before now NoMemory ends = tt
