-- What an event leaves, as the contracts say it.
use Rattle.std.proofs.Common.{◌≡◌, ◌⊎◌, ℕ, ◌+◌, ◌≤◌, List, ◌++◌, Some, ap, ◌∙◌, arith}
use Rattle.std.specs.Prelude.{codes, is_some}
use Rattle.std.specs.Io.KnownBytes.{Appends}
use Rattle.craft_base.specs.Shape.{Shape}
use Rattle.craft_edge.specs.Bytes.{AppendsPrefix}
use Rattle.node_core.specs.Stands.{Kept, Stands}
use Rattle.node_shell.specs.declared.outputs.Outputs.{Outputs}
use Rattle.node_shell.specs.Stepping.{StepsTo}
use Rattle.synced_log.specs.Journal.{owned}
use Rattle.synced_log.specs.States.{OpensTo}
use Rattle.world_model.specs.Nodes.{Node}
use Rattle.world_model.specs.Turn as turns
use Rattle.net_node.specs.Ends.{EndsEarly, FaultCounts, NoFewer}
use Rattle.net_node.specs.NodeRun.{Served, dropping, frames_after, packets_among, serving, told_lines, verdict_line}
use Rattle.net_node.specs.Sending.{Sends, SendsFront}
use Rattle.net_node.specs.Serving.{Edges, Halts, IsOf, Makes, Moment}
use Rattle.net_node.specs.declared.serve_end.ServeEnd.{ServeEnd}
use Rattle.net_node.specs.declared.serve_end.ServeEnd.TheVariants.{Turns, SinkFault, DiskFault, LinkFault, NoMemory}
use Rattle.net_node.proofs.Following.{drop_made, drop_stopped, event_made, event_not_told, event_stopped, front_tells, sends_tells}
use Rattle.net_node.proofs.Leaving.{of_that}
use Rattle.net_node.proofs.Stopping.{Adds, stops_before, taking_adds}

-- where nothing was done to a disk, its count tells no fault
pub ends_beside_disk : (before now : FaultCounts) (ending : ServeEnd) → before.disk ≤ now.disk
    → EndsEarly before (record { sink = now.sink; disk = before.disk; link = now.link }) ending → EndsEarly before now ending
ends_beside_disk before now Turns later ends = ends
ends_beside_disk before now SinkFault later ends = ends
ends_beside_disk before now DiskFault later ends = omega (arith, later, ends)
ends_beside_disk before now LinkFault later ends = ends
ends_beside_disk before now NoMemory later ends = ends

pub step_makes : (places : List ℕ) (event : turns.Event) (shape : Shape) (me : ℕ) (old new : Moment) (told : Outputs) → IsOf shape me old.core
    → ((n : Node) → Stands old.core n → StepsTo old.core n event new.core told)
    → (new.core.shape ≡ old.core.shape) × (new.core.me ≡ old.core.me)
    → new.counts.words ≡ old.counts.words → new.counts.shown ≡ old.counts.shown → new.counts.events ≡ old.counts.events + 1
    → new.counts.frame ≡ frames_after old.counts.frame told.list.items → new.edges.readings ≡ old.edges.readings → new.edges.coming ≡ old.edges.coming
    → Sends old.edges.sent new.edges.sent (packets_among shape places me told.list.items)
    → Appends old.edges.taken new.edges.taken (verdict_line (old.counts.events + 1) (codes "done") ++ told_lines me old.counts.frame told.list.items)
    → is_some new.edges.taken ≡ is_some old.edges.taken → NoFewer old.faults new.faults
    → Makes (serving places event) shape me 1 old new
step_makes places event shape me old new told is steps same words shown events frame readings coming sent text taken later =
    record {
      run = event_made places event old new told steps words shown events frame readings coming
          (of_that (λ shape me. Sends old.edges.sent new.edges.sent (packets_among shape places me told.list.items)) shape me old.core is sent)
          (of_that (λ shape me. Appends old.edges.taken new.edges.taken (verdict_line (old.counts.events + 1) (codes "done") ++ told_lines me old.counts.frame told.list.items)) shape me old.core is text);
      goes_on = record {
        member = (same.0 ∙ is.0, same.1 ∙ is.1);
        events = omega (arith, events);
        told = record {
          readings = ap is_some readings;
          coming = ap is_some coming;
          sent = sends_tells old.edges.sent new.edges.sent (packets_among shape places me told.list.items) sent;
          taken = taken;
        };
        later = later;
      };
    }

-- the step was made, and what it tells wasn't all told
pub step_halts : (places : List ℕ) (event : turns.Event) (shape : Shape) (me : ℕ) (old : Moment) (edges : Edges) (faults : FaultCounts) (leaves : List ℕ → Type 0) (ending : ServeEnd) (core : Kept) (told : Outputs)
    → IsOf shape me old.core → ((n : Node) → Stands old.core n → StepsTo old.core n event core told)
    → edges.readings ≡ old.edges.readings → edges.coming ≡ old.edges.coming
    → SendsFront old.edges.sent edges.sent (packets_among shape places me told.list.items)
    → AppendsPrefix old.edges.taken edges.taken (verdict_line (old.counts.events + 1) (codes "done") ++ told_lines me old.counts.frame told.list.items)
    → (edges.sent ≡ old.edges.sent) ⊎ Appends old.edges.taken edges.taken (verdict_line (old.counts.events + 1) (codes "done") ++ told_lines me old.counts.frame told.list.items)
    → ((image : List ℕ) → leaves image → OpensTo image (owned shape me) core.durable)
    → is_some edges.taken ≡ is_some old.edges.taken → NoFewer old.faults faults
    → EndsEarly old.faults (record { sink = faults.sink; disk = old.faults.disk; link = faults.link }) ending
    → Halts (serving places event) shape me old edges faults leaves ending
step_halts places event shape me old edges faults leaves ending core told is steps readings coming front part order opens taken later cause =
    record {
      run = event_stopped places event old edges (owned shape me) leaves core told steps
          (of_that (λ shape me. SendsFront old.edges.sent edges.sent (packets_among shape places me told.list.items)) shape me old.core is front)
          (of_that (λ shape me. AppendsPrefix old.edges.taken edges.taken (verdict_line (old.counts.events + 1) (codes "done") ++ told_lines me old.counts.frame told.list.items)) shape me old.core is part)
          (of_that (λ shape me. (edges.sent ≡ old.edges.sent) ⊎ Appends old.edges.taken edges.taken (verdict_line (old.counts.events + 1) (codes "done") ++ told_lines me old.counts.frame told.list.items)) shape me old.core is order)
          opens;
      ended = record {
        told = record {
          readings = ap is_some readings;
          coming = ap is_some coming;
          sent = front_tells old.edges.sent edges.sent (packets_among shape places me told.list.items) front;
          taken = taken;
        };
        later = later;
        cause = ends_beside_disk old.faults faults ending later.disk cause;
      };
    }

pub drop_makes : (shape : Shape) (me : ℕ) (old new : Moment) → IsOf shape me old.core → new.core ≡ old.core
    → new.counts.words ≡ old.counts.words → new.counts.shown ≡ old.counts.shown → new.counts.events ≡ old.counts.events + 1 → new.counts.frame ≡ old.counts.frame
    → new.edges.readings ≡ old.edges.readings → new.edges.coming ≡ old.edges.coming → new.edges.sent ≡ old.edges.sent
    → Appends old.edges.taken new.edges.taken (verdict_line (old.counts.events + 1) (codes "drop"))
    → is_some new.edges.taken ≡ is_some old.edges.taken → NoFewer old.faults new.faults → Makes dropping shape me 1 old new
drop_makes shape me old new is core words shown events frame readings coming sent text taken later =
    record {
      run = drop_made old new core words shown events frame readings coming sent text;
      goes_on = record {
        member = (ap (λ k. k.shape) core ∙ is.0, ap (λ k. k.me) core ∙ is.1);
        events = omega (arith, events);
        told = record { readings = ap is_some readings; coming = ap is_some coming; sent = ap is_some sent; taken = taken };
        later = later;
      };
    }

pub drop_halts : (shape : Shape) (me : ℕ) (old : Moment) (edges : Edges) (faults : FaultCounts) (leaves : List ℕ → Type 0) (ending : ServeEnd)
    → edges.readings ≡ old.edges.readings → edges.coming ≡ old.edges.coming → edges.sent ≡ old.edges.sent
    → AppendsPrefix old.edges.taken edges.taken (verdict_line (old.counts.events + 1) (codes "drop"))
    → ((image : List ℕ) → leaves image → OpensTo image (owned shape me) old.core.durable)
    → is_some edges.taken ≡ is_some old.edges.taken → NoFewer old.faults faults
    → EndsEarly old.faults (record { sink = faults.sink; disk = old.faults.disk; link = faults.link }) ending → Halts dropping shape me old edges faults leaves ending
drop_halts shape me old edges faults leaves ending readings coming sent part opens taken later cause =
    record {
      run = drop_stopped old edges (owned shape me) leaves sent part opens;
      ended = record {
        told = record { readings = ap is_some readings; coming = ap is_some coming; sent = ap is_some sent; taken = taken };
        later = later;
        cause = ends_beside_disk old.faults faults ending later.disk cause;
      };
    }

-- nothing of what is made was told
pub halts_before : (made : Served → Served) (shape : Shape) (me : ℕ) (old : Moment) (edges : Edges) (faults : FaultCounts) (leaves : List ℕ → Type 0) (ending : ServeEnd)
    → ((s : Served) → Adds s.lines s.sent (made s))
    → edges.readings ≡ old.edges.readings → is_some edges.coming ≡ is_some old.edges.coming → edges.sent ≡ old.edges.sent → edges.taken ≡ old.edges.taken
    → ((image : List ℕ) → leaves image → OpensTo image (owned shape me) old.core.durable)
    → NoFewer old.faults faults → EndsEarly old.faults faults ending → Halts made shape me old edges faults leaves ending
halts_before made shape me old edges faults leaves ending adds readings coming sent taken opens later cause =
    record {
      run = event_not_told made old edges (owned shape me) leaves adds taken sent opens;
      ended = record {
        told = record { readings = ap is_some readings; coming = coming; sent = ap is_some sent; taken = ap is_some taken };
        later = later;
        cause = cause;
      };
    }

-- the step wasn't made, or its group may be in the journal or not
pub step_fails : (places : List ℕ) (event : turns.Event) (shape : Shape) (me : ℕ) (old : Moment) (edges : Edges) (faults : FaultCounts) (leaves : List ℕ → Type 0) (ending : ServeEnd)
    → edges ≡ old.edges
    → ((n : Node) → Stands old.core n → (image : List ℕ) → leaves image → OpensTo image (owned shape me) (turns.turn event n).node.durable ⊎ OpensTo image (owned shape me) n.durable)
    → NoFewer old.faults faults → EndsEarly old.faults faults ending → Halts (serving places event) shape me old edges faults leaves ending
step_fails places event shape me old edges faults leaves ending same opens later cause =
    record {
      run = λ text before s f. stops_before text before old edges (owned shape me) leaves s (serving places event s) f (taking_adds places (Some event) s)
          (ap (λ e. e.taken) same) (ap (λ e. e.sent) same) (opens s.node f.node);
      ended = record {
        told = record {
          readings = ap (λ e. is_some e.readings) same;
          coming = ap (λ e. is_some e.coming) same;
          sent = ap (λ e. is_some e.sent) same;
          taken = ap (λ e. is_some e.taken) same;
        };
        later = later;
        cause = cause;
      };
    }
