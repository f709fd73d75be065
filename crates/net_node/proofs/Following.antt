-- A node that takes an event goes on as its run does.
use Rattle.std.proofs.Common.{◌≡◌, ◌⊎◌, inl, inr, ℕ, ◌+◌, List, [], ◌++◌, Option, None, Some, refl, sym, ap, subst, ◌∙◌, append-nil}
use Rattle.std.specs.Prelude.{codes, is_some}
use Rattle.std.specs.Io.KnownBytes.{Appends}
use Rattle.craft_edge.specs.Bytes.{AppendsPrefix}
use Rattle.craft_edge.specs.Packets.{Packet}
use Rattle.entry_frames.specs.declared.output.Output.{Output}
use Rattle.node_core.specs.Stands.{Kept, Stands}
use Rattle.node_shell.specs.declared.outputs.Outputs.{Outputs}
use Rattle.node_shell.specs.Stepping.{StepsTo}
use Rattle.synced_log.specs.States.{OpensTo}
use Rattle.synced_log.specs.declared.owner.Owner.{Owner}
use Rattle.world_model.specs.Nodes.{Node}
use Rattle.world_model.specs.Turn as turns
use Rattle.net_node.specs.NodeRun.{Served, dropping, frames_after, packets_among, serving, told_lines, verdict_line}
use Rattle.net_node.specs.Sending.{Sends, SendsFront}
use Rattle.net_node.specs.Serving.{Becomes, Edges, Follows, Moment, Stops}
use Rattle.net_node.proofs.SentInOrder.{sends_none}
use Rattle.net_node.proofs.Stopping.{Adds, sent_on, stops_before, stops_within, taken_on}

-- ---- what is told stays told

pub sends_tells : (old new : Option (List Packet)) (packets : List Packet) → Sends old new packets → is_some new ≡ is_some old
sends_tells None new packets sent = ap is_some sent
sends_tells (Some before) new packets sent = ap is_some sent

pub front_tells : (old new : Option (List Packet)) (packets : List Packet) → SendsFront old new packets → is_some new ≡ is_some old
front_tells old new packets front = sends_tells old new front.0 front.3

-- ---- an event

-- what is printed of an event, and what is sent, by what the code has
abbrev text_of : Moment → List Output → List ℕ
text_of m told = verdict_line (m.counts.events + 1) (codes "done") ++ told_lines m.core.me m.counts.frame told

abbrev text_in : turns.Event → Served → List ℕ
text_in event s = verdict_line (s.events + 1) (codes "done") ++ told_lines s.node.me s.frame (turns.turn event s.node).outputs

abbrev packets_by : List ℕ → Moment → List Output → List Packet
packets_by places m told = packets_among m.core.shape places m.core.me told

abbrev packets_in : List ℕ → turns.Event → Served → List Packet
packets_in places event s = packets_among s.node.shape places s.node.me (turns.turn event s.node).outputs

same_text : (text : List ℕ) (before : List Packet) (m : Moment) (s : Served) (event : turns.Event) (told : List Output) → Follows text before m s
    → told ≡ (turns.turn event s.node).outputs → text_of m told ≡ text_in event s
same_text text before m s event told f same =
    ap (λ n. verdict_line (n + 1) (codes "done") ++ told_lines m.core.me m.counts.frame told) f.events
    ∙ ap (λ me. verdict_line (s.events + 1) (codes "done") ++ told_lines me m.counts.frame told) f.node.of_me
    ∙ ap (λ frame. verdict_line (s.events + 1) (codes "done") ++ told_lines s.node.me frame told) f.frame
    ∙ ap (λ t. verdict_line (s.events + 1) (codes "done") ++ told_lines s.node.me s.frame t) same

same_packets : (places : List ℕ) (text : List ℕ) (before : List Packet) (m : Moment) (s : Served) (event : turns.Event) (told : List Output) → Follows text before m s
    → told ≡ (turns.turn event s.node).outputs → packets_by places m told ≡ packets_in places event s
same_packets places text before m s event told f same =
    ap (λ shape. packets_among shape places m.core.me told) f.node.of_shape
    ∙ ap (λ me. packets_among s.node.shape places me told) f.node.of_me
    ∙ ap (packets_among s.node.shape places s.node.me) same

-- the run goes on by the event
pub event_made : (places : List ℕ) (event : turns.Event) (old new : Moment) (told : Outputs)
    → ((n : Node) → Stands old.core n → StepsTo old.core n event new.core told)
    → new.counts.words ≡ old.counts.words → new.counts.shown ≡ old.counts.shown → new.counts.events ≡ old.counts.events + 1
    → new.counts.frame ≡ frames_after old.counts.frame told.list.items → new.edges.readings ≡ old.edges.readings → new.edges.coming ≡ old.edges.coming
    → Sends old.edges.sent new.edges.sent (packets_by places old told.list.items) → Appends old.edges.taken new.edges.taken (text_of old told.list.items)
    → Becomes (serving places event) old new
event_made places event old new told steps words shown events frame readings coming sent taken = λ text before s f.
    let step = steps s.node f.node in
    record {
      node = step.node;
      words = words ∙ f.words;
      shown = shown ∙ f.shown;
      events = events ∙ ap (λ n. n + 1) f.events;
      frame = frame ∙ ap (λ k. frames_after k told.list.items) f.frame ∙ ap (frames_after s.frame) step.outputs;
      readings = readings ∙ f.readings;
      coming = coming ∙ f.coming;
      sent = sent_on before s.sent (packets_in places event s) old.edges.sent new.edges.sent f.sent
          (subst (Sends old.edges.sent new.edges.sent) (same_packets places text before old s event told.list.items f step.outputs) sent);
      taken = taken_on text s.lines (text_in event s) old.edges.taken new.edges.taken f.taken
          (subst (Appends old.edges.taken new.edges.taken) (same_text text before old s event told.list.items f step.outputs) taken);
    }

-- the run stopped within the event
pub event_stopped : (places : List ℕ) (event : turns.Event) (old : Moment) (edges : Edges) (owner : Owner) (leaves : List ℕ → Type 0) (core : Kept) (told : Outputs)
    → ((n : Node) → Stands old.core n → StepsTo old.core n event core told)
    → SendsFront old.edges.sent edges.sent (packets_by places old told.list.items) → AppendsPrefix old.edges.taken edges.taken (text_of old told.list.items)
    → (edges.sent ≡ old.edges.sent) ⊎ Appends old.edges.taken edges.taken (text_of old told.list.items)
    → ((image : List ℕ) → leaves image → OpensTo image owner core.durable) → Stops (serving places event) old edges owner leaves
event_stopped places event old edges owner leaves core told steps sent taken order opens = λ text before s f.
    let step = steps s.node f.node in
    let texts = same_text text before old s event told.list.items f step.outputs in
    stops_within text before old edges owner leaves s (serving places event s) (text_in event s) (packets_in places event s) f refl refl
    (subst (AppendsPrefix old.edges.taken edges.taken) texts taken)
    (subst (SendsFront old.edges.sent edges.sent) (same_packets places text before old s event told.list.items f step.outputs) sent)
    (subst (λ t. (edges.sent ≡ old.edges.sent) ⊎ Appends old.edges.taken edges.taken t) texts order)
    (λ image left. subst (OpensTo image owner) step.node.of_durable (opens image left))

-- ---- a packet that is dropped

pub drop_made : (old new : Moment) → new.core ≡ old.core → new.counts.words ≡ old.counts.words → new.counts.shown ≡ old.counts.shown
    → new.counts.events ≡ old.counts.events + 1 → new.counts.frame ≡ old.counts.frame → new.edges.readings ≡ old.edges.readings
    → new.edges.coming ≡ old.edges.coming → new.edges.sent ≡ old.edges.sent
    → Appends old.edges.taken new.edges.taken (verdict_line (old.counts.events + 1) (codes "drop")) → Becomes dropping old new
drop_made old new core words shown events frame readings coming sent taken = λ text before s f.
    record {
      node = subst (λ k. Stands k s.node) (sym core) f.node;
      words = words ∙ f.words;
      shown = shown ∙ f.shown;
      events = events ∙ ap (λ n. n + 1) f.events;
      frame = frame ∙ f.frame;
      readings = readings ∙ f.readings;
      coming = coming ∙ f.coming;
      sent = sent ∙ f.sent;
      taken = taken_on text s.lines (verdict_line (s.events + 1) (codes "drop")) old.edges.taken new.edges.taken f.taken
          (subst (λ n. Appends old.edges.taken new.edges.taken (verdict_line (n + 1) (codes "drop"))) f.events taken);
    }

pub drop_stopped : (old : Moment) (edges : Edges) (owner : Owner) (leaves : List ℕ → Type 0) → edges.sent ≡ old.edges.sent
    → AppendsPrefix old.edges.taken edges.taken (verdict_line (old.counts.events + 1) (codes "drop"))
    → ((image : List ℕ) → leaves image → OpensTo image owner old.core.durable) → Stops dropping old edges owner leaves
drop_stopped old edges owner leaves sent taken opens = λ text before s f.
    stops_within text before old edges owner leaves s (dropping s) (verdict_line (s.events + 1) (codes "drop")) [] f refl (sym (append-nil s.sent))
    (subst (λ n. AppendsPrefix old.edges.taken edges.taken (verdict_line (n + 1) (codes "drop"))) f.events taken)
    ([], [], refl, sent ∙ sends_none old.edges.sent) (inl sent) (λ image left. subst (OpensTo image owner) f.node.of_durable (opens image left))

-- ---- nothing of the event was told

pub event_not_told : (made : Served → Served) (old : Moment) (edges : Edges) (owner : Owner) (leaves : List ℕ → Type 0)
    → ((s : Served) → Adds s.lines s.sent (made s)) → edges.taken ≡ old.edges.taken → edges.sent ≡ old.edges.sent
    → ((image : List ℕ) → leaves image → OpensTo image owner old.core.durable) → Stops made old edges owner leaves
event_not_told made old edges owner leaves adds taken sent opens = λ text before s f.
    stops_before text before old edges owner leaves s (made s) f (adds s) taken sent
    (λ image left. inr (subst (OpensTo image owner) f.node.of_durable (opens image left)))
