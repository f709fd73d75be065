-- A run that stops within an event.
use Rattle.std.proofs.Common.{◌≡◌, ◌⊎◌, inl, inr, ℕ, zero, suc, ◌+◌, min, List, [], ◌∷◌, ◌++◌, Option, None, Some, refl, sym, ap, subst, ◌∙◌, arith, append_assoc, append-nil, take, drop, take-append-drop}
use Rattle.std.specs.Prelude.{codes, nat_lt, option_map}
use Rattle.std.specs.Io.KnownBytes.{Appends}
use Rattle.std.proofs.lemmas.Bool.{cond_both}
use Rattle.craft_edge.specs.Bytes.{AppendsPrefix}
use Rattle.craft_edge.specs.Packets.{Packet}
use Rattle.craft_edge.specs.Readings.{after_reading}
use Rattle.synced_log.specs.States.{OpensTo}
use Rattle.synced_log.specs.declared.owner.Owner.{Owner}
use Rattle.world_model.specs.Turn as turns
use Rattle.net_node.specs.NodeRun.{Served, event_of_packet, first_reading, node_run, receiving, taking, ticking, turn_of_node, verdict_line}
use Rattle.net_node.specs.Sending.{Sends, SendsFront}
use Rattle.net_node.specs.Serving.{Edges, Follows, Moment, StopsIn}
use Rattle.net_node.proofs.SentInOrder.{sends_none}

-- ---- text and packets behind those of the run

grown : (xs bytes : List ℕ) (new : Option (List ℕ)) → Appends (Some xs) new bytes → new ≡ Some (xs ++ bytes)
grown xs bytes None appends = absurd appends
grown xs bytes (Some ys) appends = ap (λ y. Some y) appends

pub taken_on : (text lines more : List ℕ) (old new : Option (List ℕ)) → old ≡ Some (text ++ lines) → Appends old new more → new ≡ Some (text ++ (lines ++ more))
taken_on text lines more old new is appends =
    grown (text ++ lines) more new (subst (λ o. Appends o new more) is appends) ∙ ap (λ t. Some t) (append_assoc text lines more)

pub sent_on : (before sent more : List Packet) (old new : Option (List Packet)) → old ≡ Some (before ++ sent) → Sends old new more → new ≡ Some (before ++ (sent ++ more))
sent_on before sent more old new is sends =
    sends ∙ ap (option_map (λ s. s ++ more)) is ∙ ap (λ s. Some s) (append_assoc before sent more)

-- ---- what an event adds

-- a run whose lines and packets go on from these
pub record Adds (lines : List ℕ) (sent : List Packet) (made : Served) : Type 0 where
  pub more : List ℕ
  pub lines_are : made.lines ≡ lines ++ more
  pub packets : List Packet
  pub sent_are : made.sent ≡ sent ++ packets

adds_none : (s : Served) → Adds s.lines s.sent s
adds_none s = record { more = []; lines_are = sym (append-nil s.lines); packets = []; sent_are = sym (append-nil s.sent) }

pub taking_adds : (places : List ℕ) (event : Option turns.Event) (s : Served) → Adds s.lines s.sent (taking places event s)
taking_adds places None s = record { more = verdict_line (s.events + 1) (codes "drop"); lines_are = refl; packets = []; sent_are = sym (append-nil s.sent) }
taking_adds places (Some event) s = record { more = _; lines_are = refl; packets = _; sent_are = refl }

pub receiving_adds : (places : List ℕ) (packets : List Packet) (s : Served) → Adds s.lines s.sent (receiving places packets s)
receiving_adds places [] s = adds_none s
receiving_adds places (packet ∷ packets) s = taking_adds places (event_of_packet s.node.shape s.node.me packet) (record s { packets = packets })

turn_adds : (places : List ℕ) (s : Served) → Adds s.lines s.sent (turn_of_node places s)
turn_adds places s =
    let reading = first_reading s.shown s.readings in
    let now : Served = record s { readings = after_reading s.readings; shown = reading } in
    cond_both (nat_lt s.shown reading) (ticking places now) (receiving places now.packets now) (Adds s.lines s.sent)
    (λ rose. taking_adds places (Some (turns.Tick _)) (record now { words = _ })) (λ still. receiving_adds places now.packets now)

-- the first of so many turns, if there is one
pub first_adds : (places : List ℕ) (most : ℕ) (s : Served) → Adds s.lines s.sent (node_run places (min 1 most) s)
first_adds places zero s =
    let none : 0 ≡ min 1 zero = omega arith in
    subst (λ n. Adds s.lines s.sent (node_run places n s)) none (adds_none s)
first_adds places (suc most) s =
    let one : 1 ≡ min 1 (suc most) = omega arith in
    subst (λ n. Adds s.lines s.sent (node_run places n s)) one (turn_adds places s)

-- ---- where it stops

-- a front of the lines was written and nothing sent, or all of them and a front of the packets; and the state after it is kept
pub stops_within : (text : List ℕ) (before : List Packet) (old : Moment) (edges : Edges) (owner : Owner) (leaves : List ℕ → Type 0) (s made : Served) (more : List ℕ) (packets : List Packet)
    → Follows text before old s → made.lines ≡ s.lines ++ more → made.sent ≡ s.sent ++ packets
    → AppendsPrefix old.edges.taken edges.taken more → SendsFront old.edges.sent edges.sent packets
    → (edges.sent ≡ old.edges.sent) ⊎ Appends old.edges.taken edges.taken more
    → ((image : List ℕ) → leaves image → OpensTo image owner made.node.durable) → StopsIn text before edges owner leaves s made
stops_within text before old edges owner leaves s made more packets f lines sent part front (inl same) opens =
    record {
      printed = take part.0 more;
      unprinted = drop part.0 more;
      lines = lines ∙ ap (λ m. s.lines ++ m) (sym (take-append-drop part.0 more));
      taken = taken_on text s.lines (take part.0 more) old.edges.taken edges.taken f.taken part.2;
      gone = [];
      unsent = packets;
      packets = sent;
      sent = sent_on before s.sent [] old.edges.sent edges.sent f.sent (same ∙ sends_none old.edges.sent);
      order = inl refl;
      crash = λ image left. inl (opens image left);
    }
stops_within text before old edges owner leaves s made more packets f lines sent part front (inr whole) opens =
    record {
      printed = more;
      unprinted = [];
      lines = lines ∙ ap (λ m. s.lines ++ m) (sym (append-nil more));
      taken = taken_on text s.lines more old.edges.taken edges.taken f.taken whole;
      gone = front.0;
      unsent = front.1;
      packets = sent ∙ ap (λ p. s.sent ++ p) front.2;
      sent = sent_on before s.sent front.0 old.edges.sent edges.sent f.sent front.3;
      order = inr refl;
      crash = λ image left. inl (opens image left);
    }

-- nothing of the event was told
or_before : {A B C D : Type 0} → C → D → A ⊎ B → A ⊎ (C × D × B)
or_before c d (inl a) = inl a
or_before c d (inr b) = inr (c, d, b)

pub stops_before : (text : List ℕ) (before : List Packet) (old : Moment) (edges : Edges) (owner : Owner) (leaves : List ℕ → Type 0) (s made : Served)
    → Follows text before old s → Adds s.lines s.sent made → edges.taken ≡ old.edges.taken → edges.sent ≡ old.edges.sent
    → ((image : List ℕ) → leaves image → OpensTo image owner made.node.durable ⊎ OpensTo image owner s.node.durable) → StopsIn text before edges owner leaves s made
stops_before text before old edges owner leaves s made f adds taken sent opens =
    record {
      printed = [];
      unprinted = adds.more;
      lines = adds.lines_are;
      taken = taken ∙ f.taken ∙ ap (λ l. Some (text ++ l)) (sym (append-nil s.lines));
      gone = [];
      unsent = adds.packets;
      packets = adds.sent_are;
      sent = sent ∙ f.sent ∙ ap (λ p. Some (before ++ p)) (sym (append-nil s.sent));
      order = inl refl;
      crash = λ image left. or_before refl refl (opens image left);
    }
