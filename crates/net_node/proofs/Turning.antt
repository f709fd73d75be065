-- A turn before its event: the clock is read, a word is taken, or a packet.
use Rattle.std.proofs.Common.{◌≡◌, ℕ, Bool, List, [], ◌++◌, Option, Some, refl, sym, ap, subst, ◌∙◌, arith}
use Rattle.std.specs.Prelude.{◌⊎◌, if◌then◌else◌, is_some, nat_lt}
use Rattle.rand_xoshiro.specs.SplitMix64.{mix_u64}
use Rattle.craft_base.specs.Shape.{Shape}
use Rattle.craft_edge.specs.Packets.{Packet}
use Rattle.craft_edge.specs.Readings.{ShowsFirst, after_reading}
use Rattle.synced_log.specs.Journal.{owned}
use Rattle.synced_log.specs.States.{OpensTo}
use Rattle.synced_log.specs.declared.owner.Owner.{Owner}
use Rattle.world_model.specs.Turn as turns
use Rattle.net_node.specs.Ends.{EndsEarly, FaultCounts, NoFewer}
use Rattle.net_node.specs.NodeRun.{Served, first_reading, receiving, serving, showing, ticking, turn_of_node}
use Rattle.net_node.specs.Serving.{Edges, Follows, Halts, HasStopped, Makes, Moment, StopsIn, TellsAs}
use Rattle.net_node.specs.declared.serve_end.ServeEnd.{ServeEnd}
use Rattle.net_node.specs.declared.serve_end.ServeEnd.TheVariants.{Turns, SinkFault, DiskFault, LinkFault, NoMemory}

-- ---- from one moment to the next

pub told_as : (a b c : Edges) → TellsAs a b → TellsAs b c → TellsAs a c
told_as a b c one other =
    record { readings = other.readings ∙ one.readings; coming = other.coming ∙ one.coming; sent = other.sent ∙ one.sent; taken = other.taken ∙ one.taken }

pub no_fewer : (a b c : FaultCounts) → NoFewer a b → NoFewer b c → NoFewer a c
no_fewer a b c one other =
    record { sink = omega (arith, one.sink, other.sink); disk = omega (arith, one.disk, other.disk); link = omega (arith, one.link, other.link) }

ends_since : (a b c : FaultCounts) (ending : ServeEnd) → NoFewer a b → EndsEarly b c ending → EndsEarly a c ending
ends_since a b c Turns later ends = ends
ends_since a b c SinkFault later ends = omega (arith, later.sink, ends)
ends_since a b c DiskFault later ends = omega (arith, later.disk, ends)
ends_since a b c LinkFault later ends = omega (arith, later.link, ends)
ends_since a b c NoMemory later ends = ends

pub stopped_since : (old mid : Moment) (edges : Edges) (faults : FaultCounts) (ending : ServeEnd) → TellsAs old.edges mid.edges → NoFewer old.faults mid.faults
    → HasStopped mid edges faults ending → HasStopped old edges faults ending
stopped_since old mid edges faults ending told later stopped =
    record {
      told = told_as old.edges mid.edges edges told stopped.told;
      later = no_fewer old.faults mid.faults faults later stopped.later;
      cause = ends_since old.faults mid.faults faults ending later stopped.cause;
    }

-- the run stands, changed, at the later moment, and `after` makes of it what `made` makes of the run as it was
pub record Prepared (made after : Served → Served) (text : List ℕ) (before : List Packet) (mid : Moment) (s : Served) : Type 0 where
  pub run : Served
  pub follows : Follows text before mid run
  pub same : after run ≡ made s
  pub same_lines : run.lines ≡ s.lines
  pub same_sent : run.sent ≡ s.sent
  pub same_node : run.node ≡ s.node

-- no event came between the two
pub record Prepares (made after : Served → Served) (old mid : Moment) : Type 0 where
  pub run : (text : List ℕ) (before : List Packet) (s : Served) → Follows text before old s → Prepared made after text before mid s
  pub events : mid.counts.events ≡ old.counts.events
  pub told : TellsAs old.edges mid.edges
  pub later : NoFewer old.faults mid.faults

pub makes_by : (made after : Served → Served) (shape : Shape) (me most : ℕ) (old mid new : Moment) → Prepares made after old mid
    → Makes after shape me most mid new → Makes made shape me most old new
makes_by made after shape me most old mid new prepares makes =
    record {
      run = λ text before s f. let p = prepares.run text before s f in subst (Follows text before new) p.same (makes.run text before p.run p.follows);
      goes_on = record {
        member = makes.goes_on.member;
        events = omega (arith, prepares.events, makes.goes_on.events);
        told = told_as old.edges mid.edges new.edges prepares.told makes.goes_on.told;
        later = no_fewer old.faults mid.faults new.faults prepares.later makes.goes_on.later;
      };
    }

-- a run with the same lines, packets and node is stopped as well
stops_same : (text : List ℕ) (before : List Packet) (edges : Edges) (owner : Owner) (leaves : List ℕ → Type 0) (run s made : Served)
    → run.lines ≡ s.lines → run.sent ≡ s.sent → run.node ≡ s.node → StopsIn text before edges owner leaves run made → StopsIn text before edges owner leaves s made
stops_same text before edges owner leaves run s made lines sent node stops =
    record {
      printed = stops.printed;
      unprinted = stops.unprinted;
      lines = stops.lines ∙ ap (λ l. l ++ (stops.printed ++ stops.unprinted)) lines;
      taken = stops.taken ∙ ap (λ l. Some (text ++ (l ++ stops.printed))) lines;
      gone = stops.gone;
      unsent = stops.unsent;
      packets = stops.packets ∙ ap (λ p. p ++ (stops.gone ++ stops.unsent)) sent;
      sent = stops.sent ∙ ap (λ p. Some (before ++ (p ++ stops.gone))) sent;
      order = stops.order;
      crash = λ image left. subst (λ n. OpensTo image owner made.node.durable ⊎ ((stops.printed ≡ []) × (stops.gone ≡ []) × OpensTo image owner n.durable)) node (stops.crash image left);
    }

pub halts_by : (made after : Served → Served) (shape : Shape) (me : ℕ) (old mid : Moment) (edges : Edges) (faults : FaultCounts) (leaves : List ℕ → Type 0) (ending : ServeEnd)
    → Prepares made after old mid → Halts after shape me mid edges faults leaves ending → Halts made shape me old edges faults leaves ending
halts_by made after shape me old mid edges faults leaves ending prepares halts =
    record {
      run = λ text before s f. let p = prepares.run text before s f in
          subst (StopsIn text before edges (owned shape me) leaves s) p.same
          (stops_same text before edges (owned shape me) leaves p.run s (after p.run) p.same_lines p.same_sent p.same_node (halts.run text before p.run p.follows));
      ended = stopped_since old mid edges faults ending prepares.told prepares.later halts.ended;
    }

same_told : (edges : Edges) → TellsAs edges edges
same_told edges = record { readings = refl; coming = refl; sent = refl; taken = refl }

same_faults : (faults : FaultCounts) → NoFewer faults faults
same_faults faults = record { sink = omega arith; disk = omega arith; link = omega arith }

-- ---- the clock is read

abbrev pub with_reading : (reading : ℕ) (readings : Option (List ℕ)) → Moment → Moment
with_reading reading readings m = record m { counts = record m.counts { shown = reading }; edges = record m.edges { readings = readings } }

abbrev ticks_or_takes : List ℕ → Bool → Served → Served
ticks_or_takes places rose s = if rose then ticking places s else receiving places s.packets s

pub turn_prepares : (places : List ℕ) (reading : ℕ) (readings : Option (List ℕ)) (rose : Bool) (old : Moment) → ShowsFirst old.edges.readings readings reading
    → is_some readings ≡ is_some old.edges.readings → nat_lt old.counts.shown reading ≡ rose
    → Prepares (turn_of_node places) (λ s. if rose then ticking places s else receiving places s.packets s) old (with_reading reading readings old)
turn_prepares places reading readings rose old shows told is =
    record {
      run = λ text before s f.
          let first = subst (λ r. ShowsFirst r readings reading) f.readings shows in
          let run : Served = record s { readings = after_reading s.readings; shown = reading } in
          record {
            run = run;
            follows = record {
              node = f.node;
              words = f.words;
              shown = refl;
              events = f.events;
              frame = f.frame;
              readings = first.1;
              coming = f.coming;
              sent = f.sent;
              taken = f.taken;
            };
            same = sym (ap (λ r. showing places r s) (ap (first_reading s.shown) first.0.1)
                ∙ ap (λ b. ticks_or_takes places b run) (ap (λ k. nat_lt k reading) (sym f.shown) ∙ is));
            same_lines = refl;
            same_sent = refl;
            same_node = refl;
          };
      events = refl;
      told = record { readings = told; coming = refl; sent = refl; taken = refl };
      later = same_faults old.faults;
    }

-- ---- a word is taken

abbrev pub with_words : ℕ → Moment → Moment
with_words next m = record m { counts = record m.counts { words = next } }

pub tick_prepares : (places : List ℕ) (word next : ℕ) (old : Moment) → ◌≡◌ {A = ℕ × ℕ} (word, next) (mix_u64 old.counts.words)
    → Prepares (ticking places) (serving places (turns.Tick word)) old (with_words next old)
tick_prepares places word next old is =
    record {
      run = λ text before s f.
          let mixed : ◌≡◌ {A = ℕ × ℕ} (word, next) (mix_u64 s.words) = is ∙ ap mix_u64 f.words in
          record {
            run = record s { words = next };
            follows = record {
              node = f.node;
              words = refl;
              shown = f.shown;
              events = f.events;
              frame = f.frame;
              readings = f.readings;
              coming = f.coming;
              sent = f.sent;
              taken = f.taken;
            };
            same = ap (λ p. serving places (turns.Tick p.0) (record s { words = p.1 })) mixed;
            same_lines = refl;
            same_sent = refl;
            same_node = refl;
          };
      events = refl;
      told = same_told old.edges;
      later = same_faults old.faults;
    }
