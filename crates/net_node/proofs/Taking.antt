-- A packet is taken from the link.
use Rattle.std.proofs.Common.{◌≡◌, ◌≤◌, ℕ, List, ◌∷◌, Option, Some, Ok, refl, sym, ap, subst, ◌∙◌, arith}
use Rattle.std.specs.Prelude.{is_some}
use Rattle.craft_base.specs.Shape.{Shape}
use Rattle.craft_edge.specs.Link.{Gives, GivesFirst}
use Rattle.craft_edge.specs.Packets.{Packet}
use Rattle.craft_edge.specs.declared.link.Came.TheVariants as came
use Rattle.world_model.specs.Turn as turns
use Rattle.net_node.specs.Ends.{FaultCounts}
use Rattle.net_node.specs.NodeRun.{Served, event_of_packet, receiving, taking}
use Rattle.net_node.specs.Serving.{Edges, Halts, IsOf, Makes, Moment}
use Rattle.net_node.specs.declared.serve_end.ServeEnd.{ServeEnd}
use Rattle.net_node.proofs.Turning.{Prepares}

-- what comes next, where the link tells it
pub gives_first : (old new : Option (List Packet)) (buffer : List ℕ) (from len : ℕ) → Gives old new buffer (Ok (came.Packet from len))
    → (packets : List Packet) → old ≡ Some packets → GivesFirst packets new buffer (came.Packet from len)
gives_first old new buffer from len gives packets is = subst (λ o. Gives o new buffer (Ok (came.Packet from len))) is gives

abbrev pub with_link : (coming sent : Option (List Packet)) (faults : ℕ) → Moment → Moment
with_link coming sent faults m = record m { edges = record m.edges { coming = coming; sent = sent }; faults = record m.faults { link = faults } }

-- a packet came
pub packet_prepares : (places : List ℕ) (shape : Shape) (me : ℕ) (packet : Packet) (coming sent : Option (List Packet)) (faults : ℕ) (old : Moment) → IsOf shape me old.core
    → ((packets : List Packet) → old.edges.coming ≡ Some packets → (rest : List Packet) × (packets ≡ packet ∷ rest) × (coming ≡ Some rest))
    → is_some coming ≡ is_some old.edges.coming → sent ≡ old.edges.sent → old.faults.link ≤ faults
    → Prepares (λ s. receiving places s.packets s) (taking places (event_of_packet shape me packet)) old (with_link coming sent faults old)
packet_prepares places shape me packet coming sent faults old is gives told same later =
    record {
      run = λ text before s f.
          let first = gives s.packets f.coming in
          let run : Served = record s { packets = first.0 } in
          record {
            run = run;
            follows = record {
              node = f.node;
              words = f.words;
              shown = f.shown;
              events = f.events;
              frame = f.frame;
              readings = f.readings;
              coming = first.2;
              sent = same ∙ f.sent;
              taken = f.taken;
            };
            same = ap (λ k. taking places (event_of_packet k me packet) run) (sym is.0 ∙ f.node.of_shape)
                ∙ ap (λ k. taking places (event_of_packet s.node.shape k packet) run) (sym is.1 ∙ f.node.of_me)
                ∙ ap (λ ps. receiving places ps s) (sym first.1);
            same_lines = refl;
            same_sent = refl;
            same_node = refl;
          };
      events = refl;
      told = record { readings = refl; coming = told; sent = ap is_some same; taken = refl };
      later = record { sink = omega arith; disk = omega arith; link = later };
    }

-- what was heard is the packet's event, or none
pub taking_makes : (places : List ℕ) (shape : Shape) (me : ℕ) (is made : Option turns.Event) (old new : Moment) → made ≡ is
    → Makes (taking places made) shape me 1 old new → Makes (taking places is) shape me 1 old new
taking_makes places shape me is made old new same makes = subst (λ e. Makes (taking places e) shape me 1 old new) same makes

pub taking_halts : (places : List ℕ) (shape : Shape) (me : ℕ) (is made : Option turns.Event) (old : Moment) (edges : Edges) (faults : FaultCounts) (leaves : List ℕ → Type 0) (ending : ServeEnd) → made ≡ is
    → Halts (taking places made) shape me old edges faults leaves ending → Halts (taking places is) shape me old edges faults leaves ending
taking_halts places shape me is made old edges faults leaves ending same halts = subst (λ e. Halts (taking places e) shape me old edges faults leaves ending) same halts
