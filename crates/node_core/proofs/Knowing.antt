-- What a member knows, and up to where it is settled.
use Rattle.std.proofs.Common.{◌≡◌, ℕ, ◌≤◌, ◌<◌, max, List, ap, arith}
use Rattle.std.proofs.lemmas.Bool.{lt-ltb}
use Rattle.std.specs.Prelude.{cond}
use Rattle.craft_base.specs.Knowledge.{Heard}
use Rattle.craft_base.specs.Shape.{Shape}
use Rattle.heard_book.specs.Kept as known
use Rattle.world_model.specs.Nodes.{Node}
use Rattle.world_model.specs.Rules.Acts.{stays}
use Rattle.world_model.specs.Rules.Applying.{act_of_applying, act_of_commit}
use Rattle.node_core.specs.declared.member.Member.{Member}
use Rattle.node_core.specs.Acting.{IsNode}

-- what it knows changes, and stands for other things that were heard
pub knows_node :
    (m : Member) (heard : known.Kept) (list : List Heard) (n : Node) → IsNode m n → known.Stands heard n.shape list n.volatile.first → heard.window.settled ≤ n.durable.commit →
    IsNode (record m { heard = heard }) (record n { volatile = record n.volatile { heard = list } })
knows_node m heard list n is stands settled =
    let s = is.stands in record {
      stands = record {
        of_shape = s.of_shape;
        of_me = s.of_me;
        of_durable = s.of_durable;
        of_role = s.of_role;
        of_quiet = s.of_quiet;
        of_hint = s.of_hint;
        of_heard = stands;
        settled = settled;
        of_prep = s.of_prep;
        of_gather = s.of_gather;
        of_calls = s.of_calls;
        of_reads = s.of_reads;
      };
      of_store = is.of_store;
      of_service = is.of_service;
    }

-- what is known below the commit index may be forgotten
pub settled_node :
    (m : Member) (heard : known.Kept) (index : ℕ) (n : Node) → IsNode m n → index ≤ n.durable.commit → heard.window.settled ≡ max m.heard.window.settled index →
    ((shape : Shape) (list : List Heard) (first : ℕ) → known.Stands m.heard shape list first → known.Stands heard shape list first) → IsNode (record m { heard = heard }) n
settled_node m heard index n is le settled still =
    let s = is.stands in
    knows_node m heard n.volatile.heard n is (still n.shape n.volatile.heard n.volatile.first s.of_heard) (omega (arith, settled, s.settled, le))

-- the commit index grows
pub grows : (n : Node) (index : ℕ) → n.durable.commit < index → act_of_commit index n ≡ act_of_applying index n
grows n index lt = ap (λ b. cond b (act_of_applying index n) (stays n)) (lt-ltb n.durable.commit index lt)
