-- What a member knows of the others stays in range as it hears more.
use Rattle.std.proofs.Common.{◌≡◌, ℕ, ◌≤◌, List, [], ◌∷◌, length, subst, arith}
use Rattle.std.specs.List.{All}
use Rattle.std.proofs.lemmas.List.Elements.{All-cons, All-weaker}
use Rattle.craft_base.specs.Knowledge.{Heard, Beat, From, Voted, Matched, Refused, Answered}
use Rattle.craft_base.specs.Shape.{Shape}
use Rattle.craft_base.specs.declared.command.Entry.{Entry}
use Rattle.entry_frames.specs.Stored.{IsStored}
use Rattle.entry_frames.specs.declared.role.Role.{Role}
use Rattle.entry_frames.specs.declared.role.Role.TheVariants.{Follower, Candidate, Preparing, Leader}
use Rattle.entry_frames.proofs.Stored.{term_least}
use Rattle.world_model.specs.Nodes.{Node}
use Rattle.world_model.specs.Ranges.{IsOfNoLog, ItemInRange, KnowsInRange, NodeInRange}

-- what says nothing of a log can be heard at any
any_log : (last : ℕ) (item : Heard) → IsOfNoLog item → ItemInRange last item
any_log last Beat silent = tt
any_log last (From sender at (Voted granted)) silent = tt
any_log last (From sender at (Matched prev count mask)) silent = absurd silent
any_log last (From sender at (Refused next)) silent = absurd silent
any_log last (From sender at Answered) silent = tt

pub any_logs : (last : ℕ) (heard : List Heard) → All IsOfNoLog heard → All (ItemInRange last) heard
any_logs last heard none = All-weaker IsOfNoLog (ItemInRange last) (any_log last) heard none

-- one thing more that says nothing of a log
pub hears : (role : Role) (last first : ℕ) (item : Heard) (heard : List Heard) → IsOfNoLog item → KnowsInRange role last first heard → KnowsInRange role last first (item ∷ heard)
hears Follower last first item heard silent knows = All-cons IsOfNoLog item heard silent knows
hears Candidate last first item heard silent knows = All-cons IsOfNoLog item heard silent knows
hears Preparing last first item heard silent knows = All-cons IsOfNoLog item heard silent knows
hears Leader last first item heard silent knows =
    (knows.0, knows.1, All-cons (ItemInRange last) item heard (any_log last item silent) knows.2, knows.3)

-- one thing more that a leader hears
pub leader_hears : (last first : ℕ) (item : Heard) (heard : List Heard) → ItemInRange last item → KnowsInRange Leader last first heard → KnowsInRange Leader last first (item ∷ heard)
leader_hears last first item heard ranged knows = (knows.0, knows.1, All-cons (ItemInRange last) item heard ranged knows.2, knows.3)

pub begun_with : {shape : Shape} {term : ℕ} (log : List Entry) → IsStored shape term log → 1 ≤ length log → 1 ≤ term
begun_with [] stored some = absurd (omega (arith, some))
begun_with {shape = shape} (e ∷ log) stored some = omega (arith, term_least shape.need e (stored.entries).0, (stored.entries).2)

module _ {shape : Shape} {member : ℕ} {n : Node} (a : NodeInRange shape member n) where
  abbrev pub KnowsAs : Role → Type 0
  KnowsAs role = KnowsInRange role (length n.durable.log) n.volatile.first n.volatile.heard

  pub knows_as : (role : Role) → n.volatile.role ≡ role → KnowsAs role
  knows_as role e = subst KnowsAs e a.knows

  -- a leader's log isn't empty, and so there is a term
  pub leader_begun : n.volatile.role ≡ Leader → 1 ≤ n.durable.term
  leader_begun e = begun_with n.durable.log a.durable.stored (knows_as Leader e).3
