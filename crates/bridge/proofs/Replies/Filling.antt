-- A leader that has a value keeps what is said of the requests that wait, and tells those who wait for it the value that its log then has.
use Rattle.std.proofs.Common.{◌≡◌, ℕ, zero, suc, ◌-◌, ◌==◌, not, Option, None, Some, List, [], ◌∷◌, filter, slice_get, refl, subst, arith}
use Rattle.std.specs.List.{All}
use Rattle.std.proofs.lemmas.List.Elements.{All-append, All-filter, All-nil, All-weaker}
use Rattle.craft_base.specs.declared.command.Entry.{Entry}
use Rattle.entry_frames.specs.Durable.{complete_at}
use Rattle.entry_frames.specs.Logs.{entry_at}
use Rattle.entry_frames.specs.declared.role.Role.TheVariants.{Leader}
use Rattle.gather_read.specs.Gathered.{gathered}
use Rattle.leader_prep.specs.Solutions.{value_of as value_of_source}
use Rattle.leader_prep.specs.Verdicts.{Source}
use Rattle.world_model.specs.Nodes.{Node}
use Rattle.world_model.specs.Rules.Acts.{stays}
use Rattle.world_model.specs.Rules.Answer.{act_of_having, act_of_shown, act_of_source, act_of_value, source_of_part, values_told}
use Rattle.world_model.specs.Rules.Applying.{value_of}
use Rattle.world_model.specs.Rules.Want.{part_at}
use Rattle.world_model.specs.declared.call.Called.{Called}
use Rattle.world_model.proofs.Ranges.Want.{part_there}
use Rattle.bridge.proofs.Replies.Answering.{ActAnswers, IsAnswering, Waits, in_role, of_role, silent}
use Rattle.bridge.proofs.Replies.Calls.{CallStands, IsAskedBy, IsToldBy}
use Rattle.bridge.proofs.Replies.Reads.{ReadStands, reads_completed, values_are_told}

-- the value stands at its index
had_there : (log : List Entry) (position : ℕ) (bytes : List ℕ) (own : Entry) → slice_get log position ≡ Some own → value_of (slice_get (complete_at log position bytes) position) ≡ Some bytes
had_there [] position bytes own e = cc
had_there (entry ∷ log) zero bytes own e = refl
had_there (entry ∷ log) (suc position) bytes own e = had_there log position bytes own e

had_at : (log : List Entry) (index : ℕ) (bytes : List ℕ) (own : Entry) → entry_at log index ≡ Some own → value_of (entry_at (complete_at log (index - 1) bytes) index) ≡ Some bytes
had_at log zero bytes own e = cc
had_at log (suc place) bytes own e =
    let at : place ≡ suc place - 1 = omega arith in
    subst (λ position. value_of (slice_get (complete_at log position bytes) place) ≡ Some bytes) at (had_there log place bytes own e)

-- and no head changes
asked_in : (c : Called) (log : List Entry) (position : ℕ) (bytes : List ℕ) (place : ℕ) → IsAskedBy c (slice_get log place) → IsAskedBy c (slice_get (complete_at log position bytes) place)
asked_in c [] position bytes place asked = asked
asked_in c (e ∷ log) zero bytes zero asked = asked
asked_in c (e ∷ log) zero bytes (suc place) asked = asked
asked_in c (e ∷ log) (suc position) bytes zero asked = asked
asked_in c (e ∷ log) (suc position) bytes (suc place) asked = asked_in c log position bytes place asked

calls_completed : (log : List Entry) (position : ℕ) (bytes : List ℕ) (calls : List Called) → All (CallStands log) calls → All (CallStands (complete_at log position bytes)) calls
calls_completed log position bytes calls all = All-weaker (CallStands log) (CallStands (complete_at log position bytes)) (λ c asked. at_index c c.index asked) calls all where
  at_index : (c : Called) (index : ℕ) → IsAskedBy c (entry_at log index) → IsAskedBy c (entry_at (complete_at log position bytes) index)
  at_index c zero asked = asked
  at_index c (suc place) asked = asked_in c log position bytes place asked

-- ---- the rule

value_answers :
    (n : Node) (index : ℕ) (own : Entry) (value : List ℕ) → n.volatile.role ≡ Leader → entry_at n.durable.log index ≡ Some own → Waits Leader n.durable n.volatile →
    ActAnswers (act_of_value index value n)
value_answers n index own value leads here calls =
    let log : List Entry = complete_at n.durable.log (index - 1) value in
    let commit : ℕ = n.durable.commit in
    let reads : List Called = n.volatile.reads in
    let still : All (ReadStands log commit) reads = reads_completed n.durable.log (index - 1) value commit reads calls.1 in
    let left : All (ReadStands log commit) (filter (λ r. not (r.index == index)) reads) = All-filter (λ r. not (r.index == index)) (ReadStands log commit) reads still in
    record {
      calls = in_role (act_of_having index value n).node Leader leads (calls_completed n.durable.log (index - 1) value n.volatile.calls calls.0, left);
      replies =
          All-append (IsToldBy log commit) (values_told index value reads) []
          (values_are_told log commit index value reads (had_at n.durable.log index value own here) still) (All-nil (IsToldBy log commit));
    }

source_answers : (n : Node) (index : ℕ) (own : Option Entry) → n.volatile.role ≡ Leader → part_at n.durable.log index ≡ own → IsAnswering n → ActAnswers (act_of_source index (source_of_part n index own) n)
source_answers n index None leads there calls = silent (stays n) refl calls
source_answers n index (Some own) leads there calls = by_source (gathered n.shape n.me index own n.volatile.pages) where
  by_source : (source : Option Source) → ActAnswers (act_of_source index source n)
  by_source None = silent (stays n) refl calls
  by_source (Some source) = value_answers n index own (value_of_source source) leads (part_there n.durable.log index own there).0 (of_role n Leader leads calls)

pub shown_answers : (want : Option ℕ) (n : Node) → n.volatile.role ≡ Leader → IsAnswering n → ActAnswers (act_of_shown want n)
shown_answers None n leads calls = silent (stays n) refl calls
shown_answers (Some index) n leads calls = source_answers n index (part_at n.durable.log index) leads refl calls
