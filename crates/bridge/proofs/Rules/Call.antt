-- Call: a leader that adds a request to its log makes the move propose, and sends the entry to those that have all before it; each
-- other answer is no move.
use Rattle.std.proofs.Common.{◌≡◌, ℕ, ◌==◌, length, refl}
use Rattle.std.proofs.lemmas.Bool.{cond_both}
use Rattle.craft_base.specs.Knowledge.{next_index}
use Rattle.craft_base.specs.Shape.{IsShape, Shape}
use Rattle.craft_base.specs.declared.command.Entry.{Entry}
use Rattle.craft_base.specs.declared.command.Request.{Request}
use Rattle.craft_base.specs.declared.command.Reply.TheVariants as replies
use Rattle.entry_frames.specs.declared.role.Role.{Role}
use Rattle.entry_frames.specs.declared.role.Role.TheVariants.{Follower, Candidate, Preparing, Leader}
use Rattle.kv_apply.specs.Commands.{kept_of}
use Rattle.kv_apply.specs.declared.outcome.Kept.{Kept}
use Rattle.kv_apply.specs.declared.outcome.Kept.TheVariants as keeps
use Rattle.kv_apply.specs.declared.outcome.Outcome.{Outcome}
use Rattle.world_model.specs.Nodes.{Node}
use Rattle.world_model.specs.Rules.Call.{act_of_adding, act_of_asking, act_of_call, act_of_call_as, act_of_kept, act_of_new_request, act_of_reply, act_of_request, act_of_telling, applied_heads, entry_for, is_busy, is_full}
use Rattle.protocol.specs.History as protocol
use Rattle.protocol.specs.Moves.{Reached}
use Rattle.bridge.specs.Agreement.{NodeAgrees}
use Rattle.bridge.specs.Bridges.{ActBridged}
use Rattle.bridge.proofs.Proposing.{proposed, proposed_agrees, proposes}
use Rattle.bridge.proofs.Steps.{moved_then, sends_none, unmoved}
use Rattle.bridge.proofs.Rules.Say.{some_appends_agree}

module _
    {shape : Shape} {g : protocol.History} {member : ℕ} {n : Node} (reached : Reached shape.faults g) (is : IsShape shape)
    (a : NodeAgrees shape g member n) (place : ℕ) (r : Request) where
  module _ (leads : n.volatile.role ≡ Leader) where
    abbrev entry : Entry
    entry = entry_for n.durable.term r

    -- the node that has added the request, and waits for its answer
    added_agrees : NodeAgrees shape (proposed reached is a leads entry refl refl) member (act_of_adding place r n).node
    added_agrees = let added = proposed_agrees reached is a leads entry refl refl in assumption added

    asking_bridged : ActBridged shape g member (act_of_asking place r n)
    asking_bridged =
        let h = proposed reached is a leads entry refl refl in
        let now = (act_of_adding place r n).node in
        moved_then reached (act_of_adding place r n) act_of_telling (proposes reached is a leads entry refl refl) added_agrees (sends_none h)
        (λ later. unmoved (act_of_telling now) added_agrees
        (some_appends_agree later added_agrees leads (λ receiver. next_index receiver now.volatile.heard now.volatile.first == length now.durable.log)))

    -- a request that waits again changes nothing that agrees
    kept_agrees : (outcome : Outcome) → NodeAgrees shape g member (act_of_kept place r outcome n).node
    kept_agrees outcome = assumption a

    new_request_bridged : ActBridged shape g member (act_of_new_request place r n)
    new_request_bridged =
        cond_both (is_full n.durable.log) (act_of_reply place r replies.Full n) _ (ActBridged shape g member)
        (λ full. unmoved (act_of_reply place r replies.Full n) a (sends_none g))
        (λ room.
        cond_both (is_busy n.durable.commit n.durable.log) (act_of_reply place r replies.Busy n) (act_of_asking place r n) (ActBridged shape g member)
        (λ busy. unmoved (act_of_reply place r replies.Busy n) a (sends_none g)) (λ free. asking_bridged))

    request_bridged : (kept : Kept) → ActBridged shape g member (act_of_request place r kept n)
    request_bridged keeps.New = new_request_bridged
    request_bridged (keeps.Same outcome) = unmoved (act_of_kept place r outcome n) (kept_agrees outcome) (sends_none g)
    request_bridged keeps.Old = unmoved (act_of_reply place r replies.Old n) a (sends_none g)

  call_as_bridged : (role : Role) → n.volatile.role ≡ role → ActBridged shape g member (act_of_call_as role place r n)
  call_as_bridged Follower e = unmoved (act_of_reply place r (replies.Elsewhere n.volatile.hint) n) a (sends_none g)
  call_as_bridged Candidate e = unmoved (act_of_reply place r (replies.Elsewhere n.volatile.hint) n) a (sends_none g)
  call_as_bridged Preparing e = unmoved (act_of_reply place r replies.Preparing n) a (sends_none g)
  call_as_bridged Leader e = request_bridged e (kept_of r.client r.seq (applied_heads n))

  pub call_bridged : ActBridged shape g member (act_of_call place r n)
  call_bridged = call_as_bridged n.volatile.role refl
