-- A request that a leader adds to its log is proposed by it, and stands in the book; no other answer proposes anything.
use Rattle.std.proofs.Common.{◌≡◌, ℕ, ◌+◌, ◌<◌, None, List, length, refl, ap, arith}
use Rattle.std.specs.List.{All}
use Rattle.std.proofs.lemmas.Bool.{cond_both}
use Rattle.std.proofs.lemmas.List.Elements.{All-nil, All-weaker}
use Rattle.craft_base.specs.Shape.{IsShape, Shape}
use Rattle.craft_base.specs.declared.command.Reply.{Reply}
use Rattle.craft_base.specs.declared.command.Reply.TheVariants as replies
use Rattle.craft_base.specs.declared.command.Request.{Request}
use Rattle.entry_frames.specs.declared.role.Role.{Role}
use Rattle.entry_frames.specs.declared.role.Role.TheVariants.{Follower, Candidate, Preparing, Leader}
use Rattle.kv_apply.specs.Commands.{kept_of}
use Rattle.kv_apply.specs.declared.outcome.Kept.{Kept}
use Rattle.kv_apply.specs.declared.outcome.Kept.TheVariants as keeps
use Rattle.world_model.specs.Nodes.{Node}
use Rattle.world_model.specs.Rules.Call.{act_of_adding, act_of_asking, act_of_call, act_of_call_as, act_of_entry, act_of_kept, act_of_reply, act_of_request, applied_heads, calling, entry_for, is_busy, is_full, up_to_date}
use Rattle.world_model.specs.Safety.{command_in}
use Rattle.world_model.specs.Traces.{Proposal}
use Rattle.protocol.specs.History as protocol
use Rattle.protocol.specs.Logs.{Same}
use Rattle.protocol.specs.Moves.{Reached}
use Rattle.bridge.specs.Agreement.{NodeAgrees}
use Rattle.bridge.specs.Bridges.{TurnBridged}
use Rattle.bridge.specs.Traced.{AllStand, MessageStands, PageStands, ProposalAgrees, holder}
use Rattle.bridge.specs.Views.{log_seen}
use Rattle.bridge.proofs.Book.Adding.{adding_traced}
use Rattle.bridge.proofs.Book.Plain.{IsTraced, silent_traced, turned}
use Rattle.bridge.proofs.Book.Sent.{some_appends_stand}
use Rattle.bridge.proofs.Book.Standing.{IsElsewhere, command_in_none}
use Rattle.bridge.proofs.Rules.Call.{call_bridged}
use Rattle.bridge.proofs.Rules.Say.{leading_log}
use Rattle.bridge.proofs.Views.{length_seen}

-- a leader's log is all that was proposed in its term
nothing_behind :
    {shape : Shape} {g : protocol.History} {member : ℕ} {n : Node} → Reached shape.faults g → NodeAgrees shape g member n →
    n.volatile.role ≡ Leader → (book : List Proposal) → All (ProposalAgrees g) book → command_in book n.durable.term (length n.durable.log + 1) ≡ None
nothing_behind {g = g} {n = n} reached a leads book proposed =
    let led : Same (log_seen n.durable.log) (g.led n.durable.term) = leading_log reached a leads in
    let long : length (log_seen n.durable.log) ≡ length (g.led n.durable.term) = led.long in
    let seen : length (log_seen n.durable.log) ≡ length n.durable.log = length_seen n.durable.log in
    let other : (p : Proposal) → ProposalAgrees g p → IsElsewhere n.durable.term (length n.durable.log + 1) p =
    λ p agrees same at.
    let of_term : length (g.led p.term) ≡ length (g.led n.durable.term) = ap (λ t. length (g.led t)) same in
    omega (arith, agrees.1, of_term, long, seen, at) in
    command_in_none book n.durable.term (length n.durable.log + 1)
    (All-weaker (ProposalAgrees g) (IsElsewhere n.durable.term (length n.durable.log + 1)) other book proposed)

module _
    {shape : Shape} {g : protocol.History} {member : ℕ} (n : Node) {book : List Proposal} (reached : Reached shape.faults g)
    (a : NodeAgrees shape g member n) (stand : AllStand (holder shape member) book 1 n.durable.log)
    (seen : All (PageStands shape book) n.volatile.pages) (proposed : All (ProposalAgrees g) book) (place : ℕ) (r : Request) (bytes : All (λ byte. byte < 256) r.value) where
  -- what is told at once proposes nothing
  reply_traced : (reply : Reply) → IsTraced shape g member n.durable book (act_of_reply place r reply n)
  reply_traced reply = silent_traced n.durable stand (act_of_reply place r reply n) seen refl refl (λ more log. All-nil (MessageStands shape more))

  module _ (leads : n.volatile.role ≡ Leader) where
    asking_traced : IsTraced shape g member n.durable book (act_of_asking place r n)
    asking_traced =
        let now = (act_of_adding place r n).node in
        adding_traced n reached stand (entry_for n.durable.term r) refl refl (refl, bytes) (nothing_behind reached a leads book proposed) (calling place r (act_of_entry r n).node)
        (act_of_asking place r n).sends leads seen
        (λ more log. some_appends_stand shape more member now a.of_shape log (up_to_date now))

    request_traced : (kept : Kept) → IsTraced shape g member n.durable book (act_of_request place r kept n)
    request_traced keeps.New =
        cond_both (is_full n.durable.log) (act_of_reply place r replies.Full n) _ (IsTraced shape g member n.durable book)
        (λ full. reply_traced replies.Full)
        (λ room.
        cond_both (is_busy n.durable.commit n.durable.log) (act_of_reply place r replies.Busy n) (act_of_asking place r n)
        (IsTraced shape g member n.durable book) (λ busy. reply_traced replies.Busy) (λ free. asking_traced))
    request_traced (keeps.Same outcome) =
        silent_traced n.durable stand (act_of_kept place r outcome n) seen refl refl (λ more log. All-nil (MessageStands shape more))
    request_traced keeps.Old = reply_traced replies.Old

  call_as_traced : (role : Role) → n.volatile.role ≡ role → IsTraced shape g member n.durable book (act_of_call_as role place r n)
  call_as_traced Follower e = reply_traced (replies.Elsewhere n.volatile.hint)
  call_as_traced Candidate e = reply_traced (replies.Elsewhere n.volatile.hint)
  call_as_traced Preparing e = reply_traced replies.Preparing
  call_as_traced Leader e = request_traced e (kept_of r.client r.seq (applied_heads n))

  pub call_turned : IsShape shape → TurnBridged shape g book member n.durable (act_of_call place r n)
  call_turned is = turned (call_bridged reached is a place r) (call_as_traced n.volatile.role refl)
