-- Call: what a leader kept of an answer is told of the commands that are committed, or is waited for again; and a request that it adds
-- stands at the end of its log.
use Rattle.std.proofs.Common.{◌≡◌, ℕ, true, List, [], ◌∷◌, ◌++◌, length, take, Some, refl, sym, ap, subst, ◌∙◌, inl, inr, arith, le_refl}
use Rattle.std.specs.List.{All}
use Rattle.std.proofs.lemmas.Bool.{cond_both}
use Rattle.std.proofs.lemmas.List.Elements.{All-append, All-cons, All-nil}
use Rattle.craft_base.specs.declared.command.Head.{Head}
use Rattle.craft_base.specs.declared.command.Reply.{Reply}
use Rattle.craft_base.specs.declared.command.Reply.TheVariants as replies
use Rattle.craft_base.specs.declared.command.Request.{Request}
use Rattle.entry_frames.specs.declared.role.Role.{Role}
use Rattle.entry_frames.specs.declared.role.Role.TheVariants.{Follower, Candidate, Preparing, Leader}
use Rattle.kv_apply.specs.Commands.{greatest_number, is_asked, kept_of, map_outcome}
use Rattle.kv_apply.specs.Laws.{IsKept, TellsIndexes, is_outrun}
use Rattle.kv_apply.specs.declared.outcome.Kept.{Kept}
use Rattle.kv_apply.specs.declared.outcome.Kept.TheVariants as keeps
use Rattle.kv_apply.specs.declared.outcome.Outcome.{Outcome}
use Rattle.kv_apply.proofs.Once.{kept_is_kept}
use Rattle.kv_apply.proofs.Within.{same_within}
use Rattle.world_model.specs.Nodes.{Node}
use Rattle.world_model.specs.Rules.Applying.{reply_of, version_awaited}
use Rattle.world_model.specs.Rules.Call.{act_of_asking, act_of_call, act_of_call_as, act_of_kept, act_of_reply, act_of_request, applied_heads, call_from, entry_for, is_busy, is_full, reply_for}
use Rattle.world_model.specs.Safety.{heads_in}
use Rattle.world_model.specs.Traces.{Command}
use Rattle.world_model.specs.declared.call.Called.{Called}
use Rattle.bridge.proofs.Replies.Answering.{ActAnswers, IsAnswering, Waits, in_role, of_role, silent}
use Rattle.bridge.proofs.Replies.Calls.{CallStands, IsToldBy, added_stands, calls_more, if_any_told}
use Rattle.bridge.proofs.Replies.Outcomes.{IsRefusal, IsTold, greater_in, heads_long}
use Rattle.bridge.proofs.Replies.Reads.{kept_stands, reads_more, reads_with_stand}
use Rattle.bridge.proofs.Replies.Standing.{StandForEach, same_heads, told_by_commands}

module _ (place : ℕ) (r : Request) (n : Node) (calls : IsAnswering n) where
  -- an act that tells the client something at once, which is so for what is committed
  reply_answers : (reply : Reply) → IsToldBy n.durable.log n.durable.commit (reply_for place r reply) → ActAnswers (act_of_reply place r reply n)
  reply_answers reply is = record {
    calls = calls;
    replies =
        All-cons (IsToldBy n.durable.log n.durable.commit) (reply_for place r reply) [] is (All-nil (IsToldBy n.durable.log n.durable.commit));
  }

  refusal_answers : (reply : Reply) → IsRefusal reply → ActAnswers (act_of_reply place r reply n)
  refusal_answers reply is = reply_answers reply (0, omega arith, λ commands stand. inl is)

  -- ---- what was answered before

  module _ (commands : List Command) (stand : StandForEach (take n.durable.commit n.durable.log) commands) where
    applied_are : heads_in commands ≡ applied_heads n
    applied_are = sym (same_heads (take n.durable.commit n.durable.log) commands stand)

    old_told : kept_of r.client r.seq (applied_heads n) ≡ keeps.Old → IsTold commands r.client r.seq replies.Old
    old_told e =
        let outrun : is_outrun r.seq (greatest_number r.client (applied_heads n)) ≡ true =
        subst (IsKept r.client r.seq (applied_heads n)) e (kept_is_kept r.client r.seq (applied_heads n)) in
        inr (inl (
          greater_in r.client r.seq commands (ap (λ (heads : List Head). is_outrun r.seq (greatest_number r.client heads)) applied_are ∙ outrun),
          refl,
        ))

    same_told :
        (o : Outcome) → kept_of r.client r.seq (applied_heads n) ≡ keeps.Same o → (reply : Reply) → reply_of n.durable.log o ≡ Some reply →
        IsTold commands r.client r.seq reply
    same_told o e reply is =
        let kept : IsKept r.client r.seq (applied_heads n) (keeps.Same o) =
        subst (IsKept r.client r.seq (applied_heads n)) e (kept_is_kept r.client r.seq (applied_heads n)) in
        let indexes : TellsIndexes (length commands) o =
        subst (λ (k : ℕ). TellsIndexes k o) (ap length (sym applied_are) ∙ heads_long commands) (same_within r.client r.seq (applied_heads n) o e) in
        inr (inr (record {
          came_to = o;
          is = ap (map_outcome r.client r.seq) applied_are ∙ kept.1;
          indexes = indexes;
          tells =
              told_by_commands n.durable.log n.durable.commit commands stand o indexes reply is;
        }))

  -- ---- a request that is added

  module _ (leads : n.volatile.role ≡ Leader) (asked : is_asked (entry_for n.durable.term r).head ≡ true) where
    asking_answers : ActAnswers (act_of_asking place r n)
    asking_answers =
        let entry = entry_for n.durable.term r in
        let log = n.durable.log ++ entry ∷ [] in
        let new : Called = record { index = length log; place = place; client = r.client; seq = r.seq } in
        let waits : Waits Leader n.durable n.volatile = of_role n Leader leads calls in
        let before : All (CallStands log) n.volatile.calls = calls_more n.durable.log (entry ∷ []) n.volatile.calls waits.0 in
        let all : All (CallStands log) (n.volatile.calls ++ new ∷ []) =
        All-append (CallStands log) n.volatile.calls (new ∷ []) before
        (All-cons (CallStands log) new [] (added_stands n.durable.log entry place r.client r.seq asked refl refl) (All-nil (CallStands log))) in
        silent (act_of_asking place r n) refl
        (in_role (act_of_asking place r n).node Leader leads (all, reads_more n.durable.log (entry ∷ []) n.durable.commit n.volatile.reads waits.1))

    request_answers : (kept : Kept) → kept_of r.client r.seq (applied_heads n) ≡ kept → ActAnswers (act_of_request place r kept n)
    request_answers keeps.New e =
        cond_both (is_full n.durable.log) (act_of_reply place r replies.Full n) _ ActAnswers (λ full. refusal_answers replies.Full tt)
        (λ room.
        cond_both (is_busy n.durable.commit n.durable.log) (act_of_reply place r replies.Busy n) (act_of_asking place r n) ActAnswers
        (λ busy. refusal_answers replies.Busy tt) (λ free. asking_answers))
    request_answers (keeps.Same o) e = record {
      calls =
          let waits : Waits Leader n.durable n.volatile = of_role n Leader leads calls in
          let c : Called = call_from place r in
          in_role (act_of_kept place r o n).node Leader leads (
            waits.0,
            reads_with_stand n.durable.log n.durable.commit c (version_awaited n.durable.log o) n.volatile.reads (kept_stands n.durable.log n.durable.commit c o e) waits.1,
          );
      replies =
          if_any_told (IsToldBy n.durable.log n.durable.commit) (reply_for place r) (reply_of n.durable.log o)
          (λ reply is. (n.durable.commit, le_refl _, λ commands stand. same_told commands stand o e reply is));
    }
    request_answers keeps.Old e = reply_answers replies.Old (n.durable.commit, le_refl _, λ commands stand. old_told commands stand e)

  call_as_answers : (role : Role) → n.volatile.role ≡ role → is_asked (entry_for n.durable.term r).head ≡ true → ActAnswers (act_of_call_as role place r n)
  call_as_answers Follower e asked = refusal_answers (replies.Elsewhere n.volatile.hint) tt
  call_as_answers Candidate e asked = refusal_answers (replies.Elsewhere n.volatile.hint) tt
  call_as_answers Preparing e asked = refusal_answers replies.Preparing tt
  call_as_answers Leader e asked = request_answers e asked (kept_of r.client r.seq (applied_heads n)) refl

  pub call_answers : is_asked (entry_for n.durable.term r).head ≡ true → ActAnswers (act_of_call place r n)
  call_answers asked = call_as_answers n.volatile.role refl asked
