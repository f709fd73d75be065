use Rattle.std.proofs.Common.{◌≡◌, ◌<◌, ◌+◌, ◌++◌, ℕ, List, length, Option, Some, ap, sym, subst, ◌∙◌, arith, add-one}
use Rattle.std.specs.Option.{option_to_list}
use Rattle.entry_frames.specs.Logs.{entry_at}
use Rattle.kv_apply.specs.Commands.{answer}
use Rattle.kv_apply.specs.Services as services
use Rattle.kv_apply.specs.Services.{count_of}
use Rattle.kv_apply.specs.declared.outcome.Outcome.{Outcome}
use Rattle.kv_apply.specs.declared.service.Service.{Service}
use Rattle.world_model.specs.Rules.Applying.{call_at}
use Rattle.world_model.specs.declared.call.ClientReply.{ClientReply}
use Rattle.node_core.specs.declared.act.Act.{Act}
use Rattle.node_core.specs.declared.member.Member.{Member}
use Rattle.node_core.specs.Serving.{Serves, heads_up_to, reads_told, reply_told}
use Rattle.node_core.proofs.Recorded.{there_is}
use Rattle.node_core.proofs.Serving.{heads_next, next_read, next_told, read_of_entry, told_of_entry}
use Rattle.node_core.proofs.act.Act.serve_one.Goals as goal

pub returns : goal.returns
returns c =
    let self = c.args.self in
    let m = self.member in
    let d = m.store.kept in
    let before = count_of m.service in
    let index = c.args.index in
    let member = c.in_ok-member.member in
    let outcome = c.in_ok-member.outcome in
    let answered = c.answer_if_any.new.self in
    let waits : Member = c.wait_at.new.self in
    let after : Act = record answered { member = waits } in
    let told = c.in_ok-answer_if_any.ensures.rest in
    let same : answered.member ≡ record m { service = member.service } = ap (λ (a : Act). a.member) told ∙ c.in_ok-member.ensures.rest in
    let member_now : waits ≡ record m { service = member.service; reads = waits.reads } =
    c.in_ok-wait_at.ensures.rest ∙ ap (λ (x : Member). record x { reads = waits.reads }) same in
    let service : waits.service ≡ member.service = ap (λ (x : Member). x.service) member_now in
    let next : index ≡ before + 1 = c.requires.next in
    let lt : before < length d.log = omega (arith, next, c.requires.within) in
    let there = there_is d.log before lt in
    let e = there.0 in
    let heads = heads_up_to before d in
    let here : entry_at d.log index ≡ Some e = ap (entry_at d.log) (next ∙ add-one before) ∙ there.1 in
    let one : Serves before (before + 1) self after = record {
      rest = ap (λ (a : Act). record a { member = waits }) told ∙ ap (λ (x : Member). record self { member = x; replies = answered.replies }) member_now
          ∙ ap (λ (s : Service). record self { member = record m { service = s; reads = waits.reads }; replies = answered.replies }) (sym service);
      count = ap count_of service ∙ c.in_ok-member.ensures.count ∙ next;
      service = λ stands.
          subst (λ (s : Service). services.Stands s (heads_up_to (before + 1) d)) (sym service)
          (subst (services.Stands member.service) (sym (heads_next d before e there.1)) (c.in_ok-member.ensures.service e heads here stands));
      replies = λ stands.
          c.in_ok-answer_if_any.ensures.replies
          ∙ ap (λ (r : Option ClientReply). self.replies.items ++ option_to_list r)
          (c.in_ok-told.ensures
          ∙ ap (λ (x : Member). reply_told x.store.kept.log outcome (call_at index x.calls.items)) c.in_ok-member.ensures.rest
          ∙ ap (λ (o : Outcome). reply_told d.log o (call_at index m.calls.items)) (c.in_ok-member.ensures.outcome e heads here stands)
          ∙ ap (λ (k : ℕ). reply_told d.log (answer e.head heads) (call_at k m.calls.items)) next)
          ∙ ap (λ (told : List ClientReply). self.replies.items ++ told)
          (told_of_entry d.log (call_at (before + 1) m.calls.items) e heads ∙ next_told d.log m.calls.items before e there.1);
      reads = λ stands.
          c.in_ok-wait_at.ensures.reads
          ∙ ap (λ (x : Member). reads_told x.store.kept.log outcome (call_at index x.calls.items) x.reads.items) same
          ∙ ap (λ (o : Outcome). reads_told d.log o (call_at index m.calls.items) m.reads.items) (c.in_ok-member.ensures.outcome e heads here stands)
          ∙ ap (λ (k : ℕ). reads_told d.log (answer e.head heads) (call_at k m.calls.items) m.reads.items) next
          ∙ read_of_entry d.log (call_at (before + 1) m.calls.items) e heads m.reads.items ∙ next_read d.log m.calls.items before e m.reads.items there.1;
    } in
    subst (λ (k : ℕ). Serves before k self after) (sym next) one
