use Rattle.std.proofs.Common.{◌≡◌, ℕ, ◌+◌, ◌≤◌, ◌==◌, nat_le, ◌∷◌, [], List, min, length, take, drop, true, false, refl, sym, subst, ap, ◌∙◌}
use Rattle.std.specs.List.{All}
use Rattle.std.proofs.lemmas.Bool.{and_parts, leb-true}
use Rattle.std.proofs.lemmas.Result.{IfOk-weaker}
use Rattle.entry_frames.specs.Logs.{term_at}
use Rattle.entry_frames.specs.MessageParts.{body_of, commit_of, entries_of, prev_of, prev_term_of, sender_byte}
use Rattle.entry_frames.specs.Records.{Record}
use Rattle.entry_frames.specs.declared.peer.Peer.TheVariants.{Matched}
use Rattle.full_append.specs.Plans.{AreItsRecords, IsPlan, completed_indexes, log_after, planned_records}
use Rattle.full_append.proofs.Carrying.{mask_of_any, only_the_log}
use Rattle.log_store.specs.Stores.{shown}
use Rattle.world_model.specs.Nodes.{Node}
use Rattle.world_model.specs.Rules.Acts.{followed_by, message_of, recording_all, sending, stays}
use Rattle.world_model.specs.Rules.Append.{act_of_entries, act_of_match, difference, has_before, is_clash, mask_of, taken_records}
use Rattle.world_model.specs.Rules.Applying.{act_of_commit}
use Rattle.world_model.proofs.Ranges.Applying.{commit_keeps}
use Rattle.node_core.specs.Acting.{IsActed, is_preparing}
use Rattle.node_core.specs.Appending.{IsPlaceOf}
use Rattle.node_core.proofs.Acting.{acted_after}
use Rattle.node_core.proofs.Choosing.{taken_if_suited}
use Rattle.node_core.proofs.Serving.{is_served}
use Rattle.node_core.proofs.Taking.{commits_later, places_of}
use Rattle.node_core.proofs.act.Act.carry_out.Goals as goal

pub change_log-requires-clause-places : goal.change_log-requires-clause-places
change_log-requires-clause-places c =
    let frame = c.args.append.now.frame in
    let body = body_of frame in
    let d = c.args.self.member.store.kept in
    let plan = subst (IsPlan (shown c.args.self.member.store.shape d) (prev_of body) (prev_term_of body) (commit_of body) (entries_of body)) c.in-Take.is c.requires.plan in
    let wholes : c.deref.result.now ≡ completed_indexes (prev_of body) d.log (entries_of body) = c.deref.ensures.value ∙ plan.2.wholes_are in
    subst (λ (ws : List ℕ). All (IsPlaceOf frame) ws) (sym wholes) (places_of (prev_of body) d.log (entries_of body) c.requires.few)

pub returns-in_ok-act-in-Take-2 : goal.returns-in_ok-act-in-Take-2
returns-in_ok-act-in-Take-2 c = IfOk-weaker c.match_with.result _ _ (λ x said n is.
    let frame = c.args.append.now.frame in
    let body = body_of frame in
    let leader = sender_byte frame in
    let prev = prev_of body in
    let es = entries_of body in
    let self = c.args.self in
    let act1 = c.in_ok-act-in-Take.act in
    let act2 = c.in_ok-act-in-Take-2.act in
    let d = self.member.store.kept in
    let own = is.stands.of_durable in
    let plan = subst (IsPlan (shown self.member.store.shape d) prev (prev_term_of body) (commit_of body) es) c.in-Take.is c.requires.plan in
    let has : has_before n.durable.log prev (prev_term_of body) ≡ true = ap (λ e. has_before e.log prev (prev_term_of body)) (sym own) ∙ plan.0 in
    let clear : is_clash n.durable.commit (difference prev n.durable.log es) ≡ false = ap (λ e. is_clash e.commit (difference prev e.log es)) (sym own) ∙ plan.1 in
    let within : prev ≤ length n.durable.log =
    leb-true prev (length n.durable.log) (and_parts (nat_le prev (length n.durable.log)) (term_at n.durable.log prev == prev_term_of body) has).0 in
    let its = subst (AreItsRecords prev d.log es) c.in-Take.is c.requires.records in
    let records : planned_records prev es c.in-Take.cut c.deref.result.now c.in-Take.first_new ≡ taken_records prev n.durable.log es =
    ap (λ ws. planned_records prev es c.in-Take.cut ws c.in-Take.first_new) c.deref.ensures.value ∙ its ∙ ap (λ e. taken_records prev e.log es) own in
    let first : IsActed (act_of_entries prev es n) self act1 =
    subst (λ (rs : List Record). IsActed (recording_all rs (stays n)) self act1) records (c.in_ok-act-in-Take.ensures.acts n is) in
    let taken : Node = (act_of_entries prev es n).node in
    let theirs = min (commit_of body) (prev + length es) in
    let still : taken.durable.commit ≡ d.commit = ap (λ e. e.commit) (only_the_log n.durable prev es within) ∙ ap (λ e. e.commit) (sym own) in
    let second : IsActed (act_of_commit theirs taken) act1 act2 =
    subst (λ a. IsActed a act1 act2) (ap (λ k. act_of_commit k taken) plan.2.commit_is ∙ commits_later taken d.commit theirs still) (c.in_ok-act-in-Take-2.ensures taken first.node) in
    let now : Node = (act_of_commit theirs taken).node in
    let log_now : now.durable.log ≡ taken.durable.log = commit_keeps taken theirs (λ act. act.node.durable.log ≡ taken.durable.log) refl refl in
    let mask : c.in-Take.mask ≡ mask_of (take (length es) (drop prev now.durable.log)) =
    plan.2.mask_is ∙ ap (λ e. mask_of (take (length es) (drop prev (log_after prev e.log es)))) own ∙ mask_of_any n.durable prev es within
    ∙ ap (λ log. mask_of (take (length es) (drop prev log))) (sym log_now) in
    let third : IsActed (act_of_match leader prev (length es) now) act2 x =
    subst (λ m. IsActed (sending (message_of now (Matched prev (length es) m) leader ∷ []) (stays now)) act2 x) mask (said now second.node) in
    subst (λ a. IsActed a self x) (sym (taken_if_suited n leader prev (prev_term_of body) (commit_of body) es has clear))
    (acted_after (act_of_entries prev es n) (λ t. followed_by (act_of_commit theirs t) (act_of_match leader prev (length es))) self act1 x first
    (acted_after (act_of_commit theirs taken) (act_of_match leader prev (length es)) act1 act2 x second third)))
    c.match_with.ensures

pub commit_to-requires-clause-free : goal.commit_to-requires-clause-free
commit_to-requires-clause-free c = ap is_preparing c.in_ok-act-in-Take.ensures.role ∙ c.requires.free

pub commit_to-requires-clause-served : goal.commit_to-requires-clause-served
commit_to-requires-clause-served c =
    let one = c.requires.stands in
    is_served c.in_ok-act-in-Take.act.member _ (c.in_ok-act-in-Take.ensures.acts one.0 one.1).node
