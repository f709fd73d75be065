-- Call: what a client is told at once can be written, and so can the entry of a request and what is sent of it.
use Rattle.std.proofs.Common.{◌≡◌, ◌≢◌, ℕ, ◌+◌, ◌<◌, ◌≤◌, ◌==◌, nat_le, Bool, true, false, [], ◌∷◌, ◌++◌, length, map, refl, sym, subst, arith, length-append}
use Rattle.std.specs.Prelude.{◌||◌}
use Rattle.std.specs.List.{All}
use Rattle.std.specs.Option.{option_to_list}
use Rattle.std.proofs.lemmas.Bool.{cond_both, leb-false}
use Rattle.std.proofs.lemmas.List.Elements.{All-append, All-cons, All-filter, All-map, All-nil, All-weaker}
use Rattle.craft_base.specs.Knowledge.{Heard, Told, Answered, Beat, From, Matched, Refused, Voted, next_index}
use Rattle.craft_base.specs.Shape.{Shape, IsShape}
use Rattle.craft_base.specs.declared.command.Reply.{Reply}
use Rattle.craft_base.specs.declared.command.Reply.TheVariants as replies
use Rattle.craft_base.specs.declared.command.Request.{Request}
use Rattle.entry_frames.specs.Bulk.{bulk_of}
use Rattle.entry_frames.specs.Durable.{IsNextEntry}
use Rattle.entry_frames.specs.Formats.{Fits}
use Rattle.entry_frames.specs.MessageFields.{request_fields}
use Rattle.entry_frames.specs.Records.{Add}
use Rattle.entry_frames.specs.declared.role.Role.{Role}
use Rattle.entry_frames.specs.declared.role.Role.TheVariants.{Follower, Candidate, Preparing, Leader}
use Rattle.entry_frames.proofs.Stored.{term_most}
use Rattle.kv_apply.specs.Commands.{kept_of}
use Rattle.kv_apply.specs.declared.outcome.Kept.{Kept}
use Rattle.kv_apply.specs.declared.outcome.Kept.TheVariants as keeps
use Rattle.kv_apply.proofs.Within.{same_within}
use Rattle.world_model.specs.Nodes.{Node}
use Rattle.world_model.specs.Ranges.{CallInRange, HasSpelling, IsMember, ItemInRange, NodeInRange, ReplyHasSpelling}
use Rattle.world_model.specs.Rules.Acts.{keeping, others, stays}
use Rattle.world_model.specs.Rules.Applying.{reply_of, version_awaited}
use Rattle.world_model.specs.Rules.Call as rule
use Rattle.world_model.specs.Rules.Say.{append_to}
use Rattle.world_model.specs.declared.call.Called.{Called}
use Rattle.world_model.proofs.Ranges.Acts.{ActInRange, answering_in_range, enters_in_range, followed_in_range, keeping_in_range, others_are, sending_in_range, stays_in_range}
use Rattle.world_model.proofs.Ranges.Applying.{heads_long, one_spelled, outcome_in_range, reads_with_in_range}
use Rattle.world_model.proofs.Ranges.Knowing.{knows_as, leader_begun}
use Rattle.world_model.proofs.Ranges.Records.{add_fits}
use Rattle.world_model.proofs.Ranges.Replies.{ReplyInRange, reply_spelled}
use Rattle.world_model.proofs.Ranges.Requests.{client_in_range, entry_for_fits, seq_in_range}
use Rattle.world_model.proofs.Ranges.Say.{append_to_fits}

-- what was heard of a log was heard of a longer one too
told_longer : (last : ℕ) (at : ℕ) (told : Told) → ItemInRange last (From 0 at told) → ItemInRange (last + 1) (From 0 at told)
told_longer last at (Voted granted) ranged = tt
told_longer last at (Matched prev count mask) ranged = omega (arith, ranged)
told_longer last at (Refused next) ranged = (omega (arith, ranged.0), ranged.1)
told_longer last at Answered ranged = tt

pub item_longer : (last : ℕ) (item : Heard) → ItemInRange last item → ItemInRange (last + 1) item
item_longer last Beat ranged = tt
item_longer last (From sender at told) ranged = told_longer last at told ranged

module _ {shape : Shape} (is : IsShape shape) {member : ℕ} {n : Node} (a : NodeInRange shape member n) (place : ℕ) (r : Request) (fits : Fits request_fields r) where
  spelled : (reply : Reply) → ReplyInRange shape reply → ReplyHasSpelling shape member (rule.reply_for place r reply)
  spelled reply ranged =
      reply_spelled shape is member a.is_member (rule.reply_for place r reply) (client_in_range r fits) (seq_in_range r fits) ranged

  replies_in_range : (reply : Reply) → ReplyInRange shape reply → ActInRange shape member n (rule.act_of_reply place r reply n)
  replies_in_range reply ranged =
      answering_in_range (rule.reply_for place r reply ∷ []) (stays n)
      (All-cons (ReplyHasSpelling shape member) (rule.reply_for place r reply) [] (spelled reply ranged) (All-nil (ReplyHasSpelling shape member))) (stays_in_range a)

  module _ (leads : n.volatile.role ≡ Leader) where
    added : Node
    added = (rule.act_of_adding place r n).node

    adding_in_range : length n.durable.log < rule.full_entries → ActInRange shape member n (rule.act_of_adding place r n)
    adding_in_range room =
        let entry = rule.entry_for n.durable.term r in
        let longer : length (n.durable.log ++ entry ∷ []) ≡ length n.durable.log + 1 = length-append n.durable.log (entry ∷ []) in
        let begun : 1 ≤ n.durable.term = leader_begun a leads in
        let knows = knows_as a Leader leads in
        let next : IsNextEntry n.durable entry = record {
          room = omega (arith, room);
          no_earlier = term_most shape.need 0 n.durable.term n.durable.log (length n.durable.log) a.durable.stored.entries;
          no_later = omega arith;
        } in
        let heard : All (ItemInRange (length (n.durable.log ++ entry ∷ []))) n.volatile.heard =
        subst (λ (last : ℕ). All (ItemInRange last) n.volatile.heard) (sym longer)
        (All-weaker (ItemInRange (length n.durable.log)) (ItemInRange (length n.durable.log + 1)) (item_longer (length n.durable.log)) n.volatile.heard knows.2) in
        let c : Called = record { index = length (n.durable.log ++ entry ∷ []); place = place; client = r.client; seq = r.seq } in
        enters_in_range a (Add entry ∷ []) (rule.calling place r (rule.act_of_entry r n).node) (next, tt)
        (add_fits shape.need entry (entry_for_fits shape.need n.durable.term begun a.durable.stored.term_most r fits), tt) (
          a.clients.0,
          (All-append CallInRange n.volatile.calls (c ∷ []) a.clients.1.0 (All-cons CallInRange c [] (client_in_range r fits, seq_in_range r fits) (All-nil CallInRange)), a.clients.1.1),
        )
        (rw leads (knows.0, omega (arith, knows.1, longer), heard, omega (arith, longer))) a.pages

    telling_in_range : {now : Node} → NodeInRange shape member now → now.volatile.role ≡ Leader → ActInRange shape member now (rule.act_of_telling now)
    telling_in_range {now = now} b leading =
        let waits : ℕ → Bool = λ receiver. next_index receiver now.volatile.heard now.volatile.first == length now.durable.log in
        let some = All-filter waits (λ receiver. IsMember shape receiver × (receiver ≢ member)) (others now) (others_are is b (leader_begun b leading)) in
        sending_in_range (map (append_to now) (rule.up_to_date now)) (stays now)
        (All-map (HasSpelling shape) (append_to now) (rule.up_to_date now)
        (All-weaker (λ receiver. IsMember shape receiver × (receiver ≢ member)) (λ receiver. HasSpelling shape (append_to now receiver))
        (λ receiver to. append_to_fits is b leading receiver to.0 to.1) (rule.up_to_date now) some)) (stays_in_range b)

    asking_in_range : length n.durable.log < rule.full_entries → ActInRange shape member n (rule.act_of_asking place r n)
    asking_in_range room =
        let first = adding_in_range room in
        followed_in_range (rule.act_of_adding place r n) rule.act_of_telling refl first (telling_in_range first.node leads)

    new_in_range : ActInRange shape member n (rule.act_of_new_request place r n)
    new_in_range =
        cond_both (rule.is_full n.durable.log) (rule.act_of_reply place r replies.Full n) _ (ActInRange shape member n)
        (λ full. replies_in_range replies.Full tt)
        (λ room.
        cond_both (rule.is_busy n.durable.commit n.durable.log) (rule.act_of_reply place r replies.Busy n) (rule.act_of_asking place r n) (ActInRange shape member n)
        (λ busy. replies_in_range replies.Busy tt)
        (λ free. asking_in_range (has_room (nat_le rule.full_entries (length n.durable.log)) (nat_le rule.full_bytes (bulk_of n.durable.log)) refl room)))
      where
        has_room : (long heavy : Bool) → nat_le rule.full_entries (length n.durable.log) ≡ long → (long || heavy) ≡ false → length n.durable.log < rule.full_entries
        has_room true heavy e none = absurd cc
        has_room false heavy e none = omega (arith, leb-false rule.full_entries (length n.durable.log) e)

    request_in_range : (kept : Kept) → kept_of r.client r.seq (rule.applied_heads n) ≡ kept → ActInRange shape member n (rule.act_of_request place r kept n)
    request_in_range keeps.New e = new_in_range
    request_in_range (keeps.Same outcome) e =
        answering_in_range (map (rule.reply_for place r) (option_to_list (reply_of n.durable.log outcome))) (keeping (rule.reading_anew place r outcome n) (stays n))
        (one_spelled shape is member a.is_member (rule.reply_for place r) spelled (reply_of n.durable.log outcome)
        (outcome_in_range shape n.durable a.durable (length (rule.applied_heads n)) outcome
        (omega (arith, heads_long n.durable.log n.durable.commit a.durable.commit, a.durable.commit, a.durable.short))
        (same_within r.client r.seq (rule.applied_heads n) outcome e)))
        (keeping_in_range (rule.reading_anew place r outcome n) (stays n) (
          a.clients.0,
          (
            a.clients.1.0,
            reads_with_in_range (rule.call_from place r) (client_in_range r fits, seq_in_range r fits) (version_awaited n.durable.log outcome) n.volatile.reads a.clients.1.1,
          ),
        ) a.knows a.pages (stays_in_range a))
    request_in_range keeps.Old e = replies_in_range replies.Old tt

  call_as_in_range : (role : Role) → n.volatile.role ≡ role → ActInRange shape member n (rule.act_of_call_as role place r n)
  call_as_in_range Follower e = replies_in_range (replies.Elsewhere n.volatile.hint) a.clients.0
  call_as_in_range Candidate e = replies_in_range (replies.Elsewhere n.volatile.hint) a.clients.0
  call_as_in_range Preparing e = replies_in_range replies.Preparing tt
  call_as_in_range Leader e = request_in_range e (kept_of r.client r.seq (rule.applied_heads n)) refl

  pub call_in_range : ActInRange shape member n (rule.act_of_call place r n)
  call_in_range = call_as_in_range n.volatile.role refl
