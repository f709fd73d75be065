-- The commit index grows only up to the log's end, and what is told of the entries that it passes can be written.
use Rattle.std.proofs.Common.{◌≡◌, ℕ, ◌+◌, ◌-◌, ◌<◌, ◌≤◌, ◌==◌, nat_lt, List, [], ◌∷◌, filter, length, take, map, Option, None, Some, refl, sym, subst, ◌∙◌, arith, length-take-le}
use Rattle.std.specs.Option.{option_to_list}
use Rattle.std.specs.List.{All}
use Rattle.std.proofs.lemmas.Bool.{cond_both, ltb-true}
use Rattle.std.proofs.lemmas.List.{length-map, length-reverse}
use Rattle.std.proofs.lemmas.List.Elements.{All-append, All-cons, All-filter, All-from_get_or, All-head, All-nil, All-tail}
use Rattle.std.proofs.lemmas.List.FromFn.{length-range_with_len, get_or-range_with_len}
use Rattle.craft_base.specs.Shape.{Shape, IsShape}
use Rattle.craft_base.specs.declared.command.Entry.{Entry}
use Rattle.craft_base.specs.declared.command.Form.{Form}
use Rattle.craft_base.specs.declared.command.Form.TheVariants as forms
use Rattle.craft_base.specs.declared.command.Head.{Head}
use Rattle.craft_base.specs.declared.command.Reply.{Reply}
use Rattle.entry_frames.specs.Durable.{Durable}
use Rattle.entry_frames.specs.Limits.{last_place}
use Rattle.entry_frames.specs.Logs.{entry_at}
use Rattle.entry_frames.specs.Records.{Commit}
use Rattle.entry_frames.specs.Stored.{DurableInRange}
use Rattle.entry_frames.proofs.Stored.{fits_at}
use Rattle.kv_apply.specs.Commands.{answer, heads_of}
use Rattle.kv_apply.specs.Laws.{TellsIndexes}
use Rattle.kv_apply.specs.declared.outcome.Outcome.{Outcome}
use Rattle.kv_apply.specs.declared.outcome.Outcome.TheVariants as outcomes
use Rattle.kv_apply.proofs.Within.{answer_within}
use Rattle.world_model.specs.Nodes.{Node}
use Rattle.world_model.specs.Ranges.{CallInRange, IsMember, NodeInRange, ReplyHasSpelling}
use Rattle.world_model.specs.Rules.Acts.{Act, stays}
use Rattle.world_model.specs.Rules.Applying.{act_of_applying, act_of_commit, call_at, newly_committed, reading, reads_among, reads_at, reads_for, reads_with, replies_among, replies_at, replies_for, reply_of, reply_to, value_of, value_reply, version_awaited, waiting, whole_bytes}
use Rattle.world_model.specs.declared.call.Called.{Called}
use Rattle.world_model.specs.declared.call.ClientReply.{ClientReply}
use Rattle.world_model.proofs.Ranges.Acts.{ActInRange, answering_in_range, enters_in_range, stays_in_range}
use Rattle.world_model.proofs.Ranges.Records.{commit_fits}
use Rattle.world_model.proofs.Ranges.Replies.{ReplyInRange, reply_spelled}
use Rattle.world_model.proofs.Ranges.Starts.{found_of}
use Rattle.world_model.proofs.Ranges.Values.{value_short}

-- ---- outcomes as they are told

abbrev IfInRange : Shape → Option Reply → Type 0
IfInRange shape None = Unit {0}
IfInRange shape (Some reply) = ReplyInRange shape reply

module _ (shape : Shape) (d : Durable) (a : DurableInRange shape d) where
  -- a value that the log holds is as long as values can be
  value_in_range : (version : ℕ) (held : Option Entry) → entry_at d.log version ≡ held → version ≤ last_place → IfInRange shape (value_reply version (value_of held))
  value_in_range version None e most = tt
  value_in_range version (Some entry) e most = by_form entry.form refl where
    by_form : (form : Form) → entry.form ≡ form → IfInRange shape (value_reply version (whole_bytes form))
    by_form (forms.Whole bytes) is = (most, value_short shape.need entry bytes (fits_at shape.need 0 d.term d.log version entry a.stored.entries e) is)
    by_form (forms.Part bytes) is = tt

  -- so is what is told of an outcome whose versions are indexes of the log
  pub outcome_in_range : (n : ℕ) (outcome : Outcome) → n ≤ last_place → TellsIndexes n outcome → IfInRange shape (reply_of d.log outcome)
  outcome_in_range n (outcomes.Done version) most tells = omega (arith, most, tells.1)
  outcome_in_range n (outcomes.Differs version) most tells = omega (arith, most, tells)
  outcome_in_range n (outcomes.Gone was_there) most tells = tt
  outcome_in_range n (outcomes.Found version) most tells = value_in_range version (entry_at d.log version) refl (omega (arith, most, tells.1))
  outcome_in_range n outcomes.Nothing most tells = tt
  outcome_in_range n outcomes.Old most tells = tt

-- so many commands as entries
pub heads_long : (log : List Entry) (n : ℕ) → n ≤ length log → length (heads_of (take n log)) ≡ n
heads_long log n within = length-reverse (map (λ e. e.head) (take n log)) ∙ length-map (take n log) (λ e. e.head) ∙ length-take-le n log within

newly_within : (before now most : ℕ) → now ≤ most → All (λ index. (1 ≤ index) × (index ≤ most)) (newly_committed before now)
newly_within before now most within =
    All-from_get_or (λ index. (1 ≤ index) × (index ≤ most)) (newly_committed before now) 0 λ i lt.
    let below : i < now - before = subst (λ k. i < k) (length-range_with_len (before + 1) (now - before)) lt in
    subst (λ index. (1 ≤ index) × (index ≤ most)) (sym (get_or-range_with_len (before + 1) (now - before) i 0 below)) (omega arith, omega (arith, below, within))

-- ---- reads

reading_in_range : (c : Called) (reads : List Called) → CallInRange c → All CallInRange reads → All CallInRange (reading c reads)
reading_in_range c reads of_call all =
    let before : List Called = filter (λ r. nat_lt r.client c.client) reads in
    let behind : List Called = filter (λ r. nat_lt c.client r.client) reads in
    All-append CallInRange before (c ∷ behind) (All-filter (λ r. nat_lt r.client c.client) CallInRange reads all)
    (All-cons CallInRange c behind of_call (All-filter (λ r. nat_lt c.client r.client) CallInRange reads all))

pub reads_with_in_range : (c : Called) → CallInRange c → (version : Option ℕ) (reads : List Called) → All CallInRange reads → All CallInRange (reads_with c version reads)
reads_with_in_range c of_call None reads all = all
reads_with_in_range c of_call (Some version) reads all = reading_in_range (record c { index = version }) reads of_call all

abbrev IsFound : Option Called → Type 0
IsFound None = Unit {0}
IsFound (Some c) = CallInRange c

found : (calls : List Called) → All CallInRange calls → (index : ℕ) (call : Option Called) → call_at index calls ≡ call → IsFound call
found calls ranged index None e = tt
found calls ranged index (Some c) e = found_of CallInRange (λ c. c.index == index) calls c ranged e

reads_for_in_range :
    (log : List Entry) (call : Option Called) → IsFound call → (entry : Option Entry) (earlier : List Head) (reads : List Called) → All CallInRange reads →
    All CallInRange (reads_for log call entry earlier reads)
reads_for_in_range log None of_call entry earlier reads all = all
reads_for_in_range log (Some c) of_call None earlier reads all = all
reads_for_in_range log (Some c) of_call (Some entry) earlier reads all =
    reads_with_in_range c of_call (version_awaited log (answer entry.head earlier)) reads all

reads_among_in_range :
    (log : List Entry) (calls : List Called) → All CallInRange calls → (indexes : List ℕ) (reads : List Called) → All CallInRange reads →
    All CallInRange (reads_among log calls indexes reads)
reads_among_in_range log calls ranged [] reads all = all
reads_among_in_range log calls ranged (index ∷ indexes) reads all =
    reads_among_in_range log calls ranged indexes (reads_at log calls index reads)
    (reads_for_in_range log (call_at index calls) (found calls ranged index (call_at index calls) refl) (entry_at log index) (heads_of (take (index - 1) log)) reads all)

-- ---- replies

module _ (shape : Shape) (is : IsShape shape) (member : ℕ) (is_member : IsMember shape member) (make : Reply → ClientReply)
    (fits : (reply : Reply) → ReplyInRange shape reply → ReplyHasSpelling shape member (make reply)) where
  -- a reply, if there is one
  pub one_spelled : (reply : Option Reply) → IfInRange shape reply → All (ReplyHasSpelling shape member) (map make (option_to_list reply))
  one_spelled None ranged = All-nil (ReplyHasSpelling shape member)
  one_spelled (Some reply) ranged = All-cons (ReplyHasSpelling shape member) (make reply) [] (fits reply ranged) (All-nil (ReplyHasSpelling shape member))

module _
    (shape : Shape) (is : IsShape shape) (member : ℕ) (is_member : IsMember shape member) (d : Durable) (a : DurableInRange shape d)
    (calls : List Called) (ranged : All CallInRange calls) where
  for_entry :
      (call : Option Called) (entry : Option Entry) (earlier : List Head) → IsFound call → length earlier + 1 ≤ last_place →
      All (ReplyHasSpelling shape member) (replies_for d.log call entry earlier)
  for_entry None entry earlier of_call most = All-nil (ReplyHasSpelling shape member)
  for_entry (Some c) None earlier of_call most = All-nil (ReplyHasSpelling shape member)
  for_entry (Some c) (Some entry) earlier of_call most =
      one_spelled shape is member is_member (reply_to c) (λ reply in_range. reply_spelled shape is member is_member (reply_to c reply) of_call.0 of_call.1 in_range)
      (reply_of d.log (answer entry.head earlier))
      (outcome_in_range shape d a (length earlier + 1) (answer entry.head earlier) most (answer_within entry.head earlier))

  at_index : (index : ℕ) → 1 ≤ index → index ≤ length d.log → All (ReplyHasSpelling shape member) (replies_at d.log calls index)
  at_index index low high =
      let long : length (heads_of (take (index - 1) d.log)) ≡ index - 1 = heads_long d.log (index - 1) (omega (arith, high)) in
      for_entry (call_at index calls) (entry_at d.log index) (heads_of (take (index - 1) d.log)) (found calls ranged index (call_at index calls) refl)
      (omega (arith, long, low, high, a.short))

  among : (indexes : List ℕ) → All (λ index. (1 ≤ index) × (index ≤ length d.log)) indexes → All (ReplyHasSpelling shape member) (replies_among d.log calls indexes)
  among [] within = All-nil (ReplyHasSpelling shape member)
  among (index ∷ indexes) within =
      let P = λ (index : ℕ). (1 ≤ index) × (index ≤ length d.log) in
      let first = All-head P index indexes within in
      All-append (ReplyHasSpelling shape member) (replies_at d.log calls index) (replies_among d.log calls indexes) (at_index index first.0 first.1)
      (among indexes (All-tail P index indexes within))

  -- what is told of the entries that a commit index passes
  pub told_in_range : (index : ℕ) → index ≤ length d.log → All (ReplyHasSpelling shape member) (replies_among d.log calls (newly_committed d.commit index))
  told_in_range index within = among (newly_committed d.commit index) (newly_within d.commit index (length d.log) within)

-- ---- the rule

module _ {shape : Shape} (is : IsShape shape) {member : ℕ} {n : Node} (a : NodeInRange shape member n) (index : ℕ) (within : index ≤ length n.durable.log) where
  applying_in_range : n.durable.commit < index → ActInRange shape member n (act_of_applying index n)
  applying_in_range above =
      answering_in_range (replies_among n.durable.log n.volatile.calls (newly_committed n.durable.commit index)) _
      (told_in_range shape is member a.is_member n.durable a.durable n.volatile.calls a.clients.1.0 index within)
      (enters_in_range a (Commit index ∷ []) (waiting index n) (record { behind = above; within = within }, tt)
      (commit_fits shape.need index (omega (arith, above)) (omega (arith, within, a.durable.short)), tt) (
        a.clients.0,
        (
          All-filter (λ c. nat_lt index c.index) CallInRange n.volatile.calls a.clients.1.0,
          reads_among_in_range n.durable.log n.volatile.calls a.clients.1.0 (newly_committed n.durable.commit index) n.volatile.reads a.clients.1.1,
        ),
      ) a.knows a.pages)

  pub commit_in_range : ActInRange shape member n (act_of_commit index n)
  commit_in_range =
      cond_both (nat_lt n.durable.commit index) (act_of_applying index n) (stays n) (ActInRange shape member n)
      (λ above. applying_in_range (ltb-true _ _ above)) (λ same. stays_in_range a)

-- whatever else is true of the node it leaves as it is
pub commit_keeps : (n : Node) (index : ℕ) (P : Act → Type 0) → P (act_of_applying index n) → P (stays n) → P (act_of_commit index n)
commit_keeps n index P grown same =
    cond_both (nat_lt n.durable.commit index) (act_of_applying index n) (stays n) P (λ above. grown) (λ below. same)
