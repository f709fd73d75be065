-- The map of a member as its log changes, and as it applies more of it.
use Rattle.std.proofs.Common.{◌≡◌, ℕ, zero, suc, ◌+◌, ◌-◌, ◌≤◌, List, [], ◌∷◌, ◌++◌, length, take, map, reverse, false, Option, None, Some, refl, ap, sym, subst, ◌∙◌, arith, add-one, append-nil, append_assoc}
use Rattle.std.specs.Prelude.{option_map}
use Rattle.std.specs.List.{range_with_len}
use Rattle.std.specs.Option.{option_to_list}
use Rattle.std.proofs.lemmas.List.{take-append-le, take-take}
use Rattle.commit_rules.proofs.Rows.{row_more}
use Rattle.craft_base.specs.Shape.{Shape}
use Rattle.craft_base.specs.declared.command.Entry.{Entry}
use Rattle.craft_base.specs.declared.command.Head.{Head}
use Rattle.entry_frames.specs.Durable.{CanApply, Durable, applied, complete_at}
use Rattle.entry_frames.specs.Formats.{Fits}
use Rattle.entry_frames.specs.Logs.{entry_at}
use Rattle.entry_frames.specs.Records.{Record, Term, Add, Cut, Whole, Commit, record_fields}
use Rattle.full_append.proofs.Lists.{take_one_more}
use Rattle.kv_apply.specs.Commands.{answer, heads_of}
use Rattle.kv_apply.specs.Services as services
use Rattle.kv_apply.specs.Services.{count_of}
use Rattle.kv_apply.specs.declared.outcome.Outcome.{Outcome}
use Rattle.kv_apply.proofs.Logs.{heads_with}
use Rattle.world_model.specs.Nodes.{Node}
use Rattle.world_model.specs.Rules.Acts.{recording, stays}
use Rattle.world_model.specs.Rules.Applying.{call_at, newly_committed, reads_among, reads_at, reads_for, replies_among, replies_at, replies_for, reply_of, reply_to}
use Rattle.world_model.specs.Rules.Call.{applied_heads}
use Rattle.world_model.specs.declared.call.Called.{Called}
use Rattle.world_model.specs.declared.call.ClientReply.{ClientReply}
use Rattle.world_model.proofs.Ranges.Applying.{heads_long}
use Rattle.node_core.specs.declared.act.Act.{Act}
use Rattle.node_core.specs.declared.member.Member.{Member}
use Rattle.node_core.specs.Acting.{IsActed, IsMade, IsNode, is_commit, MayChange, MayEdit}
use Rattle.node_core.proofs.Gathering.{still_gathers}
use Rattle.node_core.proofs.Showing.{still_shown}
use Rattle.node_core.specs.Serving.{IsServed, Serves, heads_up_to, reads_told, reply_told}

-- ---- what is committed of a log

heads_completed : (log : List Entry) (position n : ℕ) (bytes : List ℕ) → map (λ e. e.head) (take n (complete_at log position bytes)) ≡ map (λ e. e.head) (take n log)
heads_completed [] position n bytes = refl
heads_completed (e ∷ log) zero zero bytes = refl
heads_completed (e ∷ log) (suc position) zero bytes = refl
heads_completed (e ∷ log) zero (suc n) bytes = refl
heads_completed (e ∷ log) (suc position) (suc n) bytes = ap (λ hs. e.head ∷ hs) (heads_completed log position n bytes)

-- whatever record is applied that doesn't move the commit index, the commands up to there stay
heads_stay : (shape : Shape) (d : Durable) (r : Record) → CanApply shape d r → d.commit ≤ length d.log → is_commit r ≡ false →
    heads_up_to (applied d r).commit (applied d r) ≡ heads_up_to d.commit d
heads_stay shape d (Term term vote) can within none = refl
heads_stay shape d (Add e) can within none = ap heads_of (take-append-le d.commit d.log (e ∷ []) within)
heads_stay shape d (Cut index) can within none = ap heads_of (take-take d.commit (index - 1) d.log (omega (arith, can.behind)))
heads_stay shape d (Whole index bytes) can within none = ap (λ (hs : List Head). reverse hs) (heads_completed d.log (index - 1) d.commit bytes)
heads_stay shape d (Commit index) can within none = absurd cc

commit_stays : (d : Durable) (r : Record) → is_commit r ≡ false → (applied d r).commit ≡ d.commit
commit_stays d (Term term vote) none = refl
commit_stays d (Add e) none = refl
commit_stays d (Cut index) none = refl
commit_stays d (Whole index bytes) none = refl
commit_stays d (Commit index) none = absurd cc

-- ---- a record

-- a record that was made is that of the rule, unless it moves the commit index
pub recorded_once :
    (r : Record) (before after : Act) → CanApply before.member.store.shape before.member.store.kept r → Fits (record_fields before.member.store.shape.need) r → is_commit r ≡ false →
    MayChange before.member r → MayEdit before.member r → IsMade r before after → (n : Node) → IsNode before.member n → IsActed (recording r (stays n)) before after
recorded_once r before after can fits none free edit made n is =
    let m = before.member in
    let s = is.stands in
    let now : Node = record n { durable = applied n.durable r } in
    let stay : heads_up_to (applied n.durable r).commit (applied n.durable r) ≡ applied_heads n =
    subst (λ (d : Durable). heads_up_to (applied d r).commit (applied d r) ≡ heads_up_to d.commit d) s.of_durable
    (heads_stay m.store.shape m.store.kept r can m.store.is_log.committed none) in
    let is_now : IsNode (record m { store = after.member.store }) now = record {
      stands = record {
        of_shape = s.of_shape;
        of_me = s.of_me;
        of_durable = made.kept ∙ ap (λ (d : Durable). applied d r) s.of_durable;
        of_role = s.of_role;
        of_quiet = s.of_quiet;
        of_hint = s.of_hint;
        of_heard = s.of_heard;
        settled = subst (λ (k : ℕ). m.heard.window.settled ≤ k) (sym (commit_stays n.durable r none)) s.settled;
        of_prep = still_shown m.prep n.shape n.me n.volatile.pages m.role n.durable r free s.of_prep;
        of_gather = still_gathers n.shape n.me n.volatile.pages n.volatile.want m.role m.gather n.durable r edit s.of_gather;
        of_calls = s.of_calls;
        of_reads = s.of_reads;
      };
      of_store = made.shape ∙ is.of_store;
      of_service = subst (services.Stands m.service) (sym stay) is.of_service;
    } in record {
      node = subst (λ (x : Member). IsNode x now) (sym made.member) is_now;
      same = made.shape;
      may = record { apply = (can, tt); written = (fits, tt) };
      kept = made.kept;
      records = made.group;
      cuts = made.cuts;
      wholes = made.wholes;
      replies = ap (λ v. v.items) made.told.0 ∙ sym (append-nil before.replies.items);
      sends = ap (λ v. v.items) made.told.1 ∙ sym (append-nil before.sends.items);
    }

-- ---- entries that are applied

-- a member that is a node has applied what is committed
pub is_served : (m : Member) (n : Node) → IsNode m n → IsServed m
is_served m n is =
    let within : n.durable.commit ≤ length n.durable.log = subst (λ (d : Durable). d.commit ≤ length d.log) is.stands.of_durable m.store.is_log.committed in
    is.of_service.count ∙ heads_long n.durable.log n.durable.commit within ∙ sym (ap (λ d. d.commit) is.stands.of_durable)

-- the commands up to the next index
pub heads_next : (d : Durable) (before : ℕ) (e : Entry) → entry_at d.log (suc before) ≡ Some e → heads_up_to (before + 1) d ≡ e.head ∷ heads_up_to before d
heads_next d before e there = ap heads_of (take_one_more d.log before e there) ∙ heads_with (take before d.log) e

one_told : (reply : Option ClientReply) (c : Called) (log : List Entry) (outcome : Outcome) → reply ≡ reply_told log outcome (Some c) →
    option_to_list reply ≡ map (reply_to c) (option_to_list (reply_of log outcome))
one_told reply c log outcome is = ap option_to_list is ∙ of_reply (reply_of log outcome)
  where
    of_reply : (o : Option _) → option_to_list (option_map (reply_to c) o) ≡ map (reply_to c) (option_to_list o)
    of_reply None = refl
    of_reply (Some reply) = refl

-- what is told of an entry as it is applied
pub told_of_entry : (log : List Entry) (call : Option Called) (e : Entry) (earlier : List Head) →
    option_to_list (reply_told log (answer e.head earlier) call) ≡ replies_for log call (Some e) earlier
told_of_entry log None e earlier = refl
told_of_entry log (Some c) e earlier = one_told (reply_told log (answer e.head earlier) (Some c)) c log (answer e.head earlier) refl

replies-append : (log : List Entry) (calls : List Called) (indexes more : List ℕ) →
    replies_among log calls (indexes ++ more) ≡ replies_among log calls indexes ++ replies_among log calls more
replies-append log calls [] more = refl
replies-append log calls (index ∷ indexes) more =
    ap (λ told. replies_at log calls index ++ told) (replies-append log calls indexes more)
    ∙ sym (append_assoc (replies_at log calls index) (replies_among log calls indexes) (replies_among log calls more))

-- and who waits for a value then
pub read_of_entry : (log : List Entry) (call : Option Called) (e : Entry) (earlier : List Head) (reads : List Called) →
    reads_told log (answer e.head earlier) call reads ≡ reads_for log call (Some e) earlier reads
read_of_entry log None e earlier reads = refl
read_of_entry log (Some c) e earlier reads = refl

reads-append : (log : List Entry) (calls : List Called) (indexes more : List ℕ) (reads : List Called) →
    reads_among log calls (indexes ++ more) reads ≡ reads_among log calls more (reads_among log calls indexes reads)
reads-append log calls [] more reads = refl
reads-append log calls (index ∷ indexes) more reads = reads-append log calls indexes more (reads_at log calls index reads)

one_more : (from at : ℕ) → from ≤ at → newly_committed from (at + 1) ≡ newly_committed from at ++ (at + 1) ∷ []
one_more from at le =
    let longer : at + 1 - from ≡ suc (at - from) = omega (arith, le) in
    ap (range_with_len (from + 1)) longer ∙ row_more (from + 1) (at - from) (at + 1) (omega (arith, le))

no_more : (from : ℕ) → newly_committed from from ≡ []
no_more from = let none : from - from ≡ zero = omega arith in ap (range_with_len (from + 1)) none

pub none_served : (from : ℕ) (act : Act) → count_of act.member.service ≡ from → Serves from from act act
none_served from act count = record {
  rest = refl;
  count = count;
  service = λ stands. stands;
  replies = λ stands. sym (append-nil act.replies.items) ∙ ap (λ indexes. act.replies.items ++ replies_among act.member.store.kept.log act.member.calls.items indexes) (sym (no_more from));
  reads = λ stands. ap (λ indexes. reads_among act.member.store.kept.log act.member.calls.items indexes act.member.reads.items) (sym (no_more from));
}

pub one_more_served : (from at : ℕ) (before between after : Act) → from ≤ at → Serves from at before between → Serves at (at + 1) between after → Serves from (at + 1) before after
one_more_served from at before between after le first second =
    let log = before.member.store.kept.log in
    let calls = before.member.calls.items in
    let indexes = newly_committed from at in
    let stands_too : services.Stands before.member.service (heads_up_to from before.member.store.kept) → services.Stands between.member.service (heads_up_to at between.member.store.kept) =
    λ stands. subst (λ (a : Act). services.Stands between.member.service (heads_up_to at a.member.store.kept)) (sym first.rest) (first.service stands) in
    let last : newly_committed at (at + 1) ≡ (at + 1) ∷ [] = one_more at at (omega arith) ∙ ap (λ (xs : List ℕ). xs ++ (at + 1) ∷ []) (no_more at) in
    record {
      rest = second.rest ∙ ap (λ (a : Act). record a { member = record a.member { service = after.member.service; reads = after.member.reads }; replies = after.replies }) first.rest;
      count = second.count;
      service = λ stands. subst (λ (a : Act). services.Stands after.member.service (heads_up_to (at + 1) a.member.store.kept)) first.rest (second.service (stands_too stands));
      replies = λ stands.
          second.replies (stands_too stands)
          ∙ ap (λ (a : Act). between.replies.items ++ replies_among a.member.store.kept.log a.member.calls.items (newly_committed at (at + 1))) first.rest
          ∙ ap (λ (xs : List ℕ). between.replies.items ++ replies_among log calls xs) last
          ∙ ap (λ told. told ++ replies_among log calls ((at + 1) ∷ [])) (first.replies stands)
          ∙ append_assoc before.replies.items (replies_among log calls indexes) (replies_among log calls ((at + 1) ∷ []))
          ∙ ap (λ told. before.replies.items ++ told) (sym (replies-append log calls indexes ((at + 1) ∷ [])))
          ∙ ap (λ (xs : List ℕ). before.replies.items ++ replies_among log calls xs) (sym (one_more from at le));
      reads = λ stands.
          second.reads (stands_too stands)
          ∙ ap (λ (a : Act). reads_among a.member.store.kept.log a.member.calls.items (newly_committed at (at + 1)) between.member.reads.items) first.rest
          ∙ ap (λ (xs : List ℕ). reads_among log calls xs between.member.reads.items) last
          ∙ ap (λ reads. reads_among log calls ((at + 1) ∷ []) reads) (first.reads stands)
          ∙ sym (reads-append log calls indexes ((at + 1) ∷ []) before.member.reads.items)
          ∙ ap (λ (xs : List ℕ). reads_among log calls xs before.member.reads.items) (sym (one_more from at le));
    }

-- what is told as the next entry is applied
pub next_told : (log : List Entry) (calls : List Called) (before : ℕ) (e : Entry) → entry_at log (suc before) ≡ Some e →
    replies_for log (call_at (before + 1) calls) (Some e) (heads_of (take before log)) ≡ replies_among log calls (newly_committed before (before + 1))
next_told log calls before e there =
    let here : entry_at log (before + 1) ≡ Some e = ap (entry_at log) (add-one before) ∙ there in
    let back : before + 1 - 1 ≡ before = omega arith in
    let last : newly_committed before (before + 1) ≡ (before + 1) ∷ [] = one_more before before (omega arith) ∙ ap (λ (xs : List ℕ). xs ++ (before + 1) ∷ []) (no_more before) in
    ap (λ (o : Option Entry). replies_for log (call_at (before + 1) calls) o (heads_of (take before log))) (sym here)
    ∙ ap (λ (k : ℕ). replies_for log (call_at (before + 1) calls) (entry_at log (before + 1)) (heads_of (take k log))) (sym back)
    ∙ sym (append-nil (replies_at log calls (before + 1)))
    ∙ ap (λ (xs : List ℕ). replies_among log calls xs) (sym last)

-- and who waits for a value then
pub next_read : (log : List Entry) (calls : List Called) (before : ℕ) (e : Entry) (reads : List Called) → entry_at log (suc before) ≡ Some e →
    reads_for log (call_at (before + 1) calls) (Some e) (heads_of (take before log)) reads ≡ reads_among log calls (newly_committed before (before + 1)) reads
next_read log calls before e reads there =
    let here : entry_at log (before + 1) ≡ Some e = ap (entry_at log) (add-one before) ∙ there in
    let back : before + 1 - 1 ≡ before = omega arith in
    let last : newly_committed before (before + 1) ≡ (before + 1) ∷ [] = one_more before before (omega arith) ∙ ap (λ (xs : List ℕ). xs ++ (before + 1) ∷ []) (no_more before) in
    ap (λ (o : Option Entry). reads_for log (call_at (before + 1) calls) o (heads_of (take before log)) reads) (sym here)
    ∙ ap (λ (k : ℕ). reads_for log (call_at (before + 1) calls) (entry_at log (before + 1)) (heads_of (take k log)) reads) (sym back)
    ∙ ap (λ (xs : List ℕ). reads_among log calls xs reads) (sym last)
