-- A member that has applied entries of its log and then commits it up to there.
use Rattle.std.proofs.Common.{◌≡◌, ℕ, ◌<◌, ◌≤◌, nat_lt, max, List, [], ◌∷◌, ◌++◌, length, filter, ap, sym, subst, ◌∙◌, arith, append-nil}
use Rattle.craft_base.specs.Shape.{Shape}
use Rattle.craft_base.specs.Knowledge.{Heard}
use Rattle.entry_frames.specs.Durable.{Durable, applied}
use Rattle.entry_frames.specs.Formats.{Fits}
use Rattle.entry_frames.specs.Records.{Commit, record_fields, record_spellings}
use Rattle.heard_book.specs.Kept as known
use Rattle.kv_apply.specs.Services as services
use Rattle.world_model.specs.Nodes.{Node}
use Rattle.world_model.specs.Rules.Prepare.{cursor_at}
use Rattle.world_model.specs.Rules.Applying.{act_of_applying, newly_committed, reads_among, replies_among}
use Rattle.world_model.specs.declared.call.Called.{Called}
use Rattle.node_core.specs.declared.act.Act.{Act}
use Rattle.node_core.specs.declared.member.Member.{Member}
use Rattle.node_core.specs.Acting.{IsActed, IsFree, IsMade, IsNode}
use Rattle.node_core.specs.Serving.{Serves, heads_up_to}
use Rattle.node_core.proofs.Showing.{free_shown}

module _
    (index : ℕ) (before served made after : Act) (serves : Serves before.member.store.kept.commit index before served) (is_made : IsMade (Commit index) served made)
    (only : after ≡ record made { member = record made.member { heard = after.member.heard; calls = after.member.calls } })
    (settled : after.member.heard.window.settled ≡ max made.member.heard.window.settled index)
    (still : (shape : Shape) (list : List Heard) (first : ℕ) → known.Stands made.member.heard shape list first → known.Stands after.member.heard shape list first)
    (waits : after.member.calls.items ≡ filter (λ c. nat_lt index c.index) made.member.calls.items)
    (above : before.member.store.kept.commit < index) (within : index ≤ length before.member.store.kept.log) (fits : Fits (record_fields before.member.store.shape.need) (Commit index))
    (free : IsFree before.member) where
  -- the member as it was made, by what it was
  made_member : made.member ≡ record before.member { store = made.member.store; service = served.member.service; reads = served.member.reads }
  made_member = is_made.member ∙ ap (λ (a : Act). record a.member { store = made.member.store }) serves.rest

  member_now : after.member ≡ record before.member { store = made.member.store; service = served.member.service; reads = served.member.reads; heard = after.member.heard; calls = after.member.calls }
  member_now = ap (λ (a : Act). a.member) only ∙ ap (λ (m : Member). record m { heard = after.member.heard; calls = after.member.calls }) made_member

  kept_now : made.member.store.kept ≡ applied before.member.store.kept (Commit index)
  kept_now = is_made.kept ∙ ap (λ (a : Act). applied a.member.store.kept (Commit index)) serves.rest

  shape_now : made.member.store.shape ≡ before.member.store.shape
  shape_now = is_made.shape ∙ ap (λ (a : Act). a.member.store.shape) serves.rest

  module _ (n : Node) (is : IsNode before.member n) where
    applying : services.Stands before.member.service (heads_up_to before.member.store.kept.commit before.member.store.kept)
    applying = subst (λ (d : Durable). services.Stands before.member.service (heads_up_to d.commit d)) (sym is.stands.of_durable) is.of_service

    reads_now : served.member.reads.items ≡ reads_among n.durable.log n.volatile.calls (newly_committed n.durable.commit index) n.volatile.reads
    reads_now =
        let s = is.stands in
        serves.reads applying
        ∙ ap (λ (d : Durable). reads_among d.log before.member.calls.items (newly_committed d.commit index) before.member.reads.items) s.of_durable
        ∙ ap (λ (cs : List Called). reads_among n.durable.log cs (newly_committed n.durable.commit index) before.member.reads.items) s.of_calls
        ∙ ap (reads_among n.durable.log n.volatile.calls (newly_committed n.durable.commit index)) s.of_reads

    node_now : IsNode after.member (act_of_applying index n).node
    node_now =
        let m = before.member in
        let s = is.stands in
        let node = (act_of_applying index n).node in
        let calls : made.member.calls.items ≡ n.volatile.calls = ap (λ (x : Member). x.calls.items) made_member ∙ s.of_calls in
        let settled_before : made.member.heard.window.settled ≡ m.heard.window.settled = ap (λ (x : Member). x.heard.window.settled) made_member in
        let commit : m.store.kept.commit ≡ n.durable.commit = ap (λ (d : Durable). d.commit) s.of_durable in
        let now : IsNode (record m { store = made.member.store; service = served.member.service; reads = served.member.reads; heard = after.member.heard; calls = after.member.calls }) node = record {
          stands = record {
            of_shape = s.of_shape;
            of_me = s.of_me;
            of_durable = kept_now ∙ ap (λ (d : Durable). applied d (Commit index)) s.of_durable;
            of_role = s.of_role;
            of_quiet = s.of_quiet;
            of_hint = s.of_hint;
            of_heard = still n.shape n.volatile.heard n.volatile.first
                (subst (λ (h : known.Kept). known.Stands h n.shape n.volatile.heard n.volatile.first) (sym (ap (λ (x : Member). x.heard) made_member)) s.of_heard);
            settled = omega (arith, settled, settled_before, s.settled, commit, above);
            of_prep = free_shown m.prep n.shape n.me n.volatile.pages m.role (cursor_at node) free;
            of_gather = s.of_gather;
            of_calls = waits ∙ ap (λ (cs : List Called). filter (λ c. nat_lt index c.index) cs) calls;
            of_reads = reads_now;
          };
          of_store = shape_now ∙ is.of_store;
          of_service = subst (λ (d : Durable). services.Stands served.member.service (heads_up_to index d)) s.of_durable (serves.service applying);
        } in
        subst (λ (x : Member). IsNode x node) (sym member_now) now

    replies_now : after.replies.items ≡ before.replies.items ++ replies_among n.durable.log n.volatile.calls (newly_committed n.durable.commit index)
    replies_now =
        let s = is.stands in
        ap (λ (a : Act). a.replies.items) only ∙ ap (λ v. v.items) is_made.told.0 ∙ serves.replies applying
        ∙ ap (λ (d : Durable). before.replies.items ++ replies_among d.log before.member.calls.items (newly_committed d.commit index)) s.of_durable
        ∙ ap (λ (cs : List Called). before.replies.items ++ replies_among n.durable.log cs (newly_committed n.durable.commit index)) s.of_calls

    pub advanced : IsActed (act_of_applying index n) before after
    advanced = record {
      node = node_now;
      same = ap (λ (x : Member). x.store.shape) member_now ∙ shape_now;
      may = record { apply = (record { behind = above; within = within }, tt); written = (fits, tt) };
      kept = ap (λ (x : Member). x.store.kept) member_now ∙ kept_now;
      records = ap (λ (a : Act). a.group) only ∙ is_made.group ∙ ap (λ (a : Act). a.group ++ record_spellings a.member.store.shape.need (Commit index ∷ [])) serves.rest;
      cuts = ap (λ (a : Act). a.cuts.items) only ∙ is_made.cuts ∙ ap (λ (a : Act). a.cuts.items ++ []) serves.rest;
      wholes = ap (λ (a : Act). a.wholes.items) only ∙ is_made.wholes ∙ ap (λ (a : Act). a.wholes.items ++ []) serves.rest;
      replies = replies_now;
      sends = ap (λ (a : Act). a.sends.items) only ∙ ap (λ v. v.items) is_made.told.1 ∙ ap (λ (a : Act). a.sends.items) serves.rest ∙ sym (append-nil before.sends.items);
    }
