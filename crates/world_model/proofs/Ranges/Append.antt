-- Append: a follower takes entries that are in order, and what it says of its log has a spelling.
use Rattle.std.proofs.Common.{◌≡◌, ◌≢◌, ℕ, ◌+◌, ◌-◌, ◌^◌, ◌<◌, ◌≤◌, ◌==◌, min, nat_le, true, false, List, [], ◌∷◌, length, take, drop, refl, sym, subst, ◌∙◌, arith, length-take}
use Rattle.std.specs.List.{All}
use Rattle.std.proofs.lemmas.Bool.{cond_both, and_parts, eqb-true, leb-true}
use Rattle.craft_base.specs.Shape.{Shape, IsShape}
use Rattle.craft_base.specs.declared.command.Entry.{Entry}
use Rattle.entry_frames.specs.Durable.{after}
use Rattle.entry_frames.specs.Formats.{Fits, Format, U8, U64, Value}
use Rattle.entry_frames.specs.Limits.{last_place, most_entries, most_entry_bytes}
use Rattle.entry_frames.specs.Logs.{term_at}
use Rattle.entry_frames.specs.MessageFields.{append_fields, body_fields, entries_fields, most_behind}
use Rattle.entry_frames.specs.MessageParts.{entries_of}
use Rattle.entry_frames.specs.Stored.{AreEntries}
use Rattle.entry_frames.specs.declared.kind.PeerKind.TheVariants as peer_kinds
use Rattle.entry_frames.specs.declared.peer.Peer.{Peer}
use Rattle.entry_frames.specs.declared.peer.Peer.TheVariants as peers
use Rattle.entry_frames.specs.declared.role.Role.{Role}
use Rattle.entry_frames.specs.declared.role.Role.TheVariants.{Follower, Candidate, Preparing, Leader}
use Rattle.entry_frames.proofs.Formats.{embedded_fits}
use Rattle.world_model.specs.Nodes.{Node}
use Rattle.world_model.specs.Ranges.{IsMember, IsOfNoLog, KnowsInRange, NodeInRange}
use Rattle.world_model.specs.Rules.Acts.{followed_by, message_of, stays}
use Rattle.world_model.specs.Rules.Append.{act_of_append, act_of_append_as, act_of_entries, act_of_following, act_of_heard_append, act_of_match, act_of_refusal, act_of_suited, act_of_taking, difference, following, has_before, is_clash, mask_of, taken_records}
use Rattle.world_model.specs.Rules.Applying.{act_of_commit}
use Rattle.world_model.specs.Rules.Terms.{refusal}
use Rattle.world_model.proofs.Frames.{fits_within, lies_within}
use Rattle.world_model.proofs.Recorded.{commit_recorded}
use Rattle.world_model.proofs.Ranges.Acts.{ActInRange, before_in_range, followed_in_range, in_volatile, one_message_fits, records_in_range, sending_in_range, stays_in_range}
use Rattle.world_model.proofs.Ranges.Applying.{commit_in_range, commit_keeps}
use Rattle.world_model.proofs.Ranges.Batches.{entries_in_order}
use Rattle.world_model.proofs.Ranges.Bodies.{refusal_fits}
use Rattle.world_model.proofs.Ranges.Knowing.{knows_as}
use Rattle.world_model.proofs.Ranges.Masks.{mask_low}
use Rattle.world_model.proofs.Ranges.Taking.{Takes, records_take, taken_term}

-- ---- what a message says

-- its entries are in order, behind an index and its term, up to its own term, and there is room for them
pub record IsStretch (k term prev prev_term : ℕ) (es : List Entry) : Type 0 where
  pub few : length es ≤ most_entries
  pub room : prev + length es ≤ last_place
  pub entries : AreEntries k prev_term term es

pub stretch_of :
    (k term prev prev_term commit : ℕ) (es : List Entry) → Fits (append_fields k term) (peers.Append prev prev_term commit es) → IsStretch k term prev prev_term es
stretch_of k term prev prev_term commit es fits =
    let made : List Entry → Format Peer = λ xs. Value (peers.Append prev prev_term commit xs) in
    let count : length es ≤ most_behind prev = (lies_within U8 0 (most_behind prev) (length es) fits.1.1.1.0).1 in
    let place : prev ≤ last_place = (lies_within U64 0 last_place prev fits.0).1 in
    let inner =
    embedded_fits (entries_fields k true term (length es) prev_term most_entry_bytes) entries_of made (peers.Append prev prev_term commit es) (λ xs. refl) fits.1.1.1.1 in record {
      few = omega (arith, count);
      room = omega (arith, count, place);
      entries = (entries_in_order k term (length es) prev_term most_entry_bytes es inner.0).0;
    }

less_one : (m p : ℕ) → m < p → m ≤ p - 1
less_one m p less = omega (arith, less)

-- what a log is said to match, of a stretch of so many entries
match_fits :
    (need term prev count : ℕ) (es : List Entry) → count ≤ most_entries → prev + count ≤ last_place → length es ≤ count →
    Fits (body_fields need term peer_kinds.AppendReply) (peers.Matched prev count (mask_of es))
match_fits need term prev count es few room long = (
  fits_within U8 0 1 1 (omega arith) (omega arith) (omega arith),
  (
    fits_within U64 0 last_place prev (omega (arith, room)) (omega arith) (omega (arith, room)),
    (
      fits_within U8 0 (most_behind prev) count (omega (arith, few)) (omega arith) (omega (arith, few, room)),
      (fits_within U8 0 (2 ^ count - 1) (mask_of es) (mask_low 8 es (omega (arith, few, long))) (omega arith) (less_one (mask_of es) (2 ^ count) (mask_low count es long)), refl),
    ),
  ),
)

-- ---- the rule

module _
    {shape : Shape} (is : IsShape shape) {member : ℕ} (leader : ℕ) (is_member : IsMember shape leader) (apart : leader ≢ member)
    (prev prev_term commit : ℕ) (es : List Entry) where
  module _ {n : Node} (a : NodeInRange shape member n) (begun : 1 ≤ n.durable.term) where
    match_in_range : (count : ℕ) → count ≤ most_entries → prev + count ≤ last_place → ActInRange shape member n (act_of_match leader prev count n)
    match_in_range count few room =
        let held : List Entry = take count (drop prev n.durable.log) in
        let long : length held ≤ count = omega (arith, length-take count (drop prev n.durable.log)) in
        sending_in_range (message_of n (peers.Matched prev count (mask_of held)) leader ∷ []) (stays n)
        (one_message_fits is a begun (peers.Matched prev count (mask_of held)) leader is_member apart (match_fits shape.need n.durable.term prev count held few room long))
        (stays_in_range a)

    refuses_in_range : ActInRange shape member n (act_of_refusal leader n)
    refuses_in_range =
        sending_in_range (message_of n (refusal n) leader ∷ []) (stays n)
        (one_message_fits is a begun (refusal n) leader is_member apart
        (refusal_fits shape.need n.durable.term n.durable.commit (omega (arith, a.durable.commit, a.durable.short)))) (stays_in_range a)

  -- a follower that heard nothing of logs, in the message's term
  module _
      {n : Node} (a : NodeInRange shape member n) (begun : 1 ≤ n.durable.term) (follows : n.volatile.role ≡ Follower)
      (said : IsStretch shape.need n.durable.term prev prev_term es) where
    module _ (within : prev ≤ length n.durable.log) (same_term : term_at n.durable.log prev ≡ prev_term) where
      takes : is_clash n.durable.commit (difference prev n.durable.log es) ≡ false → Takes shape n.durable (taken_records prev n.durable.log es) (prev + length es)
      takes =
          records_take shape n.durable a.durable prev es within
          (subst (λ (t : ℕ). AreEntries shape.need t n.durable.term es) (sym same_term) said.entries) said.room

      -- entries don't change the term
      entries_term : (after n.durable (taken_records prev n.durable.log es)).term ≡ n.durable.term
      entries_term = taken_term n.durable prev es

      entries_in_range : is_clash n.durable.commit (difference prev n.durable.log es) ≡ false → ActInRange shape member n (act_of_entries prev es n)
      entries_in_range clear =
          let took = takes clear in
          records_in_range a (taken_records prev n.durable.log es) took.applies took.written
          (subst (λ (role : Role). KnowsInRange role (length (after n.durable (taken_records prev n.durable.log es)).log) n.volatile.first n.volatile.heard) (sym follows)
          (knows_as a Follower follows))

      taking_in_range : is_clash n.durable.commit (difference prev n.durable.log es) ≡ false → ActInRange shape member n (act_of_taking leader prev commit es n)
      taking_in_range clear =
          let took = takes clear in
          let first : ActInRange shape member n (act_of_entries prev es n) = entries_in_range clear in
          let taken : Node = (act_of_entries prev es n).node in
          let index : ℕ = min commit (prev + length es) in
          let second : ActInRange shape member taken (act_of_commit index taken) = commit_in_range is first.node index (omega (arith, took.reaches)) in
          let term_now : (act_of_commit index taken).node.durable.term ≡ taken.durable.term =
          commit_keeps taken index (λ act. act.node.durable.term ≡ taken.durable.term) refl refl in
          let third : ActInRange shape member (act_of_commit index taken).node (act_of_match leader prev (length es) (act_of_commit index taken).node) =
          match_in_range second.node (subst (λ (t : ℕ). 1 ≤ t) (sym (term_now ∙ entries_term)) begun) (length es) said.few said.room in
          followed_in_range (act_of_entries prev es n) (λ now. followed_by (act_of_commit index now) (act_of_match leader prev (length es))) refl first
          (followed_in_range (act_of_commit index taken) (act_of_match leader prev (length es)) (commit_recorded index taken) second third)

      suited_in_range : ActInRange shape member n (act_of_suited leader prev commit es n)
      suited_in_range =
          cond_both (is_clash n.durable.commit (difference prev n.durable.log es)) (stays n) (act_of_taking leader prev commit es n) (ActInRange shape member n)
          (λ clash. stays_in_range a) taking_in_range

    heard_in_range : ActInRange shape member n (act_of_heard_append leader prev prev_term commit es n)
    heard_in_range =
        cond_both (has_before n.durable.log prev prev_term) (act_of_suited leader prev commit es n) (act_of_refusal leader n) (ActInRange shape member n)
        (λ has.
        let parts = and_parts (nat_le prev (length n.durable.log)) (term_at n.durable.log prev == prev_term) has in
        suited_in_range (leb-true prev (length n.durable.log) parts.0) (eqb-true (term_at n.durable.log prev) prev_term parts.1))
        (λ lacks. refuses_in_range a begun)

  module _
      {n : Node} (a : NodeInRange shape member n) (begun : 1 ≤ n.durable.term) (said : IsStretch shape.need n.durable.term prev prev_term es) where
    following_in_range : All IsOfNoLog n.volatile.heard → ActInRange shape member n (act_of_following leader prev prev_term commit es n)
    following_in_range none =
        let now : Node = record n { volatile = following leader n } in
        before_in_range (following leader n) (act_of_heard_append leader prev prev_term commit es now)
        (heard_in_range {n = now} (in_volatile a (following leader n) (is_member, a.clients.1) none a.pages) begun refl said)

    append_as_in_range : (role : Role) → n.volatile.role ≡ role → ActInRange shape member n (act_of_append_as role n leader prev prev_term commit es)
    append_as_in_range Follower e = following_in_range (knows_as a Follower e)
    append_as_in_range Candidate e = following_in_range (knows_as a Candidate e)
    append_as_in_range Preparing e = stays_in_range a
    append_as_in_range Leader e = stays_in_range a

    pub append_in_range : ActInRange shape member n (act_of_append n leader prev prev_term commit es)
    append_in_range = append_as_in_range n.volatile.role refl
