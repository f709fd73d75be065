-- What a member makes of the entries of a leader.
use Rattle.std.proofs.Common.{◌≡◌, ℕ, ◌+◌, ◌<◌, ◌≤◌, ◌==◌, nat_le, nat_lt, cond, true, false, List, [], ◌∷◌, ◌++◌, length, take, drop, map, Bool, refl, ap, sym, subst, ◌∙◌, arith, length-take}
use Rattle.std.specs.List.{All}
use Rattle.std.proofs.lemmas.Bool.{and_parts, cond_both, eqb-true, le-ltb, leb-true, ltb-false}
use Rattle.std.proofs.lemmas.List.{map-append}
use Rattle.std.proofs.lemmas.List.Elements.{All-append, All-cons, All-nil, All-weaker}
use Rattle.craft_base.specs.declared.command.Entry.{Entry}
use Rattle.craft_base.specs.declared.command.Form.{Form}
use Rattle.craft_base.specs.declared.command.Form.TheVariants as forms
use Rattle.craft_base.specs.Shape.{Shape}
use Rattle.entry_frames.specs.Durable.{after}
use Rattle.entry_frames.specs.Kinds.{kind_of}
use Rattle.entry_frames.specs.Limits.{most_entries}
use Rattle.entry_frames.specs.Logs.{term_at}
use Rattle.entry_frames.specs.MessageParts.{body_of, entries_of, prev_of, prev_term_of, term_of}
use Rattle.entry_frames.specs.Records.{first_number}
use Rattle.entry_frames.specs.Stored.{AreEntries, DurableInRange}
use Rattle.entry_frames.specs.declared.kind.Kind.TheVariants as kinds
use Rattle.entry_frames.specs.declared.kind.PeerKind.TheVariants as peer_kinds
use Rattle.entry_frames.specs.declared.message.Message.{Message}
use Rattle.entry_frames.specs.declared.message.Message.TheVariants as messages
use Rattle.entry_frames.specs.declared.peer.Peer.TheVariants as peers
use Rattle.entry_frames.proofs.Stored.{records_kept}
use Rattle.full_append.specs.Plans.{completed_indexes, later_commit}
use Rattle.full_append.proofs.Carrying.{only_the_log}
use Rattle.world_model.specs.Nodes.{Node}
use Rattle.world_model.specs.Ranges.{HasSpelling}
use Rattle.world_model.specs.Rules.Acts.{stays}
use Rattle.leader_prep.specs.Verdicts.{is_same_head}
use Rattle.world_model.specs.Rules.Append.{common, completion, completion_of, completions, taken_records}
use Rattle.world_model.specs.Rules.Applying.{act_of_applying, act_of_commit}
use Rattle.world_model.proofs.Frames.{body_spelled}
use Rattle.world_model.proofs.Ranges.Append.{IsStretch, stretch_of}
use Rattle.world_model.proofs.Ranges.Taking.{Takes, records_take}
use Rattle.node_core.specs.declared.member.Member.{Member}
use Rattle.node_core.specs.Appending.{IsSuited, MayTake}

-- ---- what the message says

pub stretch_in : (shape : Shape) (m : Message) → kind_of m ≡ kinds.Peer peer_kinds.Append → HasSpelling shape m →
    IsStretch shape.need (term_of m) (prev_of (body_of m)) (prev_term_of (body_of m)) (entries_of (body_of m))
stretch_in shape (messages.Peer from to at (peers.Append prev prev_term commit es)) kind spelled =
    stretch_of shape.need at prev prev_term commit es (body_spelled {shape = shape} from to at (peers.Append prev prev_term commit es) spelled)
stretch_in shape (messages.Peer from to at (peers.Vote last_term last)) kind spelled = absurd cc
stretch_in shape (messages.Peer from to at (peers.VoteReply granted)) kind spelled = absurd cc
stretch_in shape (messages.Peer from to at (peers.Matched prev count mask)) kind spelled = absurd cc
stretch_in shape (messages.Peer from to at (peers.Refused next)) kind spelled = absurd cc
stretch_in shape (messages.Peer from to at (peers.Ask start)) kind spelled = absurd cc
stretch_in shape (messages.Peer from to at (peers.Answer start last slots)) kind spelled = absurd cc
stretch_in shape (messages.Request to request) kind spelled = absurd spelled.0
stretch_in shape (messages.Answered from client seq reply) kind spelled = absurd spelled.0

-- ---- its records

module _ (m : Member) (frame : Message) (keeps : DurableInRange m.store.shape m.store.kept)
    (said : IsStretch m.store.shape.need m.store.kept.term (prev_of (body_of frame)) (prev_term_of (body_of frame)) (entries_of (body_of frame))) where
  within_log : IsSuited m.store.kept frame → prev_of (body_of frame) ≤ length m.store.kept.log
  within_log suits =
      leb-true _ _ (and_parts (nat_le (prev_of (body_of frame)) (length m.store.kept.log)) (term_at m.store.kept.log (prev_of (body_of frame)) == prev_term_of (body_of frame)) suits.has).0

  takes : IsSuited m.store.kept frame → Takes m.store.shape m.store.kept (taken_records (prev_of (body_of frame)) m.store.kept.log (entries_of (body_of frame)))
      (prev_of (body_of frame) + length (entries_of (body_of frame)))
  takes suits =
      let d = m.store.kept in
      let prev = prev_of (body_of frame) in
      let parts = and_parts (nat_le prev (length d.log)) (term_at d.log prev == prev_term_of (body_of frame)) suits.has in
      records_take m.store.shape d keeps prev (entries_of (body_of frame)) (leb-true _ _ parts.0)
      (subst (λ t. AreEntries m.store.shape.need t d.term (entries_of (body_of frame))) (sym (eqb-true (term_at d.log prev) (prev_term_of (body_of frame)) parts.1)) said.entries)
      said.room suits.clear

  commits_within : IsSuited m.store.kept frame → m.store.kept.commit ≤ length (after m.store.kept (taken_records (prev_of (body_of frame)) m.store.kept.log (entries_of (body_of frame)))).log
  commits_within suits =
      let d = m.store.kept in
      let prev = prev_of (body_of frame) in
      let records = taken_records prev d.log (entries_of (body_of frame)) in
      let took = takes suits in
      let kept = records_kept m.store.shape d records keeps took.applies took.written in
      let same : (after d records).commit ≡ d.commit = ap (λ e. e.commit) (only_the_log d prev (entries_of (body_of frame)) (within_log suits)) in
      omega (arith, kept.commit, same)

  pub may_take : MayTake m frame
  may_take = record {
    records = λ suits. let took = takes suits in record { apply = took.applies; written = took.written };
    reaches = λ suits. (takes suits).reaches;
    commits = commits_within;
  }

-- ---- where values are given

abbrev LiesFrom : ℕ → ℕ → ℕ → Type 0
LiesFrom index count place = (index ≤ place) × (place < index + count)

one_place : (index count : ℕ) (own other : Form) → All (LiesFrom index (count + 1)) (map first_number (completion_of index own other))
one_place index count (forms.Part bytes) (forms.Whole value) =
    All-cons (LiesFrom index (count + 1)) index [] (omega arith, omega arith) (All-nil (LiesFrom index (count + 1)))
one_place index count (forms.Part bytes) (forms.Part value) = All-nil (LiesFrom index (count + 1))
one_place index count (forms.Whole bytes) (forms.Part value) = All-nil (LiesFrom index (count + 1))
one_place index count (forms.Whole bytes) (forms.Whole value) = All-nil (LiesFrom index (count + 1))

completion_place : (index count : ℕ) (own entry : Entry) → All (LiesFrom index (count + 1)) (map first_number (completion index own entry))
completion_place index count own entry =
    cond_both (is_same_head own.head entry.head) (completion_of index own.form entry.form) [] (λ rs. All (LiesFrom index (count + 1)) (map first_number rs))
    (λ same. one_place index count own.form entry.form) (λ other. All-nil (LiesFrom index (count + 1)))

completion_places : (index : ℕ) (log es : List Entry) → All (LiesFrom index (length es)) (map first_number (completions index log es))
completion_places index [] es = All-nil (LiesFrom index (length es))
completion_places index (own ∷ log) [] = All-nil (LiesFrom index 0)
completion_places index (own ∷ log) (e ∷ es) =
    let all = λ (p : ℕ). LiesFrom index (length (e ∷ es)) p in
    let later : All (LiesFrom index (length es + 1)) (map first_number (completions (index + 1) log es)) =
    All-weaker (LiesFrom (index + 1) (length es)) (LiesFrom index (length es + 1)) (λ p lies. (omega (arith, lies.0), omega (arith, lies.1)))
    (map first_number (completions (index + 1) log es)) (completion_places (index + 1) log es) in
    let first : All (LiesFrom index (length es + 1)) (map first_number (completion index own e)) = completion_place index (length es) own e in
    let long : length es + 1 ≡ length (e ∷ es) = omega arith in
    subst (λ n. All (LiesFrom index n) (map first_number (completion index own e ++ completions (index + 1) log es))) long
    (subst (All (LiesFrom index (length es + 1))) (sym (map-append first_number (completion index own e) (completions (index + 1) log es)))
    (All-append (LiesFrom index (length es + 1)) (map first_number (completion index own e)) (map first_number (completions (index + 1) log es)) first later))

-- each is an index of the message
pub places_of : (prev : ℕ) (log es : List Entry) → length es ≤ most_entries → All (λ index. (prev < index) × (index ≤ prev + most_entries)) (completed_indexes prev log es)
places_of prev log es few =
    let same = common (drop prev log) es in
    let short : length (take same es) ≤ length es = omega (arith, length-take same es) in
    All-weaker (LiesFrom (prev + 1) (length (take same es))) (λ index. (prev < index) × (index ≤ prev + most_entries))
    (λ p lies. (omega (arith, lies.0), omega (arith, lies.1, short, few)))
    (completed_indexes prev log es) (completion_places (prev + 1) (take same (drop prev log)) (take same es))

-- ---- the commit index

-- the greater of the two is committed as the other index is
pub commits_later : (n : Node) (own theirs : ℕ) → n.durable.commit ≡ own → act_of_commit (later_commit own theirs) n ≡ act_of_commit theirs n
commits_later n own theirs is = by_test (nat_lt own theirs) refl
  where
    by_test : (b : Bool) → nat_lt own theirs ≡ b → act_of_commit (later_commit own theirs) n ≡ act_of_commit theirs n
    by_test true e = ap (λ b. act_of_commit (cond b theirs own) n) e
    by_test false e =
        let nothing : nat_lt n.durable.commit own ≡ false = le-ltb n.durable.commit own (omega (arith, is)) in
        let none : nat_lt n.durable.commit theirs ≡ false = le-ltb n.durable.commit theirs (omega (arith, is, ltb-false own theirs e)) in
        ap (λ b. act_of_commit (cond b theirs own) n) e
        ∙ ap (λ b. cond b (act_of_applying own n) (stays n)) nothing
        ∙ sym (ap (λ b. cond b (act_of_applying theirs n) (stays n)) none)
