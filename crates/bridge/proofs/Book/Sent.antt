-- What a member whose log stands in the book sends stands there: a leader's appends carry entries of its log, and a page shows some,
-- and no other message carries any.
use Rattle.std.proofs.Common.{◌≡◌, ℕ, ◌+◌, ◌-◌, ◌<◌, true, false, List, [], ◌∷◌, drop, length, map, ap, arith, subst, sym}
use Rattle.std.specs.List.{All}
use Rattle.std.proofs.lemmas.Bool.{cond_both}
use Rattle.std.proofs.lemmas.List.Elements.{All-cons, All-map, All-nil}
use Rattle.craft_base.specs.Shape.{Shape}
use Rattle.craft_base.specs.declared.command.Entry.{Entry}
use Rattle.craft_base.specs.declared.command.Form.{Form}
use Rattle.craft_base.specs.declared.command.Form.TheVariants as forms
use Rattle.entry_frames.specs.Entries.{is_whole}
use Rattle.entry_frames.specs.declared.message.Message.{Message}
use Rattle.entry_frames.specs.declared.peer.Peer.{Peer}
use Rattle.entry_frames.specs.declared.peer.Peer.TheVariants as peers
use Rattle.coded_append.specs.Batches.{batch_of, before_part, has_value, part_for, sent_to}
use Rattle.coded_append.specs.declared.modes.Mode.{Mode}
use Rattle.coded_append.specs.declared.modes.Mode.TheVariants as modes
use Rattle.rs_code.specs.Fragments.{fragment}
use Rattle.world_model.specs.Nodes.{Node}
use Rattle.world_model.specs.Rules.Acts.{message_of, messages_to_others, others}
use Rattle.world_model.specs.Rules.Ask.{page_from}
use Rattle.world_model.specs.Rules.Say.{append_if_any, append_to, append_with, appends_to_others, batch_for, batch_in, mode_of_leader, start_of}
use Rattle.world_model.specs.Rules.Terms.{refusal, stale_replies}
use Rattle.world_model.specs.Safety.{Holds}
use Rattle.world_model.specs.Traces.{Command, Proposal}
use Rattle.bridge.specs.Traced.{AllStand, Holder, MessageStands, PeerStands, StandsAt, holder}
use Rattle.bridge.proofs.Batches.{IsFirst, batch_first}
use Rattle.bridge.proofs.Book.Plain.{each_is}
use Rattle.bridge.proofs.Book.Standing.{stand_at_index, stand_drop, stand_take}

module _ (shape : Shape) (book : List Proposal) where
  pub one_stands : (m : Message) → MessageStands shape book m → All (MessageStands shape book) (m ∷ [])
  one_stands m stands = All-cons (MessageStands shape book) m [] stands (All-nil (MessageStands shape book))

  -- the same to all others
  pub to_others_stand : (n : Node) (body : Peer) → ((receiver : ℕ) → PeerStands shape book n.me receiver body) → All (MessageStands shape book) (messages_to_others n body)
  to_others_stand n body stands =
      All-map (MessageStands shape book) (message_of n body) (others n) (each_is (λ receiver. MessageStands shape book (message_of n body receiver)) stands (others n))

  -- the same to some
  pub some_stand : (n : Node) (body : Peer) → ((receiver : ℕ) → PeerStands shape book n.me receiver body) → (receivers : List ℕ) → All (MessageStands shape book) (map (message_of n body) receivers)
  some_stand n body stands receivers =
      All-map (MessageStands shape book) (message_of n body) receivers (each_is (λ receiver. MessageStands shape book (message_of n body receiver)) stands receivers)

  pub stale_replies_stand : (n : Node) (sender : ℕ) (body : Peer) → All (MessageStands shape book) (stale_replies n sender body)
  stale_replies_stand n sender (peers.Vote last_term last) = one_stands (message_of n (peers.VoteReply false) sender) tt
  stale_replies_stand n sender (peers.Append prev prev_term commit entries) = one_stands (message_of n (refusal n) sender) tt
  stale_replies_stand n sender (peers.Ask start) = one_stands (message_of n (refusal n) sender) tt
  stale_replies_stand n sender (peers.VoteReply granted) = All-nil (MessageStands shape book)
  stale_replies_stand n sender (peers.Matched prev count mask) = All-nil (MessageStands shape book)
  stale_replies_stand n sender (peers.Refused next) = All-nil (MessageStands shape book)
  stale_replies_stand n sender (peers.Answer start last slots) = All-nil (MessageStands shape book)

  -- a whole value stands at whoever holds it
  whole_holds : (need other_need member other : ℕ) (form : Form) (value : List ℕ) → is_whole form ≡ true → Holds need member form value → Holds other_need other form value
  whole_holds need other_need member other (forms.Whole bytes) value whole holds = holds
  whole_holds need other_need member other (forms.Part bytes) value whole holds = cc

  whole_stands : (at other : Holder) (index : ℕ) (entry : Entry) → is_whole entry.form ≡ true → StandsAt at book index entry → StandsAt other book index entry
  whole_stands at other index entry whole stands =
      let c : Command = stands.0 in
      (c, stands.1, (stands.2.0, stands.2.1, whole_holds at.need other.need at.member other.member entry.form c.value whole stands.2.2))

  before_part_stands : (at other : Holder) (index : ℕ) (entries : List Entry) → AllStand at book index entries → AllStand other book index (before_part entries)
  before_part_stands at other index [] stand = tt
  before_part_stands at other index (entry ∷ entries) stand =
      cond_both (is_whole entry.form) (entry ∷ before_part entries) [] (AllStand other book index)
      (λ whole. (whole_stands at other index entry whole stand.0, before_part_stands at other (index + 1) entries stand.1)) (λ part. tt)

  batch_stands : (at : Holder) (index k : ℕ) (entries : List Entry) → AllStand at book index entries → AllStand at book index (batch_of k entries)
  batch_stands at index k entries stand =
      let first : IsFirst entries (batch_of k entries) = batch_first k entries in
      subst (AllStand at book index) (sym first.is) (stand_take at book index (length (batch_of k entries)) entries stand)

  -- a fragment stands at the member whose it is
  part_holds : (need member receiver : ℕ) (form : Form) (value : List ℕ) → is_whole form ≡ true → Holds need member form value → Holds need receiver (part_for need receiver form) value
  part_holds need member receiver (forms.Whole bytes) value whole holds = ap (λ (v : List ℕ). fragment v need receiver) holds
  part_holds need member receiver (forms.Part bytes) value whole holds = cc

  sent_stands :
      (member receiver index : ℕ) (entry : Entry) → is_whole entry.form ≡ true → StandsAt (holder shape member) book index entry →
      StandsAt (holder shape receiver) book index (sent_to shape.need receiver entry)
  sent_stands member receiver index entry whole stands =
      let c : Command = stands.0 in
      cond_both (has_value entry) (record entry { form = part_for shape.need receiver entry.form }) entry (StandsAt (holder shape receiver) book index)
      (λ some. (c, stands.1, (stands.2.0, stands.2.1, part_holds shape.need member receiver entry.form c.value whole stands.2.2)))
      (λ none. whole_stands (holder shape member) (holder shape receiver) index entry whole stands)

  coded_stands :
      (member receiver index : ℕ) (entries : List Entry) → AllStand (holder shape member) book index entries →
      AllStand (holder shape receiver) book index (map (sent_to shape.need receiver) (before_part entries))
  coded_stands member receiver index [] stand = tt
  coded_stands member receiver index (entry ∷ entries) stand =
      cond_both (is_whole entry.form) (entry ∷ before_part entries) [] (λ front. AllStand (holder shape receiver) book index (map (sent_to shape.need receiver) front))
      (λ whole. (sent_stands member receiver index entry whole stand.0, coded_stands member receiver (index + 1) entries stand.1)) (λ part. tt)

  module _ (member : ℕ) (n : Node) (of_shape : n.shape ≡ shape) (stand : AllStand (holder shape member) book 1 n.durable.log) where
    -- in either mode
    in_mode : (mode : Mode) (receiver start : ℕ) → AllStand (holder shape receiver) book (start - 1 + 1) (batch_in mode shape.need receiver n.durable.log start)
    in_mode modes.Complete receiver start =
        let before = start - 1 in
        batch_stands (holder shape receiver) (before + 1) shape.need (before_part (drop before n.durable.log))
        (before_part_stands (holder shape member) (holder shape receiver) (before + 1) (drop before n.durable.log) (behind before))
      where
        behind : (before : ℕ) → AllStand (holder shape member) book (before + 1) (drop before n.durable.log)
        behind before =
            stand_at_index (holder shape member) book (1 + before) (before + 1) (drop before n.durable.log) (omega arith) (stand_drop (holder shape member) book 1 before n.durable.log stand)
    in_mode modes.Coded receiver start =
        let before = start - 1 in
        batch_stands (holder shape receiver) (before + 1) shape.need (map (sent_to shape.need receiver) (before_part (drop before n.durable.log)))
        (coded_stands member receiver (before + 1) (drop before n.durable.log)
        (stand_at_index (holder shape member) book (1 + before) (before + 1) (drop before n.durable.log) (omega arith) (stand_drop (holder shape member) book 1 before n.durable.log stand)))

    pub append_stands : (receiver : ℕ) → MessageStands shape book (append_to n receiver)
    append_stands receiver =
        let start = start_of n receiver in
        subst (λ (s : Shape). AllStand (holder shape receiver) book (start - 1 + 1) (batch_in (mode_of_leader n) s.need receiver n.durable.log start)) (sym of_shape)
        (in_mode (mode_of_leader n) receiver start)

    pub some_appends_stand : (receivers : List ℕ) → All (MessageStands shape book) (map (append_to n) receivers)
    some_appends_stand receivers =
        All-map (MessageStands shape book) (append_to n) receivers (each_is (λ receiver. MessageStands shape book (append_to n receiver)) append_stands receivers)

    pub appends_stand : All (MessageStands shape book) (appends_to_others n)
    appends_stand = some_appends_stand (others n)

    append_with_stands : (receiver : ℕ) (batch : List Entry) → All (MessageStands shape book) (append_with n receiver batch)
    append_with_stands receiver [] = All-nil (MessageStands shape book)
    append_with_stands receiver (entry ∷ entries) = one_stands (append_to n receiver) (append_stands receiver)

    pub append_if_any_stands : (receiver : ℕ) → All (MessageStands shape book) (append_if_any n receiver)
    append_if_any_stands receiver = append_with_stands receiver (batch_for n receiver (start_of n receiver))

  -- what a member shows stands at itself
  pub page_stands : (n : Node) (asker start : ℕ) → 0 < start → AllStand (holder shape n.me) book 1 n.durable.log → MessageStands shape book (message_of n (page_from n start) asker)
  page_stands n asker start from stand =
      let at : Holder = holder shape n.me in
      let behind : List Entry = drop (start - 1) n.durable.log in
      batch_stands at start n.shape.need behind
      (stand_at_index at book (1 + (start - 1)) start behind (omega (arith, from)) (stand_drop at book 1 (start - 1) n.durable.log stand))
