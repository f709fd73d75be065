-- What rules share: a node that stays in range, records that can be applied and are spelled, and what it says to one member or to
-- all others.
use Rattle.std.proofs.Common.{◌≡◌, ◌≢◌, ℕ, ◌<◌, ◌≤◌, ◌==◌, true, not, Bool, List, [], ◌∷◌, filter, length, map, sym, subst, ◌∙◌, arith}
use Rattle.std.specs.List.{All}
use Rattle.std.proofs.lemmas.Bool.{not-true, eqb-false}
use Rattle.std.proofs.lemmas.List.Elements.{All-nil, All-cons, All-append, All-filter, All-from_get_or, All-map, All-weaker, filter_passes}
use Rattle.std.proofs.lemmas.List.FromFn.{length-range_with_len, get_or-range_with_len}
use Rattle.craft_base.specs.Shape.{Shape, IsShape, members_of}
use Rattle.craft_base.specs.Knowledge.{members}
use Rattle.entry_frames.specs.Bodies.{HaveSpellings}
use Rattle.entry_frames.specs.Durable.{CanApplyAll, after}
use Rattle.entry_frames.specs.Formats.{Fits}
use Rattle.entry_frames.specs.Kinds.{peer_kind}
use Rattle.entry_frames.specs.MessageFields.{body_fields}
use Rattle.entry_frames.specs.Records.{Record}
use Rattle.entry_frames.specs.declared.message.Message.{Message}
use Rattle.entry_frames.specs.declared.peer.Peer.{Peer}
use Rattle.entry_frames.proofs.Durable.{can_apply-append}
use Rattle.entry_frames.proofs.Stored.{records_kept}
use Rattle.world_model.specs.Nodes.{Node, Volatile}
use Rattle.world_model.specs.Ranges.{ClientsInRange, IsMember, NodeInRange, HasSpelling, KnowsInRange, PageInRange, ReplyHasSpelling}
use Rattle.world_model.specs.Rules.Acts.{Act, IsRecorded, answering, followed_by, keeping, message_of, messages_to_others, others, recording_all, sending, stays}
use Rattle.world_model.specs.declared.call.ClientReply.{ClientReply}
use Rattle.world_model.proofs.Frames.{message_fits}
use Rattle.world_model.proofs.Ranges.Records.{spelled-append}

-- a rule leaves its node in range; its records can be applied to the node before it and have spellings, and so have its replies and what it sends
pub record ActInRange (shape : Shape) (member : ℕ) (n : Node) (act : Act) : Type 0 where
  pub node : NodeInRange shape member act.node
  pub applies : CanApplyAll shape n.durable act.records
  pub written : HaveSpellings shape.need act.records
  pub replies : All (ReplyHasSpelling shape member) act.replies
  pub sends : All (HasSpelling shape) act.sends

module _ {shape : Shape} {member : ℕ} {n : Node} (a : NodeInRange shape member n) where
  -- what a crash loses has no range but in what is known and in what clients may be told
  pub in_volatile :
      (v : Volatile) → ClientsInRange shape v → KnowsInRange v.role (length n.durable.log) v.first v.heard →
      All (PageInRange shape.need) v.pages → NodeInRange shape member (record n { volatile = v })
  in_volatile v clients knows pages = record {
    of_shape = a.of_shape;
    me = a.me;
    is_member = a.is_member;
    durable = a.durable;
    clients = clients;
    knows = knows;
    pages = pages;
  }

  pub stays_in_range : ActInRange shape member n (stays n)
  stays_in_range = record { node = a; applies = tt; written = tt; replies = All-nil (ReplyHasSpelling shape member); sends = All-nil (HasSpelling shape) }

  -- what records leave, with that as what a crash loses
  pub enters_in_range :
      (records : List Record) (v : Volatile) → CanApplyAll shape n.durable records → HaveSpellings shape.need records → ClientsInRange shape v →
      KnowsInRange v.role (length (after n.durable records).log) v.first v.heard → All (PageInRange shape.need) v.pages →
      ActInRange shape member n (keeping v (recording_all records (stays n)))
  enters_in_range records v applies written clients knows pages = record {
    node = record {
      of_shape = a.of_shape;
      me = a.me;
      is_member = a.is_member;
      durable = records_kept shape n.durable records a.durable applies written;
      clients = clients;
      knows = knows;
      pages = pages;
    };
    applies = applies;
    written = written;
    replies = All-nil (ReplyHasSpelling shape member);
    sends = All-nil (HasSpelling shape);
  }

  pub records_in_range :
      (records : List Record) → CanApplyAll shape n.durable records → HaveSpellings shape.need records →
      KnowsInRange n.volatile.role (length (after n.durable records).log) n.volatile.first n.volatile.heard → ActInRange shape member n (recording_all records (stays n))
  records_in_range records applies written knows = enters_in_range records n.volatile applies written a.clients knows a.pages

module _ {shape : Shape} {member : ℕ} {n : Node} where
  pub keeping_in_range :
      (v : Volatile) (act : Act) → ClientsInRange shape v → KnowsInRange v.role (length act.node.durable.log) v.first v.heard →
      All (PageInRange shape.need) v.pages → ActInRange shape member n act → ActInRange shape member n (keeping v act)
  keeping_in_range v act clients knows pages a = record {
    node = in_volatile a.node v clients knows pages;
    applies = a.applies;
    written = a.written;
    replies = a.replies;
    sends = a.sends;
  }

  pub answering_in_range :
      (replies : List ClientReply) (act : Act) → All (ReplyHasSpelling shape member) replies → ActInRange shape member n act →
      ActInRange shape member n (answering replies act)
  answering_in_range replies act fit a = record {
    node = a.node;
    applies = a.applies;
    written = a.written;
    replies = All-append (ReplyHasSpelling shape member) act.replies replies a.replies fit;
    sends = a.sends;
  }

  pub sending_in_range :
      (sends : List Message) (act : Act) → All (HasSpelling shape) sends → ActInRange shape member n act → ActInRange shape member n (sending sends act)
  sending_in_range sends act fit a = record {
    node = a.node;
    applies = a.applies;
    written = a.written;
    replies = a.replies;
    sends = All-append (HasSpelling shape) act.sends sends a.sends fit;
  }

  pub followed_in_range :
      (act : Act) (rule : Node → Act) → IsRecorded n act → ActInRange shape member n act → ActInRange shape member act.node (rule act.node) →
      ActInRange shape member n (followed_by act rule)
  followed_in_range act rule is first next = record {
    node = next.node;
    applies =
        can_apply-append shape n.durable act.records (rule act.node).records first.applies
        (subst (λ d. CanApplyAll shape d (rule act.node).records) (sym is) next.applies);
    written = spelled-append shape.need act.records (rule act.node).records first.written next.written;
    replies = All-append (ReplyHasSpelling shape member) act.replies (rule act.node).replies first.replies next.replies;
    sends = All-append (HasSpelling shape) act.sends (rule act.node).sends first.sends next.sends;
  }

  -- what a crash loses doesn't tell what can be recorded
  pub before_in_range : (v : Volatile) (act : Act) → ActInRange shape member (record n { volatile = v }) act → ActInRange shape member n act
  before_in_range v act a = record { node = a.node; applies = a.applies; written = a.written; replies = a.replies; sends = a.sends }

members_are : (shape : Shape) → All (IsMember shape) (members shape)
members_are shape =
    All-from_get_or (IsMember shape) (members shape) 0 λ i lt.
    let within : i < members_of shape = subst (λ k. i < k) (length-range_with_len 0 (members_of shape)) lt in
    subst (IsMember shape) (sym (get_or-range_with_len 0 (members_of shape) i 0 within)) (omega (arith, within))

module _ {shape : Shape} (is : IsShape shape) {member : ℕ} {n : Node} (a : NodeInRange shape member n) (begun : 1 ≤ n.durable.term) where
  -- what a node in a term says in range to another member
  pub message_of_fits :
      (body : Peer) (receiver : ℕ) → IsMember shape receiver → receiver ≢ member → Fits (body_fields shape.need n.durable.term (peer_kind body)) body →
      HasSpelling shape (message_of n body receiver)
  message_of_fits body receiver is_member apart fits =
      message_fits is {from = n.me} {to = receiver} {at = n.durable.term} body (record {
        sender = subst (IsMember shape) (sym a.me) a.is_member;
        receiver = is_member;
        apart = λ e. apart (sym e ∙ a.me);
        term = (begun, a.durable.stored.term_most);
      }) fits

  pub one_message_fits :
      (body : Peer) (receiver : ℕ) → IsMember shape receiver → receiver ≢ member → Fits (body_fields shape.need n.durable.term (peer_kind body)) body →
      All (HasSpelling shape) (message_of n body receiver ∷ [])
  one_message_fits body receiver is_member apart fits =
      All-cons (HasSpelling shape) (message_of n body receiver) [] (message_of_fits body receiver is_member apart fits) (All-nil (HasSpelling shape))

  pub others_are : All (λ receiver. IsMember shape receiver × (receiver ≢ member)) (others n)
  others_are =
      let of_shape : All (IsMember shape) (members n.shape) = rw a.of_shape (members_are shape) in
      let members' : All (IsMember shape) (others n) = All-filter (λ member. not (member == n.me)) (IsMember shape) (members n.shape) of_shape in
      let apart : All (λ member. not (member == n.me) ≡ true) (others n) = filter_passes (λ member. not (member == n.me)) (members n.shape) in
      λ i d lt. (members' i d lt, λ e. eqb-false _ _ (not-true _ (apart i d lt)) (e ∙ sym a.me))

  -- what it says to some of them
  pub to_some_fit :
      (whom : ℕ → Bool) (body : Peer) → Fits (body_fields shape.need n.durable.term (peer_kind body)) body →
      All (HasSpelling shape) (map (message_of n body) (filter whom (others n)))
  to_some_fit whom body fits =
      All-map (HasSpelling shape) (message_of n body) (filter whom (others n))
      (All-weaker (λ receiver. IsMember shape receiver × (receiver ≢ member)) (λ receiver. HasSpelling shape (message_of n body receiver))
      (λ receiver to. message_of_fits body receiver to.0 to.1 fits) (filter whom (others n))
      (All-filter whom (λ receiver. IsMember shape receiver × (receiver ≢ member)) (others n) others_are))

  -- what it says to each other member
  pub to_others_fit :
      (body : ℕ → Peer) → ((receiver : ℕ) → Fits (body_fields shape.need n.durable.term (peer_kind (body receiver))) (body receiver)) →
      All (HasSpelling shape) (map (λ receiver. message_of n (body receiver) receiver) (others n))
  to_others_fit body fits =
      All-map (HasSpelling shape) (λ receiver. message_of n (body receiver) receiver) (others n)
      (All-weaker (λ receiver. IsMember shape receiver × (receiver ≢ member)) (λ receiver. HasSpelling shape (message_of n (body receiver) receiver))
      (λ receiver to. message_of_fits (body receiver) receiver to.0 to.1 (fits receiver)) (others n) others_are)

  pub messages_to_others_fit :
      (body : Peer) → Fits (body_fields shape.need n.durable.term (peer_kind body)) body → All (HasSpelling shape) (messages_to_others n body)
  messages_to_others_fit body fits = to_others_fit (λ receiver. body) (λ receiver. fits)
