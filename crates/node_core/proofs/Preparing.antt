-- What is decided in a preparation can be recorded, and leaves a member in range.
use Rattle.std.proofs.Common.{◌≡◌, ℕ, ◌≤◌, List, [], ◌∷◌, ◌++◌, length, map, Option, refl, ap, subst, sym, ◌∙◌}
use Rattle.std.specs.List.{All}
use Rattle.std.specs.Option.{option_to_list}
use Rattle.std.proofs.lemmas.Bool.{cond_both}
use Rattle.std.proofs.lemmas.List.Elements.{All-cons}
use Rattle.craft_base.specs.Shape.{Shape, IsShape}
use Rattle.entry_frames.specs.Bodies.{HaveSpellings}
use Rattle.entry_frames.specs.Durable.{CanApplyAll, Durable, after, applied}
use Rattle.entry_frames.specs.Kinds.{kind_of}
use Rattle.entry_frames.specs.Records.{Cut, Record}
use Rattle.entry_frames.specs.declared.kind.Kind.TheVariants as kinds
use Rattle.entry_frames.specs.declared.kind.PeerKind.TheVariants as peer_kinds
use Rattle.entry_frames.specs.declared.message.Message.{Message}
use Rattle.entry_frames.specs.declared.message.Message.TheVariants as messages
use Rattle.entry_frames.specs.declared.peer.Peer.TheVariants as peers
use Rattle.entry_frames.specs.declared.role.Role.{Role}
use Rattle.entry_frames.specs.declared.role.Role.TheVariants.{Preparing}
use Rattle.leader_prep.specs.Decisions.{Decision, decision, verdict_at}
use Rattle.leader_prep.specs.Pages.{Page, joined, joins, page_of}
use Rattle.leader_prep.specs.Solutions.{had}
use Rattle.leader_prep.specs.Standing.{Stands}
use Rattle.leader_prep.specs.declared.prep.Prep.{Prep}
use Rattle.world_model.specs.Nodes.{Node}
use Rattle.world_model.specs.Ranges.{HasSpelling, NodeInRange, PageInRange}
use Rattle.world_model.specs.Rules.Acts.{Act, followed_by, recording_all, stays}
use Rattle.world_model.specs.Rules.Answer.{node_seeing}
use Rattle.world_model.specs.Rules.Prepare.{act_of_deciding, act_of_later, act_of_preparing, cursor_at, decided_records, decision_at}
use Rattle.world_model.proofs.Frames.{body_spelled}
use Rattle.world_model.proofs.Ranges.Acts.{in_volatile, records_in_range}
use Rattle.world_model.proofs.Ranges.Answer.{slots_of}
use Rattle.world_model.proofs.Ranges.Knowing.{knows_as}
use Rattle.world_model.proofs.Ranges.Prepare.{preparing_in_range}
use Rattle.node_core.specs.declared.member.Member.{Member}
use Rattle.node_core.specs.declared.act.Act as act
use Rattle.node_core.specs.Acting.{IsActed, IsNode, MayRecord}
use Rattle.node_core.specs.Preparing.{preparing_with, value_given, won}
use Rattle.node_core.proofs.Acting.{acted_after, acted_from}
use Rattle.node_core.proofs.Deciding.{cursor_after, given_records}
use Rattle.node_core.proofs.Recorded.{can_front, spelled_front}

-- the slots of an answer are in range
pub page_ranged : (shape : Shape) (m : Message) → HasSpelling shape m → kind_of m ≡ kinds.Peer peer_kinds.Answer → PageInRange shape.need (page_of m)
page_ranged shape (messages.Peer from to at (peers.Answer start last slots)) spelled kind =
    slots_of shape.need at start last slots (body_spelled {shape = shape} from to at (peers.Answer start last slots) spelled)
page_ranged shape (messages.Peer from to at (peers.Vote last_term last)) spelled kind = absurd cc
page_ranged shape (messages.Peer from to at (peers.VoteReply granted)) spelled kind = absurd cc
page_ranged shape (messages.Peer from to at (peers.Append prev prev_term commit entries)) spelled kind = absurd cc
page_ranged shape (messages.Peer from to at (peers.Matched prev count mask)) spelled kind = absurd cc
page_ranged shape (messages.Peer from to at (peers.Refused next)) spelled kind = absurd cc
page_ranged shape (messages.Peer from to at (peers.Ask start)) spelled kind = absurd cc
page_ranged shape (messages.Request to request) spelled kind = absurd spelled.0
page_ranged shape (messages.Answered from client seq reply) spelled kind = absurd spelled.0

module _
    {shape : Shape} (is : IsShape shape) {member : ℕ} {n : Node} (a : NodeInRange shape member n) (prepares : n.volatile.role ≡ Preparing) (begun : 1 ≤ n.durable.term)
    (page : Page) (fits : PageInRange shape.need page) where
  abbrev seen : Node
  seen = node_seeing page n

  seen_ranged : NodeInRange shape member seen
  seen_ranged =
      in_volatile a seen.volatile a.clients a.knows
      (cond_both (joins (cursor_at n) page) (page ∷ n.volatile.pages) n.volatile.pages (All (PageInRange shape.need))
      (λ joined'. All-cons (PageInRange shape.need) page n.volatile.pages fits a.pages) (λ passed. a.pages))

  abbrev records : List Record
  records = decided_records (decision_at seen)

  -- the records of what follows
  abbrev more : List Record
  more = let decided = (act_of_deciding seen).node in (act_of_later (cursor_at seen) (cursor_at decided) decided).records

  pub can_decide : CanApplyAll shape n.durable records
  can_decide = can_front shape n.durable records more (preparing_in_range is seen_ranged prepares begun).applies

  pub decided_spelled : HaveSpellings shape.need records
  decided_spelled = spelled_front shape.need records more (preparing_in_range is seen_ranged prepares begun).written

  won_ranged : NodeInRange shape member (won n)
  won_ranged = in_volatile a (won n).volatile a.clients (knows_as a Preparing prepares) a.pages

  pub decided_ranged : NodeInRange shape member (recording_all records (stays (won n))).node
  decided_ranged = (records_in_range won_ranged records can_decide decided_spelled (knows_as a Preparing prepares)).node

-- ---- what a preparation answers

-- the records of what it answers are those of the decision
pub records_are :
    (n : Node) (page : Page) (kept : Durable) (wholes : List (ℕ × List ℕ)) (cut : Option ℕ) → kept ≡ n.durable →
    wholes ≡ map had (decision n.shape n.me (joined (cursor_at n) page n.volatile.pages) kept.commit kept.log).rebuilt →
    cut ≡ (decision n.shape n.me (joined (cursor_at n) page n.volatile.pages) kept.commit kept.log).cut →
    map value_given wholes ++ map Cut (option_to_list cut) ≡ decided_records (decision_at (node_seeing page n))
records_are n page kept wholes cut own values cuts =
    let decided : Durable → Decision = λ d. decision n.shape n.me (joined (cursor_at n) page n.volatile.pages) d.commit d.log in
    ap (λ ws. map value_given ws ++ map Cut (option_to_list cut)) values
    ∙ ap (λ o. map value_given (map had (decided kept).rebuilt) ++ map Cut (option_to_list o)) cuts
    ∙ ap (λ d. map value_given (map had (decided d).rebuilt) ++ map Cut (option_to_list (decided d).cut)) own
    ∙ ap (λ rs. rs ++ map Cut (option_to_list (decided n.durable).cut)) (given_records (decided n.durable).rebuilt)

-- so they may be recorded
pub may_decide :
    (frame : Message) (m left : Member) (n : Node) → IsNode m n → NodeInRange n.shape n.me n → IsShape n.shape → m.role ≡ Preparing → 1 ≤ m.store.kept.term →
    kind_of frame ≡ kinds.Peer peer_kinds.Answer → HasSpelling m.store.shape frame → left.store.kept ≡ n.durable → n.shape ≡ left.store.shape →
    (records : List Record) → records ≡ decided_records (decision_at (node_seeing (page_of frame) n)) → MayRecord left records
may_decide frame m left n is ranged is_shape prepares begun kind spelled own shape records are =
    let page : Page = page_of frame in
    let role : n.volatile.role ≡ Preparing = sym is.stands.of_role ∙ prepares in
    let begun' : 1 ≤ n.durable.term = subst (λ (d : Durable). 1 ≤ d.term) is.stands.of_durable begun in
    let fits : PageInRange n.shape.need page = page_ranged n.shape frame (subst (λ (s : Shape). HasSpelling s frame) is.of_store spelled) kind in
    record {
      apply =
          subst (λ rs. CanApplyAll left.store.shape left.store.kept rs) (sym are)
          (subst (λ (s : Shape). CanApplyAll s left.store.kept (decided_records (decision_at (node_seeing page n)))) shape
          (subst (λ (d : Durable). CanApplyAll n.shape d (decided_records (decision_at (node_seeing page n)))) (sym own) (can_decide is_shape ranged role begun' page fits)));
      written =
          subst (λ rs. HaveSpellings left.store.shape.need rs) (sym are)
          (subst (λ (s : Shape). HaveSpellings s.need (decided_records (decision_at (node_seeing page n)))) shape (decided_spelled is_shape ranged role begun' page fits));
    }

-- they leave the term
pub given_term : (d : Durable) (wholes : List (ℕ × List ℕ)) (cut : List ℕ) → (after d (map value_given wholes ++ map Cut cut)).term ≡ d.term
given_term d [] [] = refl
given_term d [] (index ∷ cut) = given_term (applied d (Cut index)) [] cut
given_term d (whole ∷ wholes) cut = given_term (applied d (value_given whole)) wholes cut

-- ---- what it then stands for

-- the node after what was decided, as one that has won
abbrev pub decided_node : Node → Page → Node
decided_node n page = (recording_all (decided_records (decision_at (node_seeing page n))) (stays (won n))).node

-- the preparation has the cursor that the records leave
pub still_stands :
    (n : Node) (page : Page) (kept : Durable) → kept ≡ n.durable → n.durable.commit ≤ length n.durable.log → (prep : Prep) →
    Stands prep n.shape n.me (joined (cursor_at n) page n.volatile.pages)
    (decision n.shape n.me (joined (cursor_at n) page n.volatile.pages) kept.commit kept.log).cursor →
    Stands prep n.shape n.me (joined (cursor_at n) page n.volatile.pages) (cursor_at (decided_node n page))
still_stands n page kept own within prep stands =
    let pages : List Page = joined (cursor_at n) page n.volatile.pages in
    subst (λ (cursor : Option ℕ). Stands prep n.shape n.me pages cursor)
    (ap (λ (d : Durable). (decision n.shape n.me pages d.commit d.log).cursor) own ∙ sym (cursor_after (verdict_at n.shape n.me pages) n.durable within)) stands

-- what follows of the rule, in any role
abbrev follows : Node → Page → (before : Option ℕ) → Role → Node → Act
follows n page before role now =
    act_of_later before (cursor_at now) (record now { volatile = record now.volatile { role = role; pages = joined (cursor_at n) page n.volatile.pages } })

-- the rule is carried out once its records are made and the member goes on
pub preparing_acted :
    (n : Node) (page : Page) (before : Option ℕ) (decided : List Record) (start left made x : act.Act) → left ≡ record start { member = left.member } →
    left.member.store ≡ start.member.store → n.volatile.role ≡ Preparing → before ≡ cursor_at n → decided ≡ decided_records (decision_at (node_seeing page n)) →
    IsActed (recording_all decided (stays (won n))) left made →
    IsActed (act_of_later before (cursor_at (recording_all decided (stays (won n))).node)
    (preparing_with (joined (cursor_at n) page n.volatile.pages) (recording_all decided (stays (won n))).node)) made x →
    IsActed (act_of_preparing (node_seeing page n)) start x
preparing_acted n page before decided start left made x only store prepares cursor are first second =
    let whole : IsActed (followed_by (recording_all decided (stays (won n))) (follows n page before Preparing)) left x =
    acted_after (recording_all decided (stays (won n))) (follows n page before Preparing) left made x first second in
    let own : IsActed (followed_by (recording_all decided (stays (won n))) (follows n page before n.volatile.role)) left x =
    subst (λ (role : Role). IsActed (followed_by (recording_all decided (stays (won n))) (follows n page before role)) left x) (sym prepares) whole in
    let from : IsActed (followed_by (recording_all decided (stays (won n))) (follows n page (cursor_at n) n.volatile.role)) left x =
    subst (λ (o : Option ℕ). IsActed (followed_by (recording_all decided (stays (won n))) (follows n page o n.volatile.role)) left x) cursor own in
    let all : IsActed (followed_by (recording_all (decided_records (decision_at (node_seeing page n))) (stays (won n))) (follows n page (cursor_at n) n.volatile.role)) left x =
    subst (λ (rs : List Record). IsActed (followed_by (recording_all rs (stays (won n))) (follows n page (cursor_at n) n.volatile.role)) left x) are from in
    acted_from (act_of_preparing (node_seeing page n)) start left x only store all
