-- Answer: a member that prepares sees a page more, and decides; a leader that has the value which it wants makes the move rebuild; any
-- other makes no move.
use Rattle.std.proofs.Common.{◌≡◌, ℕ, ◌==◌, true, List, ◌∷◌, Option, None, Some, refl, subst, sym}
use Rattle.std.specs.List.{All}
use Rattle.std.proofs.lemmas.Bool.{cond_both, leb-true}
use Rattle.std.proofs.lemmas.List.Elements.{All-cons}
use Rattle.craft_base.specs.Shape.{IsShape, Shape}
use Rattle.craft_base.specs.declared.command.Entry.{Entry}
use Rattle.entry_frames.specs.declared.role.Role.{Role}
use Rattle.entry_frames.specs.declared.role.Role.TheVariants.{Follower, Candidate, Preparing, Leader}
use Rattle.leader_prep.specs.Pages.{Page, joined, joins}
use Rattle.leader_prep.specs.Solutions.{value_of}
use Rattle.leader_prep.specs.Verdicts.{Source}
use Rattle.world_model.specs.Nodes.{Node, node_hearing}
use Rattle.world_model.specs.Rules.Answer.{act_of_answer, act_of_answer_as, act_of_having, act_of_page, act_of_shown, act_of_source, act_of_supplying, act_of_value, answer_heard, node_seeing, node_shown, source_at}
use Rattle.world_model.specs.Rules.Prepare.{cursor_at}
use Rattle.world_model.specs.Rules.Say.{start_of}
use Rattle.world_model.specs.Traces.{Proposal}
use Rattle.protocol.specs.History.{History}
use Rattle.protocol.specs.Moves.{Reached}
use Rattle.bridge.specs.Agreement.{BeginsBy, NodeAgrees, PageAgrees, PagesAgree}
use Rattle.bridge.specs.Bridges.{ActBridged}
use Rattle.bridge.specs.Traced.{AllStand, PageStands, holder}
use Rattle.bridge.proofs.Facts.{hearing_agrees}
use Rattle.bridge.proofs.Filling.{filled, filled_agrees, fills}
use Rattle.bridge.proofs.Rules.Prepare.{preparing_bridged}
use Rattle.bridge.proofs.Rules.Say.{some_appends_agree}
use Rattle.bridge.proofs.Starts.{no_log_hearable, pages_leader}
use Rattle.bridge.proofs.Steps.{moved_then, sends_none, unmoved, unmoved_stays}

-- a page that joins begins by the cursor
begins_by : (cursor : Option ℕ) (page : Page) → joins cursor page ≡ true → BeginsBy cursor page
begins_by None page e = tt
begins_by (Some cursor) page e = leb-true page.start cursor e

pages_joined :
    (h : History) (term : ℕ) (cursor : Option ℕ) (page : Page) (pages : List Page) → PageAgrees h term page → PagesAgree Preparing h term cursor pages →
    PagesAgree Preparing h term cursor (joined cursor page pages)
pages_joined h term cursor page pages shown agree =
    cond_both (joins cursor page) (page ∷ pages) pages (PagesAgree Preparing h term cursor)
    (λ yes. (All-cons (PageAgrees h term) page pages shown agree.0, All-cons (BeginsBy cursor) page pages (begins_by cursor page yes) agree.1)) (λ no. agree)

-- ---- a leader

module _
    {shape : Shape} {g : History} {member : ℕ} {n : Node} (reached : Reached shape.faults g) (a : NodeAgrees shape g member n)
    (leads : n.volatile.role ≡ Leader) where
  -- it has a value, and sends to those who lack it
  value_bridged : (index : ℕ) (value : List ℕ) → ActBridged shape g member (act_of_value index value n)
  value_bridged index value =
      let h : History = filled reached a leads index value in
      let now : Node = (act_of_having index value n).node in
      let node : NodeAgrees shape h member now = filled_agrees reached a leads index value in
      moved_then reached (act_of_having index value n) (act_of_supplying index) (fills reached a leads index value) node (sends_none h)
      (λ later. unmoved (act_of_supplying index now) node (some_appends_agree later node leads (λ receiver. start_of now receiver == index)))

  source_bridged : (index : ℕ) (source : Option Source) → ActBridged shape g member (act_of_source index source n)
  source_bridged index None = unmoved_stays a
  source_bridged index (Some source) = value_bridged index (value_of source)

  shown_bridged : (want : Option ℕ) → ActBridged shape g member (act_of_shown want n)
  shown_bridged None = unmoved_stays a
  shown_bridged (Some index) = source_bridged index (source_at n index)

-- ---- the rule

module _
    {shape : Shape} {g : History} {member : ℕ} {n : Node} (reached : Reached shape.faults g) (is : IsShape shape) (a : NodeAgrees shape g member n)
    (page : Page) (shown : PageAgrees g n.durable.term page) where
  -- it hears that a member answered
  heard_agrees : NodeAgrees shape g member (node_hearing (answer_heard n page.sender) n)
  heard_agrees = hearing_agrees (answer_heard n page.sender) a (no_log_hearable n.volatile.role _ (answer_heard n page.sender) tt) tt

  seeing_agrees : n.volatile.role ≡ Preparing → NodeAgrees shape g member (node_seeing page (node_hearing (answer_heard n page.sender) n))
  seeing_agrees prepares =
      let it = heard_agrees in
      let before : PagesAgree Preparing g n.durable.term (cursor_at n) n.volatile.pages =
      subst (λ role. PagesAgree role g n.durable.term (cursor_at n) n.volatile.pages) prepares a.pages in
      record {
        of_shape = a.of_shape;
        me = a.me;
        within = a.within;
        term = a.term;
        vote = a.vote;
        log = a.log;
        commit = a.commit;
        role = a.role;
        heard = it.heard;
        knows = it.knows;
        pages = subst (λ role. PagesAgree role g n.durable.term (cursor_at n) (joined (cursor_at n) page n.volatile.pages)) (sym prepares)
            (pages_joined g n.durable.term (cursor_at n) page n.volatile.pages shown before);
        needs = a.needs;
      }

  -- a leader sees it too, of which nothing is said
  shown_agrees : n.volatile.role ≡ Leader → NodeAgrees shape g member (node_shown page (node_hearing (answer_heard n page.sender) n))
  shown_agrees leads =
      let it = heard_agrees in
      record {
        of_shape = a.of_shape;
        me = a.me;
        within = a.within;
        term = a.term;
        vote = a.vote;
        log = a.log;
        commit = a.commit;
        role = a.role;
        heard = it.heard;
        knows = it.knows;
        pages = pages_leader g n.durable.term _ _ leads;
        needs = a.needs;
      }

  module _
      (book : List Proposal) (stand : AllStand (holder shape member) book 1 n.durable.log) (seen : All (PageStands shape book) n.volatile.pages)
      (sent : PageStands shape book page) where
    page_bridged : n.volatile.role ≡ Preparing → ActBridged shape g member (act_of_page page n)
    page_bridged prepares =
        preparing_bridged reached (seeing_agrees prepares) prepares book stand
        (cond_both (joins (cursor_at n) page) (page ∷ n.volatile.pages) n.volatile.pages (All (PageStands shape book))
        (λ yes. All-cons (PageStands shape book) page n.volatile.pages sent seen) (λ no. seen)) is

    answer_as_bridged : (role : Role) → n.volatile.role ≡ role → ActBridged shape g member (act_of_answer_as role n page)
    answer_as_bridged Follower e = unmoved_stays a
    answer_as_bridged Candidate e = unmoved_stays a
    answer_as_bridged Preparing e = page_bridged e
    answer_as_bridged Leader e = shown_bridged reached (shown_agrees e) e n.volatile.want

-- of whoever answers, its page agrees
pub answer_bridged :
    {shape : Shape} {g : History} {member : ℕ} {n : Node} → Reached shape.faults g → IsShape shape → NodeAgrees shape g member n →
    (sender start last : ℕ) (slots : List Entry) → PageAgrees g n.durable.term (record { sender = sender; start = start; last = last; slots = slots }) →
    (book : List Proposal) → AllStand (holder shape member) book 1 n.durable.log → All (PageStands shape book) n.volatile.pages →
    PageStands shape book (record { sender = sender; start = start; last = last; slots = slots }) → ActBridged shape g member (act_of_answer n sender start last slots)
answer_bridged {n = n} reached is a sender start last slots shown book stand seen sent =
    answer_as_bridged reached is a (record { sender = sender; start = start; last = last; slots = slots }) shown book stand seen sent n.volatile.role refl
