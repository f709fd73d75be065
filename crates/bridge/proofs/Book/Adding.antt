-- A leader adds a whole entry of its term at the end of its log: that is a proposal, and the entry stands for its command in the book.
use Rattle.std.proofs.Common.{◌≡◌, ℕ, ◌+◌, None, Some, List, [], ◌∷◌, ◌++◌, length, refl, sym, ap, subst, arith, length-append}
use Rattle.std.specs.List.{All}
use Rattle.std.proofs.lemmas.List.Elements.{All-cons, All-nil, All-same}
use Rattle.craft_base.specs.Shape.{Shape}
use Rattle.craft_base.specs.declared.command.Entry.{Entry}
use Rattle.craft_base.specs.declared.command.Form.{Form}
use Rattle.craft_base.specs.declared.command.Form.TheVariants as forms
use Rattle.entry_frames.specs.Durable.{applied}
use Rattle.entry_frames.specs.Entries.{form_bytes}
use Rattle.entry_frames.specs.Records.{Add}
use Rattle.entry_frames.specs.declared.message.Message.{Message}
use Rattle.entry_frames.specs.declared.role.Role.TheVariants.{Leader}
use Rattle.world_model.specs.Nodes.{Node, Volatile}
use Rattle.world_model.specs.Rules.Acts.{Act}
use Rattle.world_model.specs.Safety.{Holds, command_in}
use Rattle.world_model.specs.Traces.{Proposal, command_of, has_won_term, proposals_in}
use Rattle.protocol.specs.History as protocol
use Rattle.protocol.specs.Logs.{Same}
use Rattle.protocol.specs.Moves.{Reached}
use Rattle.protocol.proofs.Runs.{moves_trans}
use Rattle.bridge.specs.Traced.{AllStand, CommitAgrees, Holder, IsOfBytes, PageStands, ProposalAgrees, RemovalAgrees, holder}
use Rattle.bridge.specs.Views.{log_seen}
use Rattle.bridge.proofs.Book.Plain.{IsTraced, SendsStand, none_won}
use Rattle.bridge.proofs.Book.Standing.{command_in_new, pages_more, stand_append, stand_more}
use Rattle.bridge.proofs.Rules.Say.{leading_log}
use Rattle.bridge.proofs.Views.{length_seen}

-- an act that adds one entry and records nothing else, with what the node then is but for its log, and what it sends
abbrev pub adding : Entry → Volatile → List Message → Node → Act
adding entry volatile sends n =
    record {
      node = record n { durable = applied n.durable (Add entry); volatile = volatile };
      records = Add entry ∷ [];
      replies = [];
      sends = sends;
    }

-- a whole value is held whole
whole_held : (at : Holder) (form : Form) (value : List ℕ) → form ≡ forms.Whole value → Holds at.need at.member form value
whole_held at form value is = subst (λ it. Holds at.need at.member it value) (sym is) refl

module _ (n : Node) (entry : Entry) where
  -- what is proposed by it
  abbrev proposal : ℕ → Proposal
  proposal event = record { term = entry.term; index = length n.durable.log + 1; event = event; command = command_of entry }

  longer_stands :
      (at : Holder) (book : List Proposal) → AllStand at book 1 n.durable.log → entry.form ≡ forms.Whole (form_bytes entry.form) →
      command_in book entry.term (length n.durable.log + 1) ≡ None → (event : ℕ) →
      AllStand at (book ++ proposal event ∷ []) 1 (n.durable.log ++ entry ∷ [])
  longer_stands at book stand whole new event =
      let p = proposal event in
      let behind : length n.durable.log + 1 ≡ 1 + length n.durable.log = omega arith in
      let found : command_in (book ++ p ∷ []) entry.term (1 + length n.durable.log) ≡ Some p.command =
      subst (λ i. command_in (book ++ p ∷ []) entry.term i ≡ Some p.command) behind (command_in_new book p new) in
      stand_append at (book ++ p ∷ []) 1 n.durable.log (entry ∷ []) (stand_more at book (p ∷ []) 1 n.durable.log stand)
      ((p.command, found, (refl, refl, whole_held at entry.form (form_bytes entry.form) whole)), tt)

module _
    {shape : Shape} {g : protocol.History} {member : ℕ} (n : Node) {book : List Proposal} (reached : Reached shape.faults g)
    (stand : AllStand (holder shape member) book 1 n.durable.log) (entry : Entry) (own : entry.term ≡ n.durable.term)
    (whole : entry.form ≡ forms.Whole (form_bytes entry.form)) (bytes : IsOfBytes (command_of entry))
    (new : command_in book entry.term (length n.durable.log + 1) ≡ None) where
  pub adding_traced :
      (volatile : Volatile) (sends : List Message) → volatile.role ≡ Leader → All (PageStands shape book) volatile.pages → SendsStand shape member (adding entry volatile sends n) →
      IsTraced shape g member n.durable book (adding entry volatile sends n)
  adding_traced volatile sends leads seen stands h run node event =
      let p = proposal n entry event in
      let log = n.durable.log ++ entry ∷ [] in
      let more = proposals_in event volatile.role n.durable (Add entry ∷ []) in
      let only : more ≡ p ∷ [] = ap (λ role. proposals_in event role n.durable (Add entry ∷ [])) leads in
      let led : Same (log_seen log) (h.led n.durable.term) = leading_log (moves_trans shape.faults _ g h reached run) node leads in
      let long : length (log_seen log) ≡ length (h.led n.durable.term) = led.long in
      let at_own : length (h.led entry.term) ≡ length (h.led n.durable.term) = ap (λ t. length (h.led t)) own in
      let seen_long : length (log_seen log) ≡ length log = length_seen log in
      let one_more : length log ≡ length n.durable.log + 1 = length-append n.durable.log (entry ∷ []) in
      let in_book : AllStand (holder shape member) (book ++ more) 1 log =
      subst (λ it. AllStand (holder shape member) (book ++ it) 1 log) (sym only) (longer_stands n entry (holder shape member) book stand whole new event) in
      record {
        proposals = All-same (ProposalAgrees h) more (p ∷ []) only
            (All-cons (ProposalAgrees h) p [] (omega arith, omega (arith, long, at_own, seen_long, one_more), bytes) (All-nil (ProposalAgrees h)));
        removals = All-nil (RemovalAgrees h);
        commits = none_won (CommitAgrees h) (has_won_term volatile.role) [] refl;
        log = in_book;
        pages = pages_more shape book more volatile.pages seen;
        sends = stands (book ++ more) in_book;
      }
