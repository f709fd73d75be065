-- Acts that propose, remove and commit nothing: they leave the log as it is and record nothing but a term, or nothing; or what they make of
-- the log stands all the same.
use Rattle.std.proofs.Common.{◌≡◌, ℕ, Bool, List, [], ◌∷◌, ◌++◌, if◌then◌else◌, refl, subst, sym}
use Rattle.std.specs.List.{All}
use Rattle.std.proofs.lemmas.Bool.{cond_both}
use Rattle.std.proofs.lemmas.List.Elements.{All-cons, All-nil, All-same}
use Rattle.craft_base.specs.Shape.{Shape}
use Rattle.entry_frames.specs.Durable.{Durable}
use Rattle.entry_frames.specs.declared.role.Role.{Role}
use Rattle.entry_frames.specs.declared.role.Role.TheVariants.{Follower}
use Rattle.world_model.specs.Nodes.{Node}
use Rattle.world_model.specs.Rules.Acts.{Act, stays}
use Rattle.world_model.specs.Traces.{Proposal, all_commits_in, all_proposals_in, has_won_term, proposals_in, removals_in}
use Rattle.protocol.specs.History.{History}
use Rattle.protocol.specs.Moves.{Moves}
use Rattle.bridge.specs.Agreement.{NodeAgrees}
use Rattle.bridge.specs.Bridges.{ActBridged, ActTraced, TurnBridged}
use Rattle.bridge.specs.Traced.{AllStand, CommitAgrees, MessageStands, PageStands, ProposalAgrees, RemovalAgrees, holder}
use Rattle.bridge.proofs.Book.Standing.{pages_more, stand_more}

-- an act of a member that had this durable state is traced, whatever moves from that history make its node agree
abbrev pub IsTraced : Shape → History → (member : ℕ) → Durable → List Proposal → Act → Type 0
IsTraced shape g member before book act =
    (h : History) → Moves shape.faults g h → NodeAgrees shape h member act.node → (event : ℕ) → ActTraced shape h book event member before act

-- an act that is bridged, and traced
pub turned :
    {shape : Shape} {g : History} {member : ℕ} {before : Durable} {book : List Proposal} {act : Act} → ActBridged shape g member act →
    IsTraced shape g member before book act → TurnBridged shape g book member before act
turned b traced = record { bridged = b; traced = λ event. traced b.history (b.moves).run b.node event }

-- what holds of everything holds of each
pub each_is : {X : Type 0} (P : X → Type 0) → ((x : X) → P x) → (xs : List X) → All P xs
each_is P is [] = All-nil P
each_is P is (x ∷ xs) = All-cons P x xs (is x) (each_is P is xs)

-- of nothing, whether or not the member has won
pub none_won : {X : Type 0} (P : X → Type 0) (won : Bool) (xs : List X) → xs ≡ [] → All P (if won then xs else [])
none_won P won xs none = cond_both won xs [] (All P) (λ yes. All-same P xs [] none (All-nil P)) (λ no. All-nil P)

-- of all, or of nothing
pub all_won : {X : Type 0} (P : X → Type 0) (won : Bool) (xs : List X) → All P xs → All P (if won then xs else [])
all_won P won xs all = cond_both won xs [] (All P) (λ yes. all) (λ no. All-nil P)

-- of nothing, where the member is a follower
pub none_of_follower : {X : Type 0} (P : X → Type 0) (role : Role) (xs : List X) → role ≡ Follower → All P (if has_won_term role then xs else [])
none_of_follower P role xs e =
    let none : All P (if has_won_term Follower then xs else []) = All-nil P in
    subst (λ r. All P (if has_won_term r then xs else [])) (sym e) none

-- what is sent stands where the log does
abbrev pub SendsStand : Shape → (member : ℕ) → Act → Type 0
SendsStand shape member act = (book : List Proposal) → AllStand (holder shape member) book 1 act.node.durable.log → All (MessageStands shape book) act.sends

-- the log that is left stands
pub kept_traced :
    {shape : Shape} {g : History} {member : ℕ} {book : List Proposal} (before : Durable) (act : Act) → AllStand (holder shape member) book 1 act.node.durable.log →
    All (PageStands shape book) act.node.volatile.pages → ((event : ℕ) → all_proposals_in event before act.records ≡ []) →
    ((event : ℕ) → removals_in event member before act.records ≡ []) → ((event : ℕ) → all_commits_in event before act.records ≡ []) →
    SendsStand shape member act → IsTraced shape g member before book act
kept_traced {shape = shape} {member = member} {book = book} before act stand seen no_proposals no_removals no_commits sends h run node event =
    let more = proposals_in event act.node.volatile.role before act.records in
    let log : AllStand (holder shape member) (book ++ more) 1 act.node.durable.log = stand_more (holder shape member) book more 1 act.node.durable.log stand in
    record {
      proposals = none_won (ProposalAgrees h) (has_won_term act.node.volatile.role) (all_proposals_in event before act.records) (no_proposals event);
      removals = All-same (RemovalAgrees h) _ [] (no_removals event) (All-nil (RemovalAgrees h));
      commits = none_won (CommitAgrees h) (has_won_term act.node.volatile.role) (all_commits_in event before act.records) (no_commits event);
      log = log;
      pages = pages_more shape book more act.node.volatile.pages seen;
      sends = sends (book ++ more) log;
    }

module _ {shape : Shape} {g : History} {member : ℕ} {book : List Proposal} (before : Durable) (stand : AllStand (holder shape member) book 1 before.log) where
  pub plain_traced :
      (act : Act) → All (PageStands shape book) act.node.volatile.pages → act.node.durable.log ≡ before.log → ((event : ℕ) → all_proposals_in event before act.records ≡ []) →
      ((event : ℕ) → removals_in event member before act.records ≡ []) → ((event : ℕ) → all_commits_in event before act.records ≡ []) →
      SendsStand shape member act → IsTraced shape g member before book act
  plain_traced act seen same no_proposals no_removals no_commits sends =
      kept_traced before act (subst (AllStand (holder shape member) book 1) (sym same) stand) seen no_proposals no_removals no_commits sends

  -- an act that records nothing
  pub silent_traced :
      (act : Act) → All (PageStands shape book) act.node.volatile.pages → act.node.durable.log ≡ before.log → act.records ≡ [] → SendsStand shape member act →
      IsTraced shape g member before book act
  silent_traced act seen same none sends =
      plain_traced act seen same (λ event. subst (λ records. all_proposals_in event before records ≡ []) (sym none) refl)
      (λ event. subst (λ records. removals_in event member before records ≡ []) (sym none) refl)
      (λ event. subst (λ records. all_commits_in event before records ≡ []) (sym none) refl) sends

  pub stays_traced : (n : Node) → All (PageStands shape book) n.volatile.pages → n.durable.log ≡ before.log → IsTraced shape g member before book (stays n)
  stays_traced n seen same = silent_traced (stays n) seen same refl (λ more log. All-nil (MessageStands shape more))
