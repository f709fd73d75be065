-- What a preparation decides leaves a log that stands in the book, proposes and commits nothing, and removes what nobody committed.
use Rattle.std.proofs.Common.{◌≡◌, ℕ, suc, ◌+◌, ◌-◌, ◌<◌, ◌&&◌, ◌==◌, true, false, Bool, List, [], ◌∷◌, ◌++◌, length, map, drop, slice_get, if◌then◌else◌, Option, None, Some, refl, sym, ap, subst, ◌∙◌, arith, length-take}
use Rattle.std.specs.List.{All}
use Rattle.std.specs.Option.{option_to_list}
use Rattle.std.proofs.lemmas.Bool.{cond_both}
use Rattle.std.proofs.lemmas.List.Elements.{All-append, All-cons, All-head, All-nil, All-tail, All-weaker}
use Rattle.std.proofs.lemmas.Option.{same_Some}
use Rattle.craft_base.specs.Shape.{IsShape, Shape}
use Rattle.craft_base.specs.declared.command.Entry.{Entry}
use Rattle.entry_frames.specs.Durable.{Durable, after, applied, completed}
use Rattle.entry_frames.specs.Entries.{is_whole}
use Rattle.entry_frames.specs.Records.{Record, Cut, Whole}
use Rattle.entry_frames.proofs.Stored.{complete_length}
use Rattle.leader_prep.specs.Decisions.{OpenPart, Rebuilt, decided, decision_at, parts_from, verdict_at}
use Rattle.leader_prep.specs.Pages.{is_shown, latest_slot}
use Rattle.leader_prep.specs.Solutions.{value_of}
use Rattle.leader_prep.specs.Verdicts as verdicts
use Rattle.leader_prep.specs.Verdicts.{Verdict}
use Rattle.world_model.specs.Nodes.{Node}
use Rattle.world_model.specs.Rules.Acts.{Act, followed_by}
use Rattle.world_model.specs.Rules.Prepare as rule
use Rattle.world_model.specs.Rules.Prepare.{act_of_deciding, decided_records, whole_record}
use Rattle.world_model.specs.Safety.{command_in}
use Rattle.world_model.specs.Traces.{Command, Proposal, Removal, all_commits_in, all_proposals_in, has_won_term, leader_commits_in, proposals_in, removals_in}
use Rattle.world_model.proofs.Ranges.Completions.{Stands, complete_there}
use Rattle.world_model.proofs.Ranges.Orders.{dropped_at}
use Rattle.protocol.specs.History as protocol
use Rattle.protocol.specs.Logs.{Has}
use Rattle.protocol.specs.Moves.{Moves, Reached}
use Rattle.bridge.specs.Bridges.{ActTraced}
use Rattle.bridge.specs.Traced.{AllStand, CommitAgrees, IsGone, IsOfBytes, MessageStands, PageStands, ProposalAgrees, RemovalAgrees, StandsAt, holder}
use Rattle.bridge.specs.Views.{log_seen}
use Rattle.bridge.proofs.Book.Completing.{complete_stands, removals_in-append}
use Rattle.bridge.proofs.Book.Cutting.{gone}
use Rattle.bridge.proofs.Book.Standing.{stand_take}
use Rattle.bridge.proofs.Book.Taken.{stretch_has}
use Rattle.bridge.proofs.Book.Values.{IsValueRight, latest_slots_stand, verdict_right}
use Rattle.bridge.proofs.Completed.{complete_term_at}
use Rattle.bridge.proofs.Views.{length_seen}

-- what is found in a book that agrees has a value of bytes
pub found_of_bytes : (g : protocol.History) (book : List Proposal) → All (ProposalAgrees g) book → (term index : ℕ) (command : Command) → command_in book term index ≡ Some command → IsOfBytes command
found_of_bytes g [] all term index command e = cc
found_of_bytes g (p ∷ book) all term index command e =
    one ((p.term == term) && (p.index == index)) e (found_of_bytes g book (All-tail (ProposalAgrees g) p book all) term index command)
  where
    one : (test : Bool) → (if test then Some p.command else command_in book term index) ≡ Some command → (command_in book term index ≡ Some command → IsOfBytes command) → IsOfBytes command
    one true is rest = subst IsOfBytes (same_Some p.command command is) (All-head (ProposalAgrees g) p book all).2
    one false is rest = rest is

-- ---- the log

module _ (shape : Shape) (book : List Proposal) (me : ℕ) (verdict_of : OpenPart → Verdict) where
  -- each value that is had is the one that was proposed, of these entries, the first of which has that index
  abbrev AreRight : (index : ℕ) → List Entry → Type 0
  AreRight index entries =
      (i at : ℕ) (e : Entry) → at ≡ index + i → slice_get entries i ≡ Some e → (stands : StandsAt (holder shape me) book at e) →
      IsValueRight (stands.0).value (verdict_of (record { index = at; entry = e }))

  abbrev LogStands : Durable → Type 0
  LogStands d = AllStand (holder shape me) book 1 d.log

  abbrev IsDecidedIn : (d : Durable) (index place : ℕ) → List Entry → Type 0
  IsDecidedIn d index place entries =
      index ≡ suc place → Stands shape d place entries → LogStands d → AreRight index entries →
      LogStands (after d (decided_records (decided verdict_of (parts_from index entries))))

  first_decided :
      (d : Durable) (index place : ℕ) (e : Entry) (es : List Entry) → index ≡ suc place → Stands shape d place (e ∷ es) → LogStands d → AreRight index (e ∷ es) →
      ((now : Durable) → IsDecidedIn now (index + 1) (place + 1) es) → (v : Verdict) → verdict_of (record { index = index; entry = e }) ≡ v →
      LogStands (after d (decided_records (decision_at index v (decided verdict_of (parts_from (index + 1) es)))))
  first_decided d index place e es is stands stand right rest verdicts.Wait is_v = stand
  first_decided d index place e es is stands stand right rest verdicts.Cut is_v = stand_take (holder shape me) book 1 (index - 1) d.log stand
  first_decided d index place e es is stands stand right rest (verdicts.Rebuild source) is_v =
      let value : List ℕ = value_of source in
      let now : Durable = applied d (Whole index value) in
      let here : slice_get d.log place ≡ Some e = stands 0 place e (omega arith) refl in
      let before : index - 1 ≡ place = omega (arith, is) in
      let now_stands : LogStands now =
      complete_stands (holder shape me) book 1 d.log (index - 1) index value (omega (arith, is)) stand
      (λ own found one.
      let same : own ≡ e = same_Some own e (sym found ∙ ap (slice_get d.log) before ∙ here) in
      let of_e : StandsAt (holder shape me) book index e = subst (StandsAt (holder shape me) book index) same one in
      let had : IsValueRight (of_e.0).value (verdicts.Rebuild source) = subst (IsValueRight (of_e.0).value) is_v (right 0 index e (omega arith) refl of_e) in
      subst (λ (x : Entry). StandsAt (holder shape me) book index (completed x value)) (sym same) (of_e.0, of_e.1, (of_e.2.0, of_e.2.1, had))) in
      rest now (omega (arith, is))
      (λ i at own at_is found. complete_there d.log (index - 1) value at (λ e. omega (arith, e, is, at_is)) ∙ stands (suc i) at own (omega (arith, at_is)) found)
      now_stands (λ i at own at_is found. right (suc i) at own (omega (arith, at_is)) found)

  pub decided_stand : (entries : List Entry) (d : Durable) (index place : ℕ) → IsDecidedIn d index place entries
  decided_stand [] d index place is stands stand right = stand
  decided_stand (e ∷ es) d index place is stands stand right =
      let later : (now : Durable) → IsDecidedIn now (index + 1) (place + 1) es = λ now. decided_stand es now (index + 1) (place + 1) in
      cond_both (is_whole e.form) (parts_from (index + 1) es) (record { index = index; entry = e } ∷ parts_from (index + 1) es)
      (λ parts. LogStands (after d (decided_records (decided verdict_of parts))))
      (λ whole.
      later d (omega (arith, is)) (λ i at own at_is found. stands (suc i) at own (omega (arith, at_is)) found) stand
      (λ i at own at_is found. right (suc i) at own (omega (arith, at_is)) found))
      (λ part. first_decided d index place e es is stands stand right later (verdict_of (record { index = index; entry = e })) refl)

-- ---- what is proposed, committed and removed

proposes_nothing : (event : ℕ) (d : Durable) (rebuilt : List Rebuilt) (cut : Option ℕ) (more : List Record) →
    all_proposals_in event d ((map whole_record rebuilt ++ map Cut (option_to_list cut)) ++ more)
    ≡ all_proposals_in event (after d (map whole_record rebuilt ++ map Cut (option_to_list cut))) more
proposes_nothing event d [] None more = refl
proposes_nothing event d [] (Some index) more = refl
proposes_nothing event d (r ∷ rebuilt) cut more = proposes_nothing event (applied d (whole_record r)) rebuilt cut more

commits_nothing : (event : ℕ) (d : Durable) (rebuilt : List Rebuilt) (cut : Option ℕ) (more : List Record) →
    all_commits_in event d ((map whole_record rebuilt ++ map Cut (option_to_list cut)) ++ more)
    ≡ all_commits_in event (after d (map whole_record rebuilt ++ map Cut (option_to_list cut))) more
commits_nothing event d [] None more = refl
commits_nothing event d [] (Some index) more = refl
commits_nothing event d (r ∷ rebuilt) cut more = commits_nothing event (applied d (whole_record r)) rebuilt cut more

-- what went was in the log before, in its term, and the log that is left ends before
pub record IsCutOff (d now : Durable) (c : Removal) : Type 0 where
  pub term : c.term ≡ d.term
  pub ends : length now.log < c.index
  pub places : (place : ℕ) (e : Entry) → slice_get c.entries place ≡ Some e → Has (log_seen d.log) (c.index + place) e.term

-- a value that became whole changed no term
had_before : (d : Durable) (index : ℕ) (bytes : List ℕ) (i term : ℕ) → Has (log_seen (applied d (Whole index bytes)).log) i term → Has (log_seen d.log) i term
had_before d index bytes i term it =
    let now_seen : length (log_seen (applied d (Whole index bytes)).log) ≡ length (applied d (Whole index bytes)).log = length_seen (applied d (Whole index bytes)).log in
    let seen : length (log_seen d.log) ≡ length d.log = length_seen d.log in
    let same : length (applied d (Whole index bytes)).log ≡ length d.log = complete_length d.log (index - 1) bytes in
    record {
      from = it.from;
      within = omega (arith, it.within, now_seen, seen, same);
      here = sym (complete_term_at d.log (index - 1) bytes i) ∙ it.here;
    }

cut_off : (event member : ℕ) (d : Durable) (rebuilt : List Rebuilt) (cut : Option ℕ) → ((index : ℕ) → cut ≡ Some index → 0 < index) →
    All (IsCutOff d (after d (map whole_record rebuilt ++ map Cut (option_to_list cut))))
    (removals_in event member d (map whole_record rebuilt ++ map Cut (option_to_list cut)))
cut_off event member d [] None from = All-nil (IsCutOff d d)
cut_off event member d [] (Some index) from =
    let left : Durable = applied d (Cut index) in
    let c : Removal = record { event = event; member = member; term = d.term; index = index; entries = drop (index - 1) d.log } in
    let above : 0 < index = from index refl in
    All-cons (IsCutOff d left) c []
    (record {
      term = refl;
      ends = omega (arith, length-take (index - 1) d.log, above);
      places = λ place e found.
          let here = stretch_has d.log (index - 1) place e found in
          let at : index - 1 + 1 + place ≡ index + place = omega (arith, above) in
          subst (λ i. Has (log_seen d.log) i e.term) at here;
    }) (All-nil (IsCutOff d left))
cut_off event member d (r ∷ rebuilt) cut from =
    let now : Durable = applied d (whole_record r) in
    let left : Durable = after now (map whole_record rebuilt ++ map Cut (option_to_list cut)) in
    All-weaker (IsCutOff now left) (IsCutOff d left)
    (λ c off. record { term = off.term; ends = off.ends; places = λ place e found. had_before d r.index (value_of r.source) (c.index + place) e.term (off.places place e found) })
    (removals_in event member now (map whole_record rebuilt ++ map Cut (option_to_list cut))) (cut_off event member now rebuilt cut from)

-- where the log is cut, it is at an index
cut_at_first : (verdict_of : OpenPart → Verdict) (index : ℕ) (entries : List Entry) → 0 < index → (at : ℕ) → (decided verdict_of (parts_from index entries)).cut ≡ Some at → 0 < at
cut_at_first verdict_of index [] from at is = cc
cut_at_first verdict_of index (e ∷ es) from at is = one (is_whole e.form) is (cut_at_first verdict_of (index + 1) es (omega arith) at) where
  by_verdict : (v : Verdict) → (decision_at index v (decided verdict_of (parts_from (index + 1) es))).cut ≡ Some at →
      ((decided verdict_of (parts_from (index + 1) es)).cut ≡ Some at → 0 < at) → 0 < at
  by_verdict verdicts.Wait is_cut later = cc
  by_verdict verdicts.Cut is_cut later = subst (λ (i : ℕ). 0 < i) (same_Some index at is_cut) from
  by_verdict (verdicts.Rebuild source) is_cut later = later is_cut

  one : (whole : Bool) → (decided verdict_of (if whole then parts_from (index + 1) es else record { index = index; entry = e } ∷ parts_from (index + 1) es)).cut ≡ Some at →
      ((decided verdict_of (parts_from (index + 1) es)).cut ≡ Some at → 0 < at) → 0 < at
  one true is_cut later = later is_cut
  one false is_cut later = by_verdict (verdict_of (record { index = index; entry = e })) is_cut later

-- ---- a node

-- what it is once it has decided
abbrev pub decided_of : Node → Node
decided_of n = (act_of_deciding n).node

module _ (shape : Shape) (is : IsShape shape) (g : protocol.History) (book : List Proposal) (proposed : All (ProposalAgrees g) book) (n : Node) where
  module _
      {member : ℕ} (of_shape : n.shape ≡ shape) (me : n.me ≡ member) (stand : AllStand (holder shape member) book 1 n.durable.log)
      (seen : All (PageStands shape book) n.volatile.pages) where
    right_in :
        (s : Shape) (m : ℕ) → s ≡ shape → m ≡ member → (i at : ℕ) (e : Entry) → (stands : StandsAt (holder shape member) book at e) →
        IsValueRight (stands.0).value (verdict_at s m n.volatile.pages (record { index = at; entry = e }))
    right_in s m same_shape same_me i at e stands =
        rw same_shape (rw same_me
        (verdict_right shape is book member at e stands (found_of_bytes g book proposed e.term at stands.0 stands.1)
        (λ other. latest_slot other n.volatile.pages at) (latest_slots_stand shape book at n.volatile.pages seen) (λ other. is_shown other n.volatile.pages at)))

    -- its log still stands
    pub decided_log : AllStand (holder shape member) book 1 (decided_of n).durable.log
    decided_log =
        let commit : ℕ = n.durable.commit in
        decided_stand shape book member (verdict_at n.shape n.me n.volatile.pages) (drop commit n.durable.log) n.durable (commit + 1) commit (omega arith)
        (λ i at own at_is found. dropped_at n.durable.log commit i at own at_is found) stand
        (λ i at e at_is found stands. right_in n.shape n.me of_shape me i at e stands)

-- what it removed
pub decided_removals : (n : Node) (event member : ℕ) → All (IsCutOff n.durable (decided_of n).durable) (removals_in event member n.durable (decided_records (rule.decision_at n)))
decided_removals n event member =
    let commit : ℕ = n.durable.commit in
    cut_off event member n.durable (rule.decision_at n).rebuilt (rule.decision_at n).cut
    (cut_at_first (verdict_at n.shape n.me n.volatile.pages) (commit + 1) (drop commit n.durable.log) (omega arith))

-- what a rule then does is traced, where what was removed agrees
pub behind_deciding :
    (shape : Shape) (book : List Proposal) (n : Node) (h : protocol.History) (event member : ℕ) (then_ : Node → Act) → All (RemovalAgrees h) (removals_in event member n.durable (decided_records (rule.decision_at n))) →
    ActTraced shape h book event member (decided_of n).durable (then_ (decided_of n)) → ActTraced shape h book event member n.durable (followed_by (act_of_deciding n) then_)
behind_deciding shape book n h event member then_ removed t =
    let next : Act = then_ (decided_of n) in
    let records : List Record = decided_records (rule.decision_at n) in
    let same : proposals_in event next.node.volatile.role n.durable (records ++ next.records) ≡ proposals_in event next.node.volatile.role (decided_of n).durable next.records =
    ap (λ it. if has_won_term next.node.volatile.role then it else []) (proposes_nothing event n.durable (rule.decision_at n).rebuilt (rule.decision_at n).cut next.records) in
    let same_commits : leader_commits_in event next.node.volatile.role n.durable (records ++ next.records) ≡ leader_commits_in event next.node.volatile.role (decided_of n).durable next.records =
    ap (λ it. if has_won_term next.node.volatile.role then it else []) (commits_nothing event n.durable (rule.decision_at n).rebuilt (rule.decision_at n).cut next.records) in
    record {
      proposals = subst (All (ProposalAgrees h)) (sym same) t.proposals;
      removals = subst (All (RemovalAgrees h)) (sym (removals_in-append event member n.durable records next.records))
          (All-append (RemovalAgrees h) (removals_in event member n.durable records) (removals_in event member (decided_of n).durable next.records) removed t.removals);
      commits = subst (All (CommitAgrees h)) (sym same_commits) t.commits;
      log = subst (λ it. AllStand (holder shape member) (book ++ it) 1 next.node.durable.log) (sym same) t.log;
      pages = subst (λ it. All (PageStands shape (book ++ it)) next.node.volatile.pages) (sym same) t.pages;
      sends = subst (λ it. All (MessageStands shape (book ++ it)) next.sends) (sym same) t.sends;
    }

-- an entry that was removed went out by a cut, in whatever history the member's log is what is left or that with entries of its own
-- term behind it
pub removed_agrees :
    (shape : Shape) {g : protocol.History} {member : ℕ} (n : Node) → Reached shape.faults g → g.term member ≡ n.durable.term → g.log member ≡ log_seen n.durable.log →
    (now final : Durable) (h : protocol.History) → Moves shape.faults g h → h.term member ≡ n.durable.term → h.log member ≡ log_seen final.log →
    ((i term : ℕ) → Has (log_seen final.log) i term → length now.log < i → term ≡ n.durable.term) →
    ((i : ℕ) → Has (g.log member) i n.durable.term → ⊥) → (c : Removal) → IsCutOff n.durable now c → RemovalAgrees h c
removed_agrees shape {g = g} {member = member} n reached at_term at_log now final h run term log behind none c off place e found =
    let was : Has (log_seen n.durable.log) (c.index + place) e.term = off.places place e found in
    let mine : Has (g.log member) (c.index + place) e.term = subst (λ slots. Has slots (c.index + place) e.term) (sym at_log) was in
    let lost : Has (h.log member) (c.index + place) e.term → ⊥ =
    λ still.
    let left : Has (log_seen final.log) (c.index + place) e.term = subst (λ slots. Has slots (c.index + place) e.term) log still in
    let own : e.term ≡ n.durable.term = behind (c.index + place) e.term left (omega (arith, off.ends)) in
    none (c.index + place) (subst (λ t. Has (g.log member) (c.index + place) t) own mine) in
    subst (λ t. IsGone h t (c.index + place) e.term) (sym off.term)
    (gone shape.faults g reached (c.index + place) e.term member h n.durable.term run mine lost at_term term)
