-- The value that a leader gathers is the one that was proposed, so its log still stands in the book; nothing is proposed, removed or
-- committed, and those who lack the value are sent what stands.
use Rattle.std.proofs.Common.{◌≡◌, ℕ, suc, ◌-◌, List, Option, None, Some, refl, sym, ap, subst, ◌∙◌, arith}
use Rattle.std.specs.List.{All}
use Rattle.std.proofs.lemmas.List.Elements.{All-nil}
use Rattle.std.proofs.lemmas.Option.{same_Some}
use Rattle.craft_base.specs.Shape.{IsShape, Shape}
use Rattle.craft_base.specs.declared.command.Entry.{Entry}
use Rattle.entry_frames.specs.Durable.{applied, completed}
use Rattle.entry_frames.specs.Logs.{entry_at}
use Rattle.entry_frames.specs.Records.{Whole}
use Rattle.gather_read.specs.Gathered.{form_shown, gathered, source_in}
use Rattle.leader_prep.specs.Pages.{latest_slot}
use Rattle.leader_prep.specs.Solutions.{value_of}
use Rattle.leader_prep.specs.Verdicts as verdicts
use Rattle.leader_prep.specs.Verdicts.{Source, Verdict, verdict_of_forms}
use Rattle.world_model.specs.Nodes.{Node}
use Rattle.world_model.specs.Rules.Answer.{act_of_having, act_of_shown, act_of_source, act_of_value, lacking, source_of_part}
use Rattle.world_model.specs.Rules.Want.{part_at}
use Rattle.world_model.specs.Traces.{Proposal}
use Rattle.world_model.proofs.Ranges.Want.{entry_within, part_there}
use Rattle.protocol.specs.History.{History}
use Rattle.bridge.specs.Traced.{AllStand, PageStands, ProposalAgrees, StandsAt, holder}
use Rattle.bridge.proofs.Book.Completing.{complete_stands}
use Rattle.bridge.proofs.Book.Deciding.{found_of_bytes}
use Rattle.bridge.proofs.Book.Plain.{IsTraced, kept_traced, stays_traced}
use Rattle.bridge.proofs.Book.Sent.{some_appends_stand}
use Rattle.bridge.proofs.Book.Values.{IsValueRight, forms_right, latest_slots_stand}

source_right : (value : List ℕ) (verdict : Verdict) (source : Source) → source_in verdict ≡ Some source → IsValueRight value verdict → value_of source ≡ value
source_right value verdicts.Wait source is right = cc
source_right value verdicts.Cut source is right = cc
source_right value (verdicts.Rebuild other) source is right = subst (λ (s : Source). value_of s ≡ value) (same_Some other source is) right

module _
    {shape : Shape} (is : IsShape shape) (g : History) {member : ℕ} (n : Node) (book : List Proposal) (of_shape : n.shape ≡ shape) (me : n.me ≡ member)
    (stand : AllStand (holder shape member) book 1 n.durable.log) (seen : All (PageStands shape book) n.volatile.pages) (proposed : All (ProposalAgrees g) book)
  where
    forms_are :
        (s : Shape) (m : ℕ) → s ≡ shape → m ≡ member → (index : ℕ) (own : Entry) (stands : StandsAt (holder shape member) book index own) →
        IsValueRight (stands.0).value (verdict_of_forms s own (form_shown m index own n.volatile.pages))
    forms_are s m same_shape same_me index own stands =
        rw same_shape (rw same_me
        (forms_right shape is book member index own stands (found_of_bytes g book proposed own.term index stands.0 stands.1)
        (λ other. latest_slot other n.volatile.pages index) (latest_slots_stand shape book index n.volatile.pages seen)))

    -- what is gathered is the value of the command for which the part stands
    gathered_right :
        (index : ℕ) (own : Entry) (source : Source) → gathered n.shape n.me index own n.volatile.pages ≡ Some source →
        (stands : StandsAt (holder shape member) book index own) → value_of source ≡ (stands.0).value
    gathered_right index own source e stands =
        source_right (stands.0).value (verdict_of_forms n.shape own (form_shown n.me index own n.volatile.pages)) source e
        (forms_are n.shape n.me of_shape me index own stands)

    module _ (index : ℕ) (own : Entry) (there : part_at n.durable.log index ≡ Some own) where
      filled_stands :
          (source : Source) → gathered n.shape n.me index own n.volatile.pages ≡ Some source →
          AllStand (holder shape member) book 1 (applied n.durable (Whole index (value_of source))).log
      filled_stands source e =
          let here : entry_at n.durable.log index ≡ Some own = (part_there n.durable.log index own there).0 in
          let within = entry_within n.durable.log index own here in
          let behind : index ≡ suc (index - 1) = omega (arith, within.0) in
          complete_stands (holder shape member) book 1 n.durable.log (index - 1) index (value_of source) (omega (arith, within.0)) stand
          (λ found at_place stands.
          let same : own ≡ found = same_Some own found (sym here ∙ ap (entry_at n.durable.log) behind ∙ at_place) in
          let of_own : StandsAt (holder shape member) book index own = subst (StandsAt (holder shape member) book index) (sym same) stands in
          subst (λ (it : Entry). StandsAt (holder shape member) book index (completed it (value_of source))) same
          (of_own.0, of_own.1, (of_own.2.0, of_own.2.1, gathered_right index own source e of_own)))

      source_traced :
          (source : Option Source) → gathered n.shape n.me index own n.volatile.pages ≡ source → IsTraced shape g member n.durable book (act_of_source index source n)
      source_traced None e = stays_traced n.durable stand n seen refl
      source_traced (Some source) e =
          let value : List ℕ = value_of source in
          let now : Node = (act_of_having index value n).node in
          kept_traced n.durable (act_of_value index value n) (filled_stands source e) (All-nil (PageStands shape book)) (λ event. refl) (λ event. refl) (λ event. refl)
          (λ more log. some_appends_stand shape more member now of_shape log (lacking index now))

    part_traced :
        (index : ℕ) (own : Option Entry) → part_at n.durable.log index ≡ own → IsTraced shape g member n.durable book (act_of_source index (source_of_part n index own) n)
    part_traced index None there = stays_traced n.durable stand n seen refl
    part_traced index (Some own) there = source_traced index own there (gathered n.shape n.me index own n.volatile.pages) refl

    pub shown_traced : (want : Option ℕ) → IsTraced shape g member n.durable book (act_of_shown want n)
    shown_traced None = stays_traced n.durable stand n seen refl
    shown_traced (Some index) = part_traced index (part_at n.durable.log index) refl
