-- Parts of a log that stands become whole by entries that stand: the log still stands, and nothing goes.
use Rattle.std.proofs.Common.{◌≡◌, ℕ, zero, suc, ◌+◌, ◌-◌, ◌<◌, List, [], ◌∷◌, ◌++◌, length, Some, slice_get, refl, sym, ap, subst, ◌∙◌, arith}
use Rattle.std.proofs.lemmas.Bool.{cond_both}
use Rattle.std.proofs.lemmas.List.{append_assoc}
use Rattle.std.proofs.lemmas.Option.{same_Some}
use Rattle.craft_base.specs.declared.command.Entry.{Entry}
use Rattle.craft_base.specs.declared.command.Form.{Form}
use Rattle.craft_base.specs.declared.command.Form.TheVariants as forms
use Rattle.entry_frames.specs.Durable.{Durable, after, applied, complete_at, completed}
use Rattle.entry_frames.specs.Logs as node
use Rattle.entry_frames.specs.Records.{Record}
use Rattle.leader_prep.specs.Verdicts.{is_same_head}
use Rattle.world_model.specs.Rules.Append.{completion, completion_of, completions}
use Rattle.world_model.specs.Safety.{Holds, command_in}
use Rattle.world_model.specs.Traces.{Command, Proposal, removals_in, removals_of}
use Rattle.world_model.proofs.Recorded.{after-append}
use Rattle.protocol.specs.Logs.{term_at}
use Rattle.bridge.specs.Traced.{AllStand, Holder, StandsAt}
use Rattle.bridge.specs.Views.{log_seen}
use Rattle.bridge.proofs.Completed.{complete_term_at}
use Rattle.bridge.proofs.Views.{term_at_seen}

-- ---- nothing goes

pub removals_in-append :
    (event member : ℕ) (d : Durable) (records more : List Record) →
    removals_in event member d (records ++ more) ≡ removals_in event member d records ++ removals_in event member (after d records) more
removals_in-append event member d [] more = refl
removals_in-append event member d (r ∷ records) more =
    ap (λ rest. removals_of event member d r ++ rest) (removals_in-append event member (applied d r) records more)
    ∙ sym (append_assoc (removals_of event member d r) (removals_in event member (applied d r) records) (removals_in event member (after d (r ∷ records)) more))

none_by_form : (event member : ℕ) (d : Durable) (index : ℕ) (own sent : Form) → removals_in event member d (completion_of index own sent) ≡ []
none_by_form event member d index (forms.Part bytes) (forms.Whole value) = refl
none_by_form event member d index (forms.Part bytes) (forms.Part other) = refl
none_by_form event member d index (forms.Whole bytes) sent = refl

none_by_entry : (event member : ℕ) (d : Durable) (index : ℕ) (own entry : Entry) → removals_in event member d (completion index own entry) ≡ []
none_by_entry event member d index own entry =
    cond_both (is_same_head own.head entry.head) (completion_of index own.form entry.form) [] (λ records. removals_in event member d records ≡ [])
    (λ same. none_by_form event member d index own.form entry.form) (λ other. refl)

pub none_by_completing : (event member : ℕ) (d : Durable) (index : ℕ) (own entries : List Entry) → removals_in event member d (completions index own entries) ≡ []
none_by_completing event member d index [] entries = refl
none_by_completing event member d index (first ∷ own) [] = refl
none_by_completing event member d index (first ∷ own) (entry ∷ entries) =
    removals_in-append event member d (completion index first entry) (completions (index + 1) own entries)
    ∙ ap (λ gone. gone ++ removals_in event member (after d (completion index first entry)) (completions (index + 1) own entries))
    (none_by_entry event member d index first entry)
    ∙ none_by_completing event member (after d (completion index first entry)) (index + 1) own entries

-- ---- the log still stands

module _ (at : Holder) (book : List Proposal) where
  -- where the entry at a position stands with its value
  pub complete_stands :
      (first : ℕ) (log : List Entry) (position index : ℕ) (bytes : List ℕ) → first + position ≡ index → AllStand at book first log →
      ((own : Entry) → slice_get log position ≡ Some own → StandsAt at book index own → StandsAt at book index (completed own bytes)) →
      AllStand at book first (complete_at log position bytes)
  complete_stands first [] position index bytes is stand value = tt
  complete_stands first (own ∷ log) zero index bytes is stand value =
      let here : first ≡ index = omega (arith, is) in
      (subst (λ i. StandsAt at book i (completed own bytes)) (sym here) (value own refl (subst (λ i. StandsAt at book i own) here stand.0)), stand.1)
  complete_stands first (own ∷ log) (suc position) index bytes is stand value =
      (stand.0, complete_stands (first + 1) log position index bytes (omega (arith, is)) stand.1 value)

  -- two entries of one term stand for one command at an index
  one_command : (index : ℕ) (own entry : Entry) → own.term ≡ entry.term → (one : StandsAt at book index own) → (other : StandsAt at book index entry) → one.0 ≡ other.0
  one_command index own entry same one other =
      same_Some one.0 other.0 (sym one.1 ∙ ap (λ t. command_in book t index) same ∙ other.1)

  value_holds : (form : Form) (value wanted : List ℕ) → form ≡ forms.Whole value → Holds at.need at.member form wanted → value ≡ wanted
  value_holds (forms.Whole bytes) value wanted is holds = whole bytes value is ∙ holds where
    whole : (bytes value : List ℕ) → forms.Whole bytes ≡ forms.Whole value → value ≡ bytes
    whole bytes value is = cc
  value_holds (forms.Part bytes) value wanted is holds = cc

  completed_stands :
      (index : ℕ) (own entry : Entry) (value : List ℕ) → own.term ≡ entry.term → entry.form ≡ forms.Whole value →
      StandsAt at book index own → StandsAt at book index entry → StandsAt at book index (completed own value)
  completed_stands index own entry value same is one other =
      let holds : value ≡ other.0.value = value_holds entry.form value other.0.value is other.2.2 in
      (one.0, one.1, (one.2.0, one.2.1, holds ∙ ap (λ (c : Command). c.value) (sym (one_command index own entry same one other))))

  -- one more part, where the entry that came stands
  form_stands :
      (d : Durable) (index : ℕ) (entry : Entry) (own sent : Form) → 0 < index → AllStand at book 1 d.log → StandsAt at book index entry →
      entry.form ≡ sent → term_at (log_seen d.log) index ≡ entry.term → AllStand at book 1 (after d (completion_of index own sent)).log
  form_stands d index entry (forms.Part bytes) (forms.Whole value) from stand other is same =
      let position : ℕ = index - 1 in
      complete_stands 1 d.log position index value (omega (arith, from)) stand
      (λ own found one.
      let behind : index ≡ suc position = omega (arith, from) in
      let term : own.term ≡ entry.term =
      sym (ap node.term_of_entry found) ∙ ap (λ i. node.term_at d.log i) (sym behind) ∙ sym (term_at_seen d.log index) ∙ same in
      completed_stands index own entry value term is one other)
  form_stands d index entry (forms.Part bytes) (forms.Part other_bytes) from stand other is same = stand
  form_stands d index entry (forms.Whole bytes) sent from stand other is same = stand

  entry_stands :
      (d : Durable) (index : ℕ) (own entry : Entry) → 0 < index → AllStand at book 1 d.log → StandsAt at book index entry →
      term_at (log_seen d.log) index ≡ entry.term → AllStand at book 1 (after d (completion index own entry)).log
  entry_stands d index own entry from stand other same =
      cond_both (is_same_head own.head entry.head) (completion_of index own.form entry.form) [] (λ records. AllStand at book 1 (after d records).log)
      (λ yes. form_stands d index entry own.form entry.form from stand other refl same) (λ no. stand)

  form_terms : (d : Durable) (index i : ℕ) (own sent : Form) → term_at (log_seen (after d (completion_of index own sent)).log) i ≡ term_at (log_seen d.log) i
  form_terms d index i (forms.Part bytes) (forms.Whole value) = complete_term_at d.log (index - 1) value i
  form_terms d index i (forms.Part bytes) (forms.Part other) = refl
  form_terms d index i (forms.Whole bytes) sent = refl

  entry_terms : (d : Durable) (index i : ℕ) (own entry : Entry) → term_at (log_seen (after d (completion index own entry)).log) i ≡ term_at (log_seen d.log) i
  entry_terms d index i own entry =
      cond_both (is_same_head own.head entry.head) (completion_of index own.form entry.form) [] (λ records. term_at (log_seen (after d records).log) i ≡ term_at (log_seen d.log) i)
      (λ yes. form_terms d index i own.form entry.form) (λ no. refl)

  -- entries that came stand from an index on, where the log has their terms
  pub all_completed_stand :
      (d : Durable) (index : ℕ) (own entries : List Entry) → 0 < index → AllStand at book 1 d.log → AllStand at book index entries →
      ((place : ℕ) (entry : Entry) → place < length own → slice_get entries place ≡ Some entry → term_at (log_seen d.log) (index + place) ≡ entry.term) →
      AllStand at book 1 (after d (completions index own entries)).log
  all_completed_stand d index [] entries from stand sent same = stand
  all_completed_stand d index (first ∷ own) [] from stand sent same = stand
  all_completed_stand d index (first ∷ own) (entry ∷ entries) from stand sent same =
      let here : index ≡ index + 0 = omega arith in
      let now = after d (completion index first entry) in
      let stands : AllStand at book 1 now.log =
      entry_stands d index first entry from stand sent.0 (ap (term_at (log_seen d.log)) here ∙ same zero entry (omega arith) refl) in
      subst (λ e. AllStand at book 1 e.log) (sym (after-append d (completion index first entry) (completions (index + 1) own entries)))
      (all_completed_stand now (index + 1) own entries (omega arith) stands sent.1
      (λ place it within found.
      let behind : index + 1 + place ≡ index + suc place = omega arith in
      ap (term_at (log_seen now.log)) behind ∙ entry_terms d index (index + suc place) first entry ∙ same (suc place) it (omega (arith, within)) found))
