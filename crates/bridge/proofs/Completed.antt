-- Parts of a log that become whole: the log has the same entries, and keeps whole what was whole.
use Rattle.std.proofs.Common.{◌≡◌, ℕ, zero, suc, ◌+◌, ◌-◌, true, List, [], ◌∷◌, length, slice_get, refl, sym, ap, subst, ◌∙◌, le_refl, le_of_eq}
use Rattle.std.proofs.lemmas.Bool.{cond_both}
use Rattle.craft_base.specs.declared.command.Entry.{Entry}
use Rattle.craft_base.specs.declared.command.Form.{Form}
use Rattle.craft_base.specs.declared.command.Form.TheVariants as forms
use Rattle.entry_frames.specs.Durable.{Durable, after, applied, complete_at}
use Rattle.entry_frames.specs.Records.{Whole}
use Rattle.leader_prep.specs.Verdicts.{is_same_head}
use Rattle.world_model.specs.Rules.Append.{completion, completion_of, completions}
use Rattle.world_model.proofs.Recorded.{after-append}
use Rattle.protocol.specs.Logs.{Same, term_at, term_of, is_whole, whole_at}
use Rattle.protocol.proofs.Logs.{same_refl, same_trans}
use Rattle.bridge.specs.Views.{log_seen}

-- ---- one entry that gets its value

complete_length : (log : List Entry) (position : ℕ) (bytes : List ℕ) → length (log_seen (complete_at log position bytes)) ≡ length (log_seen log)
complete_length [] position bytes = refl
complete_length (entry ∷ log) zero bytes = refl
complete_length (entry ∷ log) (suc position) bytes = ap suc (complete_length log position bytes)

complete_term :
    (log : List Entry) (position : ℕ) (bytes : List ℕ) (k : ℕ) →
    term_of (slice_get (log_seen (complete_at log position bytes)) k) ≡ term_of (slice_get (log_seen log) k)
complete_term [] position bytes k = refl
complete_term (entry ∷ log) zero bytes zero = refl
complete_term (entry ∷ log) zero bytes (suc k) = refl
complete_term (entry ∷ log) (suc position) bytes zero = refl
complete_term (entry ∷ log) (suc position) bytes (suc k) = complete_term log position bytes k

complete_whole :
    (log : List Entry) (position : ℕ) (bytes : List ℕ) (k : ℕ) →
    is_whole (slice_get (log_seen log) k) ≡ true → is_whole (slice_get (log_seen (complete_at log position bytes)) k) ≡ true
complete_whole [] position bytes k w = w
complete_whole (entry ∷ log) zero bytes zero w = refl
complete_whole (entry ∷ log) zero bytes (suc k) w = w
complete_whole (entry ∷ log) (suc position) bytes zero w = w
complete_whole (entry ∷ log) (suc position) bytes (suc k) w = complete_whole log position bytes k w

pub complete_term_at :
    (log : List Entry) (position : ℕ) (bytes : List ℕ) (i : ℕ) →
    term_at (log_seen (complete_at log position bytes)) i ≡ term_at (log_seen log) i
unfolding term_at
complete_term_at log position bytes zero = refl
complete_term_at log position bytes (suc k) = complete_term log position bytes k

complete_whole_at :
    (log : List Entry) (position : ℕ) (bytes : List ℕ) (i : ℕ) →
    whole_at (log_seen log) i ≡ true → whole_at (log_seen (complete_at log position bytes)) i ≡ true
unfolding whole_at
complete_whole_at log position bytes zero w = w
complete_whole_at log position bytes (suc k) w = complete_whole log position bytes k w

-- ---- what outlives a crash

-- parts became whole, and nothing else changed
pub record IsCompleted (d e : Durable) : Type 0 where
  pub term : e.term ≡ d.term
  pub vote : e.vote ≡ d.vote
  pub commit : e.commit ≡ d.commit
  pub same : Same (log_seen d.log) (log_seen e.log)
  pub whole : (i : ℕ) → whole_at (log_seen d.log) i ≡ true → whole_at (log_seen e.log) i ≡ true

pub completed_refl : (d : Durable) → IsCompleted d d
completed_refl d = record { term = refl; vote = refl; commit = refl; same = same_refl (log_seen d.log); whole = λ i w. w }

pub completed_trans : {d e f : Durable} → IsCompleted d e → IsCompleted e f → IsCompleted d f
completed_trans one other = record {
  term = other.term ∙ one.term;
  vote = other.vote ∙ one.vote;
  commit = other.commit ∙ one.commit;
  same = same_trans one.same other.same;
  whole = λ i w. other.whole i (one.whole i w);
}

pub value_completes : (d : Durable) (index : ℕ) (bytes : List ℕ) → IsCompleted d (applied d (Whole index bytes))
value_completes d index bytes =
    let long : length (log_seen (complete_at d.log (index - 1) bytes)) ≡ length (log_seen d.log) = complete_length d.log (index - 1) bytes in
    record {
      term = refl;
      vote = refl;
      commit = refl;
      same = record {
        long = sym long;
        agree = record {
          left = le_refl _;
          right = le_of_eq (sym long);
          same = λ i le. sym (complete_term_at d.log (index - 1) bytes i);
        };
      };
      whole = complete_whole_at d.log (index - 1) bytes;
    }

form_completes : (d : Durable) (index : ℕ) (own sent : Form) → IsCompleted d (after d (completion_of index own sent))
form_completes d index (forms.Part bytes) (forms.Whole value) = value_completes d index value
form_completes d index (forms.Part bytes) (forms.Part other) = completed_refl d
form_completes d index (forms.Whole bytes) sent = completed_refl d

entry_completes : (d : Durable) (index : ℕ) (own entry : Entry) → IsCompleted d (after d (completion index own entry))
entry_completes d index own entry =
    cond_both (is_same_head own.head entry.head) (completion_of index own.form entry.form) [] (λ records. IsCompleted d (after d records))
    (λ same. form_completes d index own.form entry.form) (λ other. completed_refl d)

pub all_complete : (d : Durable) (index : ℕ) (log entries : List Entry) → IsCompleted d (after d (completions index log entries))
all_complete d index [] entries = completed_refl d
all_complete d index (own ∷ log) [] = completed_refl d
all_complete d index (own ∷ log) (entry ∷ entries) =
    subst (IsCompleted d) (sym (after-append d (completion index own entry) (completions (index + 1) log entries)))
    (completed_trans (entry_completes d index own entry)
    (all_complete (after d (completion index own entry)) (index + 1) log entries))
