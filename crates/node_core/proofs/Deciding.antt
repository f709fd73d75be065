-- What is left of a log once what was decided is recorded: the cursor is the one that the decision leaves.
use Rattle.std.proofs.Common.{◌≡◌, ℕ, ◌+◌, ◌-◌, ◌≤◌, Bool, true, false, List, [], ◌∷◌, ◌++◌, length, map, take, drop, refl, ap, sym, ◌∙◌, arith, append_assoc, append-nil, length-append, length-take}
use Rattle.std.specs.Prelude.{if◌then◌else◌}
use Rattle.std.specs.Option.{option_to_list}
use Rattle.std.proofs.Math.Seq.{drop-append_seam, take-append_seam}
use Rattle.std.proofs.lemmas.List.{take-append-drop}
use Rattle.std.proofs.lemmas.Simd.{map-map}
use Rattle.craft_base.specs.declared.command.Entry.{Entry}
use Rattle.entry_frames.specs.Durable.{Durable, after, applied, complete_at, completed}
use Rattle.entry_frames.specs.Entries.{is_whole}
use Rattle.entry_frames.specs.Records.{Cut, Whole}
use Rattle.leader_prep.specs.Decisions.{Decision, OpenPart, Rebuilt, cursor_of, decided, decision_at, first_index, open_parts, parts_from}
use Rattle.leader_prep.specs.Solutions.{had, value_of}
use Rattle.leader_prep.specs.Verdicts as verdicts
use Rattle.leader_prep.specs.Verdicts.{Verdict}
use Rattle.world_model.specs.Rules.Prepare.{decided_records, whole_record}
use Rattle.node_core.specs.Preparing.{value_given}

-- the records are those of the values that were had, and then the cut
pub given_records : (rebuilt : List Rebuilt) → map value_given (map had rebuilt) ≡ map whole_record rebuilt
given_records rebuilt = map-map value_given had rebuilt

pub term_of : (d : Durable) (rebuilt : List Rebuilt) (cut : List ℕ) → (after d (map whole_record rebuilt ++ map Cut cut)).term ≡ d.term
term_of d [] [] = refl
term_of d [] (index ∷ cut) = term_of (applied d (Cut index)) [] cut
term_of d (one ∷ rebuilt) cut = term_of (applied d (whole_record one)) rebuilt cut

commit_of : (d : Durable) (rebuilt : List Rebuilt) (cut : List ℕ) → (after d (map whole_record rebuilt ++ map Cut cut)).commit ≡ d.commit
commit_of d [] [] = refl
commit_of d [] (index ∷ cut) = commit_of (applied d (Cut index)) [] cut
commit_of d (one ∷ rebuilt) cut = commit_of (applied d (whole_record one)) rebuilt cut

complete_there : (front : List Entry) (e : Entry) (es : List Entry) (value : List ℕ) → complete_at (front ++ e ∷ es) (length front) value ≡ front ++ completed e value ∷ es
complete_there [] e es value = refl
complete_there (x ∷ front) e es value = ap (λ (rest : List Entry). x ∷ rest) (complete_there front e es value)

module _ (v : OpenPart → Verdict) where
  abbrev part_at : ℕ → Entry → OpenPart
  part_at index e = record { index = index; entry = e }

  -- what is left of the first entry and those behind it, where that is decided of it
  abbrev left_by : Verdict → (e : Entry) → (all left : List Entry) → List Entry
  left_by verdicts.Wait e all left = e ∷ all
  left_by (verdicts.Rebuild source) e all left = completed e (value_of source) ∷ left
  left_by verdicts.Cut e all left = []

  -- what is left of entries, the first of which has that index
  abbrev left_of : ℕ → List Entry → List Entry
  left_of index [] = []
  left_of index (e ∷ es) = if is_whole e.form then e ∷ left_of (index + 1) es else left_by (v (part_at index e)) e es (left_of (index + 1) es)

  abbrev parts_with : ℕ → Bool → Entry → List Entry → List OpenPart
  parts_with index whole e es = if whole then parts_from (index + 1) es else part_at index e ∷ parts_from (index + 1) es

  abbrev left_with : ℕ → Bool → Entry → List Entry → List Entry
  left_with index whole e es = if whole then e ∷ left_of (index + 1) es else left_by (v (part_at index e)) e es (left_of (index + 1) es)

  cursor_by : (index : ℕ) (e : Entry) (es : List Entry) → first_index (parts_from (index + 1) (left_of (index + 1) es)) ≡ (decided v (parts_from (index + 1) es)).cursor →
      is_whole e.form ≡ false → (verdict : Verdict) →
      first_index (parts_from index (left_by verdict e es (left_of (index + 1) es))) ≡ (decision_at index verdict (decided v (parts_from (index + 1) es))).cursor
  cursor_by index e es behind part verdicts.Wait = ap (λ (b : Bool). first_index (parts_with index b e es)) part
  cursor_by index e es behind part (verdicts.Rebuild source) = behind
  cursor_by index e es behind part verdicts.Cut = refl

  cursor_step : (index : ℕ) (e : Entry) (es : List Entry) → first_index (parts_from (index + 1) (left_of (index + 1) es)) ≡ (decided v (parts_from (index + 1) es)).cursor →
      (b : Bool) → is_whole e.form ≡ b → first_index (parts_from index (left_of index (e ∷ es))) ≡ (decided v (parts_from index (e ∷ es))).cursor
  cursor_step index e es behind true whole =
      ap (λ (b : Bool). first_index (parts_from index (left_with index b e es))) whole
      ∙ ap (λ (b : Bool). first_index (parts_with index b e (left_of (index + 1) es))) whole
      ∙ behind
      ∙ sym (ap (λ (b : Bool). (decided v (parts_with index b e es)).cursor) whole)
  cursor_step index e es behind false part =
      ap (λ (b : Bool). first_index (parts_from index (left_with index b e es))) part
      ∙ cursor_by index e es behind part (v (part_at index e))
      ∙ sym (ap (λ (b : Bool). (decided v (parts_with index b e es)).cursor) part)

  cursor_left : (es : List Entry) (index : ℕ) → first_index (parts_from index (left_of index es)) ≡ (decided v (parts_from index es)).cursor
  cursor_left [] index = refl
  cursor_left (e ∷ es) index = cursor_step index e es (cursor_left es (index + 1)) (is_whole e.form) refl

  -- the records leave that behind what stands before
  abbrev Leaves : ℕ → List Entry → Type 0
  Leaves index es = (d : Durable) (front : List Entry) → d.log ≡ front ++ es → index ≡ length front + 1 →
      (after d (decided_records (decided v (parts_from index es)))).log ≡ front ++ left_of index es

  -- the rest, behind one entry more
  log_behind : (index : ℕ) (x : Entry) (es : List Entry) → Leaves (index + 1) es → (d : Durable) (front : List Entry) → d.log ≡ front ++ x ∷ es → index ≡ length front + 1 →
      (after d (decided_records (decided v (parts_from (index + 1) es)))).log ≡ front ++ x ∷ left_of (index + 1) es
  log_behind index x es rest d front log at =
      rest d (front ++ x ∷ []) (log ∙ sym (append_assoc front (x ∷ []) es)) (omega (arith, at, length-append front (x ∷ [])))
      ∙ append_assoc front (x ∷ []) (left_of (index + 1) es)

  log_by : (index : ℕ) (e : Entry) (es : List Entry) → Leaves (index + 1) es → (d : Durable) (front : List Entry) → d.log ≡ front ++ e ∷ es → index ≡ length front + 1 →
      (verdict : Verdict) →
      (after d (decided_records (decision_at index verdict (decided v (parts_from (index + 1) es))))).log ≡ front ++ left_by verdict e es (left_of (index + 1) es)
  log_by index e es rest d front log at verdicts.Wait = log
  log_by index e es rest d front log at (verdicts.Rebuild source) =
      let here : index - 1 ≡ length front = omega (arith, at) in
      log_behind index (completed e (value_of source)) es rest (applied d (Whole index (value_of source))) front
      (ap (λ (k : ℕ). complete_at d.log k (value_of source)) here ∙ ap (λ (xs : List Entry). complete_at xs (length front) (value_of source)) log
      ∙ complete_there front e es (value_of source)) at
  log_by index e es rest d front log at verdicts.Cut =
      let here : index - 1 ≡ length front = omega (arith, at) in
      ap (λ (k : ℕ). take k d.log) here ∙ ap (λ (xs : List Entry). take (length front) xs) log ∙ take-append_seam front (e ∷ es) ∙ sym (append-nil front)

  log_step : (index : ℕ) (e : Entry) (es : List Entry) → Leaves (index + 1) es → (d : Durable) (front : List Entry) → d.log ≡ front ++ e ∷ es → index ≡ length front + 1 →
      (b : Bool) → is_whole e.form ≡ b → (after d (decided_records (decided v (parts_from index (e ∷ es))))).log ≡ front ++ left_of index (e ∷ es)
  log_step index e es rest d front log at true whole =
      ap (λ (b : Bool). (after d (decided_records (decided v (parts_with index b e es)))).log) whole ∙ log_behind index e es rest d front log at
      ∙ sym (ap (λ (b : Bool). front ++ left_with index b e es) whole)
  log_step index e es rest d front log at false part =
      ap (λ (b : Bool). (after d (decided_records (decided v (parts_with index b e es)))).log) part
      ∙ log_by index e es rest d front log at (v (part_at index e))
      ∙ sym (ap (λ (b : Bool). front ++ left_with index b e es) part)

  log_left : (es : List Entry) (index : ℕ) → Leaves index es
  log_left [] index d front log at = log
  log_left (e ∷ es) index d front log at = log_step index e es (log_left es (index + 1)) d front log at (is_whole e.form) refl

  pub cursor_after : (d : Durable) → d.commit ≤ length d.log →
      let decision = decided v (open_parts d.commit d.log) in
      let now = after d (decided_records decision) in
      cursor_of now.commit now.log ≡ decision.cursor
  cursor_after d within =
      let behind : List Entry = drop d.commit d.log in
      let front : List Entry = take d.commit d.log in
      let long : length front ≡ d.commit = omega (arith, length-take d.commit d.log, within) in
      let decision : Decision = decided v (open_parts d.commit d.log) in
      let now : Durable = after d (decided_records decision) in
      let left : List Entry = left_of (d.commit + 1) behind in
      let log : now.log ≡ front ++ left = log_left behind (d.commit + 1) d front (sym (take-append-drop d.commit d.log)) (omega (arith, long)) in
      ap (λ (k : ℕ). cursor_of k now.log) (commit_of d decision.rebuilt (option_to_list decision.cut))
      ∙ ap (λ (es : List Entry). cursor_of d.commit es) log
      ∙ ap (λ (k : ℕ). first_index (parts_from (d.commit + 1) (drop k (front ++ left)))) (sym long)
      ∙ ap (λ (es : List Entry). first_index (parts_from (d.commit + 1) es)) (drop-append_seam front left)
      ∙ cursor_left behind (d.commit + 1)
