-- What is left once a preparation has decided: the log up to the commit index as it was, and behind it what the verdicts leave.
use Rattle.std.proofs.Common.{◌≡◌, ℕ, zero, suc, ◌+◌, ◌-◌, true, false, Bool, if◌then◌else◌, List, [], ◌∷◌, ◌++◌, length, map, drop, take, Option, None, Some, refl, sym, ap, subst, ◌∙◌, arith, append_assoc, append-nil, length-append, length-drop, length-take}
use Rattle.std.specs.Option.{option_to_list}
use Rattle.std.proofs.Math.Seq.{take-append_seam}
use Rattle.std.proofs.lemmas.Bool.{cond_both}
use Rattle.std.proofs.lemmas.Option.{same_Some}
use Rattle.craft_base.specs.Shape.{Shape}
use Rattle.craft_base.specs.declared.command.Entry.{Entry}
use Rattle.entry_frames.specs.Durable.{Durable, after, applied, complete_at, completed}
use Rattle.entry_frames.specs.Entries.{is_whole}
use Rattle.entry_frames.specs.Records.{Cut, Record, Whole}
use Rattle.leader_prep.specs.Decisions.{OpenPart, Rebuilt, cursor_of, decided, decision_at, first_index, open_parts, parts_from, verdict_at}
use Rattle.leader_prep.specs.Pages.{is_shown, latest_slot}
use Rattle.leader_prep.specs.Solutions.{value_of}
use Rattle.leader_prep.specs.Verdicts as verdicts
use Rattle.leader_prep.specs.Verdicts.{Verdict, first_whole, is_covered, parts_of, usable_form, verdict, verdict_of_forms, verdict_of_parts, verdict_with}
use Rattle.craft_base.specs.Knowledge.{members}
use Rattle.rs_code.specs.Rebuilding.{TakenPart}
use Rattle.world_model.specs.Nodes.{Node}
use Rattle.world_model.specs.Rules.Prepare.{act_of_deciding, cursor_at, decided_records, whole_record}

-- ---- what is left of entries

module _ (verdict_of : OpenPart → Verdict) where
  -- what a verdict on the first of them leaves, where that is left of the others
  abbrev pub left_by : Verdict → Entry → (others left : List Entry) → List Entry
  left_by verdicts.Wait e others left = e ∷ others
  left_by verdicts.Cut e others left = []
  left_by (verdicts.Rebuild source) e others left = completed e (value_of source) ∷ left

  abbrev pub left_of : (index : ℕ) → List Entry → List Entry
  left_of index [] = []
  left_of index (e ∷ es) =
      if is_whole e.form then e ∷ left_of (index + 1) es
      else left_by (verdict_of (record { index = index; entry = e })) e es (left_of (index + 1) es)

  abbrev records_from : (index : ℕ) → List Entry → List Record
  records_from index entries = decided_records (decided verdict_of (parts_from index entries))

  complete_behind : (front : List Entry) (e : Entry) (es : List Entry) (bytes : List ℕ) → complete_at (front ++ e ∷ es) (length front) bytes ≡ front ++ completed e bytes ∷ es
  complete_behind [] e es bytes = refl
  complete_behind (first ∷ front) e es bytes = ap (λ rest. first ∷ rest) (complete_behind front e es bytes)

  -- the log is that front and what is left of the others
  abbrev Leaves : Durable → (front left : List Entry) → Type 0
  Leaves d front left = d.log ≡ front ++ left

  one_more : (front : List Entry) (e : Entry) (es : List Entry) → (front ++ e ∷ []) ++ es ≡ front ++ e ∷ es
  one_more front e es = append_assoc front (e ∷ []) es

  longer : (front : List Entry) (e : Entry) (index : ℕ) → index ≡ suc (length front) → index + 1 ≡ suc (length (front ++ e ∷ []))
  longer front e index is = omega (arith, is, length-append front (e ∷ []))

  by_verdict :
      (v : Verdict) (front : List Entry) (e : Entry) (es : List Entry) (d : Durable) (index : ℕ) → index ≡ suc (length front) → d.log ≡ front ++ e ∷ es →
      ((now : Durable) (more : List Entry) → index + 1 ≡ suc (length more) → now.log ≡ more ++ es → Leaves (after now (records_from (index + 1) es)) more (left_of (index + 1) es)) →
      Leaves (after d (decided_records (decision_at index v (decided verdict_of (parts_from (index + 1) es))))) front (left_by v e es (left_of (index + 1) es))
  by_verdict verdicts.Wait front e es d index is log rest = log
  by_verdict verdicts.Cut front e es d index is log rest =
      let before : index - 1 ≡ length front = omega (arith, is) in
      ap (λ n. take n d.log) before ∙ ap (take (length front)) log ∙ take-append_seam front (e ∷ es) ∙ sym (append-nil front)
  by_verdict (verdicts.Rebuild source) front e es d index is log rest =
      let bytes : List ℕ = value_of source in
      let now : Durable = applied d (Whole index bytes) in
      let before : index - 1 ≡ length front = omega (arith, is) in
      let there : now.log ≡ (front ++ completed e bytes ∷ []) ++ es =
      ap (λ n. complete_at d.log n bytes) before ∙ ap (λ it. complete_at it (length front) bytes) log ∙ complete_behind front e es bytes
      ∙ sym (one_more front (completed e bytes) es) in
      rest now (front ++ completed e bytes ∷ []) (longer front (completed e bytes) index is) there
      ∙ one_more front (completed e bytes) (left_of (index + 1) es)

  pub records_leave :
      (entries front : List Entry) (d : Durable) (index : ℕ) → index ≡ suc (length front) → d.log ≡ front ++ entries →
      Leaves (after d (records_from index entries)) front (left_of index entries)
  records_leave [] front d index is log = log
  records_leave (e ∷ es) front d index is log =
      let later = λ (now : Durable) (more : List Entry). records_leave es more now (index + 1) in
      one (is_whole e.form) refl (λ now more at there. later now more at there)
    where
      one : (whole : Bool) → is_whole e.form ≡ whole →
          ((now : Durable) (more : List Entry) → index + 1 ≡ suc (length more) → now.log ≡ more ++ es → Leaves (after now (records_from (index + 1) es)) more (left_of (index + 1) es)) →
          Leaves (after d (decided_records (decided verdict_of (if whole then parts_from (index + 1) es else record { index = index; entry = e } ∷ parts_from (index + 1) es)))) front
          (if whole then e ∷ left_of (index + 1) es else left_by (verdict_of (record { index = index; entry = e })) e es (left_of (index + 1) es))
      one true here rest = rest d (front ++ e ∷ []) (longer front e index is) (log ∙ sym (one_more front e es)) ∙ one_more front e (left_of (index + 1) es)
      one false here rest = by_verdict (verdict_of (record { index = index; entry = e })) front e es d index is log rest

  -- ---- what is open among them

  -- the parts that are left are the last of those that were there, and the first of them is what has to wait
  pub record AreLeft (parts left : List OpenPart) (cursor : Option ℕ) : Type 0 where
    pub many : ℕ
    pub are : left ≡ drop many parts
    pub first : first_index left ≡ cursor

  open_by :
      (v : Verdict) (index : ℕ) (e : Entry) (es : List Entry) → is_whole e.form ≡ false →
      AreLeft (parts_from (index + 1) es) (parts_from (index + 1) (left_of (index + 1) es)) (decided verdict_of (parts_from (index + 1) es)).cursor →
      AreLeft (record { index = index; entry = e } ∷ parts_from (index + 1) es) (parts_from index (left_by v e es (left_of (index + 1) es)))
      (decision_at index v (decided verdict_of (parts_from (index + 1) es))).cursor
  open_by verdicts.Wait index e es part rest =
      let all : parts_from index (e ∷ es) ≡ record { index = index; entry = e } ∷ parts_from (index + 1) es =
      ap (λ (b : Bool). if b then parts_from (index + 1) es else record { index = index; entry = e } ∷ parts_from (index + 1) es) part in
      record { many = 0; are = all; first = ap first_index all }
  open_by verdicts.Cut index e es part rest = record {
    many = suc (length (parts_from (index + 1) es));
    are = sym (none_left (parts_from (index + 1) es));
    first = refl;
  }
    where
      none_left : (parts : List OpenPart) → drop (length parts) parts ≡ []
      none_left [] = refl
      none_left (p ∷ parts) = none_left parts
  open_by (verdicts.Rebuild source) index e es part rest = record { many = suc rest.many; are = rest.are; first = rest.first }

  pub open_left : (entries : List Entry) (index : ℕ) → AreLeft (parts_from index entries) (parts_from index (left_of index entries)) (decided verdict_of (parts_from index entries)).cursor
  open_left [] index = record { many = 0; are = refl; first = refl }
  open_left (e ∷ es) index = one (is_whole e.form) refl (open_left es (index + 1)) where
    one : (whole : Bool) → is_whole e.form ≡ whole →
        AreLeft (parts_from (index + 1) es) (parts_from (index + 1) (left_of (index + 1) es)) (decided verdict_of (parts_from (index + 1) es)).cursor →
        AreLeft (if whole then parts_from (index + 1) es else record { index = index; entry = e } ∷ parts_from (index + 1) es)
        (parts_from index (if whole then e ∷ left_of (index + 1) es else left_by (verdict_of (record { index = index; entry = e })) e es (left_of (index + 1) es)))
        (decided verdict_of (if whole then parts_from (index + 1) es else record { index = index; entry = e } ∷ parts_from (index + 1) es)).cursor
    one true here rest =
        let passes : parts_from index (e ∷ left_of (index + 1) es) ≡ parts_from (index + 1) (left_of (index + 1) es) =
        ap (λ (b : Bool). if b then parts_from (index + 1) (left_of (index + 1) es) else record { index = index; entry = e } ∷ parts_from (index + 1) (left_of (index + 1) es)) here in
        record { many = rest.many; are = passes ∙ rest.are; first = ap first_index passes ∙ rest.first }
    one false here rest = open_by (verdict_of (record { index = index; entry = e })) index e es here rest

  -- what the cursor stands for has to wait
  pub has_to_wait : (parts : List OpenPart) (cursor : ℕ) → (decided verdict_of parts).cursor ≡ Some cursor → (part : OpenPart) × (part.index ≡ cursor) × (verdict_of part ≡ verdicts.Wait)
  has_to_wait [] cursor e = cc
  has_to_wait (part ∷ parts) cursor e = one (verdict_of part) refl e (has_to_wait parts cursor) where
    one : (v : Verdict) → verdict_of part ≡ v → (decision_at part.index v (decided verdict_of parts)).cursor ≡ Some cursor →
        ((decided verdict_of parts).cursor ≡ Some cursor → (p : OpenPart) × (p.index ≡ cursor) × (verdict_of p ≡ verdicts.Wait)) →
        (p : OpenPart) × (p.index ≡ cursor) × (verdict_of p ≡ verdicts.Wait)
    one verdicts.Wait is here later = (part, same_Some part.index cursor here, is)
    one verdicts.Cut is here later = cc
    one (verdicts.Rebuild source) is here later = later here

-- ---- a verdict that waits

not_waiting_parts : (shape : Shape) (own : Entry) (parts : List TakenPart) → verdict_of_parts shape own parts ≡ verdicts.Wait → ⊥
not_waiting_parts shape own parts =
    cond_both _ (verdicts.Rebuild (verdicts.Parts (verdicts.rebuilding_by shape own parts))) verdicts.Cut (λ v. v ≡ verdicts.Wait → ⊥) (λ enough e. cc) (λ few e. cc)

not_waiting_with : (whole : Option (List ℕ)) (without : Verdict) → (without ≡ verdicts.Wait → ⊥) → verdict_with whole without ≡ verdicts.Wait → ⊥
not_waiting_with None without none e = none e
not_waiting_with (Some value) without none e = cc

-- too few members cover what has to wait
pub waits_uncovered :
    (shape : Shape) (me : ℕ) (own : Entry) (shown : ℕ → Bool) (slot : ℕ → Option Entry) → verdict shape me own shown slot ≡ verdicts.Wait → is_covered shape me shown ≡ false
waits_uncovered shape me own shown slot e = one (is_covered shape me shown) refl e where
  one : (covered : Bool) → is_covered shape me shown ≡ covered → (if covered then verdict_of_forms shape own (usable_form me own slot) else verdicts.Wait) ≡ verdicts.Wait → is_covered shape me shown ≡ false
  one true here waits =
      absurd (not_waiting_with (first_whole (usable_form me own slot) (members shape)) (verdict_of_parts shape own (parts_of (usable_form me own slot) (members shape)))
      (not_waiting_parts shape own (parts_of (usable_form me own slot) (members shape))) waits)
  one false here waits = here

-- ---- a node

decided_commit : (d : Durable) (rebuilt : List Rebuilt) (cut : Option ℕ) → (after d (map whole_record rebuilt ++ map Cut (option_to_list cut))).commit ≡ d.commit
decided_commit d [] None = refl
decided_commit d [] (Some index) = refl
decided_commit d (one ∷ rebuilt) cut = decided_commit (applied d (whole_record one)) rebuilt cut

drop_seam : (front left : List Entry) (n : ℕ) → n ≡ length front → drop n (front ++ left) ≡ left
drop_seam [] left n is = ap (λ k. drop k left) is
drop_seam (e ∷ front) left zero is = absurd (omega (arith, is))
drop_seam (e ∷ front) left (suc n) is = drop_seam front left n (omega (arith, is))

take_drop : (n : ℕ) (log : List Entry) → log ≡ take n log ++ drop n log
take_drop zero log = refl
take_drop (suc n) [] = refl
take_drop (suc n) (e ∷ log) = ap (λ rest. e ∷ rest) (take_drop n log)

module _ (verdict_of : OpenPart → Verdict) (d : Durable) where
  abbrev now : Durable
  now = after d (decided_records (decided verdict_of (open_parts d.commit d.log)))

  behind_commit :
      (entries : List Entry) → drop d.commit d.log ≡ entries →
      drop d.commit (after d (decided_records (decided verdict_of (parts_from (d.commit + 1) entries)))).log ≡ left_of verdict_of (d.commit + 1) entries
  behind_commit [] is = is
  behind_commit (e ∷ es) is =
      let behind : length (drop d.commit d.log) ≡ length d.log - d.commit = length-drop d.commit d.log in
      let some : length (drop d.commit d.log) ≡ suc (length es) = ap length is in
      let long : length (take d.commit d.log) ≡ d.commit = omega (arith, length-take d.commit d.log, behind, some) in
      let left = records_leave verdict_of (e ∷ es) (take d.commit d.log) d (d.commit + 1) (omega (arith, long))
      (take_drop d.commit d.log ∙ ap (λ rest. take d.commit d.log ++ rest) is) in
      ap (drop d.commit) left ∙ drop_seam (take d.commit d.log) (left_of verdict_of (d.commit + 1) (e ∷ es)) d.commit (sym long)

  same_commit : now.commit ≡ d.commit
  same_commit = decided_commit d (decided verdict_of (open_parts d.commit d.log)).rebuilt (decided verdict_of (open_parts d.commit d.log)).cut

  parts_now : open_parts now.commit now.log ≡ parts_from (d.commit + 1) (left_of verdict_of (d.commit + 1) (drop d.commit d.log))
  parts_now =
      ap (λ c. parts_from (c + 1) (drop c now.log)) same_commit ∙ ap (parts_from (d.commit + 1)) (behind_commit (drop d.commit d.log) refl)

  -- what is open then is the last of what was open
  pub left_open : (many : ℕ) × (open_parts now.commit now.log ≡ drop many (open_parts d.commit d.log))
  left_open =
      let left = open_left verdict_of (drop d.commit d.log) (d.commit + 1) in
      (left.many, parts_now ∙ left.are)

  -- and the cursor is what has to wait
  pub cursor_left : cursor_of now.commit now.log ≡ (decided verdict_of (open_parts d.commit d.log)).cursor
  cursor_left = ap first_index parts_now ∙ (open_left verdict_of (drop d.commit d.log) (d.commit + 1)).first

-- where there is still a cursor, too few members cover it
pub decided_waits :
    (n : Node) (cursor : ℕ) → cursor_at (act_of_deciding n).node ≡ Some cursor → is_covered n.shape n.me (λ member. is_shown member n.volatile.pages cursor) ≡ false
decided_waits n cursor there =
    let waits = has_to_wait (verdict_at n.shape n.me n.volatile.pages) (open_parts n.durable.commit n.durable.log) cursor
    (sym (cursor_left (verdict_at n.shape n.me n.volatile.pages) n.durable) ∙ there) in
    let part : OpenPart = waits.0 in
    subst (λ (i : ℕ). is_covered n.shape n.me (λ member. is_shown member n.volatile.pages i) ≡ false) waits.1
    (waits_uncovered n.shape n.me part.entry (λ member. is_shown member n.volatile.pages part.index) (λ member. latest_slot member n.volatile.pages part.index) waits.2)
