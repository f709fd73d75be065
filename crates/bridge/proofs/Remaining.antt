-- What remains while values take the place of parts: the entries, what of them was whole, and that pages begin by the cursor.
use Rattle.std.proofs.Common.{◌≡◌, ℕ, zero, suc, ◌<◌, ◌≤◌, true, List, [], ◌∷◌, length, map, Option, None, Some, refl, sym, ap, ◌∙◌, arith, le_trans}
use Rattle.std.specs.List.{All}
use Rattle.std.proofs.lemmas.Bool.{true≢false}
use Rattle.std.proofs.lemmas.List.Elements.{All-weaker}
use Rattle.std.proofs.lemmas.Option.{slice_get_within}
use Rattle.craft_base.specs.declared.command.Entry.{Entry}
use Rattle.craft_base.specs.declared.command.Form.{Form}
use Rattle.craft_base.specs.declared.command.Form.TheVariants as forms
use Rattle.entry_frames.specs.Durable.{Durable, after as applied_all, applied}
use Rattle.entry_frames.specs.Entries.{is_whole}
use Rattle.entry_frames.specs.Logs as node
use Rattle.leader_prep.specs.Decisions.{OpenPart, Rebuilt, cursor_of}
use Rattle.leader_prep.specs.Pages.{Page}
use Rattle.leader_prep.specs.Solutions.{value_of}
use Rattle.protocol.specs.Logs.{whole_at}
use Rattle.world_model.specs.Quorums as quorums
use Rattle.world_model.specs.Rules.Prepare.{whole_record}
use Rattle.bridge.specs.Agreement.{BeginsBy}
use Rattle.bridge.specs.Views.{log_seen}
use Rattle.bridge.proofs.Completed.{IsCompleted, completed_refl, completed_trans, value_completes}
use Rattle.bridge.proofs.Furthest.{at_position}
use Rattle.bridge.proofs.OpenParts.{IsCursor, IsOpenPart, cursor_is, cursor_none, cursor_rises, part_behind}
use Rattle.bridge.proofs.Views.{is_whole_entry, length_seen, whole_at_seen}

pub rebuilt_completes : (d : Durable) (rebuilt : List Rebuilt) → IsCompleted d (applied_all d (map whole_record rebuilt))
rebuilt_completes d [] = completed_refl d
rebuilt_completes d (it ∷ rebuilt) =
    completed_trans (value_completes d it.index (value_of it.source)) (rebuilt_completes (applied d (whole_record it)) rebuilt)

whole_is : (form : Form) → quorums.is_whole form ≡ is_whole form
whole_is (forms.Whole bytes) = refl
whole_is (forms.Part bytes) = refl

entry_whole : (log : List Entry) (index : ℕ) (entry : Entry) → node.entry_at log index ≡ Some entry → whole_at (log_seen log) index ≡ is_whole entry.form
entry_whole log index entry e = whole_at_seen log index ∙ ap is_whole_entry e ∙ whole_is entry.form

module _ (d e : Durable) (c : IsCompleted d e) where
  -- an entry that was whole is whole
  still_whole : (index : ℕ) (entry other : Entry) → node.entry_at d.log index ≡ Some entry → node.entry_at e.log index ≡ Some other → is_whole entry.form ≡ true → is_whole other.form ≡ true
  still_whole index entry other was now whole = sym (entry_whole e.log index other now) ∙ c.whole index (entry_whole d.log index entry was ∙ whole)

  -- and each was there
  was_there : (index : ℕ) (other : Entry) → node.entry_at e.log index ≡ Some other → (entry : Entry) × (node.entry_at d.log index ≡ Some entry)
  was_there zero other now = cc
  was_there (suc place) other now =
      let within : place < length e.log = slice_get_within e.log place other now in
      let long : length (log_seen d.log) ≡ length (log_seen e.log) = (c.same).long in
      at_position d.log place (omega (arith, within, long, length_seen d.log, length_seen e.log))

  -- pages that begin by the cursor begin by the one that is left
  pub still_begun : (pages : List Page) → All (BeginsBy (cursor_of d.commit d.log)) pages → All (BeginsBy (cursor_of d.commit e.log)) pages
  still_begun pages begun = by_cursor (cursor_of d.commit e.log) refl (cursor_of d.commit d.log) refl begun where
    by_cursor :
        (left : Option ℕ) → cursor_of d.commit e.log ≡ left → (first : Option ℕ) → cursor_of d.commit d.log ≡ first → All (BeginsBy first) pages → All (BeginsBy left) pages
    by_cursor None is first was begun = λ k page lt. tt
    by_cursor (Some next) is None was begun =
        let at : IsCursor d.commit e.log next = cursor_is d.commit e.log next is in
        let had = was_there next at.entry at.here in
        absurd (true≢false (sym (still_whole next had.0 at.entry had.1 at.here (cursor_none d.commit d.log was next had.0 at.above had.1)) ∙ at.part))
    by_cursor (Some next) is (Some cursor) was begun =
        let le : cursor ≤ next = cursor_rises (cursor_is d.commit d.log cursor was) (cursor_is d.commit e.log next is) still_whole was_there in
        All-weaker (BeginsBy (Some cursor)) (BeginsBy (Some next)) (λ page begins. le_trans begins le) pages begun

-- a page that begins by the log's cursor begins by each index that is still a part
pub pages_begun :
    (commit : ℕ) (log : List Entry) (part : OpenPart) (pages : List Page) → All (BeginsBy (cursor_of commit log)) pages → IsOpenPart commit log part →
    All (BeginsBy (Some part.index)) pages
pages_begun commit log part pages begun is = with_cursor (cursor_of commit log) refl begun where
  with_cursor : (found : Option ℕ) → cursor_of commit log ≡ found → All (BeginsBy found) pages → All (BeginsBy (Some part.index)) pages
  with_cursor None e begun = absurd (true≢false (sym (cursor_none commit log e part.index part.entry is.above is.here) ∙ is.part))
  with_cursor (Some cursor) e begun =
      let before : cursor ≤ part.index = part_behind (cursor_is commit log cursor e) is in
      All-weaker (BeginsBy (Some cursor)) (BeginsBy (Some part.index)) (λ page begins. le_trans begins before) pages begun
