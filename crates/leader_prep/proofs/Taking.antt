-- What is decided by what is kept is what is decided by the pages.
use Rattle.std.proofs.Common.{◌≡◌, ℕ, ◌+◌, ◌<◌, ◌≤◌, List, [], ◌∷◌, length, drop, Bool, true, false, Option, None, Some, refl, ap, sym, ◌∙◌, arith, subst}
use Rattle.std.specs.Prelude.{◌↔◌, ◌||◌, if◌then◌else◌, is_some, nat_le, slice_index_or}
use Rattle.std.proofs.Math.Path.{fun_ext}
use Rattle.std.proofs.lemmas.Bool.{true≢false}
use Rattle.std.proofs.lemmas.List.{length-drop}
use Rattle.std.proofs.lemmas.Option.{none-some}
use Rattle.craft_base.specs.Knowledge.{members}
use Rattle.craft_base.specs.Shape.{Shape}
use Rattle.craft_base.specs.declared.command.Entry.{Entry}
use Rattle.entry_frames.specs.Entries.{is_whole}
use Rattle.entry_frames.specs.Limits.{last_place}
use Rattle.entry_frames.specs.Logs.{IsLog, Log}
use Rattle.leader_prep.specs.Changes.{AreNear}
use Rattle.leader_prep.specs.Decisions.{Decision, OpenPart, Rebuilt, cursor_of, decided, decision, decision_at, first_index, open_parts, parts_from, verdict_at}
use Rattle.leader_prep.specs.Keeping.{KeptSlots, slot_at}
use Rattle.leader_prep.specs.Pages.{Page, is_shown, latest_slot}
use Rattle.leader_prep.specs.Standing.{AreRebuilt, AreVerdicts, IsNear, IsNothing, IsWaiting, Stands, Tells, TellsAt, is_past, kept_shown, kept_slot, kept_verdict}
use Rattle.leader_prep.specs.Verdicts.{Cut, Parts, Rebuild, Source, Verdict, Wait, is_covered, rebuilding_by, usable_form, verdict, verdict_of_forms, verdict_with, first_whole, parts_of}
use Rattle.leader_prep.specs.declared.prep.Prep.{Prep}
use Rattle.leader_prep.specs.declared.verdicts.Verdicts.{Verdicts}
use Rattle.leader_prep.proofs.Lists.{same_item}
use Rattle.leader_prep.proofs.Opening.{first_within}

-- ---- the parts stand at the first of them or behind it

abbrev pub AreFrom : ℕ → List OpenPart → Type 0
AreFrom least [] = Unit {0}
AreFrom least (part ∷ parts) = (least ≤ part.index) × AreFrom least parts

from_less : (least most : ℕ) (parts : List OpenPart) → least ≤ most → AreFrom most parts → AreFrom least parts
from_less least most [] low are = tt
from_less least most (part ∷ parts) low are = (omega (arith, low, are.0), from_less least most parts low are.1)

from_index : (index : ℕ) (entries : List Entry) → AreFrom index (parts_from index entries)
from_index index [] = tt
from_index index (e ∷ entries) = by (is_whole e.form) (from_less index (index + 1) (parts_from (index + 1) entries) (omega arith) (from_index (index + 1) entries)) where
  by : (whole : Bool) → AreFrom index (parts_from (index + 1) entries)
      → AreFrom index (if whole then parts_from (index + 1) entries else record { index = index; entry = e } ∷ parts_from (index + 1) entries)
  by true rest = rest
  by false rest = (omega arith, rest)

from_first : (index : ℕ) (entries : List Entry) (c : ℕ) → first_index (parts_from index entries) ≡ Some c → AreFrom c (parts_from index entries)
from_first index [] c is = tt
from_first index (e ∷ entries) c is = by (is_whole e.form) is (from_first (index + 1) entries c) (from_less index (index + 1) (parts_from (index + 1) entries) (omega arith) (from_index (index + 1) entries)) where
  by : (whole : Bool) → first_index (if whole then parts_from (index + 1) entries else record { index = index; entry = e } ∷ parts_from (index + 1) entries) ≡ Some c
      → (first_index (parts_from (index + 1) entries) ≡ Some c → AreFrom c (parts_from (index + 1) entries)) → AreFrom index (parts_from (index + 1) entries)
      → AreFrom c (if whole then parts_from (index + 1) entries else record { index = index; entry = e } ∷ parts_from (index + 1) entries)
  by true first later rest = later first
  by false first later rest =
      let same : index ≡ c = same_item index c first in
      subst (λ (n : ℕ). AreFrom n (record { index = index; entry = e } ∷ parts_from (index + 1) entries)) same (omega arith, rest)

-- ---- verdicts

same_verdict : (prep : Prep) (shape : Shape) (me : ℕ) (pages : List Page) (part : OpenPart) → prep.shape ≡ shape → prep.me ≡ me → TellsAt prep pages part.index
    → kept_verdict prep part ≡ verdict_at shape me pages part
same_verdict prep shape me pages part shape_is me_is tells =
    ap (λ (s : Shape). verdict s prep.me part.entry (kept_shown prep part.index) (kept_slot prep part.index)) shape_is
    ∙ ap (λ (m : ℕ). verdict shape m part.entry (kept_shown prep part.index) (kept_slot prep part.index)) me_is
    ∙ ap (λ (shown : ℕ → Bool). verdict shape me part.entry shown (kept_slot prep part.index)) (fun_ext tells.shown)
    ∙ ap (λ (slot : ℕ → Option Entry). verdict shape me part.entry (λ member. is_shown member pages part.index) slot) (fun_ext tells.slot)

same_decided : (prep : Prep) (shape : Shape) (me : ℕ) (pages : List Page) (cursor : ℕ) (parts : List OpenPart) → prep.shape ≡ shape → prep.me ≡ me
    → ((index : ℕ) → cursor ≤ index → TellsAt prep pages index) → AreFrom cursor parts → decided (kept_verdict prep) parts ≡ decided (verdict_at shape me pages) parts
same_decided prep shape me pages cursor [] shape_is me_is tells are = refl
same_decided prep shape me pages cursor (part ∷ parts) shape_is me_is tells are =
    ap (λ (v : Verdict). decision_at part.index v (decided (kept_verdict prep) parts)) (same_verdict prep shape me pages part shape_is me_is (tells part.index are.0))
    ∙ ap (decision_at part.index (verdict_at shape me pages part)) (same_decided prep shape me pages cursor parts shape_is me_is tells are.1)

no_parts : (parts : List OpenPart) → first_index parts ≡ None → parts ≡ []
no_parts [] is = refl
no_parts (part ∷ parts) is = absurd (none-some part.index (sym is))

-- with the cursor of the log, it decides as the pages do
pub decides_as : (prep : Prep) (shape : Shape) (me : ℕ) (pages : List Page) (cursor : Option ℕ) (commit : ℕ) (entries : List Entry) → cursor ≡ cursor_of commit entries
    → Stands prep shape me pages cursor → decided (kept_verdict prep) (open_parts commit entries) ≡ decision shape me pages commit entries
decides_as prep shape me pages None commit entries at stands =
    let none : open_parts commit entries ≡ [] = no_parts (open_parts commit entries) (sym at) in
    ap (decided (kept_verdict prep)) none ∙ sym (ap (decided (verdict_at shape me pages)) none)
decides_as prep shape me pages (Some c) commit entries at stands =
    same_decided prep shape me pages c (open_parts commit entries) stands.same_shape stands.same_me stands.tells (from_first (commit + 1) (drop commit entries) c (sym at))

-- ---- the cursor that is left

abbrev pub IsLater : Option ℕ → Option ℕ → Type 0
IsLater cursor None = Unit {0}
IsLater None (Some left) = ⊥
IsLater (Some cursor) (Some left) = cursor ≤ left

left_from : (verdict : OpenPart → Verdict) (cursor : ℕ) (parts : List OpenPart) → AreFrom cursor parts → IsLater (Some cursor) (decided verdict parts).cursor
left_from verdict cursor [] are = tt
left_from verdict cursor (part ∷ parts) are = by (verdict part) (left_from verdict cursor parts are.1) where
  by : (v : Verdict) → IsLater (Some cursor) (decided verdict parts).cursor → IsLater (Some cursor) (decision_at part.index v (decided verdict parts)).cursor
  by Wait rest = are.0
  by (Rebuild source) rest = rest
  by Cut rest = tt

left_later : (shape : Shape) (me : ℕ) (pages : List Page) (cursor : Option ℕ) (commit : ℕ) (entries : List Entry) → cursor ≡ cursor_of commit entries
    → IsLater cursor (decision shape me pages commit entries).cursor
left_later shape me pages None commit entries at =
    subst (λ (parts : List OpenPart). IsLater None (decided (verdict_at shape me pages) parts).cursor) (sym (no_parts (open_parts commit entries) (sym at))) tt
left_later shape me pages (Some c) commit entries at =
    left_from (verdict_at shape me pages) c (open_parts commit entries) (from_first (commit + 1) (drop commit entries) c (sym at))

near_later : (prep : Prep) (cursor left : ℕ) → cursor ≤ left → AreNear prep.slots cursor → AreNear prep.slots left
near_later prep cursor left low near member index entry there = let before : index < cursor + 8 = near member index entry there in omega (arith, before, low)

stands_by : (prep : Prep) (shape : Shape) (me : ℕ) (pages : List Page) (cursor left : Option ℕ) → IsLater cursor left → prep.shape ≡ shape → prep.me ≡ me → prep.cursor ≡ left
    → length prep.ends ≡ 15 → Tells prep pages cursor → IsNear prep cursor → Stands prep shape me pages left
stands_by prep shape me pages cursor None later shape_is me_is left_is all tells near =
    record { same_shape = shape_is; same_me = me_is; same_cursor = left_is; all = all; tells = tt; near = tt }
stands_by prep shape me pages None (Some left) later shape_is me_is left_is all tells near = absurd later
stands_by prep shape me pages (Some cursor) (Some left) later shape_is me_is left_is all tells near = record {
  same_shape = shape_is;
  same_me = me_is;
  same_cursor = left_is;
  all = all;
  tells = λ index above. tells index (omega (arith, later, above));
  near = near_later prep cursor left later near;
}

pub moves_on : (prep new : Prep) (shape : Shape) (me : ℕ) (pages : List Page) (cursor : Option ℕ) (commit : ℕ) (entries : List Entry) → cursor ≡ cursor_of commit entries
    → Stands prep shape me pages cursor → new.shape ≡ prep.shape → new.me ≡ prep.me → new.slots ≡ prep.slots → new.ends ≡ prep.ends
    → new.cursor ≡ (decision shape me pages commit entries).cursor → Stands new shape me pages (decision shape me pages commit entries).cursor
moves_on prep new shape me pages cursor commit entries at stands shape_is me_is slots_are ends_are left =
    stands_by new shape me pages cursor (decision shape me pages commit entries).cursor (left_later shape me pages cursor commit entries at)
    (shape_is ∙ stands.same_shape) (me_is ∙ stands.same_me) left (ap (λ (ends : List (Option ℕ)). length ends) ends_are ∙ stands.all)
    (tells_still cursor stands.tells) (near_still cursor stands.near)
  where
    slot_still : (index member : ℕ) → kept_slot new index member ≡ kept_slot prep index member
    slot_still index member = ap (λ (slots : KeptSlots). slot_at slots.places member index) slots_are

    shown_still : (index member : ℕ) → kept_shown new index member ≡ kept_shown prep index member
    shown_still index member =
        ap (λ (slots : KeptSlots). is_some (slot_at slots.places member index) || is_past (slice_index_or new.ends member None) index) slots_are
        ∙ ap (λ (ends : List (Option ℕ)). is_some (kept_slot prep index member) || is_past (slice_index_or ends member None) index) ends_are

    tells_still : (c : Option ℕ) → Tells prep pages c → Tells new pages c
    tells_still None tells = tt
    tells_still (Some n) tells = λ index above. record {
      shown = λ member. shown_still index member ∙ (tells index above).shown member;
      slot = λ member. slot_still index member ∙ (tells index above).slot member;
    }

    near_still : (c : Option ℕ) → IsNear prep c → IsNear new c
    near_still None near = tt
    near_still (Some n) near = subst (λ (slots : KeptSlots). AreNear slots n) (sym slots_are) near

-- a log is as long as its indexes go
pub cursor_within : (log : Log) → IsLog log → (cursor : Option ℕ) → cursor ≡ cursor_of log.commit log.entries → (c : ℕ) → cursor ≡ Some c → c ≤ last_place
cursor_within log is cursor at c here =
    let within = first_within (log.commit + 1) (drop log.commit log.entries) c (sym at ∙ here) in
    omega (arith, within.1, length-drop log.commit log.entries, is.short, is.committed)

-- ---- where nothing is decided

some_verdict : (o : Option (List ℕ)) (many : Bool) (source : Source) → verdict_with o (if many then Rebuild source else Cut) ≡ Wait → ⊥
some_verdict (Some value) many source is = cc
some_verdict None true source is = cc
some_verdict None false source is = cc

-- what is covered is decided
covered_decides : (shape : Shape) (me : ℕ) (pages : List Page) (part : OpenPart) → verdict_at shape me pages part ≡ Wait
    → is_covered shape me (λ member. is_shown member pages part.index) ≡ false
covered_decides shape me pages part is = by (is_covered shape me (λ member. is_shown member pages part.index)) is where
  by : (covered : Bool) → (if covered then verdict_of_forms shape part.entry (usable_form me part.entry (λ member. latest_slot member pages part.index)) else Wait) ≡ Wait
      → covered ≡ false
  by true none =
      absurd (some_verdict (first_whole (usable_form me part.entry (λ member. latest_slot member pages part.index)) (members shape))
      (nat_le shape.need (length (parts_of (usable_form me part.entry (λ member. latest_slot member pages part.index)) (members shape))))
      (Parts (rebuilding_by shape part.entry (parts_of (usable_form me part.entry (λ member. latest_slot member pages part.index)) (members shape)))) none)
  by false none = refl

no_wholes : (rebuilt : List Rebuilt) (wholes : List (ℕ × List ℕ)) → AreRebuilt rebuilt wholes → wholes ≡ [] → rebuilt ≡ []
no_wholes [] wholes are none = refl
no_wholes (r ∷ rebuilt) [] are none = absurd are
no_wholes (r ∷ rebuilt) (w ∷ wholes) are none = absurd cc

no_rebuilt : (rebuilt : List Rebuilt) (wholes : List (ℕ × List ℕ)) → AreRebuilt rebuilt wholes → rebuilt ≡ [] → wholes ≡ []
no_rebuilt [] [] are none = refl
no_rebuilt [] (w ∷ wholes) are none = absurd are
no_rebuilt (r ∷ rebuilt) wholes are none = absurd cc

undecided : (index : ℕ) (v : Verdict) (rest : Decision) (verdicts : Verdicts) → AreVerdicts (decision_at index v rest) verdicts → IsNothing verdicts → v ≡ Wait
undecided index Wait rest verdicts are nothing = refl
undecided index (Rebuild source) rest verdicts are nothing =
    absurd (not_none (no_wholes (record { index = index; source = source } ∷ rest.rebuilt) verdicts.wholes.items are.wholes nothing.no_wholes)) where
      not_none : record { index = index; source = source } ∷ rest.rebuilt ≡ [] → ⊥
      not_none is = cc
undecided index Cut rest verdicts are nothing = absurd (none-some index (sym nothing.no_cut ∙ are.cut))

waiting : (index : ℕ) (rest : Decision) (verdicts : Verdicts) → AreVerdicts (decision_at index Wait rest) verdicts → IsNothing verdicts
waiting index rest verdicts are =
    record { no_wholes = no_rebuilt [] verdicts.wholes.items are.wholes refl; no_cut = are.cut; not_done = are.done }

nothing_of : (shape : Shape) (me : ℕ) (pages : List Page) (parts : List OpenPart) (verdicts : Verdicts) → AreVerdicts (decided (verdict_at shape me pages) parts) verdicts
    → IsNothing verdicts ↔ IsWaiting shape me pages (first_index parts)
nothing_of shape me pages [] verdicts are = (λ nothing. absurd (true≢false (sym are.done ∙ nothing.not_done)), λ none. absurd none)
nothing_of shape me pages (part ∷ parts) verdicts are = (
  λ nothing. covered_decides shape me pages part (undecided part.index (verdict_at shape me pages part) (decided (verdict_at shape me pages) parts) verdicts are nothing),
  λ few.
      waiting part.index (decided (verdict_at shape me pages) parts) verdicts
      (subst (λ (v : Verdict). AreVerdicts (decision_at part.index v (decided (verdict_at shape me pages) parts)) verdicts)
      (ap (λ (covered : Bool). if covered then verdict_of_forms shape part.entry (usable_form me part.entry (λ member. latest_slot member pages part.index)) else Wait) few) are),
)

-- Nothing is decided exactly where there is a cursor that too few members cover.
pub nothing_decided : (shape : Shape) (me : ℕ) (pages : List Page) (cursor : Option ℕ) (commit : ℕ) (entries : List Entry) (verdicts : Verdicts) → cursor ≡ cursor_of commit entries
    → AreVerdicts (decision shape me pages commit entries) verdicts → IsNothing verdicts ↔ IsWaiting shape me pages cursor
nothing_decided shape me pages cursor commit entries verdicts at are =
    subst (λ (c : Option ℕ). IsNothing verdicts ↔ IsWaiting shape me pages c) (sym at) (nothing_of shape me pages (open_parts commit entries) verdicts are)
