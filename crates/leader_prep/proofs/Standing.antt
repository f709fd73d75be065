-- What is kept once a page joins.
use Rattle.std.proofs.Common.{◌≡◌, ℕ, ◌<◌, ◌≤◌, List, ◌∷◌, length, get_or, Bool, true, false, Option, None, Some, refl, ap, sym, ◌∙◌, arith, subst}
use Rattle.std.specs.Prelude.{◌==◌, ◌&&◌, ◌||◌, if◌then◌else◌, is_some, min, nat_le, nat_lt, slice_set, slice_index_or}
use Rattle.std.specs.Option.{option_or}
use Rattle.std.proofs.lemmas.Bool.{eqb-true, eqb-false, le-leb, lt-ltb, ltb-true}
use Rattle.std.proofs.lemmas.Bool.Decides.{nat_tests}
use Rattle.std.proofs.lemmas.Grind.{get_or-set_at}
use Rattle.std.proofs.lemmas.List.{get_or-set_other, length-set}
use Rattle.craft_base.specs.declared.command.Entry.{Entry}
use Rattle.leader_prep.specs.Changes.{KeepsPage}
use Rattle.leader_prep.specs.Pages.{Page, covers_in, end_in, is_shown, joined, reaches_end, slot_in, slot_of}
use Rattle.leader_prep.specs.Standing.{Joins, Stands, TellsAt, is_past, kept_slot, least_of}
use Rattle.leader_prep.specs.declared.prep.Prep.{Prep}

-- ---- ends

past_either : (n m index : ℕ) → nat_lt (min n m) index ≡ (nat_lt n index || nat_lt m index)
past_either n m index = by (nat_lt n index) refl (nat_lt m index) refl where
  by : (a : Bool) → nat_lt n index ≡ a → (b : Bool) → nat_lt m index ≡ b → nat_lt (min n m) index ≡ (nat_lt n index || nat_lt m index)
  by true e b f =
      let below : n < index = ltb-true n index e in
      lt-ltb (min n m) index (omega (arith, below)) ∙ sym (ap (λ (x : Bool). x || nat_lt m index) e)
  by false e true f =
      let below : m < index = ltb-true m index f in
      lt-ltb (min n m) index (omega (arith, below)) ∙ sym (ap (λ (x : Bool). x || nat_lt m index) e ∙ f)
  by false e false f = neither ∙ sym (ap (λ (x : Bool). x || nat_lt m index) e ∙ f) where
    neither : nat_lt (min n m) index ≡ false
    neither = grind (arith, nat_tests, e, f)

past_least : (one other : Option ℕ) (index : ℕ) → is_past (least_of one other) index ≡ (is_past one index || is_past other index)
past_least None other index = refl
past_least (Some n) None index = or_none (nat_lt n index) where
  or_none : (b : Bool) → b ≡ (b || false)
  or_none true = refl
  or_none false = refl
past_least (Some n) (Some m) index = past_either n m index

past_end : (page : Page) (index : ℕ) → is_past (end_in page) index ≡ (reaches_end page && nat_lt page.last index)
past_end page index = by (reaches_end page) where
  by : (reaches : Bool) → is_past (if reaches then Some page.last else None) index ≡ (reaches && nat_lt page.last index)
  by true = refl
  by false = refl

-- ---- one page more

some_either : (one other : Option Entry) → is_some (option_or one other) ≡ (is_some one || is_some other)
some_either None other = refl
some_either (Some e) other = refl

in_turn : (a b c d : Bool) → ((a || b) || (c || d)) ≡ ((a || c) || (b || d))
in_turn true b c d = refl
in_turn false true true d = refl
in_turn false true false d = refl
in_turn false false true d = refl
in_turn false false false d = refl

-- the end that is kept of a member
end_after : (ends : List (Option ℕ)) (page : Page) (member : ℕ) → length ends ≡ 15 → page.sender < 15
    → slice_index_or (slice_set ends page.sender (least_of (end_in page) (slice_index_or ends page.sender None))) member None
    ≡ (if page.sender == member then least_of (end_in page) (slice_index_or ends member None) else slice_index_or ends member None)
end_after ends page member long small = by (page.sender == member) refl where
  by : (same : Bool) → (page.sender == member) ≡ same
      → get_or (slice_set ends page.sender (least_of (end_in page) (get_or ends page.sender None))) member None
      ≡ (if same then least_of (end_in page) (get_or ends member None) else get_or ends member None)
  by true e =
      let same : page.sender ≡ member = eqb-true page.sender member e in
      let within : page.sender < length ends = omega (arith, long, small) in
      get_or-set_at ends page.sender member (least_of (end_in page) (get_or ends page.sender None)) None (sym same) within
      ∙ ap (λ (m : ℕ). least_of (end_in page) (get_or ends m None)) same
  by false e = get_or-set_other ends page.sender member (least_of (end_in page) (get_or ends page.sender None)) None (λ same. eqb-false page.sender member e (sym same))

shown_after : (page : Page) (member index : ℕ) (slot : Option Entry) (end : Option ℕ) (before : Bool) → (is_some slot || is_past end index) ≡ before
    → (is_some (option_or (slot_of member page index) slot) || is_past (if page.sender == member then least_of (end_in page) end else end) index)
    ≡ (((page.sender == member) && covers_in page index) || before)
shown_after page member index slot end before is = by (page.sender == member) where
  by : (same : Bool) → (is_some (option_or (if same then slot_in page index else None) slot) || is_past (if same then least_of (end_in page) end else end) index)
      ≡ ((same && covers_in page index) || before)
  by true =
      ap (λ (x : Bool). x || is_past (least_of (end_in page) end) index) (some_either (slot_in page index) slot)
      ∙ ap (λ (x : Bool). (is_some (slot_in page index) || is_some slot) || x) (past_least (end_in page) end index)
      ∙ ap (λ (x : Bool). (is_some (slot_in page index) || is_some slot) || (x || is_past end index)) (past_end page index)
      ∙ in_turn (is_some (slot_in page index)) (is_some slot) (reaches_end page && nat_lt page.last index) (is_past end index)
      ∙ ap (λ (x : Bool). covers_in page index || x) is
  by false = is

-- ---- what it stands for

tells_after : (old new : Prep) (cursor index : ℕ) (page : Page) (pages : List Page) → TellsAt old pages index → cursor ≤ index
    → ((member : ℕ) → kept_slot new index member ≡ option_or (slot_of member page index) (kept_slot old index member))
    → ((member : ℕ) → slice_index_or new.ends member None ≡ (if page.sender == member then least_of (end_in page) (slice_index_or old.ends member None) else slice_index_or old.ends member None))
    → TellsAt new (page ∷ pages) index
tells_after old new cursor index page pages told low slots ends = record {
  shown = λ member.
      ap (λ (o : Option Entry). is_some o || is_past (slice_index_or new.ends member None) index) (slots member)
      ∙ ap (λ (e : Option ℕ). is_some (option_or (slot_of member page index) (kept_slot old index member)) || is_past e index) (ends member)
      ∙ shown_after page member index (kept_slot old index member) (slice_index_or old.ends member None) (is_shown member pages index) (told.shown member);
  slot = λ member. slots member ∙ ap (option_or (slot_of member page index)) (told.slot member);
}

-- a page that begins at or before the cursor joins
pub joins_here : (old new : Prep) (cursor : ℕ) (page : Page) → old.cursor ≡ Some cursor → new.shape ≡ old.shape → new.me ≡ old.me → new.cursor ≡ old.cursor
    → KeepsPage old.slots new.slots cursor page → page.start ≤ cursor → page.sender < 15
    → new.ends ≡ slice_set old.ends page.sender (least_of (end_in page) (slice_index_or old.ends page.sender None))
    → Joins old new page
joins_here old new cursor page at shape_is me_is cursor_is keeps low small ends_are shape me pages now stands =
    let here : now ≡ Some cursor = sym stands.same_cursor ∙ at in
    let long : length old.ends ≡ 15 = stands.all in
    let P : Option ℕ → Type 0 = λ c. Stands new shape me (joined c page pages) c in
    let list : joined (Some cursor) page pages ≡ page ∷ pages = ap (λ (b : Bool). if b then page ∷ pages else pages) (le-leb page.start cursor low) in
    let before : Stands old shape me pages (Some cursor) = subst (Stands old shape me pages) here stands in
    subst P (sym here) (subst (λ (all : List Page). Stands new shape me all (Some cursor)) (sym list) (record {
      same_shape = shape_is ∙ stands.same_shape;
      same_me = me_is ∙ stands.same_me;
      same_cursor = cursor_is ∙ at;
      all = ap (λ (ends : List (Option ℕ)). length ends) ends_are ∙ length-set old.ends page.sender (least_of (end_in page) (slice_index_or old.ends page.sender None)) ∙ long;
      tells = λ index above.
          tells_after old new cursor index page pages (before.tells index above) above (λ member. keeps.slots before.near member index above)
          (λ member. ap (λ (ends : List (Option ℕ)). slice_index_or ends member None) ends_are ∙ end_after old.ends page member long small);
      near = keeps.near before.near;
    }))

-- one that begins behind it doesn't
pub passed_over : (old : Prep) (cursor : ℕ) (page : Page) → old.cursor ≡ Some cursor → cursor < page.start → Joins old old page
passed_over old cursor page at past shape me pages now stands =
    let here : now ≡ Some cursor = sym stands.same_cursor ∙ at in
    let none : nat_le page.start cursor ≡ false = grind (arith, nat_tests, past) in
    let same : pages ≡ joined now page pages =
    sym (ap (λ (c : Option ℕ). joined c page pages) here ∙ ap (λ (b : Bool). if b then page ∷ pages else pages) none) in
    subst (λ (all : List Page). Stands old shape me all now) same stands

-- nor does any where there is no cursor
pub none_joins : (old : Prep) (page : Page) → old.cursor ≡ None → Joins old old page
none_joins old page at shape me pages now stands =
    let here : now ≡ None = sym stands.same_cursor ∙ at in
    let same : pages ≡ joined now page pages = sym (ap (λ (c : Option ℕ). joined c page pages) here) in
    subst (λ (all : List Page). Stands old shape me all now) same stands
