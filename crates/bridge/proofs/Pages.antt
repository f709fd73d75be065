-- What pages show of a member's log at an index was shown: the slot of the latest page that has one there, or the log's end before it.
use Rattle.std.proofs.Common.{◌≡◌, ℕ, zero, suc, ◌+◌, ◌-◌, ◌<◌, ◌≤◌, ◌&&◌, ◌||◌, ◌==◌, Bool, true, false, if◌then◌else◌, nat_le, nat_lt, List, [], ◌∷◌, length, Option, None, Some, option_map, slice_get, refl, sym, ap, subst, ◌∙◌, arith}
use Rattle.std.specs.List.{All}
use Rattle.std.specs.Option.{is_some, option_or}
use Rattle.std.proofs.lemmas.Bool.{cond_both, and_parts, eqb-true, leb-true, ltb-true, true≢false}
use Rattle.std.proofs.lemmas.List.Elements.{All-head, All-tail}
use Rattle.std.proofs.lemmas.Option.{slice_get-map, slice_get_past, slice_get_within}
use Rattle.craft_base.specs.Shape.{Shape}
use Rattle.craft_base.specs.declared.command.Entry.{Entry}
use Rattle.leader_prep.specs.Pages.{Page, is_shown, latest_slot, reaches_end, slot_in}
use Rattle.protocol.specs.History.{History, IsIn}
use Rattle.protocol.specs.Logs.{Slot, slot_at}
use Rattle.bridge.specs.Agreement.{BeginsBy, PageAgrees}
use Rattle.bridge.specs.Traced.{PageStands, StandsAt, holder}
use Rattle.bridge.specs.Views.{slot_seen}
use Rattle.bridge.proofs.Book.Standing.{stand_place}
use Rattle.world_model.specs.Traces.{Proposal}

-- a member showed the log in the term, from an index on, and this stands in it at a later one
pub record IsShown (h : History) (term member index : ℕ) (slot : Option Entry) (log : List Slot) : Type 0 where
  pub start : ℕ
  pub early : start ≤ index
  pub was : IsIn (record { term = term; member = member; start = start; slots = log }) h.answers
  pub there : slot_at log index ≡ option_map slot_seen slot

-- so it did some log
abbrev pub Seen : History → (term member index : ℕ) → Option Entry → Type 0
Seen h term member index slot = (log : List Slot) × IsShown h term member index slot log

-- past its end a log has nothing
slot_past : (log : List Slot) (index : ℕ) → length log < index → slot_at log index ≡ None
slot_past log zero past = refl
slot_past log (suc place) past = slice_get_past log place (omega (arith, past))

-- ---- one page and another

-- whether one page or a later one shows something, and the slot of the first that has one
no_slot_in :
    (same : Bool) (found : Option Entry) (ends rest : Bool) (later : Option Entry) → (rest ≡ false → later ≡ None) →
    ((same && (is_some found || ends)) || rest) ≡ false → option_or (if same then found else None) later ≡ None
no_slot_in true (Some entry) ends rest later go e = absurd (true≢false e)
no_slot_in true None true rest later go e = absurd (true≢false e)
no_slot_in true None false rest later go e = go e
no_slot_in false found ends rest later go e = go e

seen_in :
    (P : Option Entry → Type 0) (same : Bool) (found : Option Entry) (ends rest : Bool) (later : Option Entry) →
    (same ≡ true → (entry : Entry) → found ≡ Some entry → P (Some entry)) → (same ≡ true → ends ≡ true → P None) →
    (rest ≡ true → P later) → (rest ≡ false → later ≡ None) →
    ((same && (is_some found || ends)) || rest) ≡ true → P (option_or (if same then found else None) later)
seen_in P true (Some entry) ends rest later slot end go none e = slot refl entry refl
seen_in P true None true true later slot end go none e = go refl
seen_in P true None true false later slot end go none e = subst P (sym (none refl)) (end refl refl)
seen_in P true None false rest later slot end go none e = go e
seen_in P false found ends rest later slot end go none e = go e

found_in :
    (P : Entry → Type 0) (same : Bool) (found later : Option Entry) → (same ≡ true → (entry : Entry) → found ≡ Some entry → P entry) →
    ((entry : Entry) → later ≡ Some entry → P entry) → (entry : Entry) → option_or (if same then found else None) later ≡ Some entry → P entry
found_in P true (Some found) later here there entry e = here refl entry e
found_in P true None later here there entry e = there entry e
found_in P false found later here there entry e = there entry e

-- ---- what was shown

module _ (h : History) (term index : ℕ) where
  slot_seen_in : (page : Page) → PageAgrees h term page → (entry : Entry) → slot_in page index ≡ Some entry → Seen h term page.sender index (Some entry)
  slot_seen_in page a entry =
      cond_both (nat_le page.start index) (slice_get page.slots (index - page.start)) None
      (λ found. found ≡ Some entry → Seen h term page.sender index (Some entry))
      (λ begun e.
      let early : page.start ≤ index = leb-true _ _ begun in
      let place : ℕ = index - page.start in
      let at : page.start + place ≡ index = omega (arith, early) in (
        a.shown,
        record {
          start = page.start;
          early = early;
          was = a.was;
          there =
              ap (slot_at a.shown) (sym at) ∙ a.there place (slice_get_within page.slots place entry e)
              ∙ slice_get-map slot_seen page.slots place ∙ ap (option_map slot_seen) e;
        },
      ))
      (λ later e. cc)

  end_seen_in :
      (page : Page) → PageAgrees h term page → BeginsBy (Some index) page → (reaches_end page && nat_lt page.last index) ≡ true → Seen h term page.sender index None
  end_seen_in page a begun e =
      let past : page.last < index = ltb-true _ _ (and_parts (reaches_end page) _ e).1 in
      (a.shown, record { start = page.start; early = begun; was = a.was; there = slot_past a.shown index (omega (arith, past, a.ends)) })

  no_slot : (member : ℕ) (pages : List Page) → is_shown member pages index ≡ false → latest_slot member pages index ≡ None
  no_slot member [] e = refl
  no_slot member (page ∷ pages) e =
      no_slot_in (page.sender == member) (slot_in page index) (reaches_end page && nat_lt page.last index) (is_shown member pages index)
      (latest_slot member pages index) (no_slot member pages) e

  -- a member of which pages cover the index showed its log, in which stands there what its latest page with a slot there shows
  pub seen :
      (member : ℕ) (pages : List Page) → All (PageAgrees h term) pages → All (BeginsBy (Some index)) pages → is_shown member pages index ≡ true →
      Seen h term member index (latest_slot member pages index)
  seen member [] agree begun e = absurd (true≢false (sym e))
  seen member (page ∷ pages) agree begun e =
      let a : PageAgrees h term page = All-head (PageAgrees h term) page pages agree in
      let b : BeginsBy (Some index) page = All-head (BeginsBy (Some index)) page pages begun in
      let of : (page.sender == member) ≡ true → page.sender ≡ member = eqb-true page.sender member in
      seen_in (Seen h term member index) (page.sender == member) (slot_in page index) (reaches_end page && nat_lt page.last index)
      (is_shown member pages index) (latest_slot member pages index)
      (λ same entry found. subst (λ it. Seen h term it index (Some entry)) (of same) (slot_seen_in page a entry found))
      (λ same ends. subst (λ it. Seen h term it index None) (of same) (end_seen_in page a b ends))
      (seen member pages (All-tail (PageAgrees h term) page pages agree) (All-tail (BeginsBy (Some index)) page pages begun))
      (no_slot member pages) e

-- ---- what stands in the book

module _ (shape : Shape) (book : List Proposal) (index : ℕ) where
  slot_stands : (page : Page) → PageStands shape book page → (entry : Entry) → slot_in page index ≡ Some entry → StandsAt (holder shape page.sender) book index entry
  slot_stands page stand entry =
      cond_both (nat_le page.start index) (slice_get page.slots (index - page.start)) None
      (λ found. found ≡ Some entry → StandsAt (holder shape page.sender) book index entry)
      (λ begun e.
      let early : page.start ≤ index = leb-true _ _ begun in
      let at : page.start + (index - page.start) ≡ index = omega (arith, early) in
      subst (λ i. StandsAt (holder shape page.sender) book i entry) at
      (stand_place (holder shape page.sender) book page.start page.slots (index - page.start) entry stand e))
      (λ later e. cc)

  -- what a member showed at the index stands at that member
  pub latest_stands :
      (member : ℕ) (pages : List Page) → All (PageStands shape book) pages → (entry : Entry) → latest_slot member pages index ≡ Some entry →
      StandsAt (holder shape member) book index entry
  latest_stands member [] stand entry e = cc
  latest_stands member (page ∷ pages) stand entry e =
      let here : PageStands shape book page = All-head (PageStands shape book) page pages stand in
      found_in (StandsAt (holder shape member) book index) (page.sender == member) (slot_in page index) (latest_slot member pages index)
      (λ same entry found.
      subst (λ it. StandsAt (holder shape it) book index entry) (eqb-true page.sender member same) (slot_stands page here entry found))
      (latest_stands member pages (All-tail (PageStands shape book) page pages stand)) entry e
