-- Entries that go in one message, one by one.
use Rattle.std.proofs.Common.{◌≡◌, ℕ, zero, suc, ◌+◌, ◌-◌, ◌<◌, ◌≤◌, List, [], ◌∷◌, ◌++◌, drop, map, Bool, true, false, Option, None, Some, refl, ap, sym, ◌∙◌, append_assoc, arith}
use Rattle.std.specs.Prelude.{◌&&◌, if◌then◌else◌, nat_le, slice_get}
use Rattle.std.proofs.lemmas.Bool.{and_parts, leb-true}
use Rattle.std.proofs.lemmas.List.{append-nil}
use Rattle.std.proofs.lemmas.Option.{none-some, same_Some}
use Rattle.craft_base.specs.declared.command.Entry.{Entry}
use Rattle.entry_frames.specs.Entries.{entry_room}
use Rattle.entry_frames.specs.Logs.{entry_at, viewed_with}
use Rattle.entry_frames.specs.MessageFields.{entry_size}
use Rattle.entry_frames.specs.Views.{Viewed}
use Rattle.coded_append.specs.Batches.{fitting}
use Rattle.coded_append.specs.Ways.{front, goes, going, sendable, sent_by}
use Rattle.coded_append.specs.declared.forms.Way.TheVariants as ways
use Rattle.coded_append.specs.declared.forms.Way.{Way}
use Rattle.coded_append.proofs.Places.{drop_at_place, drop_past, entry_behind, viewed_some, viewed_none}
use Rattle.coded_append.proofs.Sizes.{size_is_room}

-- all go where entries go as they are
pub going_whole : (es : List Entry) → map (λ (e : Entry). e) es ≡ es
going_whole [] = refl
going_whole (e ∷ es) = ap (λ (rest : List Entry). e ∷ rest) (going_whole es)

-- whether an entry goes
abbrev is_sent : Way → ℕ → Entry → Bool
is_sent way room e = goes way e && nat_le (entry_room (sent_by way e)) room

front_first : (way : Way) (e : Entry) (es : List Entry) → front way (e ∷ es) ≡ (if goes way e then e ∷ front way es else [])
front_first ways.Held e es = refl
front_first ways.Whole e es = refl
front_first (ways.Part need member) e es = refl

front_none : (way : Way) → front way [] ≡ []
front_none ways.Held = refl
front_none ways.Whole = refl
front_none (ways.Part need member) = refl

with_first : (k places room : ℕ) (way : Way) (e : Entry) (es : List Entry) (b : Bool) → is_sent way room e ≡ b
    → fitting k (suc places) room (going way (e ∷ es)) ≡ (if b then sent_by way e ∷ fitting k places (room - entry_size k (sent_by way e)) (going way es) else [])
with_first k places room way e es b is = by_test (goes way e) refl where
  by_test : (does : Bool) → goes way e ≡ does
      → fitting k (suc places) room (going way (e ∷ es)) ≡ (if b then sent_by way e ∷ fitting k places (room - entry_size k (sent_by way e)) (going way es) else [])
  by_test true t =
      ap (λ (xs : List Entry). fitting k (suc places) room (map (sent_by way) xs)) (front_first way e es)
      ∙ ap (λ (w : Bool). fitting k (suc places) room (map (sent_by way) (if w then e ∷ front way es else []))) t
      ∙ ap (λ (n : ℕ). if nat_le n room then sent_by way e ∷ fitting k places (room - entry_size k (sent_by way e)) (going way es) else []) (size_is_room k (sent_by way e))
      ∙ ap (λ (w : Bool). if w then sent_by way e ∷ fitting k places (room - entry_size k (sent_by way e)) (going way es) else [])
      (sym (ap (λ (w : Bool). w && nat_le (entry_room (sent_by way e)) room) t) ∙ is)
  by_test false t =
      ap (λ (xs : List Entry). fitting k (suc places) room (map (sent_by way) xs)) (front_first way e es)
      ∙ ap (λ (w : Bool). fitting k (suc places) room (map (sent_by way) (if w then e ∷ front way es else []))) t
      ∙ ap (λ (w : Bool). if w then sent_by way e ∷ fitting k places (room - entry_size k (sent_by way e)) (going way es) else [])
      (sym (ap (λ (w : Bool). w && nat_le (entry_room (sent_by way e)) room) t) ∙ is)

-- what goes is there, and what doesn't is not there or has no room
sent_is : (way : Way) (room : ℕ) (o : Option Entry) (e : Entry) → sendable way room o ≡ Some e → (o ≡ Some e) × (is_sent way room e ≡ true)
sent_is way room None e is = absurd (none-some e is)
sent_is way room (Some x) e is = one (is_sent way room x) refl where
  one : (b : Bool) → is_sent way room x ≡ b → (Some x ≡ Some e) × (is_sent way room e ≡ true)
  one true t =
      let same : x ≡ e = same_Some x e (sym (ap (λ (b : Bool). if b then Some x else None) t) ∙ is) in
      (ap Some same, ap (is_sent way room) (sym same) ∙ t)
  one false t = absurd (none-some e (sym (ap (λ (b : Bool). if b then Some x else None) t) ∙ is))

none_left : (k places room : ℕ) (way : Way) (es : List Entry) → es ≡ [] → fitting k places room (going way es) ≡ []
none_left k zero room way es is = refl
none_left k (suc places) room way es is =
    ap (λ (xs : List Entry). fitting k (suc places) room (going way xs)) is
    ∙ ap (λ (xs : List Entry). fitting k (suc places) room (map (sent_by way) xs)) (front_none way)

unsent_is : (k places room : ℕ) (way : Way) (es : List Entry) (n : ℕ) → sendable way room (slice_get es n) ≡ None → fitting k places room (going way (drop n es)) ≡ []
unsent_is k zero room way es n is = refl
unsent_is k (suc places) room way es n is = one (slice_get es n) refl where
  one : (o : Option Entry) → slice_get es n ≡ o → fitting k (suc places) room (going way (drop n es)) ≡ []
  one None t = none_left k (suc places) room way (drop n es) (drop_past es n t)
  one (Some x) t = two (is_sent way room x) refl where
    two : (b : Bool) → is_sent way room x ≡ b → fitting k (suc places) room (going way (drop n es)) ≡ []
    two true s = absurd (none-some x (sym is ∙ ap (sendable way room) t ∙ ap (λ (b : Bool). if b then Some x else None) s))
    two false s = ap (λ (xs : List Entry). fitting k (suc places) room (going way xs)) (drop_at_place es n x t) ∙ with_first k places room way x (drop (n + 1) es) false s

-- ---- a step of the loop

-- what the loop looks at
looked_at : (k room start place index : ℕ) (way : Way) (log : List Entry) (o : Option Viewed) → 1 ≤ start → index ≡ start + place
    → o ≡ viewed_with k (sendable way room (entry_at log index)) → o ≡ viewed_with k (sendable way room (slice_get (drop (start - 1) log) place))
looked_at k room start place index way log o least at is =
    is ∙ ap (λ (e : Option Entry). viewed_with k (sendable way room e)) (entry_behind log (start - 1) place index (omega (arith, at, least)))

-- what is sent goes, and there is room for it
pub goes_is : (k room : ℕ) (way : Way) (o : Option Entry) (v : Viewed) → Some v ≡ viewed_with k (sendable way room o)
    → (goes way v.entry ≡ true) × (entry_room (sent_by way v.entry) ≤ room)
goes_is k room way o v is =
    let s = sent_is way room o v.entry (viewed_some k (sendable way room o) v is) in
    let parts = and_parts (goes way v.entry) (nat_le (entry_room (sent_by way v.entry)) room) s.1 in
    (parts.0, leb-true (entry_room (sent_by way v.entry)) room parts.1)

pub sent_more : (k j room start place index : ℕ) (way : Way) (log batch whole : List Entry) (v : Viewed) → 1 ≤ start → place < 8 → index ≡ start + place
    → Some v ≡ viewed_with j (sendable way room (entry_at log index))
    → batch ++ fitting k (8 - place) room (going way (drop place (drop (start - 1) log))) ≡ whole
    → (batch ++ sent_by way v.entry ∷ []) ++ fitting k (8 - (place + 1)) (room - entry_room (sent_by way v.entry)) (going way (drop (place + 1) (drop (start - 1) log))) ≡ whole
sent_more k j room start place index way log batch whole v least more at is sofar =
    let es = drop (start - 1) log in
    let e : Entry = sent_by way v.entry in
    let left = going way (drop (place + 1) es) in
    let s = sent_is way room (slice_get es place) v.entry (viewed_some j (sendable way room (slice_get es place)) v (looked_at j room start place index way log (Some v) least at is)) in
    let places : 8 - place ≡ suc (8 - (place + 1)) = omega (arith, more) in
    let step : fitting k (8 - place) room (going way (drop place es)) ≡ e ∷ fitting k (8 - (place + 1)) (room - entry_room e) left =
    ap (λ (p : ℕ). fitting k p room (going way (drop place es))) places
    ∙ ap (λ (xs : List Entry). fitting k (suc (8 - (place + 1))) room (going way xs)) (drop_at_place es place v.entry s.0)
    ∙ with_first k (8 - (place + 1)) room way v.entry (drop (place + 1) es) true s.1
    ∙ ap (λ (n : ℕ). e ∷ fitting k (8 - (place + 1)) (room - n) left) (size_is_room k e) in
    append_assoc batch (e ∷ []) (fitting k (8 - (place + 1)) (room - entry_room e) left)
    ∙ ap (λ (xs : List Entry). batch ++ xs) (sym step) ∙ sofar

pub sent_all : (k j room start place index : ℕ) (way : Way) (log batch whole : List Entry) → 1 ≤ start → index ≡ start + place
    → None ≡ viewed_with j (sendable way room (entry_at log index))
    → batch ++ fitting k (8 - place) room (going way (drop place (drop (start - 1) log))) ≡ whole → batch ≡ whole
sent_all k j room start place index way log batch whole least at is sofar =
    let es = drop (start - 1) log in
    let none : sendable way room (slice_get es place) ≡ None =
    viewed_none j (sendable way room (slice_get es place)) (looked_at j room start place index way log None least at is) in
    sym (append-nil batch) ∙ ap (λ (xs : List Entry). batch ++ xs) (sym (unsent_is k (8 - place) room way es place none)) ∙ sofar

pub no_places : (k room place : ℕ) (es batch whole : List Entry) → 8 ≤ place → batch ++ fitting k (8 - place) room es ≡ whole → batch ≡ whole
no_places k room place es batch whole all sofar =
    let none : 8 - place ≡ 0 = omega (arith, all) in
    sym (append-nil batch) ∙ ap (λ (p : ℕ). batch ++ fitting k p room es) (sym none) ∙ sofar
