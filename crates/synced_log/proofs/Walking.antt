-- The groups of a file, one more at a time.
use Rattle.std.proofs.Common.{◌≡◌, ℕ, ◌+◌, ◌<◌, ◌≤◌, List, [], ◌∷◌, ◌++◌, length, get_or, take, drop, refl, sym, ap, ◌∙◌, subst, arith, append_assoc}
use Rattle.std.specs.Int.{w64, to_be_bytes}
use Rattle.std.proofs.lemmas.List.{length-append, drop_more, drop-drop, length-drop, append-nil}
use Rattle.craft_base.specs.Shape.{Shape}
use Rattle.entry_frames.specs.Durable.{Durable, born, after}
use Rattle.entry_frames.specs.Records.{Record}
use Rattle.synced_log.specs.declared.span.GroupSpan.{GroupSpan}
use Rattle.synced_log.specs.declared.walk.Ended.TheVariants.{Faulty}
use Rattle.synced_log.specs.Journal.{IsGroupOf, AreGroups, body_of, open_group, open_groups, after_groups, Placed, placed_from, IsNoGate}
use Rattle.synced_log.specs.Outlines.{Outline, outline_of}
use Rattle.synced_log.specs.Walks.{AppliesGroup, placed_in, all_placed, AllInside, WalksTo, WalksWhole}
use Rattle.synced_log.proofs.Behind.{NoneBehind}

-- ---- one group more

pub are_groups-push : (shape : Shape) (d : Durable) (groups : List (List Record)) (records : List Record) → AreGroups shape d groups → IsGroupOf shape (after_groups d groups) records
    → AreGroups shape d (groups ++ records ∷ [])
are_groups-push shape d [] records are is = (is, tt)
are_groups-push shape d (g ∷ groups) records are is = (are.0, are_groups-push shape (after d g) groups records are.1 is)

pub open_groups-push : (k : ℕ) (groups : List (List Record)) (records : List Record) → open_groups k (groups ++ records ∷ []) ≡ open_groups k groups ++ open_group (body_of k records)
open_groups-push k [] records = append-nil (open_group (body_of k records))
open_groups-push k (g ∷ groups) records =
    ap (λ (l : List ℕ). open_group (body_of k g) ++ l) (open_groups-push k groups records) ∙ sym (append_assoc (open_group (body_of k g)) (open_groups k groups) (open_group (body_of k records)))

pub after_groups-push : (d : Durable) (groups : List (List Record)) (records : List Record) → after_groups d (groups ++ records ∷ []) ≡ after (after_groups d groups) records
after_groups-push d [] records = refl
after_groups-push d (g ∷ groups) records = after_groups-push (after d g) groups records

length-open_group : (body : List ℕ) → length (open_group body) ≡ 9 + length body
length-open_group body = omega (arith, length-append (to_be_bytes w64 (length body)) body)

placed_from-push : (k at : ℕ) (groups : List (List Record)) (records : List Record) → placed_from k at (groups ++ records ∷ [])
    ≡ placed_from k at groups ++ record { gate = at + length (open_groups k groups); body = body_of k records } ∷ []
placed_from-push k at [] records = ap (λ (n : ℕ). record { gate = n; body = body_of k records } ∷ []) (plus_none at)
  where
    plus_none : (n : ℕ) → n ≡ n + 0
    plus_none n = omega arith
placed_from-push k at (g ∷ groups) records =
    let size : at + (9 + length (body_of k g)) + length (open_groups k groups) ≡ at + length (open_groups k (g ∷ groups))
    = omega (arith, length-append (open_group (body_of k g)) (open_groups k groups), length-open_group (body_of k g)) in
    ap (λ (l : List Placed). record { gate = at; body = body_of k g } ∷ l) (placed_from-push k (at + (9 + length (body_of k g))) groups records)
    ∙ ap (λ (n : ℕ). record { gate = at; body = body_of k g } ∷ (placed_from k (at + (9 + length (body_of k g))) groups ++ record { gate = n; body = body_of k records } ∷ [])) size

all_placed-push : (file : List ℕ) (spans : List GroupSpan) (span : GroupSpan) → all_placed file (spans ++ span ∷ []) ≡ all_placed file spans ++ placed_in file span ∷ []
all_placed-push file [] span = refl
all_placed-push file (p ∷ spans) span = ap (λ (l : List Placed). placed_in file p ∷ l) (all_placed-push file spans span)

inside-push : (file : List ℕ) (spans : List GroupSpan) (span : GroupSpan) → AllInside file spans → span.gate + 9 + span.len ≤ length file → AllInside file (spans ++ span ∷ [])
inside-push file [] span all le = (le, tt)
inside-push file (p ∷ spans) span all le = (all.0, inside-push file spans span all.1 le)

-- ---- the walk

gate_behind : (file : List ℕ) (at : ℕ) → at < length file → drop at file ≡ get_or file at 0 ∷ drop (at + 1) file
gate_behind file at lt = drop_more file at 0 lt

pub walk_goes_on : (shape : Shape) (file : List ℕ) (spans : List GroupSpan) (at len : ℕ) (state new : Outline) → (w : WalksTo shape file spans at state) → at < length file → get_or file at 0 ≡ 1
    → AppliesGroup shape (after_groups born w.groups) (drop (at + 1) file) len new → WalksTo shape file (spans ++ record { gate = at; len = len } ∷ []) (at + (9 + len)) new
walk_goes_on shape file spans at len state new w lt is_open t =
    let body = body_of shape.need t.records in
    let gate : drop at file ≡ 1 ∷ drop (at + 1) file = gate_behind file at lt ∙ ap (λ (g : ℕ). g ∷ drop (at + 1) file) is_open in
    let tail : drop (8 + len) (drop (at + 1) file) ≡ drop (at + (9 + len)) file = drop-drop (8 + len) (at + 1) file ∙ ap (λ (n : ℕ). drop n file) (omega arith) in
    let whole : drop at file ≡ open_group body ++ drop (at + (9 + len)) file =
    gate ∙ ap (λ (l : List ℕ). 1 ∷ l) (t.stands.is ∙ sym (append_assoc (to_be_bytes w64 (length body)) body (drop (8 + len) (drop (at + 1) file)))) ∙ ap (λ (l : List ℕ). open_group body ++ l) tail in
    let size : length (open_groups shape.need (w.groups ++ t.records ∷ [])) ≡ length (open_groups shape.need w.groups) + (9 + len)
    = ap length (open_groups-push shape.need w.groups t.records) ∙ length-append (open_groups shape.need w.groups) (open_group body)
    ∙ ap (λ (n : ℕ). length (open_groups shape.need w.groups) + n) (length-open_group body ∙ ap (λ (n : ℕ). 9 + n) (sym t.size)) in
    let span : placed_in file (record { gate = at; len = len }) ≡ record { gate = 32 + length (open_groups shape.need w.groups); body = body }
    = ap (λ (b : List ℕ). record { gate = at; body = b }) (ap (take len) (sym (drop-drop 8 (at + 1) file ∙ ap (λ (n : ℕ). drop n file) (omega arith))) ∙ sym t.body)
    ∙ ap (λ (n : ℕ). record { gate = n; body = body }) w.at_is in
    record {
      groups = w.groups ++ t.records ∷ [];
      groups_are = are_groups-push shape born w.groups t.records w.groups_are t.stands.can;
      is = w.is ∙ ap (λ (l : List ℕ). open_groups shape.need w.groups ++ l) whole ∙ sym (append_assoc (open_groups shape.need w.groups) (open_group body) (drop (at + (9 + len)) file))
          ∙ ap (λ (l : List ℕ). l ++ drop (at + (9 + len)) file) (sym (open_groups-push shape.need w.groups t.records));
      at_is = omega (arith, w.at_is, size);
      within = omega (arith, t.within, length-drop (at + 1) file, lt);
      spans_are = all_placed-push file spans (record { gate = at; len = len }) ∙ ap (λ (l : List Placed). l ++ placed_in file (record { gate = at; len = len }) ∷ []) w.spans_are
          ∙ ap (λ (p : Placed). placed_from shape.need 32 w.groups ++ p ∷ []) span ∙ sym (placed_from-push shape.need 32 w.groups t.records);
      inside = inside-push file spans (record { gate = at; len = len }) w.inside (omega (arith, t.within, length-drop (at + 1) file, lt));
      outline_is = t.leaves ∙ ap outline_of (sym (after_groups-push born w.groups t.records));
    }

pub walk_fails : (shape : Shape) (file : List ℕ) (spans : List GroupSpan) (at : ℕ) (state : Outline) → (w : WalksTo shape file spans at state) → at < length file → get_or file at 0 ≡ 1
    → NoneBehind shape (after_groups born w.groups) (drop (at + 1) file) → WalksWhole shape file spans (Faulty at)
walk_fails shape file spans at state w lt is_open none = record {
  outline = state;
  walk = w;
  ends = subst (IsNoGate shape (after_groups born w.groups)) (sym (gate_behind file at lt ∙ ap (λ (g : ℕ). g ∷ drop (at + 1) file) is_open)) (refl, none);
}
