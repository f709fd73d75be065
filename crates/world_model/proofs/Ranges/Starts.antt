-- From where a leader sends to a member lies in its log, or just behind it.
use Rattle.std.proofs.Common.{◌≡◌, ℕ, ◌+◌, ◌-◌, ◌<◌, ◌≤◌, ◌==◌, ◌&&◌, not, Bool, true, List, [], ◌∷◌, length, find, slice_get, Option, None, Some, refl, sym, subst, ◌∙◌, arith}
use Rattle.std.specs.Prelude.{unwrap_or}
use Rattle.std.specs.List.{All, position_or_len}
use Rattle.std.proofs.lemmas.Bool.{cond_both, and_parts, leb-true}
use Rattle.std.proofs.lemmas.List.Elements.{All-from_get_or, All-head, All-tail}
use Rattle.std.proofs.lemmas.List.Folds.{find_at}
use Rattle.std.proofs.lemmas.List.FromFn.{length-range_with_len, get_or-range_with_len}
use Rattle.std.proofs.lemmas.Option.{slice_get_within, get_or_from_slice_get}
use Rattle.coded_append.specs.Starts.{first_lacking, no_later_than, open_indexes, start_for}
use Rattle.coded_append.specs.declared.modes.Mode.{Mode}
use Rattle.coded_append.specs.declared.modes.Mode.TheVariants.{Coded, Complete}
use Rattle.craft_base.specs.Knowledge.{Heard, Beat, From, Told, Voted, Matched, Refused, Answered, has_matched, is_admitted, is_held_whole, least_of, least_refused, match_index, matched_to, next_index, refused_next, told_by}
use Rattle.craft_base.specs.declared.command.Entry.{Entry}
use Rattle.world_model.specs.Ranges.{ItemInRange, ToldInRange}

-- an index of a log that has that last index, or the one behind it
abbrev pub IsPlace : (last index : ℕ) → Type 0
IsPlace last index = (1 ≤ index) × (index ≤ last + 1)

abbrev IsPlaceIn : (last : ℕ) → Option ℕ → Type 0
IsPlaceIn last None = Unit {0}
IsPlaceIn last (Some index) = IsPlace last index

-- ---- what is open

pub open_within : (commit : ℕ) (log : List Entry) → All (λ index. (commit < index) × (index ≤ length log)) (open_indexes commit log)
open_within commit log =
    All-from_get_or (λ index. (commit < index) × (index ≤ length log)) (open_indexes commit log) 0 λ i lt.
    let within : i < length log - commit = subst (λ k. i < k) (length-range_with_len (commit + 1) (length log - commit)) lt in
    subst (λ index. (commit < index) × (index ≤ length log)) (sym (get_or-range_with_len (commit + 1) (length log - commit) i 0 within))
    (omega arith, omega (arith, within))

-- what is found has what all have
pub found_of : {A : Type 0} (P : A → Type 0) (p : A → Bool) (xs : List A) (x : A) → All P xs → find p xs ≡ Some x → P x
found_of P p xs x all e =
    let here : slice_get xs (position_or_len p xs) ≡ Some x = sym (find_at p xs) ∙ e in
    subst P (get_or_from_slice_get xs (position_or_len p xs) x x here) (all (position_or_len p xs) x (slice_get_within xs (position_or_len p xs) x here))

lacking_is : (member commit : ℕ) (log : List Entry) (heard : List Heard) (lacking : Option ℕ) → first_lacking member commit log heard ≡ lacking → IsPlaceIn (length log) lacking
lacking_is member commit log heard None e = tt
lacking_is member commit log heard (Some index) e =
    let at = found_of (λ i. (commit < i) × (i ≤ length log)) (λ i. not (is_held_whole member i heard)) (open_indexes commit log) index (open_within commit log) e in
    (omega (arith, at.0), omega (arith, at.1))

-- ---- what was heard

told_matches : (last from : ℕ) (told : Told) → ToldInRange last from told → is_admitted from told ≡ true → matched_to (Some told) ≤ last
told_matches last from (Voted granted) ranged admitted = omega arith
told_matches last from (Matched prev count mask) ranged admitted = omega (arith, leb-true (prev + count) from admitted, ranged)
told_matches last from (Refused next) ranged admitted = omega arith
told_matches last from Answered ranged admitted = omega arith

told_refuses : (last from : ℕ) (told : Told) → ToldInRange last from told → is_admitted from told ≡ true → IsPlaceIn last (refused_next (Some told))
told_refuses last from (Voted granted) ranged admitted = tt
told_refuses last from (Matched prev count mask) ranged admitted = tt
told_refuses last from (Refused next) ranged admitted = (ranged.1, omega (arith, leb-true next (from + 1) admitted, ranged.0))
told_refuses last from Answered ranged admitted = tt

item_matches : (last member : ℕ) (item : Heard) → ItemInRange last item → matched_to (told_by member item) ≤ last
item_matches last member Beat ranged = omega arith
item_matches last member (From sender at told) ranged =
    cond_both ((sender == member) && is_admitted at told) (Some told) None (λ t. matched_to t ≤ last)
    (λ admitted. told_matches last at told ranged (and_parts (sender == member) (is_admitted at told) admitted).1) (λ other. omega arith)

item_refuses : (last member : ℕ) (item : Heard) → ItemInRange last item → IsPlaceIn last (refused_next (told_by member item))
item_refuses last member Beat ranged = tt
item_refuses last member (From sender at told) ranged =
    cond_both ((sender == member) && is_admitted at told) (Some told) None (λ t. IsPlaceIn last (refused_next t))
    (λ admitted. told_refuses last at told ranged (and_parts (sender == member) (is_admitted at told) admitted).1) (λ other. tt)

least_in : (last : ℕ) (one other : Option ℕ) → IsPlaceIn last one → IsPlaceIn last other → IsPlaceIn last (least_of one other)
least_in last None other first second = second
least_in last (Some n) None first second = first
least_in last (Some n) (Some m) first second = (omega (arith, first.0, second.0), omega (arith, first.1))

matches_most : (last member : ℕ) (heard : List Heard) → All (ItemInRange last) heard → match_index member heard ≤ last
matches_most last member [] all = omega arith
matches_most last member (item ∷ heard) all =
    let rest : match_index member heard ≤ last = matches_most last member heard (All-tail (ItemInRange last) item heard all) in
    omega (arith, rest, item_matches last member item (All-head (ItemInRange last) item heard all))

refused_in : (last member : ℕ) (heard : List Heard) → All (ItemInRange last) heard → IsPlaceIn last (least_refused member heard)
refused_in last member [] all = tt
refused_in last member (item ∷ heard) all =
    least_in last (refused_next (told_by member item)) (least_refused member heard) (item_refuses last member item (All-head (ItemInRange last) item heard all))
    (refused_in last member heard (All-tail (ItemInRange last) item heard all))

-- ---- from where

named_or : (last first : ℕ) (named : Option ℕ) → IsPlaceIn last named → IsPlace last first → IsPlace last (unwrap_or named first)
named_or last first None is place = place
named_or last first (Some index) is place = is

next_is : (last member first : ℕ) (heard : List Heard) → All (ItemInRange last) heard → IsPlace last first → IsPlace last (next_index member heard first)
next_is last member first heard all place =
    cond_both (has_matched member heard) (match_index member heard + 1) (unwrap_or (least_refused member heard) first) (IsPlace last)
    (λ matched. (omega arith, omega (arith, matches_most last member heard all)))
    (λ none. named_or last first (least_refused member heard) (refused_in last member heard all) place)

no_later : (last index : ℕ) (other : Option ℕ) → IsPlaceIn last other → IsPlace last index → IsPlace last (no_later_than other index)
no_later last index None is place = place
no_later last index (Some other) is place = (omega (arith, is.0, place.0), omega (arith, is.1))

-- the place from which on the entries of a log are sent
pub starts_within :
    (mode : Mode) (member commit : ℕ) (log : List Entry) (heard : List Heard) (first : ℕ) → All (ItemInRange (length log)) heard → IsPlace (length log) first →
    IsPlace (length log) (start_for mode member commit log heard first)
starts_within Coded member commit log heard first all place = next_is (length log) member first heard all place
starts_within Complete member commit log heard first all place =
    no_later (length log) (next_index member heard first) (first_lacking member commit log heard) (lacking_is member commit log heard (first_lacking member commit log heard) refl)
    (next_is (length log) member first heard all place)
