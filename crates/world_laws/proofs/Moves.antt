-- Through a preparation the cursor moves at most as often as there were parts.
use Rattle.std.proofs.Common.{◌≡◌, ℕ, zero, suc, ◌+◌, ◌≤◌, true, false, Bool, if◌then◌else◌, List, [], ◌∷◌, length, drop, Option, None, Some, refl, sym, ap, subst, arith, length-drop}
use Rattle.std.proofs.lemmas.Bool.{eq-eqb}
use Rattle.entry_frames.specs.declared.role.Role.TheVariants.{Preparing}
use Rattle.leader_prep.specs.Decisions.{OpenPart, first_index, open_parts}
use Rattle.world_model.specs.Nodes.{Node}
use Rattle.world_model.specs.Preparing.{after_event}
use Rattle.world_model.specs.Turn.{Event}
use Rattle.world_model.proofs.Preparing.Shown.{parts_are_left}
use Rattle.world_laws.specs.Preparations.{MovesAreParts, Prepares, is_same_cursor}

same_cursor : (at : Option ℕ) → is_same_cursor at at ≡ true
same_cursor None = refl
same_cursor (Some cursor) = eq-eqb cursor cursor refl

at_most_one : (b : Bool) → (if b then 0 else 1) ≤ 1
at_most_one true = omega arith
at_most_one false = omega arith

-- the cursor is another only where there are fewer parts
parts_pay :
    (parts : List OpenPart) (many : ℕ) →
    (if is_same_cursor (first_index parts) (first_index (drop many parts)) then 0 else 1) + length (drop many parts) ≤ length parts
parts_pay [] zero = omega arith
parts_pay [] (suc many) = omega arith
parts_pay (part ∷ parts) zero =
    let same : ◌≡◌ {A = ℕ} (if is_same_cursor (Some part.index) (Some part.index) then 0 else 1) 0 = ap (λ (b : Bool). if b then 0 else 1) (same_cursor (Some part.index)) in
    omega (arith, same)
parts_pay (part ∷ parts) (suc many) =
    omega (arith, at_most_one (is_same_cursor (Some part.index) (first_index (drop many parts))), length-drop many parts)

begins : (n : Node) (events : List Event) → Prepares n events → n.volatile.role ≡ Preparing
begins n [] prepares = prepares
begins n (event ∷ events) prepares = prepares.0

pub moves_are_parts : MovesAreParts
moves_are_parts n [] prepares = omega arith
moves_are_parts n (event ∷ events) prepares =
    let now : Node = after_event event n in
    let left = parts_are_left n event prepares.0 (begins now events prepares.1) in
    let before : List OpenPart = open_parts n.durable.commit n.durable.log in
    let pays : (if is_same_cursor (first_index before) (first_index (open_parts now.durable.commit now.durable.log)) then 0 else 1) + length (open_parts now.durable.commit now.durable.log) ≤ length before =
    subst (λ parts. (if is_same_cursor (first_index before) (first_index parts) then 0 else 1) + length parts ≤ length before) (sym left.1) (parts_pay before left.0) in
    omega (arith, pays, moves_are_parts now events prepares.1)
