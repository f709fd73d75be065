use Rattle.std.proofs.Common.{◌≡◌, ℕ, ◌+◌, ◌∙◌, ◌++◌, ◌∷◌, [], List, Some, drop, map, refl, sym, subst, ap, arith, append_assoc, append-nil}
use Rattle.std.specs.Prelude.{slice_get}
use Rattle.std.proofs.lemmas.List.{drop_all}
use Rattle.std.proofs.lemmas.Option.{slice_get-get_or}
use Rattle.entry_frames.specs.Records.{Record}
use Rattle.full_append.proofs.Lists.{drop_at_place}
use Rattle.node_core.specs.Acting.{MayRecord, Recorded, is_preparing}
use Rattle.node_core.specs.Preparing.{value_given}
use Rattle.node_core.proofs.Gathering.{still_idle}
use Rattle.node_core.proofs.Recorded.{both_recorded, may_rest, none_recorded}
use Rattle.node_core.proofs.act.Act.give_values.Goals as goal

pub loop-whole-init : goal.loop-whole-init
loop-whole-init c = ([], none_recorded c.args.self, c.requires.may, refl)

pub give_value-requires-clause-idle : goal.give_value-requires-clause-idle
give_value-requires-clause-idle c = still_idle c.loop-whole.invariant.0 c.args.self c.loop-whole.act c.loop-whole.invariant.1 c.requires.idle

pub give_value-requires-clause-free : goal.give_value-requires-clause-free
give_value-requires-clause-free c = ap is_preparing c.loop-whole.invariant.1.role ∙ c.requires.free

pub loop-whole-preserved : goal.loop-whole-preserved
loop-whole-preserved c =
    let wholes = c.args.wholes.now in
    let place = c.loop-whole.whole-index in
    let whole : ℕ × List ℕ = c.whole-item.result in
    let there : slice_get wholes place ≡ Some whole = slice_get-get_or wholes place whole c.loop-whole-test.true ∙ ap (λ (w : ℕ × List ℕ). Some w) (sym c.whole-item.is) in
    let made = c.loop-whole.invariant.0 in
    let left : drop place wholes ≡ whole ∷ drop (place + 1) wholes = drop_at_place wholes place whole there in
    let one : Recorded (value_given whole ∷ []) c.loop-whole.act c.in_ok-act.act = c.in_ok-act.ensures in (
      made ++ value_given whole ∷ [],
      both_recorded made (value_given whole ∷ []) c.args.self c.loop-whole.act c.in_ok-act.act c.loop-whole.invariant.1 one,
      may_rest (value_given whole ∷ []) (map value_given (drop (place + 1) wholes)) c.loop-whole.act c.in_ok-act.act
          (subst (λ (xs : List (ℕ × List ℕ)). MayRecord c.loop-whole.act.member (map value_given xs)) left c.loop-whole.invariant.2) one,
      c.loop-whole.invariant.3 ∙ ap (λ (xs : List (ℕ × List ℕ)). made ++ map value_given xs) left
          ∙ sym (append_assoc made (value_given whole ∷ []) (map value_given (drop (place + 1) wholes))),
    )

pub returns : goal.returns
returns c =
    let wholes = c.args.wholes.now in
    let place = c.loop-whole.whole-index in
    let made = c.loop-whole.invariant.0 in
    let all : map value_given wholes ≡ made =
    c.loop-whole.invariant.3 ∙ ap (λ (xs : List (ℕ × List ℕ)). made ++ map value_given xs) (drop_all place wholes (omega (arith, c.loop-whole-test.false))) ∙ append-nil made in
    subst (λ (records : List Record). Recorded records c.args.self c.loop-whole.act) (sym all) c.loop-whole.invariant.1
