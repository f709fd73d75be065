use Rattle.std.proofs.Common.{◌≡◌, ℕ, ◌+◌, ◌∙◌, ◌++◌, ◌∷◌, [], List, Some, drop, map, get_or, refl, sym, subst, ap, arith, append_assoc, append-nil}
use Rattle.std.specs.Prelude.{slice_get}
use Rattle.std.proofs.lemmas.List.{drop_all}
use Rattle.std.proofs.lemmas.Option.{slice_get-get_or}
use Rattle.entry_frames.specs.Records.{Record}
use Rattle.full_append.proofs.Lists.{drop_at_place}
use Rattle.node_core.specs.Acting.{MayRecord, Recorded, is_preparing}
use Rattle.node_core.specs.Appending.{value_record}
use Rattle.node_core.proofs.Gathering.{still_idle}
use Rattle.node_core.proofs.Recorded.{both_recorded, may_rest, none_recorded}
use Rattle.node_core.proofs.act.Act.complete.Goals as goal

pub loop-index-init : goal.loop-index-init
loop-index-init c = ([], none_recorded c.args.self, c.requires.may, refl)

pub complete_one-requires-clause-idle : goal.complete_one-requires-clause-idle
complete_one-requires-clause-idle c = still_idle c.loop-index.invariant.0 c.args.self c.loop-index.act c.loop-index.invariant.1 c.requires.idle

pub complete_one-requires-clause-free : goal.complete_one-requires-clause-free
complete_one-requires-clause-free c = ap is_preparing c.loop-index.invariant.1.role ∙ c.requires.free

pub loop-index-preserved : goal.loop-index-preserved
loop-index-preserved c =
    let frame = c.args.append.now.frame in
    let wholes = c.args.wholes.now in
    let place = c.loop-index.index-index in
    let index = get_or wholes place 0 in
    let there : slice_get wholes place ≡ Some index = slice_get-get_or wholes place 0 c.loop-index-test.true in
    let made = c.loop-index.invariant.0 in
    let left : drop place wholes ≡ index ∷ drop (place + 1) wholes = drop_at_place wholes place index there in
    let one : Recorded (value_record frame index ∷ []) c.loop-index.act c.in_ok-act.act = c.in_ok-act.ensures in (
      made ++ value_record frame index ∷ [],
      both_recorded made (value_record frame index ∷ []) c.args.self c.loop-index.act c.in_ok-act.act c.loop-index.invariant.1 one,
      may_rest (value_record frame index ∷ []) (map (value_record frame) (drop (place + 1) wholes)) c.loop-index.act c.in_ok-act.act
          (subst (λ (xs : List ℕ). MayRecord c.loop-index.act.member (map (value_record frame) xs)) left c.loop-index.invariant.2) one,
      c.loop-index.invariant.3 ∙ ap (λ (xs : List ℕ). made ++ map (value_record frame) xs) left
          ∙ sym (append_assoc made (value_record frame index ∷ []) (map (value_record frame) (drop (place + 1) wholes))),
    )

pub returns : goal.returns
returns c =
    let frame = c.args.append.now.frame in
    let wholes = c.args.wholes.now in
    let place = c.loop-index.index-index in
    let made = c.loop-index.invariant.0 in
    let all : map (value_record frame) wholes ≡ made =
    c.loop-index.invariant.3 ∙ ap (λ (xs : List ℕ). made ++ map (value_record frame) xs) (drop_all place wholes (omega (arith, c.loop-index-test.false))) ∙ append-nil made in
    subst (λ (records : List Record). Recorded records c.args.self c.loop-index.act) (sym all) c.loop-index.invariant.1
