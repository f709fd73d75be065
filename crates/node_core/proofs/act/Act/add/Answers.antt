use Rattle.std.proofs.Common.{◌≡◌, ◌<◌, ◌≤◌, ◌+◌, ◌∙◌, ◌++◌, ◌∷◌, [], List, drop, map, length, refl, sym, subst, ap, arith, append_assoc, append-nil}
use Rattle.std.proofs.lemmas.List.{drop_all}
use Rattle.craft_base.specs.declared.command.Entry.{Entry}
use Rattle.entry_frames.specs.MessageParts.{body_of, entries_of}
use Rattle.entry_frames.specs.Records.{Record, Add}
use Rattle.full_append.proofs.Appends.{told}
use Rattle.full_append.proofs.Lists.{drop_at_place}
use Rattle.node_core.specs.Acting.{MayRecord, Recorded, is_preparing}
use Rattle.node_core.proofs.Gathering.{still_idle}
use Rattle.node_core.proofs.Recorded.{both_recorded, may_rest, none_recorded, there_is}
use Rattle.node_core.proofs.act.Act.add.Goals as goal

pub loop-number-init : goal.loop-number-init
loop-number-init c = ([], none_recorded c.args.self, c.requires.may, refl)

pub add_one-requires-clause-shape : goal.add_one-requires-clause-shape
add_one-requires-clause-shape c = c.requires.shape ∙ sym c.loop-number.invariant.1.shape

pub add_one-requires-clause-idle : goal.add_one-requires-clause-idle
add_one-requires-clause-idle c = still_idle c.loop-number.invariant.0 c.args.self c.loop-number.act c.loop-number.invariant.1 c.requires.idle

pub add_one-requires-clause-free : goal.add_one-requires-clause-free
add_one-requires-clause-free c = ap is_preparing c.loop-number.invariant.1.role ∙ c.requires.free

pub loop-number-preserved : goal.loop-number-preserved
loop-number-preserved c =
    let frame = c.args.append.now.frame in
    let es = entries_of (body_of frame) in
    let number = c.loop-number.number in
    let within : number < length es = omega (arith, c.loop-number-test.true, c.count-number-end.ensures, told frame c.requires.kind) in
    let there = there_is es number within in
    let e = there.0 in
    let made = c.loop-number.invariant.0 in
    let left : drop number es ≡ e ∷ drop (number + 1) es = drop_at_place es number e there.1 in
    let added : Recorded (Add e ∷ []) c.loop-number.act c.in_ok-act.act = c.in_ok-act.ensures e there.1 in (
      made ++ Add e ∷ [],
      both_recorded made (Add e ∷ []) c.args.self c.loop-number.act c.in_ok-act.act c.loop-number.invariant.1 added,
      may_rest (Add e ∷ []) (map Add (drop (number + 1) es)) c.loop-number.act c.in_ok-act.act
          (subst (λ (xs : List Entry). MayRecord c.loop-number.act.member (map Add xs)) left c.loop-number.invariant.2) added,
      c.loop-number.invariant.3 ∙ ap (λ (xs : List Entry). made ++ map Add xs) left ∙ sym (append_assoc made (Add e ∷ []) (map Add (drop (number + 1) es))),
    )

pub returns : goal.returns
returns c =
    let frame = c.args.append.now.frame in
    let es = entries_of (body_of frame) in
    let number = c.loop-number.number in
    let past : length es ≤ number = omega (arith, c.loop-number-test.false, c.count-number-end.ensures, told frame c.requires.kind) in
    let made = c.loop-number.invariant.0 in
    let all : map Add (drop c.args.first_new es) ≡ made =
    c.loop-number.invariant.3 ∙ ap (λ (xs : List Entry). made ++ map Add xs) (drop_all number es past) ∙ append-nil made in
    subst (λ (records : List Record). Recorded records c.args.self c.loop-number.act) (sym all) c.loop-number.invariant.1
