use Rattle.std.proofs.Common.{◌≡◌, ℕ, List, Bool, true, sym, ap, ◌∙◌}
use Rattle.std.proofs.lemmas.Bool.{true≢false}
use Rattle.std.proofs.lemmas.Result.{IfOk-weaker}
use Rattle.craft_base.specs.declared.command.Head.{Head}
use Rattle.craft_base.specs.declared.command.Op.{Op}
use Rattle.entry_frames.specs.Operations.{row, op_kind}
use Rattle.entry_frames.specs.declared.op_kind.OpKind.{OpKind}
use Rattle.kv_apply.specs.Commands.{is_asked, is_effective, kept_of}
use Rattle.kv_apply.specs.declared.outcome.Kept.{Kept}
use Rattle.kv_apply.proofs.Numbers.{effective_is_new, is_new}
use Rattle.kv_apply.proofs.Standing.{without_effect}
use Rattle.kv_apply.proofs.service.Service.apply.Goals as goal

-- what the calls answered, of the command itself
was_asked : (h : Head) (op : Op) (kind : OpKind) (asked : Bool) → asked ≡ (row kind).asked → kind ≡ op_kind op → op ≡ h.op → asked ≡ true → is_asked h ≡ true
was_asked h op kind asked is of same one = sym (is ∙ ap (λ k. (row k).asked) (of ∙ ap op_kind same)) ∙ one

effect_by : (h : Head) (heads : List Head) (kept : Kept) (client seq : ℕ) → is_asked h ≡ true → kept ≡ kept_of client seq heads → client ≡ h.client → seq ≡ h.seq
    → is_effective h heads ≡ is_new kept
effect_by h heads kept client seq asked is of numbered =
    effective_is_new h heads asked ∙ ap is_new (sym (is ∙ ap (λ (n : ℕ). kept_of n seq heads) of ∙ ap (λ (n : ℕ). kept_of h.client n heads) numbered))

pub returns-in-Same-clause-stands : goal.returns-in-Same-clause-stands
returns-in-Same-clause-stands c heads stands =
    let h = c.args.entry.now.entry.head in
    let asked = was_asked h _ _ _ c.is_asked.ensures c.of.ensures c.op.ensures c.if-not-is_asked.false in
    without_effect c.args.self h heads c.args.index
    (effect_by h heads _ _ _ asked (c.kept.ensures heads stands) c.client.ensures c.seq.ensures ∙ ap is_new c.in-Same.is) c.requires stands

pub returns-in-Old-clause-stands : goal.returns-in-Old-clause-stands
returns-in-Old-clause-stands c heads stands =
    let h = c.args.entry.now.entry.head in
    let asked = was_asked h _ _ _ c.is_asked.ensures c.of.ensures c.op.ensures c.if-not-is_asked.false in
    without_effect c.args.self h heads c.args.index
    (effect_by h heads _ _ _ asked (c.kept.ensures heads stands) c.client.ensures c.seq.ensures ∙ ap is_new c.in-Old.is) c.requires stands

pub returns-in-New-clause-stands : goal.returns-in-New-clause-stands
returns-in-New-clause-stands c =
    let h = c.args.entry.now.entry.head in
    let asked = was_asked h _ _ _ c.is_asked.ensures c.of.ensures c.op.ensures c.if-not-is_asked.false in
    IfOk-weaker c.carry_out.result _ _ (λ r stands_after heads stands. stands_after heads stands
    (effect_by h heads _ _ _ asked (c.kept.ensures heads stands) c.client.ensures c.seq.ensures ∙ ap is_new c.in-New.is)) c.carry_out.ensures.stands

pub returns-in-New-clause-in_place : goal.returns-in-New-clause-in_place
returns-in-New-clause-in_place c heads stands none =
    let h = c.args.entry.now.entry.head in
    let asked = was_asked h _ _ _ c.is_asked.ensures c.of.ensures c.op.ensures c.if-not-is_asked.false in
    absurd (true≢false (sym (effect_by h heads _ _ _ asked (c.kept.ensures heads stands) c.client.ensures c.seq.ensures ∙ ap is_new c.in-New.is) ∙ none))
