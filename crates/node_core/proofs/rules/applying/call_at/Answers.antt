use Rattle.std.proofs.Common.{◌≡◌, ℕ, ◌+◌, ◌<◌, List, drop, length, get_or, cond, Some, ap, sym, ◌∙◌}
use Rattle.std.specs.Prelude.{◌==◌}
use Rattle.std.proofs.lemmas.Bool.{eq-eqb, ne_eqb}
use Rattle.std.proofs.lemmas.List.{drop_all}
use Rattle.std.proofs.lemmas.Option.{slice_get-get_or}
use Rattle.full_append.proofs.Lists.{drop_at_place}
use Rattle.world_model.specs.Rules.Applying as rule
use Rattle.world_model.specs.declared.call.Called.{Called}
use Rattle.node_core.proofs.rules.applying.call_at.Goals as goal

-- an index that no request has
abbrev nobody : Called
nobody = record { index = 0; place = 0; client = 0; seq = 0 }

-- the first of those that are left, by its index
by_first : (index place : ℕ) (calls : List Called) → place < length calls →
    rule.call_at index (drop place calls) ≡ cond ((get_or calls place nobody).index == index) (Some (get_or calls place nobody)) (rule.call_at index (drop (place + 1) calls))
by_first index place calls lt = ap (rule.call_at index) (drop_at_place calls place (get_or calls place nobody) (slice_get-get_or calls place nobody lt))

pub returns-then-call-index : goal.returns-then-call-index
returns-then-call-index c =
    let index = c.args.index in
    let calls = c.args.calls.now in
    let place = c.loop-call.call-index in
    let one = get_or calls place nobody in
    sym (c.loop-call.invariant ∙ by_first index place calls c.loop-call-test.true
    ∙ ap (λ b. cond b (Some one) (rule.call_at index (drop (place + 1) calls))) (eq-eqb one.index index c.if-call-index.true))

pub loop-call-preserved : goal.loop-call-preserved
loop-call-preserved c =
    let index = c.args.index in
    let calls = c.args.calls.now in
    let place = c.loop-call.call-index in
    let one = get_or calls place nobody in
    c.loop-call.invariant ∙ by_first index place calls c.loop-call-test.true
    ∙ ap (λ b. cond b (Some one) (rule.call_at index (drop (place + 1) calls))) (ne_eqb one.index index c.if-call-index.false)

pub returns : goal.returns
returns c = sym (c.loop-call.invariant ∙ ap (rule.call_at c.args.index) (drop_all c.loop-call.call-index c.args.calls.now c.loop-call-test.false))
