-- Where a log and the entries of a message differ.
use Rattle.std.proofs.Common.{◌≡◌, ℕ, ◌+◌, ◌<◌, List, [], ◌∷◌, length, drop, Some, refl, ap, ◌∙◌, length-drop, arith}
use Rattle.craft_base.specs.declared.command.Entry.{Entry}
use Rattle.world_model.specs.Rules.Append.{common, difference, difference_at}

both_left : (index : ℕ) (log es : List Entry) → 0 < length log → 0 < length es → Some index ≡ difference_at index log es
both_left index [] es some more = absurd (omega (arith, some))
both_left index (own ∷ log) [] some more = absurd (omega (arith, more))
both_left index (own ∷ log) (e ∷ es) some more = refl

pub differs : (prev same at : ℕ) (log es : List Entry) → same ≡ common (drop prev log) es → prev + same < length log → same < length es → at ≡ prev + 1 + same
    → Some at ≡ difference prev log es
differs prev same at log es is within more here =
    let c = common (drop prev log) es in
    let left : 0 < length (drop (prev + c) log) = omega (arith, length-drop (prev + c) log, within, is) in
    let told : 0 < length (drop c es) = omega (arith, length-drop c es, more, is) in
    ap Some here ∙ ap (λ (n : ℕ). Some (prev + 1 + n)) is ∙ both_left (prev + 1 + c) (drop (prev + c) log) (drop c es) left told
