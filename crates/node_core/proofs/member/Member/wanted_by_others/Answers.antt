use Rattle.std.proofs.Common.{◌≡◌, ◌∙◌, ◌∷◌, [], ℕ, sym, ap, arith}
use Rattle.std.specs.Prelude.{◌==◌}
use Rattle.craft_base.specs.Knowledge.{least_of}
use Rattle.craft_base.specs.Shape.{members_of}
use Rattle.world_model.specs.Rules.Say.{start_of}
use Rattle.node_core.specs.Wanting.{wanted_among}
use Rattle.node_core.proofs.Sending.{another_is, itself_is}
use Rattle.node_core.proofs.Wanting.{itself_below, least_of_none, other_below, wanted_below}
use Rattle.node_core.proofs.member.Member.wanted_by_others.Goals.{in-Some, in_default}
use Rattle.node_core.proofs.member.Member.wanted_by_others.Goals as goal

pub loop-number-init : goal.loop-number-init
loop-number-init c = λ n is. sym (least_of_none c.args.first)

pub loop-number-preserved : goal.loop-number-preserved
loop-number-preserved c = λ n is.
    let log = n.durable.log in
    let start : ℕ → ℕ = start_of n in
    let so_far = c.loop-number.invariant n is in
    let number = c.loop-number.number in
    let first = c.args.first in
    let before = c.loop-number.want in elim c.match-other.branch [
      | in-Some w ↦
          let other = another_is _ number w.in-Some.receiver (sym w.in-Some.is ∙ c.other.ensures) in
          let one : w.if_part.result ≡ wanted_among log (start number ∷ []) =
          w.if_part.ensures ∙ ap (λ d. wanted_among d.log (w.start_for.result ∷ [])) is.stands.of_durable
          ∙ ap (λ (k : ℕ). wanted_among log (k ∷ [])) (w.start_for.ensures n is ∙ ap start other.1) in
          let more : c.match-other.want ≡ least_of before (wanted_among log (start number ∷ [])) = w.want-is ∙ w.least_of-want.ensures ∙ ap (least_of before) one in
          other_below log start n.me number first before c.match-other.want (ap (λ me. number == me) (sym is.stands.of_me) ∙ other.0) so_far more
      | in_default w ↦
          w.want-is
          ∙ itself_below log start n.me number first before
          (ap (λ me. number == me) (sym is.stands.of_me) ∙ itself_is _ number (sym w.in_default.is ∙ c.other.ensures)) so_far
    ]

pub returns : goal.returns
returns c = λ n is.
    let all : c.loop-number.number ≡ members_of n.shape =
    omega (arith, c.loop-number-test.false, c.loop-number.auto.number-end, c.members-number-end.ensures.value, ap members_of is.stands.of_shape) in
    c.loop-number.invariant n is ∙ ap (λ (k : ℕ). least_of c.args.first (wanted_below n.durable.log (start_of n) n.me k)) all
