use Rattle.std.proofs.Common.{◌≡◌, ◌∙◌, ◌++◌, ◌∷◌, [], ℕ, sym, ap, arith}
use Rattle.std.specs.Prelude.{◌==◌}
use Rattle.craft_base.specs.Shape.{members_of}
use Rattle.world_model.specs.Rules.Say.{append_to}
use Rattle.node_core.specs.Wanting.{is_lacking}
use Rattle.node_core.proofs.Sending.{another_is, itself_is}
use Rattle.node_core.proofs.Currents.{itself_below, other_below, sent_among, sent_below}
use Rattle.node_core.proofs.member.Member.append_to_lacking.Goals.{in-Some+in_ok-append_if_lacking, in_default}
use Rattle.node_core.proofs.member.Member.append_to_lacking.Goals as goal

pub loop-number-preserved : goal.loop-number-preserved
loop-number-preserved c = λ n is.
    let so_far = c.loop-number.invariant n is in
    let index = c.args.index in
    let number = c.loop-number.number in
    let first = c.args.sends.now.items in
    let before = c.loop-number.sends.items in elim c.match-other.branch [
      | in-Some+in_ok-append_if_lacking w ↦
          let other = another_is _ number w.in-Some.receiver (sym w.in-Some.is ∙ c.other.ensures) in
          let more : c.match-other.sends.items ≡ before ++ sent_among (append_to n) (is_lacking index n) n.me (number ∷ []) =
          ap (λ v. v.items) w.sends-is ∙ w.in_ok-append_if_lacking.ensures n is ∙ ap (λ (k : ℕ). before ++ sent_among (append_to n) (is_lacking index n) n.me (k ∷ [])) other.1 in
          other_below (append_to n) (is_lacking index n) n.me number first before c.match-other.sends.items (ap (λ me. number == me) (sym is.stands.of_me) ∙ other.0) so_far more
      | in_default w ↦
          ap (λ v. v.items) w.sends-is
          ∙ itself_below (append_to n) (is_lacking index n) n.me number first before
          (ap (λ me. number == me) (sym is.stands.of_me) ∙ itself_is _ number (sym w.in_default.is ∙ c.other.ensures)) so_far
    ]

pub returns : goal.returns
returns c = λ n is.
    let all : c.loop-number.number ≡ members_of n.shape =
    omega (arith, c.loop-number-test.false, c.loop-number.auto.number-end, c.members-number-end.ensures.value, ap members_of is.stands.of_shape) in
    c.loop-number.invariant n is ∙ ap (λ (k : ℕ). c.args.sends.now.items ++ sent_below (append_to n) (is_lacking c.args.index n) n.me k) all
