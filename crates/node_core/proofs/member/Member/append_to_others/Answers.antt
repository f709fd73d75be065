use Rattle.std.proofs.Common.{◌≡◌, ◌∙◌, ◌++◌, ◌∷◌, [], ℕ, sym, ap, arith}
use Rattle.std.specs.Prelude.{◌==◌}
use Rattle.craft_base.specs.Shape.{members_of}
use Rattle.entry_frames.specs.declared.message.Message.{Message}
use Rattle.world_model.specs.Rules.Say as rule
use Rattle.node_core.proofs.Sending.{another_is, another_sent, itself_is, itself_not_sent, sent_to}
use Rattle.node_core.proofs.member.Member.append_to_others.Goals.{in-Some+in_ok-append_to+in_ok-push, in_default}
use Rattle.node_core.proofs.member.Member.append_to_others.Goals as goal

pub loop-number-preserved : goal.loop-number-preserved
loop-number-preserved c = λ n is.
    let so_far = c.loop-number.invariant n is in
    let number = c.loop-number.number in elim c.match-other.branch [
      | in-Some+in_ok-append_to+in_ok-push w ↦
          let other = another_is _ number w.in-Some.receiver (sym w.in-Some.is ∙ c.other.ensures) in
          let said : w.in_ok-append_to.field-0 ≡ rule.append_to n number = w.in_ok-append_to.ensures n is ∙ ap (rule.append_to n) other.1 in
          ap (λ v. v.items) w.sends-is ∙ w.in_ok-push.ensures.items ∙ ap (λ (m : Message). c.loop-number.sends.items ++ m ∷ []) said
          ∙ another_sent (rule.append_to n) n.me number c.args.sends.now.items c.loop-number.sends.items (ap (λ me. number == me) (sym is.stands.of_me) ∙ other.0) so_far
      | in_default w ↦
          ap (λ v. v.items) w.sends-is
          ∙ itself_not_sent (rule.append_to n) n.me number c.args.sends.now.items c.loop-number.sends.items
          (ap (λ me. number == me) (sym is.stands.of_me) ∙ itself_is _ number (sym w.in_default.is ∙ c.other.ensures)) so_far
    ]

pub returns : goal.returns
returns c = λ n is.
    let all : c.loop-number.number ≡ members_of n.shape =
    omega (arith, c.loop-number-test.false, c.loop-number.auto.number-end, c.members-number-end.ensures.value, ap members_of is.stands.of_shape) in
    c.loop-number.invariant n is ∙ ap (λ (k : ℕ). c.args.sends.now.items ++ sent_to (rule.append_to n) n.me k) all
