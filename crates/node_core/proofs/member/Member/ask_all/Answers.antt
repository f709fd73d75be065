use Rattle.std.proofs.Common.{◌≡◌, ◌∙◌, ◌++◌, ◌∷◌, [], ℕ, sym, ap, arith}
use Rattle.std.specs.Prelude.{◌==◌}
use Rattle.craft_base.specs.Shape.{members_of}
use Rattle.entry_frames.specs.declared.message.Message.{Message}
use Rattle.entry_frames.specs.declared.peer.Peer.{Peer}
use Rattle.entry_frames.specs.declared.peer.Peer.TheVariants.{Ask}
use Rattle.world_model.specs.Rules.Acts.{message_of}
use Rattle.node_core.proofs.Sending.{another_is, another_sent, itself_is, itself_not_sent, sent_to}
use Rattle.node_core.proofs.member.Member.ask_all.Goals.{in-Some+in_ok-push, in_default}
use Rattle.node_core.proofs.member.Member.ask_all.Goals as goal

pub loop-number-preserved : goal.loop-number-preserved
loop-number-preserved c = λ n is.
    let body : Peer = Ask c.args.start in
    let so_far = c.loop-number.invariant n is in
    let number = c.loop-number.number in elim c.match-other.branch [
      | in-Some+in_ok-push w ↦
          let other = another_is _ number w.in-Some.receiver (sym w.in-Some.is ∙ c.other.ensures) in
          let said : w.says.result ≡ message_of n body number = w.says.ensures n is ∙ ap (message_of n body) other.1 in
          ap (λ v. v.items) w.sends-is ∙ w.in_ok-push.ensures.items ∙ ap (λ (m : Message). c.loop-number.sends.items ++ m ∷ []) said
          ∙ another_sent (message_of n body) n.me number c.args.sends.now.items c.loop-number.sends.items (ap (λ me. number == me) (sym is.stands.of_me) ∙ other.0) so_far
      | in_default w ↦
          ap (λ v. v.items) w.sends-is
          ∙ itself_not_sent (message_of n body) n.me number c.args.sends.now.items c.loop-number.sends.items
          (ap (λ me. number == me) (sym is.stands.of_me) ∙ itself_is _ number (sym w.in_default.is ∙ c.other.ensures)) so_far
    ]

pub returns : goal.returns
returns c = λ n is.
    let all : c.loop-number.number ≡ members_of n.shape =
    omega (arith, c.loop-number-test.false, c.loop-number.auto.number-end, c.members-number-end.ensures.value, ap members_of is.stands.of_shape) in
    c.loop-number.invariant n is ∙ ap (λ (k : ℕ). c.args.sends.now.items ++ sent_to (message_of n (Ask c.args.start)) n.me k) all
