use Rattle.std.proofs.Common.{◌≡◌, ◌∙◌, ◌++◌, ◌∷◌, [], sym, ap}
use Rattle.std.specs.Prelude.{◌==◌}
use Rattle.entry_frames.specs.Logs.{last_index, last_term}
use Rattle.entry_frames.specs.declared.message.Message.{Message}
use Rattle.entry_frames.specs.declared.peer.Peer.{Peer}
use Rattle.entry_frames.specs.declared.peer.Peer.TheVariants.{Vote}
use Rattle.world_model.specs.Rules.Acts.{message_of}
use Rattle.node_core.proofs.Sending.{another_is, another_sent, itself_is, itself_not_sent}
use Rattle.node_core.proofs.member.Member.ask_others.Goals.{in-Some+in_ok-push, in_default}
use Rattle.node_core.proofs.member.Member.ask_others.Goals as goal

pub loop-number-preserved : goal.loop-number-preserved
loop-number-preserved c = λ n is.
    let vote : Peer = Vote (last_term n.durable.log) (last_index n.durable.log) in
    let so_far = c.loop-number.invariant n is in
    let number = c.loop-number.number in elim c.match-other.branch [
      | in-Some+in_ok-push w ↦
          let other = another_is _ number w.in-Some.receiver (sym w.in-Some.is ∙ c.other.ensures) in
          let said : w.says.result ≡ message_of n vote number =
          w.says.ensures n is ∙ ap (λ body. message_of n body w.in-Some.receiver) (w.vote_request.ensures ∙ ap (λ d. Vote (last_term d.log) (last_index d.log)) is.stands.of_durable)
          ∙ ap (message_of n vote) other.1 in
          ap (λ v. v.items) w.sends-is ∙ w.in_ok-push.ensures.items ∙ ap (λ (m : Message). c.loop-number.sends.items ++ m ∷ []) said
          ∙ another_sent (message_of n vote) n.me number c.args.sends.now.items c.loop-number.sends.items (ap (λ me. number == me) (sym is.stands.of_me) ∙ other.0) so_far
      | in_default w ↦
          ap (λ v. v.items) w.sends-is
          ∙ itself_not_sent (message_of n vote) n.me number c.args.sends.now.items c.loop-number.sends.items
          (ap (λ me. number == me) (sym is.stands.of_me) ∙ itself_is _ number (sym w.in_default.is ∙ c.other.ensures)) so_far
    ]
