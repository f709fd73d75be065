use Rattle.std.proofs.Common.{◌≡◌, ◌∙◌, ◌++◌, ◌∷◌, [], ℕ, Bool, not, sym, ap, arith}
use Rattle.std.specs.Prelude.{◌==◌}
use Rattle.craft_base.specs.Shape.{members_of}
use Rattle.entry_frames.specs.declared.message.Message.{Message}
use Rattle.entry_frames.specs.declared.peer.Peer.TheVariants.{Ask}
use Rattle.leader_prep.specs.Pages.{covers}
use Rattle.world_model.specs.Rules.Acts.{message_of}
use Rattle.node_core.proofs.Sending.{another_is, itself_is}
use Rattle.node_core.proofs.Currents.{itself_below, other_below, sent_among, sent_below}
use Rattle.node_core.proofs.member.Member.ask_on.Goals.{in-Some+in_ok-ask_if_uncovered, in_default}
use Rattle.node_core.proofs.member.Member.ask_on.Goals as goal

pub loop-number-preserved : goal.loop-number-preserved
loop-number-preserved c = λ n is there.
    let so_far = c.loop-number.invariant n is there in
    let number = c.loop-number.number in
    let asks : ℕ → Message = message_of n (Ask c.args.cursor) in
    let waits : ℕ → Bool = λ member. not (covers n.me n.volatile.pages c.args.cursor member) in
    let first = c.args.sends.now.items in
    let before = c.loop-number.sends.items in elim c.match-other.branch [
      | in-Some+in_ok-ask_if_uncovered w ↦
          let other = another_is _ number w.in-Some.receiver (sym w.in-Some.is ∙ c.other.ensures) in
          let more : c.match-other.sends.items ≡ before ++ sent_among asks waits n.me (number ∷ []) =
          ap (λ v. v.items) w.sends-is ∙ w.in_ok-ask_if_uncovered.ensures n is there ∙ ap (λ (k : ℕ). before ++ sent_among asks waits n.me (k ∷ [])) other.1 in
          other_below asks waits n.me number first before c.match-other.sends.items (ap (λ me. number == me) (sym is.stands.of_me) ∙ other.0) so_far more
      | in_default w ↦
          ap (λ v. v.items) w.sends-is
          ∙ itself_below asks waits n.me number first before
          (ap (λ me. number == me) (sym is.stands.of_me) ∙ itself_is _ number (sym w.in_default.is ∙ c.other.ensures)) so_far
    ]

pub returns : goal.returns
returns c = λ n is there.
    let all : c.loop-number.number ≡ members_of n.shape =
    omega (arith, c.loop-number-test.false, c.loop-number.auto.number-end, c.members-number-end.ensures.value, ap members_of is.stands.of_shape) in
    c.loop-number.invariant n is there
    ∙ ap (λ (k : ℕ). c.args.sends.now.items ++ sent_below (message_of n (Ask c.args.cursor)) (λ member. not (covers n.me n.volatile.pages c.args.cursor member)) n.me k) all
