use Rattle.std.proofs.Common.{◌≡◌, Some, ap, ◌∙◌, subst, sym}
use Rattle.std.proofs.lemmas.Result.{IfOk-weaker}
use Rattle.world_model.specs.World as model
use Rattle.schedule_replay.specs.Actions.{IsDone, act_of}
use Rattle.schedule_replay.specs.Seats.{Sits, running_with}
use Rattle.schedule_replay.proofs.lines.act.Goals as goal

pub returns-in-Running : goal.returns-in-Running
returns-in-Running c =
    IfOk-weaker c.act_running.result _ _ (λ x done w m of_shape here sits.
    let shape = c.args.shape.now in
    let me = c.args.me in
    let s = subst (λ seat. Sits shape me seat m) c.in-Running.is sits in
    let m_is : m ≡ running_with m.durable s.0 = ap (λ r. record { durable = m.durable; running = r }) s.1 in
    subst (λ n. IsDone shape me x.0 x.1 w (act_of c.args.action.now w me (Some n))) (sym m_is) (done w m.durable s.0 of_shape (here ∙ ap Some m_is) s.2)) c.act_running.ensures

pub returns-in-Down : goal.returns-in-Down
returns-in-Down c =
    IfOk-weaker c.act_down.result _ _ (λ x done w m of_shape here sits.
    let shape = c.args.shape.now in
    let me = c.args.me in
    let s = subst (λ seat. Sits shape me seat m) c.in-Down.is sits in
    let m_is : m ≡ model.down_with m.durable = ap (λ r. record { durable = m.durable; running = r }) s.0 in
    subst (λ n. IsDone shape me x.0 x.1 w (act_of c.args.action.now w me (Some n))) (sym m_is) (done w m.durable of_shape (here ∙ ap Some m_is) s.1)) c.act_down.ensures
