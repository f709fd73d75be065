use Rattle.std.proofs.Common.{sym, subst}
use Rattle.std.proofs.lemmas.Result.{IfOk-weaker}
use Rattle.world_model.specs.Ranges.{EventInRange}
use Rattle.world_model.specs.Turn.{act_of_event}
use Rattle.node_core.specs.Acting.{IsActed}
use Rattle.node_core.specs.Turns.{event_of}
use Rattle.node_core.proofs.act.Act.respond.Goals as goal

pub returns-in-Tick : goal.returns-in-Tick
returns-in-Tick c = IfOk-weaker c.tick.result _ _
    (λ x acted n is. subst (λ e. IsActed (act_of_event (event_of e) n) c.args.self x) (sym c.in-Tick.is) (acted n is)) c.tick.ensures

pub returns-in-Frame : goal.returns-in-Frame
returns-in-Frame c = IfOk-weaker c.take.result _ _
    (λ x acted n is. subst (λ e. IsActed (act_of_event (event_of e) n) c.args.self x) (sym c.in-Frame.is) (acted n is)) c.take.ensures

pub take_call-requires-clause-fits : goal.take_call-requires-clause-fits
take_call-requires-clause-fits c = subst (λ e. EventInRange c.args.self.member.store.shape c.args.self.member.me (event_of e)) c.in-Call.is c.requires.told

pub returns-in-Call : goal.returns-in-Call
returns-in-Call c = IfOk-weaker c.take_call.result _ _
    (λ x acted n is. subst (λ e. IsActed (act_of_event (event_of e) n) c.args.self x) (sym c.in-Call.is) (acted n is)) c.take_call.ensures
