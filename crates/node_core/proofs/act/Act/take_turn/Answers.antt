use Rattle.std.proofs.Common.{ℕ, subst}
use Rattle.std.proofs.lemmas.Result.{IfOk-weaker}
use Rattle.craft_base.specs.Shape.{Shape, IsShape}
use Rattle.world_model.specs.Ranges.{EventInRange}
use Rattle.world_model.specs.Rules.Want.{act_of_want}
use Rattle.world_model.specs.Turn.{act_of_event}
use Rattle.world_model.proofs.Ranges.Turns.{event_in_range}
use Rattle.node_core.specs.Turns.{event_of}
use Rattle.node_core.proofs.Acting.{acted_after}
use Rattle.node_core.proofs.Hearing.{own_range}
use Rattle.node_core.proofs.act.Act.take_turn.Goals as goal

pub want-requires : goal.want-requires
want-requires c =
    let r = c.requires.ranged in
    let m = c.args.self.member in
    let event = event_of c.args.event.now in
    let is : IsShape r.node.shape = subst (λ (s : Shape). IsShape s) r.is.of_store c.requires.is_shape in
    let told : EventInRange r.node.shape r.node.me event =
    subst (λ (k : ℕ). EventInRange r.node.shape k event) r.is.stands.of_me (subst (λ (s : Shape). EventInRange s m.me event) r.is.of_store c.requires.told) in
    record {
      node = (act_of_event event r.node).node;
      is = (c.in_ok-act.ensures r.node r.is).node;
      ranged = own_range (event_in_range is event told r.ranged).node;
    }

pub returns : goal.returns
returns c = IfOk-weaker c.want.result _ _ (λ x wanted n is.
    let event = event_of c.args.event.now in
    let first = c.in_ok-act.ensures n is in
    acted_after (act_of_event event n) act_of_want c.args.self c.in_ok-act.act x first (wanted (act_of_event event n).node first.node))
    c.want.ensures
