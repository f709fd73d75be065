use Rattle.std.proofs.Common.{[], refl, subst}
use Rattle.std.proofs.lemmas.Result.{IfOk-weaker}
use Rattle.world_model.specs.Rules.Want.{act_of_new_want, wanting}
use Rattle.node_core.specs.declared.act.Act.{Act}
use Rattle.node_core.specs.Acting.{IsActed}
use Rattle.node_core.proofs.Acting.{acted_from}
use Rattle.node_core.proofs.Having.{gathering_node}
use Rattle.node_core.proofs.act.Act.want_anew.Goals as goal

pub returns : goal.returns
returns c = IfOk-weaker c.ask_if_any.result _ _ (λ x asked n is.
    let self = c.args.self in
    let m = self.member in
    let want = c.args.want in
    let gather = c.in_ok-gather.gather in
    let between : Act = record self { member = record m { gather = gather } } in
    let now = gathering_node m n is c.requires.leads gather [] want (c.in_ok-gather.ensures n is) in
    subst (λ w. IsActed (act_of_new_want w n) self x) (c.requires.want n is)
    (acted_from (act_of_new_want want n) self between x refl refl (asked (wanting want n) now)))
    c.ask_if_any.ensures
