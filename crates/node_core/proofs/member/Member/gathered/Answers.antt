use Rattle.std.proofs.Common.{◌∙◌, Some, sym, ap}
use Rattle.node_core.proofs.Wanting.{unwanted_is, wanted_is}
use Rattle.node_core.proofs.member.Member.gathered.Goals as goal

pub returns-in-Some : goal.returns-in-Some
returns-in-Some c = λ n is.
    let m = c.args.self.now in
    let w = wanted_is n.shape n.me n.durable.log n.volatile.pages n.volatile.want m.role m.gather c.in-Some.gather c.requires c.in-Some.is is.stands.of_gather in
    ap Some (c.index.ensures n.shape n.me w.index w.own n.volatile.pages w.stands) ∙ sym w.wants

pub returns-in-None : goal.returns-in-None
returns-in-None c = λ n is.
    let m = c.args.self.now in
    sym (unwanted_is n.shape n.me n.durable.log n.volatile.pages n.volatile.want m.role m.gather c.requires c.in-None.is is.stands.of_gather)
