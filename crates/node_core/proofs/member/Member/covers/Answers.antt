use Rattle.node_core.proofs.Showing.{never_unprepared, prepared}
use Rattle.world_model.specs.Rules.Prepare.{cursor_at}
use Rattle.node_core.proofs.member.Member.covers.Goals as goal

pub returns-in-Some : goal.returns-in-Some
returns-in-Some c = λ n is.
    let m = c.args.self.now in
    c.covers.ensures n.shape n.me n.volatile.pages (cursor_at n) (prepared m.prep n.shape n.me n.volatile.pages m.role c.in-Some.prep (cursor_at n) c.requires c.in-Some.is is.stands.of_prep)

pub returns-in-None : goal.returns-in-None
returns-in-None c = λ n is. let m = c.args.self.now in absurd (never_unprepared m.prep n.shape n.me n.volatile.pages m.role (cursor_at n) c.requires c.in-None.is is.stands.of_prep)
