use Rattle.std.proofs.Common.{refl, ap, ◌∙◌, length, subst}
use Rattle.craft_base.specs.Knowledge.{From, Refused}
use Rattle.heard_book.specs.Kept as known
use Rattle.node_core.proofs.Ranging.{heard_node}
use Rattle.node_core.proofs.member.Member.hear_refusal.Goals as goal

pub returns-clause-becomes : goal.returns-clause-becomes
returns-clause-becomes c = record {
  store = refl;
  node = λ n is.
      let m = c.args.self.now in
      let heard = subst (λ last. known.Hears (From c.args.sender last (Refused c.args.next)) m.heard c.refused.new.self)
      (c.last.ensures ∙ ap (λ d. length d.log) is.stands.of_durable) c.refused.ensures.heard in
      heard_node m c.refused.new.self (From c.args.sender (length n.durable.log) (Refused c.args.next)) n is c.refused.ensures.settled heard;
}
