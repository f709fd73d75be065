use Rattle.std.proofs.Common.{refl, ap, ◌∙◌, length, subst}
use Rattle.craft_base.specs.Knowledge.{From, Matched}
use Rattle.heard_book.specs.Kept as known
use Rattle.node_core.proofs.Ranging.{heard_node}
use Rattle.node_core.proofs.member.Member.hear_match.Goals as goal

pub returns-clause-becomes : goal.returns-clause-becomes
returns-clause-becomes c = record {
  store = refl;
  node = λ n is.
      let m = c.args.self in
      let now = c.in_ok-matched.field-0 in
      let heard = subst (λ last. known.Hears (From c.args.sender last (Matched c.args.prev c.args.count c.args.mask)) m.heard now)
      (c.last-last.ensures ∙ ap (λ d. length d.log) is.stands.of_durable) c.in_ok-matched.ensures.heard in
      heard_node m now (From c.args.sender (length n.durable.log) (Matched c.args.prev c.args.count c.args.mask)) n is c.in_ok-matched.ensures.settled heard;
}
