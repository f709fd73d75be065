use Rattle.std.proofs.Common.{refl, ap, arith, Some}
use Rattle.node_core.proofs.member.Member.begin_to_lead.Goals as goal

pub returns : goal.returns
returns c = record {
  store = refl;
  node = λ n is.
      let s = is.stands in record {
        stands = record {
          of_shape = s.of_shape;
          of_me = s.of_me;
          of_durable = s.of_durable;
          of_role = refl;
          of_quiet = s.of_quiet;
          of_hint = ap (λ me. Some me) s.of_me;
          of_heard = c.lead.ensures.heard n.shape n.volatile.heard n.volatile.first s.of_heard;
          settled = omega (arith, c.lead.ensures.settled, c.commit.ensures, s.settled, ap (λ d. d.commit) s.of_durable);
          of_prep = tt;
          of_gather = refl;
          of_calls = s.of_calls;
          of_reads = s.of_reads;
        };
        of_store = is.of_store;
        of_service = is.of_service;
      };
}
