use Rattle.std.proofs.Common.{refl}
use Rattle.node_core.proofs.act.Act.prepare_with.Goals as goal

pub returns-clause-node : goal.returns-clause-node
returns-clause-node c = λ n pages is stands.
    let s = is.stands in record {
      stands = record {
        of_shape = s.of_shape;
        of_me = s.of_me;
        of_durable = s.of_durable;
        of_role = refl;
        of_quiet = s.of_quiet;
        of_hint = s.of_hint;
        of_heard = s.of_heard;
        settled = s.settled;
        of_prep = stands;
        of_gather = tt;
        of_calls = s.of_calls;
        of_reads = s.of_reads;
      };
      of_store = is.of_store;
      of_service = is.of_service;
    }
