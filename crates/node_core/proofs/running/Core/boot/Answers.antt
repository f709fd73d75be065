use Rattle.std.proofs.Common.{refl, subst, arith}
use Rattle.std.proofs.lemmas.List.Elements.{All-nil}
use Rattle.entry_frames.specs.Stored.{DurableInRange}
use Rattle.world_model.specs.Nodes.{started}
use Rattle.world_model.specs.Ranges.{CallInRange, IsOfNoLog, PageInRange}
use Rattle.node_core.proofs.running.Core.boot.Goals as goal

pub invariant_of-result : goal.invariant_of-result
invariant_of-result c = record {
  node = started c.args.shape.now c.args.me c.args.store.kept;
  is = record {
    stands = record {
      of_shape = refl;
      of_me = refl;
      of_durable = refl;
      of_role = refl;
      of_quiet = refl;
      of_hint = refl;
      of_heard = c.in_ok-heard.ensures.nothing;
      settled = omega (arith, c.in_ok-heard.ensures.settled);
      of_prep = tt;
      of_gather = tt;
      of_calls = c.new-2.ensures.items;
      of_reads = c.new-3.ensures.items;
    };
    of_store = c.requires.store;
    of_service = c.in_ok-service.ensures;
  };
  ranged = record {
    of_shape = refl;
    me = refl;
    is_member = c.requires.member;
    durable = subst (λ s. DurableInRange s c.args.store.kept) c.requires.store c.law.ensures;
    clients = (tt, (All-nil CallInRange, All-nil CallInRange));
    knows = All-nil IsOfNoLog;
    pages = All-nil (PageInRange c.args.shape.now.need);
  };
}
