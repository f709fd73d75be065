use Rattle.std.proofs.Common.{◌+◌, arith}
use Rattle.log_store.proofs.Entries.{sum_on, sum_small}
use Rattle.log_store.proofs.store.sum_of.Goals as goal

pub overflow_add-sum : goal.overflow_add-sum
overflow_add-sum c =
    omega (
      arith,
      sum_small c.args.entries.now (c.loop-entry.entry-index + 1) c.requires,
      sum_on c.args.entries.now c.loop-entry.entry-index c.entry-item.result c.loop-entry.sum c.from-sum.result c.loop-entry-test.true c.entry-item.is c.loop-entry.invariant c.from-sum.ensures,
    )

pub loop-entry-preserved : goal.loop-entry-preserved
loop-entry-preserved c =
    sum_on c.args.entries.now c.loop-entry.entry-index c.entry-item.result c.loop-entry.sum c.from-sum.result c.loop-entry-test.true c.entry-item.is c.loop-entry.invariant c.from-sum.ensures
