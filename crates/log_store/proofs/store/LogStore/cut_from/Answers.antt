use Rattle.std.proofs.Common.{◌-◌, ◌<◌, ◌∙◌, ap, sym, subst, take, arith}
use Rattle.entry_frames.specs.Bulk.{bulk_of}
use Rattle.entry_frames.specs.Stored.{AreEntries}
use Rattle.entry_frames.proofs.Stored.{taken}
use Rattle.log_store.proofs.Entries.{bulk_room, cut_bulk, cut_small}
use Rattle.log_store.proofs.store.LogStore.cut_from.Goals as goal

pub sum_of-requires : goal.sum_of-requires
sum_of-requires c =
    let room = bulk_room c.self.inside.shape.need 0 c.self.inside.term c.self.inside.entries.items c.self.invariant.0.entries c.self.inside.is_log.short in
    let small : bulk_of c.deref.result.now < 18446744073709551616 = omega (arith, room, ap bulk_of c.deref.ensures.value) in
    cut_small c.deref.result.now (c.args.index - 1) small

pub overflow_sub-self : goal.overflow_sub-self
overflow_sub-self c = (cut_bulk c.deref.result.now (c.args.index - 1) c.self.inside.bulk c.sum_of.result (c.self.invariant.1 ∙ ap bulk_of (sym c.deref.ensures.value)) c.sum_of.ensures).0

pub invariant_of-self : goal.invariant_of-self
invariant_of-self c =
    let k = c.self.inside.shape.need in
    let left = c.args.index - 1 in
    let bulk = cut_bulk c.deref.result.now left c.self.inside.bulk c.sum_of.result (c.self.invariant.1 ∙ ap bulk_of (sym c.deref.ensures.value)) c.sum_of.ensures in (
      record {
        k = c.self.invariant.0.k;
        term_most = c.self.invariant.0.term_most;
        entries = subst (AreEntries k 0 c.self.inside.term) (sym c.truncate.ensures.items) (taken k 0 c.self.inside.term left c.self.inside.entries.items c.self.invariant.0.entries);
      },
      bulk.1 ∙ ap (λ l. bulk_of (take left l)) c.deref.ensures.value ∙ ap bulk_of (sym c.truncate.ensures.items),
    )
