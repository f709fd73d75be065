use Rattle.std.proofs.Common.{◌≡◌, ◌-◌, ◌++◌, ◌∙◌, length, take, drop, ap, sym, subst, arith}
use Rattle.entry_frames.specs.Durable.{LacksValue, complete_at}
use Rattle.entry_frames.specs.Logs.{entry_at}
use Rattle.entry_frames.specs.Bulk.{bulk_of}
use Rattle.entry_frames.specs.Stored.{AreEntries}
use Rattle.entry_frames.proofs.Stored.{complete_entries, complete_length}
use Rattle.log_store.proofs.Completing.{complete_bulk, written}
use Rattle.log_store.proofs.store.LogStore.make_whole.Goals as goal

pub invariant_of-store : goal.invariant_of-store
invariant_of-store c =
    let k = c.store.inside.shape.need in
    let log = c.store.inside.entries.items in
    let position = c.args.index - 1 in
    let value = c.args.value.now in
    let new = c.complete.new.entries in
    let done : new ≡ complete_at log position value =
    c.complete.ensures ∙ ap (λ l. complete_at l position c.in_ok-bytes.bytes) c.deref_mut.ensures.value ∙ ap (complete_at log position) c.in_ok-bytes.ensures in
    let items : take c.store.inside.entries.len (new ++ drop (length new) log) ≡ complete_at log position value =
    written new log c.store.inside.entries.len (omega (arith, c.store.inside.entries.ok.0)) (ap length done ∙ complete_length log position value) ∙ done in
    let lacks = subst (λ v. LacksValue (entry_at v.kept.log c.args.index) (length value)) (sym c.store.view_is) c.requires in (
      record {
        k = c.store.invariant.0.k;
        term_most = c.store.invariant.0.term_most;
        entries = subst (AreEntries k 0 c.store.inside.term) (sym items) (complete_entries k c.store.inside.term log c.args.index value c.store.invariant.0.entries lacks);
      },
      c.store.invariant.1 ∙ sym (complete_bulk log position value) ∙ ap bulk_of (sym items),
    )
