use Rattle.std.proofs.Common.{◌≡◌, ◌≤◌, ◌∙◌, [], ◌∷◌, length, ap, sym, subst, arith}
use Rattle.craft_base.specs.declared.command.Entry.{Entry}
use Rattle.entry_frames.specs.Durable.{CanApply}
use Rattle.entry_frames.specs.Entries.{entry_fields}
use Rattle.entry_frames.specs.Formats.{Fits}
use Rattle.entry_frames.specs.Logs.{term_at}
use Rattle.entry_frames.specs.Records.{Add}
use Rattle.entry_frames.specs.Bulk.{bulk_of}
use Rattle.entry_frames.specs.Stored.{AreEntries}
use Rattle.entry_frames.proofs.Stored.{pushed}
use Rattle.log_store.proofs.Entries.{bulk-append, bulk_room}
use Rattle.log_store.proofs.store.LogStore.append.Goals as goal

pub overflow_add-store : goal.overflow_add-store
overflow_add-store c =
    omega (
      arith,
      c.store.invariant.1,
      c.from.ensures,
      c.vlen.type_inv,
      bulk_room c.store.inside.shape.need 0 c.store.inside.term c.store.inside.entries.items c.store.invariant.0.entries c.store.inside.is_log.short,
    )

pub invariant_of-store : goal.invariant_of-store
invariant_of-store c =
    let k = c.store.inside.shape.need in
    let log = c.store.inside.entries.items in
    let added = c.in_ok-added.added in
    let same : added ≡ c.args.entry.now.entry = c.in_ok-added.ensures in
    let can = subst (λ v. CanApply v.shape v.kept (Add c.args.entry.now.entry)) (sym c.store.view_is) c.requires.can in
    let fits : Fits (entry_fields k) added =
    subst (Fits (entry_fields k)) (sym same)
    (subst (λ n. Fits (entry_fields n) c.args.entry.now.entry) (c.requires.need ∙ ap (λ v. v.shape.need) (sym c.store.view_is)) c.k-need.ensures.fits) in
    let least : term_at log (length log) ≤ added.term = subst (λ (e : Entry). term_at log (length log) ≤ e.term) (sym same) can.no_earlier in
    let most : added.term ≤ c.store.inside.term = subst (λ (e : Entry). e.term ≤ c.store.inside.term) (sym same) can.no_later in (
      record {
        k = c.store.invariant.0.k;
        term_most = c.store.invariant.0.term_most;
        entries = subst (AreEntries k 0 c.store.inside.term) (sym c.in_ok-push.ensures.items) (pushed k c.store.inside.term log added c.store.invariant.0.entries fits least most);
      },
      omega (arith, c.store.invariant.1, ap bulk_of c.in_ok-push.ensures.items, bulk-append log (added ∷ []), c.from.ensures, c.vlen.ensures, ap (λ (e : Entry). e.head.vlen) same),
    )
