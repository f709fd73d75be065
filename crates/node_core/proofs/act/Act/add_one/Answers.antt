use Rattle.std.proofs.Common.{◌≡◌, ◌∙◌, Some, map, sym, subst}
use Rattle.std.specs.Prelude.{slice_get}
use Rattle.entry_frames.specs.Durable.{CanApplyAll}
use Rattle.entry_frames.specs.MessageParts.{body_of, entries_of}
use Rattle.entry_frames.specs.Records.{Add}
use Rattle.full_append.proofs.Lists.{drop_at_place, viewed_none, viewed_some}
use Rattle.node_core.proofs.Recorded.{never_none}
use Rattle.node_core.proofs.act.Act.add_one.Goals as goal

pub record-requires-clause-can : goal.record-requires-clause-can
record-requires-clause-can c =
    let es = entries_of (body_of c.args.append.now.frame) in
    let m = c.args.self.member in
    let there : slice_get es c.args.number ≡ Some c.in-Some.entry.entry =
    viewed_some c.args.append.now.shape.need (slice_get es c.args.number) c.in-Some.entry (sym c.in-Some.is ∙ c.entry.ensures) in
    (subst (λ xs. CanApplyAll m.store.shape m.store.kept (map Add xs)) (drop_at_place es c.args.number c.in-Some.entry.entry there) c.requires.may.apply).0

pub unreachable-requires : goal.unreachable-requires
unreachable-requires c =
    let es = entries_of (body_of c.args.append.now.frame) in
    never_none es c.args.number c.requires.within (viewed_none c.args.append.now.shape.need (slice_get es c.args.number) (sym c.in-None.is ∙ c.entry.ensures))
