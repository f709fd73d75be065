use Rattle.std.proofs.Common.{arith}
use Rattle.std.proofs.lemmas.List.{length-append}
use Rattle.entry_frames.proofs.Records.{some_need}
use Rattle.entry_frames.proofs.group.GroupBuilder.put.Goals as goal

pub invariant_of-result : goal.invariant_of-result
invariant_of-result c =
    let n = some_need c.args.item.now in
    simp (c.in_ok-push_record.ensures n.0 n.1, length-append) (omega (arith, c.self.invariant))
