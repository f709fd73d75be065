use Rattle.std.proofs.Common.{ap, length, arith}
use Rattle.synced_log.specs.Journal.{Kept}
use Rattle.synced_log.proofs.Spans.{length-all_placed}
use Rattle.synced_log.proofs.groups.Groups.count.Goals as goal

pub returns-clause-value : goal.returns-clause-value
returns-clause-value c = omega (arith, c.len.ensures, ap (λ (k : Kept). length k.placed) c.self.view_is, length-all_placed c.self.inside.file.items c.self.inside.spans.items)
