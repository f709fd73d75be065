use Rattle.std.proofs.Common.{◌+◌, arith}
use Rattle.entry_frames.specs.MessageParts.{body_of, entries_of, prev_of}
use Rattle.full_append.proofs.Appends.{told}
use Rattle.full_append.proofs.Differing.{differs}
use Rattle.full_append.proofs.taking.difference.Goals as goal

pub returns-then-same-count : goal.returns-then-same-count
returns-then-same-count g c =
    let body = body_of c.args.append.now.frame in
    let log = (g.L.LogView.log c.args.log.now).entries in
    differs (prev_of body) c.args.same (c.prev.result + c.from.result + 1) log (entries_of body) c.requires.same
    (omega (arith, c.if-last_same-last.true, c.prev.ensures, c.from.ensures, c.last.ensures))
    (omega (arith, c.if-same-count.true, c.count.ensures, told c.args.append.now.frame c.requires.kind))
    (omega (arith, c.prev.ensures, c.from.ensures))
