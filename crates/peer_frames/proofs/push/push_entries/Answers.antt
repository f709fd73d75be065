use Rattle.std.proofs.Common.{◌∙◌, ap, sym, arith}
use Rattle.entry_frames.specs.Entries.{entry_fields}
use Rattle.entry_frames.specs.Formats.{spelling}
use Rattle.entry_frames.specs.Batches.{behind}
use Rattle.peer_frames.proofs.Spelled.{written_more, there_is}
use Rattle.peer_frames.proofs.push.push_entries.Goals as goal
use Rattle.peer_frames.proofs.push.push_entries.Goals.{in-Some+in_ok-write_entry, in_default}

pub loop-n-preserved : goal.loop-n-preserved
loop-n-preserved c = elim c.match-at.branch [
  | in-Some+in_ok-write_entry w ↦ rw w.frame-is (written_more (spelling (entry_fields c.args.k)) c.args.entries.now c.loop-n.n w.in-Some.entry.now c.args.frame.now.items c.loop-n.frame.items _
      (sym c.at.ensures ∙ ap behind w.in-Some.is) c.loop-n.invariant (rw w.of.ensures at w.in_ok-write_entry.ensures.written))
  | in_default w ↦ absurd (there_is c.args.entries.now c.loop-n.n (omega (arith, c.loop-n-test.true, c.len-n-end.ensures)) (sym c.at.ensures ∙ ap behind w.in_default.is))
]
