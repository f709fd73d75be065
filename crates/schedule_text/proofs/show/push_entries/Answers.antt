use Rattle.std.specs.Prelude.{string_bytes}
use Rattle.schedule_text.proofs.EntryLines.{one_line}
use Rattle.schedule_text.proofs.show.push_entries.Goals as goal

pub loop-before-preserved : goal.loop-before-preserved
loop-before-preserved g c =
    one_line (g.L.LogView.log c.args.log.now).entries c.loop-before.before (g.L.LogView.log c.args.log.now).k c.in-Some.entry (string_bytes c.args.text.now)
    (string_bytes c.loop-before.text) (string_bytes c.push_entry.new.text) c.in-Some.ensures c.in_ok-push_entry.ensures c.loop-before.invariant
