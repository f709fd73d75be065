use Rattle.std.proofs.Common.{◌-◌, List, drop, subst}
use Rattle.craft_base.specs.declared.command.Entry.{Entry}
use Rattle.entry_frames.specs.Limits.{most_entries, most_entry_bytes}
use Rattle.coded_append.specs.Batches.{batch_of, before_part, sent_to}
use Rattle.coded_append.specs.Laws.{IsAsMuch}
use Rattle.coded_append.proofs.Most.{as_much}
use Rattle.coded_append.proofs.Sending.{going_whole}
use Rattle.coded_append.proofs.laws.a_batch_is_as_much_as_has_room.Goals as goal

pub returns : goal.returns
returns _ = record {
  coded = λ need member start log. as_much need (sent_to need member) most_entries most_entry_bytes (drop (start - 1) log);
  whole = λ k start log.
      let es = drop (start - 1) log in
      subst (λ (front : List Entry). IsAsMuch k most_entries most_entry_bytes (λ e. e) es (batch_of k front)) (going_whole (before_part es))
      (as_much k (λ e. e) most_entries most_entry_bytes es);
}
