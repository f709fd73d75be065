use Rattle.std.proofs.Common.{◌∙◌, length, ap, sym, map, string_bytes}
use Rattle.command_words.specs.Words.{path_in, plan}
use Rattle.craft.proofs.Planned.{no_path}
use Rattle.craft.proofs.run_alone.Goals as goal

pub craft-status-requires : goal.craft-status-requires
craft-status-requires c =
    let words = map string_bytes c.args.words.now in
    c.new-disks.ensures.len ∙ sym (ap length (no_path (plan words) (path_in words) c.requires))
