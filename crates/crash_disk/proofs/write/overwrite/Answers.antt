use Rattle.std.proofs.Common.{◌≡◌, ◌<◌, length, ◌∙◌, arith}
use Rattle.std.proofs.lemmas.Grind.{common_steps}
use Rattle.crash_disk.proofs.Writing.{overwritten, whole_slice}
use Rattle.crash_disk.proofs.write.overwrite.Goals as goal

pub returns-clause-ok : goal.returns-clause-ok
returns-clause-ok c =
    let some : 0 < length c.args.new.now = grind (arith, common_steps) in
    let is_len : c.grow.new.bytes.len ≡ length c.grow.new.bytes.items = grind (arith, common_steps) in
    let same : length c.copy_over.new.bytes ≡ length c.grow.new.bytes.items = grind (arith, common_steps) in
    whole_slice c.grow.new.bytes.items c.copy_over.new.bytes c.grow.new.bytes.len is_len same
    ∙ overwritten c.args.bytes.now.items c.args.at c.args.new.now c.deref_mut.result.now c.copy_over.new.bytes some (c.deref_mut.ensures.value ∙ c.in_ok-grow.ensures.ok) c.copy_over.ensures
