use Rattle.std.proofs.Common.{None}
use Rattle.kv_apply.proofs.Keys.{updated_by_bytes}
use Rattle.kv_apply.proofs.versions.Versions.remove.Goals as goal

pub returns : goal.returns
returns c other = updated_by_bytes c.args.key.now c.args.self.now.map c.remove-version.new.self None c.remove-version.ensures.updates other
