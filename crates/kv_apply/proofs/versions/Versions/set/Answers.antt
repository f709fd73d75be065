use Rattle.std.proofs.Common.{Some, ap, ◌∙◌}
use Rattle.std.specs.Prelude.{bytes_eq, if◌then◌else◌}
use Rattle.kv_apply.specs.Services.{version_in}
use Rattle.kv_apply.proofs.Keys.{updated_by_bytes}
use Rattle.kv_apply.proofs.versions.Versions.set.Goals as goal

pub returns : goal.returns
returns c other =
    updated_by_bytes c.in_ok-to_vec.field-0.items c.args.self.now.map c.insert.new.self (Some c.args.version) c.in_ok-insert.ensures.updates other
    ∙ ap (λ key. if bytes_eq key other then Some c.args.version else version_in c.args.self.now other) (search (c.in_ok-to_vec.ensures.items_if_clones_equal))
