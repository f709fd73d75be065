use Rattle.world_laws.proofs.Shapes.{any_rebuild}
use Rattle.world_laws.proofs.law_rebuild.Goals as goal

pub returns : goal.returns
returns c = any_rebuild
