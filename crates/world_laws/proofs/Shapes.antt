-- A run's world is of the run's cluster: what is said of the world's shape is said of the cluster.
use Rattle.std.proofs.Common.{◌≡◌, ◌≤◌, List, sym, subst}
use Rattle.std.specs.List.{count_by}
use Rattle.craft_base.specs.Knowledge.{members}
use Rattle.craft_base.specs.Shape.{Shape, majority_of}
use Rattle.world_model.specs.Safety.{IsRun, StandsFor}
use Rattle.world_model.specs.World.{run}
use Rattle.world_model.specs.declared.line.Line.{Line}
use Rattle.world_model.proofs.Ranges.Worlds.{every_run_in_range}
use Rattle.bridge.proofs.Safe.{every_run_is_safe}
use Rattle.world_laws.specs.Laws.{AnyRebuild, OneList}

run_shape : (shape : Shape) (events : List Line) → IsRun shape events → (run shape events).shape ≡ shape
run_shape shape events is = (every_run_in_range shape events is).of_shape

pub one_list : OneList
one_list shape events is me m place here below =
    let held = (every_run_is_safe shape events is).one_list me m place here below in
    (held.0, held.1, held.2, held.3, subst (λ s. StandsFor s.need me held.0 held.1) (run_shape shape events is) held.4)

pub any_rebuild : AnyRebuild
any_rebuild shape events is who place command many listed =
    (every_run_is_safe shape events is).rebuilds who place command
    (subst (λ s. majority_of s ≤ count_by who (members s)) (sym (run_shape shape events is)) many) listed
