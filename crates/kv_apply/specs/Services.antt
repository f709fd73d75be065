-- When a service stands for a list of commands.
use Rattle.std.specs.Prelude.{◌≡◌, ℕ, zero, suc, List, length, Option, None, Some}
use Rattle.std.specs.BTreeMap.{get, get_by}
use Rattle.std.specs.Cmp.Lexicographic.{slice_cmp}
use Rattle.std.specs.Ordering.{nat_cmp}
use Rattle.craft_base.specs.declared.command.Head.{Head}
use Rattle.kv_apply.specs.Commands.{last_of, version}
use Rattle.kv_apply.specs.declared.outcome.Outcome.{Outcome}
use Rattle.kv_apply.specs.declared.outcome.Outcome.TheVariants.{Done, Gone}
use Rattle.kv_apply.specs.declared.service.Service.{Service}
use Rattle.kv_apply.specs.declared.versions.Versions.{Versions}

-- the version of a key that is present; 0 is that of an absent one
abbrev pub present : ℕ → Option ℕ
present zero = None
present (suc before) = Some (suc before)

-- the version that is kept of a key, if any
abbrev pub version_in : Versions → List ℕ → Option ℕ
version_in versions key = get_by (λ k. slice_cmp nat_cmp key k.items) versions.map

-- the version of a key, if any, after a command on it that came to that
abbrev pub followed : Outcome → Option ℕ → Option ℕ
followed (Done version) before = Some version
followed (Gone was_there) before = None
followed _ before = before

-- how many commands were applied
abbrev pub count_of : Service → ℕ
count_of service = service.count

-- It stands for this list of commands, the latest first: it has their number, the version of each key, and of each client the number
-- and the outcome of its last effective command.
pub record Stands (service : Service) (heads : List Head) : Type 0 where
  pub count : service.count ≡ length heads
  pub versions : (key : List ℕ) → version_in service.versions key ≡ present (version key heads)
  pub clients : (client : ℕ) → get nat_cmp service.clients client ≡ last_of client heads
