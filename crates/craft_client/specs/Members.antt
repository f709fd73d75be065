-- Members that a packet names.
use Rattle.std.specs.Prelude.{◌<◌, Option, None, Some}
use Rattle.craft_base.specs.Shape.{Shape, members_of}
use Rattle.craft_client.specs.declared.told.Told.{Told}
use Rattle.craft_client.specs.declared.told.Told.TheVariants.{Nothing, Elsewhere, Final}

-- the member that is to be asked, or that replies, is one of the cluster
abbrev pub NamesMember : Shape → Told → Type 0
NamesMember shape Nothing = Unit {0}
NamesMember shape (Elsewhere hint) = hint < members_of shape
NamesMember shape (Final answer) = answer.0 < members_of shape

-- the same of what a packet told, if one came
abbrev pub NamesMemberIfAny : Shape → Option Told → Type 0
NamesMemberIfAny shape None = Unit {0}
NamesMemberIfAny shape (Some told) = NamesMember shape told
