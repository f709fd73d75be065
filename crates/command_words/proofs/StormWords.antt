-- The words of `storm`: what reads them and what spells them say the same.
use Rattle.std.proofs.Common.{◌≡◌, ℕ, ◌<◌, ◌≤◌, ◌^◌, List, [], ◌∷◌, refl, ap, ◌∙◌, sym, arith, Option, None, Some}
use Rattle.std.specs.Fmt.{decimal}
use Rattle.craft_base.specs.Shape.{Shape, IsShape}
use Rattle.command_words.specs.Spelling.{IsStorm, SpellsStorm}
use Rattle.command_words.specs.Words.{storm_in, storm_of}
use Rattle.command_words.specs.declared.command.Command.{Command}
use Rattle.command_words.specs.declared.command.Command.TheVariants.{Storm}
use Rattle.command_words.specs.declared.command.StormCommand.{StormCommand}
use Rattle.storm_gen.specs.declared.storm.TheConstants.{MOST_EVENTS}
use Rattle.world_model.specs.Calls.{number_within}
use Rattle.world_model.specs.Numbers.{number_of}
use Rattle.world_model.proofs.Spelling.{IsNumber-read, IsNumber-small, decimal-IsNumber, read-IsNumber}
use Rattle.command_words.proofs.NumberWords.{one_number, read_within, within_read}

-- what is spelled is read
pub storm_read : (words : List (List ℕ)) (storm : StormCommand) → SpellsStorm words storm → IsStorm storm → storm_in storm.shape words ≡ Some (Storm storm)
storm_read words storm (seed, count, is_seed, is_count, is) inside =
    ap (storm_in storm.shape) is
    ∙ ap (λ o. storm_of storm.shape o (number_within 1 MOST_EVENTS (number_of count))) (IsNumber-read seed storm.seed is_seed)
    ∙ ap (λ o. storm_of storm.shape (Some storm.seed) o) (within_read 1 MOST_EVENTS count storm.count (is_count, inside.count.0, inside.count.1))

-- a storm, as its words were read
abbrev pub IsRead : Shape → List (List ℕ) → Command → Type 0
IsRead shape rest command =
    (storm : StormCommand) × SpellsStorm rest storm × IsStorm storm × (storm.shape ≡ shape) × (Storm storm ≡ command)

-- and what is read is spelled
pub read_storm : (shape : Shape) (rest : List (List ℕ)) (command : Command) → IsShape shape → storm_in shape rest ≡ Some command → IsRead shape rest command
read_storm shape [] command is_shape read = cc
read_storm shape (seed ∷ []) command is_shape read = cc
read_storm shape (seed ∷ count ∷ []) command is_shape read = by_found (number_of seed) (number_within 1 MOST_EVENTS (number_of count)) refl refl read where
  by_found : (found many : Option ℕ) → number_of seed ≡ found → number_within 1 MOST_EVENTS (number_of count) ≡ many
      → storm_of shape found many ≡ Some command → IsRead shape (seed ∷ count ∷ []) command
  by_found None many is_seed is_count h = cc
  by_found (Some s) None is_seed is_count h = cc
  by_found (Some s) (Some c) is_seed is_count h =
      let storm : StormCommand = record { shape = shape; seed = s; count = c } in
      let seeded = read-IsNumber seed s is_seed in
      let counted = read_within 1 MOST_EVENTS count c is_count in
      let ranges : IsStorm storm = record { shape = is_shape; seed = IsNumber-small seed s seeded; count = (counted.1, counted.2) } in
      (storm, (seed, count, seeded, counted.0, refl), ranges, refl, taken storm h) where
        taken : (storm : StormCommand) → Some (Storm storm) ≡ Some command → Storm storm ≡ command
        taken storm h = cc
read_storm shape (seed ∷ count ∷ word ∷ words) command is_shape read = cc

-- it has one spelling
pub one_storm : (words others : List (List ℕ)) (storm : StormCommand) → SpellsStorm words storm → SpellsStorm others storm → words ≡ others
one_storm words others storm (seed, count, is_seed, is_count, is) (seed', count', is_seed', is_count', is') =
    is ∙ ap (λ w. w ∷ count ∷ []) (one_number seed seed' storm.seed storm.seed is_seed is_seed' refl)
    ∙ ap (λ w. seed' ∷ w ∷ []) (one_number count count' storm.count storm.count is_count is_count' refl) ∙ sym is'

-- and has one where it is in range
pub some_storm : (storm : StormCommand) → IsStorm storm → (words : List (List ℕ)) × SpellsStorm words storm
some_storm storm inside = (
  decimal storm.seed ∷ decimal storm.count ∷ [],
  (
    decimal storm.seed,
    decimal storm.count,
    decimal-IsNumber storm.seed inside.seed,
    decimal-IsNumber storm.count (small_count storm.count inside.count.1),
    refl,
  ),
) where
  small_count : (count : ℕ) → count ≤ MOST_EVENTS → count < 2 ^ 64
  small_count count few = omega arith
