-- What happened in a run, in numbers.
use Rattle.std.specs.Prelude.{ℕ, ◌-◌, ◌^◌, min, max, List, [], ◌∷◌, ◌++◌, length, Bool, true, false}
use Rattle.std.specs.List.{count_by, fold}
use Rattle.craft_base.specs.Shape.{Shape}
use Rattle.entry_frames.specs.declared.output.Output.{Output}
use Rattle.entry_frames.specs.declared.output.Output.TheVariants as outputs
use Rattle.entry_frames.specs.declared.role.Role.{Role}
use Rattle.entry_frames.specs.declared.role.Role.TheVariants.{Leader}
use Rattle.world_model.specs.World.{Member, World, run, start, step}
use Rattle.world_model.specs.declared.line.Line.{Line}
use Rattle.world_model.specs.declared.tally.Tally.{Tally}

-- all that is told in a run, in order. What a stop loses isn't told.
abbrev pub told_from : World → List Line → List Output
told_from w [] = []
told_from w (line ∷ lines) = (step w line).outputs ++ told_from (step w line).world lines

abbrev pub is_reply : Output → Bool
is_reply (outputs.Reply place client seq reply) = true
is_reply _ = false

abbrev pub is_cut : Output → Bool
is_cut (outputs.Cut index prep) = true
is_cut _ = false

abbrev pub leads : Role → Bool
leads Leader = true
leads _ = false

abbrev pub tells_leader : Output → Bool
tells_leader (outputs.Role role term) = leads role
tells_leader _ = false

-- the greatest commit index of some members
abbrev pub greatest_commit : List Member → ℕ
greatest_commit members = fold (λ most m. max most m.durable.commit) 0 members

-- a number of 64 bits that stands still at its greatest
abbrev pub counted : ℕ → ℕ
counted n = min n (2 ^ 64 - 1)

-- what happened in a run of a cluster
abbrev pub tally_of : Shape → List Line → Tally
tally_of shape lines =
    let told = told_from (start shape) lines in
    let last = run shape lines in
    record {
      events = counted (length lines);
      frames = counted (length last.sent);
      replies = counted (count_by is_reply told);
      leaders = counted (count_by tells_leader told);
      commit = counted (greatest_commit last.members);
      cuts = counted (count_by is_cut told);
    }
