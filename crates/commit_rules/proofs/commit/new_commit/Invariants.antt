use Rattle.std.proofs.Common.{ℕ, ◌≤◌, List}
use Rattle.std.specs.Prelude.{◌==◌}
use Rattle.craft_base.specs.Knowledge.{Heard}
use Rattle.entry_frames.specs.Logs.{term_at}
use Rattle.world_model.specs.Quorums.{is_enough}
use Rattle.commit_rules.proofs.Reaching.{SoFar}
use Rattle.commit_rules.proofs.commit.new_commit.Given as goal

-- so far may be committed what was reached
abbrev pub invariant-loop-before : goal.invariant-loop-before
invariant-loop-before g l = record {
  above : (g.L.LogView.log l.log).commit ≤ l.before;
  grows : (g.L.LogView.log l.log).commit ≤ l.reached;
  within : l.reached ≤ l.before;
  exact : (heard : List Heard) (first : ℕ) → g.K.Known.stands l.known l.shape heard first
      → SoFar (is_enough l.shape l.me (g.L.LogView.log l.log).entries heard) (λ index. term_at (g.L.LogView.log l.log).entries index == l.term)
      (g.L.LogView.log l.log).commit l.before l.reached;
}
