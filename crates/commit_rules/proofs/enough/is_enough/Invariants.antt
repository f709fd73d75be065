use Rattle.std.proofs.Common.{◌≡◌, ℕ, ◌≤◌, List}
use Rattle.std.specs.List.{count_by, range_with_len}
use Rattle.craft_base.specs.Knowledge.{Heard}
use Rattle.world_model.specs.Quorums.{is_held, is_held_whole, known_form}
use Rattle.commit_rules.proofs.enough.is_enough.Given as goal

-- so many of the members so far hold it whole, and so many in some form
abbrev pub invariant-loop-number : goal.invariant-loop-number
invariant-loop-number g l = record {
  few : l.wholes ≤ l.number;
  few_held : l.held ≤ l.number;
  counted : (heard : List Heard) (first : ℕ) → g.K.Known.stands l.known l.shape heard first
      → l.wholes ≡ count_by (λ member. is_held_whole (known_form l.me (g.L.LogView.log l.log).entries heard l.index member)) (range_with_len 0 l.number);
  counted_held : (heard : List Heard) (first : ℕ) → g.K.Known.stands l.known l.shape heard first
      → l.held ≡ count_by (λ member. is_held (known_form l.me (g.L.LogView.log l.log).entries heard l.index member)) (range_with_len 0 l.number);
}
