use Rattle.std.proofs.Common.{◌≡◌, ◌≤◌}
use Rattle.std.specs.List.{count_by, range_with_len}
use Rattle.craft_base.specs.Knowledge.{is_fresh}
use Rattle.craft_base.proofs.heard_list.fresh_of.Given as goal

-- so many of the members so far
abbrev pub invariant-loop-number : goal.invariant-loop-number
invariant-loop-number l = record {
  counted : l.fresh ≡ count_by (λ member. is_fresh member l.items) (range_with_len 0 l.number);
  few : l.fresh ≤ l.number;
}
