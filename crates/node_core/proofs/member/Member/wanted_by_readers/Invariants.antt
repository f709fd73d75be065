use Rattle.std.proofs.Common.{◌≡◌, map, drop}
use Rattle.craft_base.specs.Knowledge.{least_of}
use Rattle.node_core.specs.Wanting.{wanted_among}
use Rattle.node_core.proofs.member.Member.wanted_by_readers.Given as goal

-- with those that are still to be passed it is the least of all
abbrev pub invariant-loop-read : goal.invariant-loop-read
invariant-loop-read l =
    wanted_among l.self.store.kept.log (map (λ r. r.index) l.reads)
    ≡ least_of l.want (wanted_among l.self.store.kept.log (map (λ r. r.index) (drop l.read-index l.reads)))
