use Rattle.storm_gen.proofs.storm.Storm.next.Goals as goal

pub returns-clause-range : goal.returns-clause-range
returns-clause-range c =
    rw (← c.self.view_is)
    (c.in_ok-line.ensures.range
    (record { faults = c.self.inside.shape.faults; need = c.self.inside.shape.need })
    c.member_by-member.ensures.range)
