use Rattle.std.proofs.Common.{◌≡◌, [], List, ℕ, arith, subst, sym}
use Rattle.craft_base.specs.Shape.{members_of}
use Rattle.schedule_replay.specs.Worlds.{StandsFor}
use Rattle.schedule_replay.proofs.Seating.{one_more_born}
use Rattle.schedule_replay.proofs.Standing.{stands_first}
use Rattle.schedule_replay.proofs.world.World.new.Goals as goal

pub loop-number-preserved : goal.loop-number-preserved
loop-number-preserved c =
    one_more_born c.args.shape.now c.loop-number.seats.items c.add_member.new.seats.items c.loop-number.number c.loop-number.invariant c.in_ok-add_member.ensures

pub returns-clause-start : goal.returns-clause-start
returns-clause-start c =
    let shape = c.args.shape.now in
    let members = c.members-number-end.ensures in
    let count : c.loop-number.number ≡ members_of shape = omega (arith, c.loop-number-test.false, c.loop-number.auto.number-end, members.value) in
    subst
    (λ (sent : List (List ℕ)).
    StandsFor (record { shape = shape; seats = c.loop-number.seats.items; sent = sent; tally = record { events = 0; frames = 0; replies = 0; leaders = 0; commit = 0; cuts = 0 } }) [])
    (sym c.new.ensures.items)
    (stands_first shape members.law c.loop-number.seats.items c.loop-number.number c.loop-number.invariant count)

pub invariant_of-result : goal.invariant_of-result
invariant_of-result c = ([], returns-clause-start c)
