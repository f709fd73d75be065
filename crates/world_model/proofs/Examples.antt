-- The definitions at whole examples, worked out by hand.
use Rattle.std.proofs.Common.{◌≡◌, List, [], ◌∷◌, ◌++◌, refl, Some, None, true, false}
use Rattle.std.specs.Prelude.{codes}
use Rattle.std.specs.Fmt.{digits}
use Rattle.hex.specs.Hex.{encode_with}
use Rattle.craft_base.specs.Shape.{Shape}
use Rattle.world_model.specs.Lines.{lines_of_run}
use Rattle.world_model.specs.Schedule.{reading}
use Rattle.world_model.specs.declared.line.Inner.TheVariants.{Tick, Take}
use Rattle.world_model.specs.declared.line.Line.{Line}
use Rattle.world_model.specs.declared.line.Line.TheVariants.{Do, Down, Show, Stop, Up}

abbrev three : Shape
three = record { faults = 1; need = 1 }

abbrev five : Shape
five = record { faults = 2; need = 1 }

abbrev election : List Line
election = Do (Tick 0 0) ∷ Do (Tick 0 0) ∷ Do (Tick 0 0) ∷ Do (Take 1) ∷ Do (Take 3) ∷ []

-- member 0 asks for votes, has one granted, and leads
election_text : lines_of_run three election ≡
    codes "1 done\n2 done\n3 done\nrole 0 candidate 1\nsend 1 0 1 vote 1 0 0\nsend 2 0 2 vote 1 0 0\n4 done\nrole 1 follower 1\nsend 3 1 0 voted 1 yes\n5 done\nrole 0 leader 1\nsend 4 0 1 append 1 0 0 0 w\nsend 5 0 2 append 1 0 0 0 w\n"
unfolding digits
election_text = refl

election_read : reading three (codes "tick 0 0\ntick 0 0\ntick 0 0\ntake 1\ntake 3\n") ≡ record { events = election; bad = None }
election_read = refl

-- the leader's empty entry is on two of three, so it is committed; the next beat tells who holds it, and sends it again to who is not
-- known to
abbrev replication : List Line
replication = election ++ Do (Take 4) ∷ Do (Take 6) ∷ Do (Tick 0 0) ∷ Do (Take 7) ∷ Do (Take 8) ∷ []

replication_text : lines_of_run three replication ≡
    codes "1 done\n2 done\n3 done\nrole 0 candidate 1\nsend 1 0 1 vote 1 0 0\nsend 2 0 2 vote 1 0 0\n4 done\nrole 1 follower 1\nsend 3 1 0 voted 1 yes\n5 done\nrole 0 leader 1\nsend 4 0 1 append 1 0 0 0 w\nsend 5 0 2 append 1 0 0 0 w\n6 done\nsend 6 1 0 matched 1 0 1 01\n7 done\ncommit 0 1\n8 done\nsend 7 0 1 append 1 1 1 1 -\nsend 8 0 2 append 1 0 0 1 w\n9 done\ncommit 1 1\nsend 9 1 0 matched 1 1 0 00\n10 done\nrole 2 follower 1\ncommit 2 1\nsend 10 2 0 matched 1 0 1 01\n"
unfolding digits encode_with
replication_text = refl

-- a vote that comes twice counts once
repeated_vote : lines_of_run five
    (Do (Tick 0 0) ∷ Do (Tick 0 0) ∷ Do (Tick 0 0) ∷ Do (Tick 1 0) ∷ Do (Tick 1 0) ∷ Do (Tick 1 0) ∷ Do (Take 2) ∷ Do (Take 6) ∷ Do (Take 9) ∷ Do (Take 9) ∷ Do (Take 10) ∷ [])
    ≡ codes "1 done\n2 done\n3 done\nrole 0 candidate 1\nsend 1 0 1 vote 1 0 0\nsend 2 0 2 vote 1 0 0\nsend 3 0 3 vote 1 0 0\nsend 4 0 4 vote 1 0 0\n4 done\n5 done\n6 done\nrole 1 candidate 1\nsend 5 1 0 vote 1 0 0\nsend 6 1 2 vote 1 0 0\nsend 7 1 3 vote 1 0 0\nsend 8 1 4 vote 1 0 0\n7 done\nrole 2 follower 1\nsend 9 2 0 voted 1 yes\n8 done\nsend 10 2 1 voted 1 no\n9 done\n10 done\n11 done\n"
unfolding digits
repeated_vote = refl

-- a vote that is told to stop before its gate is written is lost, and may be given to another candidate of the term
abbrev stopped : List Line
stopped = Do (Tick 0 0) ∷ Do (Tick 0 0) ∷ Do (Tick 0 0) ∷ Stop 3 false (Take 1) ∷ Up 1 ∷ Do (Tick 2 0) ∷ Do (Tick 2 0) ∷ Do (Tick 2 0) ∷ Do (Take 4) ∷ []

lost_vote : lines_of_run three stopped ≡
    codes "1 done\n2 done\n3 done\nrole 0 candidate 1\nsend 1 0 1 vote 1 0 0\nsend 2 0 2 vote 1 0 0\n4 stop\n5 done\n6 done\n7 done\n8 done\nrole 2 candidate 1\nsend 3 2 0 vote 1 0 0\nsend 4 2 1 vote 1 0 0\n9 done\nrole 1 follower 1\nsend 5 1 2 voted 1 yes\n"
unfolding digits
lost_vote = refl

-- so is one whose group was told to stop before it was on the disk, though what is pending is kept
early_stop : lines_of_run three
    (Do (Tick 0 0) ∷ Do (Tick 0 0) ∷ Do (Tick 0 0) ∷ Stop 2 true (Take 1) ∷ Up 1 ∷ Show 1 ∷ [])
    ≡ codes "1 done\n2 done\n3 done\nrole 0 candidate 1\nsend 1 0 1 vote 1 0 0\nsend 2 0 2 vote 1 0 0\n4 stop\n5 done\n6 done\nnode 1 0 - 0 0\n"
unfolding digits
early_stop = refl

-- one that was kept isn't
kept_vote : lines_of_run three
    (Do (Tick 0 0) ∷ Do (Tick 0 0) ∷ Do (Tick 0 0) ∷ Stop 3 true (Take 1) ∷ Up 1 ∷ Do (Tick 2 0) ∷ Do (Tick 2 0) ∷ Do (Tick 2 0) ∷ Do (Take 4) ∷ Show 1 ∷ [])
    ≡ codes "1 done\n2 done\n3 done\nrole 0 candidate 1\nsend 1 0 1 vote 1 0 0\nsend 2 0 2 vote 1 0 0\n4 stop\n5 done\n6 done\n7 done\n8 done\nrole 2 candidate 1\nsend 3 2 0 vote 1 0 0\nsend 4 2 1 vote 1 0 0\n9 done\nsend 5 1 2 voted 1 no\n10 done\nnode 1 1 0 0 0\n"
unfolding digits
kept_vote = refl

-- a frame that isn't sent is told before a member that is down; a member that is down is passed over, and so is the start of one that runs
skipped : lines_of_run three (Do (Take 1) ∷ Down 2 ∷ Do (Tick 2 0) ∷ Down 2 ∷ Show 2 ∷ Stop 1 true (Take 1) ∷ Stop 1 true (Tick 2 0) ∷ Up 2 ∷ Up 2 ∷ Show 2 ∷ [])
    ≡ codes "1 none\n2 done\n3 skip\n4 skip\n5 skip\n6 none\n7 skip\n8 done\n9 skip\n10 done\nnode 2 0 - 0 0\n"
unfolding digits
skipped = refl

-- the line that is cut short is the bad one
cut_short : reading three (codes "tick 0 0\ntick 0") ≡ record { events = Do (Tick 0 0) ∷ []; bad = Some 2 }
cut_short = refl
