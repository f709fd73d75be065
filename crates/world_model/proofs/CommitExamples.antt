-- How far a leader may commit, at logs worked out by hand.
use Rattle.std.proofs.Common.{◌≡◌, ℕ, List, [], ◌∷◌, refl}
use Rattle.craft_base.specs.Knowledge.{Heard, From, Matched}
use Rattle.craft_base.specs.Shape.{Shape}
use Rattle.craft_base.specs.declared.command.Entry.{Entry}
use Rattle.world_model.specs.Quorums.{new_commit}
use Rattle.world_model.specs.Rules.Prepare.{noop}

abbrev five : Shape
five = record { faults = 2; need = 3 }

-- the log of a leader of term 4, all but the last entry of which are of terms 1 and 2, as in figure 8 of the Raft paper
abbrev log : List Entry
log = noop 1 ∷ noop 2 ∷ noop 4 ∷ []

-- member 0 leads term 4 and has committed the first entry; each of these says that it holds what is behind `prev` whole
abbrev committed_after : List Heard → ℕ
committed_after heard = new_commit five 0 4 1 log heard

-- the entry of term 2 is on three of five, and isn't committed by counting
old_term : committed_after (From 1 3 (Matched 1 1 1) ∷ From 2 3 (Matched 1 1 1) ∷ []) ≡ 1
old_term = refl

-- but with an entry of the leader's own term behind it
own_term : committed_after (From 1 3 (Matched 1 2 3) ∷ From 2 3 (Matched 1 2 3) ∷ []) ≡ 3
own_term = refl

-- two of five aren't enough, and the same member twice is one
too_few : committed_after (From 1 3 (Matched 1 2 3) ∷ From 1 3 (Matched 1 2 3) ∷ []) ≡ 1
too_few = refl

-- the last entry is on three whole, the one before it is not
gap : committed_after (From 1 3 (Matched 2 1 1) ∷ From 2 3 (Matched 2 1 1) ∷ []) ≡ 1
gap = refl

-- parts on four of five aren't enough, also with two whole ones among them
parts : committed_after (From 1 3 (Matched 1 2 2) ∷ From 2 3 (Matched 1 2 3) ∷ From 3 3 (Matched 1 2 2) ∷ []) ≡ 1
parts = refl

-- with k = 3 parts on all five are
five_parts : committed_after (From 1 3 (Matched 1 2 0) ∷ From 2 3 (Matched 1 2 0) ∷ From 3 3 (Matched 1 2 0) ∷ From 4 3 (Matched 1 2 0) ∷ []) ≡ 3
five_parts = refl

-- with k = 2 four of five are, and three aren't
four_of_two : new_commit (record { faults = 2; need = 2 }) 0 4 1 log (From 1 3 (Matched 1 2 0) ∷ From 2 3 (Matched 1 2 0) ∷ From 3 3 (Matched 1 2 0) ∷ []) ≡ 3
four_of_two = refl

three_of_two : new_commit (record { faults = 2; need = 2 }) 0 4 1 log (From 1 3 (Matched 1 2 0) ∷ From 2 3 (Matched 1 2 1) ∷ []) ≡ 1
three_of_two = refl
