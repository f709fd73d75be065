-- What a leader or a candidate knows of its term: all that it heard in it, and what that tells of the other members.
use Rattle.std.specs.Prelude.{ℕ, ◌+◌, ◌-◌, List, [], ◌∷◌, Bool, true, false, ◌&&◌, ◌||◌, ◌==◌, nat_le, nat_lt, if◌then◌else◌, min, max, Option, None, Some, unwrap_or}
use Rattle.std.specs.Int.{bit_at}
use Rattle.std.specs.List.{count_by, range_with_len}
use Rattle.craft_base.specs.Shape.{Shape, members_of}
use Rattle.craft_base.specs.declared.command.Held.{Held}
use Rattle.craft_base.specs.declared.command.Held.TheVariants.{Nothing, Part, Whole}

-- what another member told in a message of this term
pub data Told : Type 0 where
  -- whether it grants its vote
  Voted : (granted : Bool) → Told
  -- its log is the node's up to so many entries behind an index; bit b of the mask is set where it holds the entry b behind
  -- the first of them whole
  Matched : (prev count mask : ℕ) → Told
  -- it isn't; the node may go on from there
  Refused : (next : ℕ) → Told
  -- a stretch of its log
  Answered : Told

-- one thing heard in a term
pub data Heard : Type 0 where
  -- a tick of a leader, by which it tells who answered since the one before; it has no sender
  Beat : Heard
  -- a message of a member, taken when the node's log had that last index
  From : (sender last : ℕ) (told : Told) → Heard

-- All that was heard in a term stands in a list, the latest first.

-- ---- who was heard

-- whether this is of that member
abbrev pub is_from : ℕ → Heard → Bool
is_from member Beat = false
is_from member (From sender last told) = sender == member

-- whether anything of that member was heard
abbrev pub was_heard : ℕ → List Heard → Bool
was_heard member [] = false
was_heard member (item ∷ heard) = is_from member item || was_heard member heard

-- whether this is a granted vote
abbrev pub is_granted : Told → Bool
is_granted (Voted granted) = granted
is_granted _ = false

-- whether this is the granted vote of that member
abbrev pub is_vote_of : ℕ → Heard → Bool
is_vote_of member Beat = false
is_vote_of member (From sender last told) = is_granted told && (sender == member)

-- whether a granted vote of that member was heard
abbrev pub granted_by : ℕ → List Heard → Bool
granted_by member [] = false
granted_by member (item ∷ heard) = is_vote_of member item || granted_by member heard

-- the members of a cluster
abbrev pub members : Shape → List ℕ
members shape = range_with_len 0 (members_of shape)

-- a candidate's votes: of the members from which a granted vote was heard, each once, and its own
abbrev pub votes : Shape → List Heard → ℕ
votes shape heard = count_by (λ member. granted_by member heard) (members shape) + 1

abbrev pub is_beat : Heard → Bool
is_beat Beat = true
is_beat (From sender last told) = false

-- what was heard since the last beat; all of it where there was none
abbrev pub since_beat : List Heard → List Heard
since_beat [] = []
since_beat (item ∷ heard) = if is_beat item then [] else item ∷ since_beat heard

-- what was heard before the last beat; nothing where there was none
abbrev pub before_beat : List Heard → List Heard
before_beat [] = []
before_beat (item ∷ heard) = if is_beat item then heard else before_beat heard

-- whether that member was heard since the second last beat, or at all where there were fewer than two
abbrev pub is_fresh : ℕ → List Heard → Bool
is_fresh member heard = was_heard member (since_beat heard) || was_heard member (since_beat (before_beat heard))

-- how many members were, each counted once: they are taken for healthy
abbrev pub fresh : Shape → List Heard → ℕ
fresh shape heard = count_by (λ member. is_fresh member heard) (members shape)

-- ---- what their logs hold

-- What a message says of the node's log has to lie within it as it was at the taking: what was matched ends at most at its
-- last entry, and what was refused goes on at most behind it. Other messages say nothing of it.
abbrev pub is_admitted : ℕ → Told → Bool
is_admitted last (Voted granted) = true
is_admitted last (Matched prev count mask) = nat_le (prev + count) last
is_admitted last (Refused next) = nat_le next (last + 1)
is_admitted last Answered = true

-- a thing heard, where it is an admitted message of that member
abbrev pub told_by : ℕ → Heard → Option Told
told_by member Beat = None
told_by member (From sender last told) = if (sender == member) && is_admitted last told then Some told else None

-- whether it says that a log matches
abbrev pub is_matched : Option Told → Bool
is_matched (Some (Matched prev count mask)) = true
is_matched _ = false

-- up to which index it says that a log matches: 0 where it doesn't say so
abbrev pub matched_to : Option Told → ℕ
matched_to (Some (Matched prev count mask)) = prev + count
matched_to _ = 0

-- whether it says that the entry at that index is held whole
abbrev pub is_whole_in : ℕ → Option Told → Bool
is_whole_in index (Some (Matched prev count mask)) = nat_lt prev index && (bit_at mask (index - (prev + 1)) == 1)
is_whole_in index _ = false

-- from which index on it says that the node may go on, if it does
abbrev pub refused_next : Option Told → Option ℕ
refused_next (Some (Refused next)) = Some next
refused_next _ = None

-- whether it was heard that the member's log matches
abbrev pub has_matched : ℕ → List Heard → Bool
has_matched member [] = false
has_matched member (item ∷ heard) = is_matched (told_by member item) || has_matched member heard

-- Match: the greatest index up to which it was heard that the member's log matches; 0 where that wasn't heard
abbrev pub match_index : ℕ → List Heard → ℕ
match_index member [] = 0
match_index member (item ∷ heard) = max (matched_to (told_by member item)) (match_index member heard)

-- the lesser of two numbers, where there are two
abbrev pub least_of : Option ℕ → Option ℕ → Option ℕ
least_of None other = other
least_of (Some n) None = Some n
least_of (Some n) (Some m) = Some (min n m)

-- the least index from which on the member said that the node may go on, if it did
abbrev pub least_refused : ℕ → List Heard → Option ℕ
least_refused member [] = None
least_refused member (item ∷ heard) = least_of (refused_next (told_by member item)) (least_refused member heard)

-- Next: the index from which on entries are sent to the member. It is the one behind what matches; where nothing was heard to
-- match, the least that the member itself named; and else `first`, with which the node began to lead.
abbrev pub next_index : ℕ → List Heard → ℕ → ℕ
next_index member heard first = if has_matched member heard then match_index member heard + 1 else unwrap_or (least_refused member heard) first

-- whether it was heard that the member holds the entry at that index whole
abbrev pub is_held_whole : ℕ → ℕ → List Heard → Bool
is_held_whole member index [] = false
is_held_whole member index (item ∷ heard) = is_whole_in index (told_by member item) || is_held_whole member index heard

-- Held: the form in which another member is known to hold the entry at that index. Up to where its log matches it holds each
-- entry in some form.
abbrev pub held_form : ℕ → ℕ → List Heard → Held
held_form member index heard =
    if is_held_whole member index heard then Whole
    else (if nat_le index (match_index member heard) then Part else Nothing)
