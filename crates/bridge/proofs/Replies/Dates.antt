-- When commands were proposed: each proposal of the book has the number of an event that was, and so has each command that is committed.
use Rattle.std.proofs.Common.{◌≡◌, ℕ, ◌+◌, ◌≤◌, ◌&&◌, ◌==◌, Bool, true, false, if◌then◌else◌, List, [], ◌∷◌, ◌++◌, map, Option, Some, refl, sym, inl, inr, arith, le_refl}
use Rattle.std.specs.List.{All}
use Rattle.std.proofs.lemmas.List.Elements.{All-cons, All-head, All-nil, All-tail, All-weaker}
use Rattle.std.proofs.lemmas.Option.{same_Some}
use Rattle.craft_base.specs.declared.command.Entry.{Entry}
use Rattle.entry_frames.specs.Durable.{Durable, applied}
use Rattle.entry_frames.specs.Records.{Record, Term, Add, Cut, Whole, Commit}
use Rattle.entry_frames.specs.declared.role.Role.{Role}
use Rattle.world_model.specs.Safety.{IsFront, IsIn, command_in, commands_of}
use Rattle.world_model.specs.Traces.{Command, Proposal, all_proposals_in, has_won_term, proposals_in}
use Rattle.bridge.proofs.Book.Plain.{all_won}
use Rattle.bridge.proofs.Replies.Lists.{in_more}

-- it was proposed in that event or before
abbrev pub IsDated : (event : ℕ) → Proposal → Type 0
IsDated event p = p.event ≤ event

abbrev pub AreDated : (event : ℕ) → List Proposal → Type 0
AreDated event book = All (IsDated event) book

-- the book has a proposal of the command, of that event or before
abbrev pub IsProposedBy : List Proposal → (event : ℕ) → Command → Type 0
IsProposedBy book event c = (p : Proposal) × IsIn p book × (p.command ≡ c) × (p.event ≤ event)

-- ---- in a book that grows

pub dated_later : (event : ℕ) (book : List Proposal) → AreDated event book → AreDated (event + 1) book
dated_later event book all = All-weaker (IsDated event) (IsDated (event + 1)) (λ p le. omega (arith, le)) book all

pub all_proposed_more :
    (book more : List Proposal) (event : ℕ) (commands : List Command) → All (IsProposedBy book event) commands → All (IsProposedBy (book ++ more) event) commands
all_proposed_more book more event commands all =
    All-weaker (IsProposedBy book event) (IsProposedBy (book ++ more) event) (λ c by. (by.0, in_more by.0 book more by.1, by.2, by.3)) commands all

-- what is proposed in an event
all_dated : (event : ℕ) (d : Durable) (records : List Record) → AreDated event (all_proposals_in event d records)
all_dated event d [] = All-nil (IsDated event)
all_dated event d (Add entry ∷ records) =
    let rest : AreDated event (all_proposals_in event (applied d (Add entry)) records) = all_dated event (applied d (Add entry)) records in
    All-cons (IsDated event) _ (all_proposals_in event (applied d (Add entry)) records) (le_refl _) rest
all_dated event d (Term term vote ∷ records) = all_dated event (applied d (Term term vote)) records
all_dated event d (Cut index ∷ records) = all_dated event (applied d (Cut index)) records
all_dated event d (Whole index bytes ∷ records) = all_dated event (applied d (Whole index bytes)) records
all_dated event d (Commit index ∷ records) = all_dated event (applied d (Commit index)) records

pub proposals_dated : (event : ℕ) (role : Role) (d : Durable) (records : List Record) → AreDated event (proposals_in event role d records)
proposals_dated event role d records = all_won (IsDated event) (has_won_term role) (all_proposals_in event d records) (all_dated event d records)

-- ---- what is committed

-- what is found in a book was proposed in it
found_proposed :
    (event : ℕ) (book : List Proposal) → AreDated event book → (term index : ℕ) (c : Command) → command_in book term index ≡ Some c → IsProposedBy book event c
found_proposed event [] all term index c e = cc
found_proposed event (p ∷ book) all term index c e =
    one ((p.term == term) && (p.index == index)) e (found_proposed event book (All-tail (IsDated event) p book all) term index c)
  where
    one : (test : Bool) → (if test then Some p.command else command_in book term index) ≡ Some c → (command_in book term index ≡ Some c → IsProposedBy book event c) → IsProposedBy (p ∷ book) event c
    one true is rest = (p, inl refl, same_Some p.command c is, All-head (IsDated event) p book all)
    one false is rest = let found = rest is in (found.0, inr found.1, found.2, found.3)

-- so was each command that the list of a log begins with
pub front_proposed :
    (book : List Proposal) (event : ℕ) → AreDated event book → (index : ℕ) (log : List Entry) (commands : List Command) → IsFront (map Some commands) (commands_of book index log) →
    All (IsProposedBy book event) commands
front_proposed book event dated index log [] front = All-nil (IsProposedBy book event)
front_proposed book event dated index [] (c ∷ commands) front = absurd (cc front.1)
front_proposed book event dated index (entry ∷ log) (c ∷ commands) front =
    let parts = both_same (Some c) (command_in book entry.term index) (map Some commands ++ front.0) (commands_of book (index + 1) log) front.1 in
    All-cons (IsProposedBy book event) c commands (found_proposed event book dated entry.term index c (sym parts.0))
    (front_proposed book event dated (index + 1) log commands (front.0, parts.1))
  where
    both_same : (x y : Option Command) (xs ys : List (Option Command)) → x ∷ xs ≡ y ∷ ys → (x ≡ y) × (xs ≡ ys)
    both_same x y xs ys e = (cc e, cc e)
