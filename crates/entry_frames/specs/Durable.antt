-- What outlives a crash, and what records do to it.
use Rattle.std.specs.Prelude.{◌≡◌, ◌⊎◌, ℕ, zero, suc, ◌-◌, ◌<◌, ◌≤◌, List, [], ◌∷◌, ◌++◌, length, take, None, Some, Option}
use Rattle.craft_base.specs.Shape.{Shape, members_of}
use Rattle.craft_base.specs.declared.command.Entry.{Entry}
use Rattle.craft_base.specs.declared.command.Form.{Form}
use Rattle.craft_base.specs.declared.command.Form.TheVariants as forms
use Rattle.entry_frames.specs.Limits.{greatest, last_place}
use Rattle.entry_frames.specs.Logs.{entry_at, last_term}
use Rattle.entry_frames.specs.Records.{Record, Term, Add, Cut, Whole, Commit}

-- what a member keeps
pub record Durable : Type 0 where
  pub term : ℕ
  pub vote : Option ℕ
  pub log : List Entry
  pub commit : ℕ

-- before any record: no term, no vote, an empty log
abbrev pub born : Durable
born = record { term = 0; vote = None; log = []; commit = 0 }

-- ---- where a record can be applied

-- a later term, or a member's vote in the present one, which has none yet
abbrev pub IsVoter : Shape → Option ℕ → Type 0
IsVoter shape None = ⊥
IsVoter shape (Some member) = member < members_of shape

pub record IsLaterTerm (d : Durable) (term : ℕ) : Type 0 where
  pub least : 1 ≤ term
  pub most : term ≤ greatest
  pub later : d.term < term

pub record IsFirstVote (shape : Shape) (d : Durable) (term : ℕ) (vote : Option ℕ) : Type 0 where
  pub same : term ≡ d.term
  pub none_yet : d.vote ≡ None
  pub voter : IsVoter shape vote

-- an entry whose term is one from that of the last entry to the present one
pub record IsNextEntry (d : Durable) (entry : Entry) : Type 0 where
  pub room : length d.log < last_place
  pub no_earlier : last_term d.log ≤ entry.term
  pub no_later : entry.term ≤ d.term

-- an index behind those that are committed
pub record IsUncommitted (d : Durable) (index : ℕ) : Type 0 where
  pub behind : d.commit < index
  pub within : index ≤ length d.log

-- an entry that is a part of a value of that length
abbrev pub IsPartOf : Form → ℕ → ℕ → Type 0
IsPartOf (forms.Whole bytes) vlen value_length = ⊥
IsPartOf (forms.Part bytes) vlen value_length = vlen ≡ value_length

abbrev pub LacksValue : Option Entry → ℕ → Type 0
LacksValue None value_length = ⊥
LacksValue (Some entry) value_length = IsPartOf entry.form entry.head.vlen value_length

abbrev pub CanApply : Shape → Durable → Record → Type 0
CanApply shape d (Term term vote) = IsLaterTerm d term ⊎ IsFirstVote shape d term vote
CanApply shape d (Add entry) = IsNextEntry d entry
CanApply shape d (Cut index) = IsUncommitted d index
CanApply shape d (Whole index bytes) = LacksValue (entry_at d.log index) (length bytes)
CanApply shape d (Commit index) = IsUncommitted d index

-- ---- what it does

-- the entry with its whole value
abbrev pub completed : Entry → List ℕ → Entry
completed entry bytes = record entry { form = forms.Whole bytes }

-- the log with the value of the entry at that position, the first of which is 0
abbrev pub complete_at : List Entry → ℕ → List ℕ → List Entry
complete_at [] position bytes = []
complete_at (entry ∷ log) zero bytes = completed entry bytes ∷ log
complete_at (entry ∷ log) (suc position) bytes = entry ∷ complete_at log position bytes

-- the log up to before that index
abbrev pub cut_at : List Entry → ℕ → List Entry
cut_at log index = take (index - 1) log

abbrev pub applied : Durable → Record → Durable
applied d (Term term vote) = record d { term = term; vote = vote }
applied d (Add entry) = record d { log = d.log ++ entry ∷ [] }
applied d (Cut index) = record d { log = cut_at d.log index }
applied d (Whole index bytes) = record d { log = complete_at d.log (index - 1) bytes }
applied d (Commit index) = record d { commit = index }

-- after all of them, in order
abbrev pub after : Durable → List Record → Durable
after d [] = d
after d (r ∷ records) = after (applied d r) records

-- each of them can be applied to what those before it leave
abbrev pub CanApplyAll : Shape → Durable → List Record → Type 0
CanApplyAll shape d [] = Unit {0}
CanApplyAll shape d (r ∷ records) = CanApply shape d r × CanApplyAll shape (applied d r) records
