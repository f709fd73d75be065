-- What a member plans on an Append.
use Rattle.std.specs.Prelude.{◌≡◌, ℕ, ◌+◌, ◌-◌, min, List, [], ◌++◌, length, take, drop, map, true, false, if◌then◌else◌, nat_lt, Option, None, Some, slice_get}
use Rattle.std.specs.Option.{option_to_list}
use Rattle.craft_base.specs.declared.command.Entry.{Entry}
use Rattle.entry_frames.specs.Durable.{after, born}
use Rattle.entry_frames.specs.Entries.{form_bytes}
use Rattle.entry_frames.specs.Logs.{Log}
use Rattle.entry_frames.specs.Records.{Record, Add, Cut, Whole, first_number}
use Rattle.full_append.specs.declared.plan.Plan.{Plan}
use Rattle.full_append.specs.declared.plan.Plan.TheVariants as plans
use Rattle.world_model.specs.Rules.Append.{has_before, common, difference, is_clash, completions, taken_records, mask_of}

-- ---- what of the log and the message it is made of

-- the indexes of the parts that become whole, in order
abbrev pub completed_indexes : (prev : ℕ) → List Entry → List Entry → List ℕ
completed_indexes prev log entries =
    let same = common (drop prev log) entries in
    map first_number (completions (prev + 1) (take same (drop prev log)) (take same entries))

-- the log after the message is taken
abbrev pub log_after : (prev : ℕ) → List Entry → List Entry → List Entry
log_after prev log entries = (after (record born { log = log }) (taken_records prev log entries)).log

-- the greater of the two indexes
abbrev pub later_commit : (own theirs : ℕ) → ℕ
later_commit own theirs = if nat_lt own theirs then theirs else own

-- ---- the plan

pub record IsTake (log : Log) (prev commit : ℕ) (entries : List Entry) (cut : Option ℕ) (wholes : List ℕ) (first_new mask commit_after : ℕ) : Type 0 where
  pub cut_is : cut ≡ difference prev log.entries entries
  pub wholes_are : wholes ≡ completed_indexes prev log.entries entries
  pub first_new_is : first_new ≡ common (drop prev log.entries) entries
  pub mask_is : mask ≡ mask_of (take (length entries) (drop prev (log_after prev log.entries entries)))
  pub commit_is : commit_after ≡ later_commit log.commit (min commit (prev + length entries))

-- the plan for an append with these numbers and entries
abbrev pub IsPlan : Log → (prev prev_term commit : ℕ) → List Entry → Plan → Type 0
IsPlan log prev prev_term commit entries (plans.Refuse next) =
    (has_before log.entries prev prev_term ≡ false) × (next ≡ log.commit + 1)
IsPlan log prev prev_term commit entries plans.Clash =
    (has_before log.entries prev prev_term ≡ true) × (is_clash log.commit (difference prev log.entries entries) ≡ true)
IsPlan log prev prev_term commit entries (plans.Take cut wholes first_new mask commit_after) =
    (has_before log.entries prev prev_term ≡ true)
    × (is_clash log.commit (difference prev log.entries entries) ≡ false)
    × IsTake log prev commit entries cut wholes.items first_new mask commit_after

-- ---- its records

-- what the message holds of the value of the entry at an index behind `prev`
abbrev pub value_of_entry : Option Entry → List ℕ
value_of_entry None = []
value_of_entry (Some entry) = form_bytes entry.form

abbrev pub value_at : (prev : ℕ) → List Entry → ℕ → List ℕ
value_at prev entries index = value_of_entry (slice_get entries (index - (prev + 1)))

-- the values at these indexes, then the cut, then the entries from a number on
abbrev pub planned_records : (prev : ℕ) → List Entry → Option ℕ → List ℕ → ℕ → List Record
planned_records prev entries cut wholes first_new =
    map (λ index. Whole index (value_at prev entries index)) wholes ++ (map Cut (option_to_list cut) ++ map Add (drop first_new entries))

-- where the append is taken, the records that the plan names are those of the rule
abbrev pub AreItsRecords : (prev : ℕ) → List Entry → List Entry → Plan → Type 0
AreItsRecords prev log entries (plans.Take cut wholes first_new mask commit_after) =
    planned_records prev entries cut wholes.items first_new ≡ taken_records prev log entries
AreItsRecords prev log entries _ = Unit {0}
