-- How long a log is, in which term it ends, and what it has at an index, is seen alike by a node and by the protocol.
use Rattle.std.proofs.Common.{◌≡◌, ℕ, ◌<◌, ◌≤◌, Bool, true, false, length, List, [], ◌∷◌, ◌++◌, take, drop, Option, None, Some, option_map, refl, sym, ap, ◌∙◌, zero, suc, inl, inr, arith}
use Rattle.std.proofs.lemmas.Bool.{or_cases, and_parts, ltb-true, leb-true, eqb-true}
use Rattle.std.proofs.lemmas.List.{map-append, take-map}
use Rattle.std.proofs.lemmas.Option.{slice_get-map}
use Rattle.craft_base.specs.declared.command.Entry.{Entry}
use Rattle.craft_base.specs.declared.command.Form.{Form}
use Rattle.craft_base.specs.declared.command.Form.TheVariants as forms
use Rattle.entry_frames.specs.Logs as node
use Rattle.world_model.specs.Quorums as quorums
use Rattle.world_model.specs.Rules.Vote.{is_up_to_date}
use Rattle.protocol.specs.Logs.{Slot, is_whole_mark, slot_at, term_at, term_of, is_whole, whole_at, last_term}
use Rattle.protocol.specs.Moves.{IsUpToDate}
use Rattle.bridge.specs.Views.{log_seen, mark_seen, slot_seen}

pub length_seen : (log : List Entry) → length (log_seen log) ≡ node.last_index log
length_seen [] = refl
length_seen (entry ∷ log) = ap suc (length_seen log)

pub last_term_seen : (log : List Entry) → last_term (log_seen log) ≡ node.last_term log
unfolding term_at
last_term_seen [] = refl
last_term_seen (entry ∷ []) = refl
last_term_seen (entry ∷ next ∷ log) = last_term_seen (next ∷ log)

-- a log that a member takes for up to date is so to the protocol
pub up_to_date :
    (theirs mine : List Slot) (their_term their_last my_term my_last : ℕ) →
    last_term theirs ≡ their_term → length theirs ≡ their_last → last_term mine ≡ my_term → length mine ≡ my_last →
    is_up_to_date my_term my_last their_term their_last ≡ true → IsUpToDate theirs mine
up_to_date theirs mine their_term their_last my_term my_last a b c d good =
    elim (or_cases _ _ good) [
      | inl later ↦ let lt : my_term < their_term = ltb-true _ _ later in inl (omega arith)
      | inr same ↦
          let parts = and_parts _ _ same in
          let e : my_term ≡ their_term = eqb-true _ _ parts.0 in
          let le : my_last ≤ their_last = leb-true _ _ parts.1 in
          inr (omega arith, omega arith)
    ]

-- ---- at an index

pub slot_at_seen : (log : List Entry) (i : ℕ) → slot_at (log_seen log) i ≡ option_map slot_seen (node.entry_at log i)
slot_at_seen log zero = refl
slot_at_seen log (suc i) = slice_get-map slot_seen log i

term_of_seen : (found : Option Entry) → term_of (option_map slot_seen found) ≡ node.term_of_entry found
term_of_seen None = refl
term_of_seen (Some entry) = refl

pub term_at_seen : (log : List Entry) (i : ℕ) → term_at (log_seen log) i ≡ node.term_at log i
unfolding term_at
term_at_seen log i = ap term_of (slot_at_seen log i) ∙ term_of_seen (node.entry_at log i)

-- whether there is an entry that is held whole
abbrev pub is_whole_entry : Option Entry → Bool
is_whole_entry None = false
is_whole_entry (Some entry) = quorums.is_whole entry.form

pub mark_is_seen : (form : Form) → is_whole_mark (mark_seen form) ≡ quorums.is_whole form
mark_is_seen (forms.Whole bytes) = refl
mark_is_seen (forms.Part bytes) = refl

whole_of_seen : (found : Option Entry) → is_whole (option_map slot_seen found) ≡ is_whole_entry found
whole_of_seen None = refl
whole_of_seen (Some entry) = mark_is_seen entry.form

pub whole_at_seen : (log : List Entry) (i : ℕ) → whole_at (log_seen log) i ≡ is_whole_entry (node.entry_at log i)
unfolding whole_at
whole_at_seen log i = ap is_whole (slot_at_seen log i) ∙ whole_of_seen (node.entry_at log i)

-- ---- stretches

pub append_seen : (log more : List Entry) → log_seen (log ++ more) ≡ log_seen log ++ log_seen more
append_seen log more = map-append slot_seen log more

pub take_seen : (n : ℕ) (log : List Entry) → log_seen (take n log) ≡ take n (log_seen log)
take_seen n log = sym (take-map slot_seen n log)

pub drop_seen : (n : ℕ) (log : List Entry) → log_seen (drop n log) ≡ drop n (log_seen log)
drop_seen zero log = refl
drop_seen (suc n) [] = refl
drop_seen (suc n) (entry ∷ log) = drop_seen n log
