-- Entries that stand for commands, one by one: what an outcome is told as by the log is what the commands tell.
use Rattle.std.proofs.Common.{◌≡◌, ℕ, zero, suc, ◌-◌, ◌<◌, min, List, [], ◌∷◌, ◌++◌, length, map, reverse, take, Option, None, Some, slice_get, refl, sym, ap, subst, ◌∙◌, arith, length-take}
use Rattle.std.proofs.lemmas.Option.{same_Some}
use Rattle.craft_base.specs.declared.command.Entry.{Entry}
use Rattle.craft_base.specs.declared.command.Form.{Form}
use Rattle.craft_base.specs.declared.command.Form.TheVariants as forms
use Rattle.craft_base.specs.declared.command.Head.{Head}
use Rattle.craft_base.specs.declared.command.Reply.{Reply}
use Rattle.craft_base.specs.declared.command.Reply.TheVariants as replies
use Rattle.kv_apply.specs.Commands.{heads_of, told}
use Rattle.kv_apply.specs.Laws.{TellsIndexes}
use Rattle.kv_apply.specs.declared.outcome.Outcome.{Outcome}
use Rattle.kv_apply.specs.declared.outcome.Outcome.TheVariants as outcomes
use Rattle.world_model.specs.Rules.Applying.{reply_of, value_of, value_reply, whole_bytes}
use Rattle.world_model.specs.Safety.{Holds, IsFront, StandsFor, heads_in, value_in, value_of_command}
use Rattle.world_model.specs.Traces.{Command}
use Rattle.bridge.proofs.Furthest.{at_position}
use Rattle.bridge.proofs.Replies.Lists.{taken_there}

-- an entry is of the command's term and asks for the same, and where it is held whole, with the command's value
abbrev pub AnswersFor : Entry → Command → Type 0
AnswersFor entry command =
    (entry.term ≡ command.term) × (entry.head ≡ command.head) × ((bytes : List ℕ) → entry.form ≡ forms.Whole bytes → bytes ≡ command.value)

pub stands_answers : (need member : ℕ) (entry : Entry) (command : Command) → StandsFor need member entry command → AnswersFor entry command
stands_answers need member entry command stands = (stands.0, stands.1, λ bytes is. whole entry.form bytes is stands.2) where
  whole : (form : Form) (bytes : List ℕ) → form ≡ forms.Whole bytes → Holds need member form command.value → bytes ≡ command.value
  whole (forms.Whole own) bytes is holds = same own bytes is ∙ holds where
    same : (own bytes : List ℕ) → forms.Whole own ≡ forms.Whole bytes → bytes ≡ own
    same own bytes is = cc
  whole (forms.Part part) bytes is holds = cc

-- these entries do so for these commands, in order
abbrev pub StandForEach : List Entry → List Command → Type 0
StandForEach [] [] = Unit {0}
StandForEach (entry ∷ log) (command ∷ commands) = AnswersFor entry command × StandForEach log commands
StandForEach _ _ = ⊥

pub same_long : (log : List Entry) (commands : List Command) → StandForEach log commands → length log ≡ length commands
same_long [] [] stand = refl
same_long [] (command ∷ commands) stand = absurd stand
same_long (entry ∷ log) [] stand = absurd stand
same_long (entry ∷ log) (command ∷ commands) stand = ap suc (same_long log commands stand.1)

each_head : (log : List Entry) (commands : List Command) → StandForEach log commands → map (λ (e : Entry). e.head) log ≡ map (λ (c : Command). c.head) commands
each_head [] [] stand = refl
each_head [] (command ∷ commands) stand = absurd stand
each_head (entry ∷ log) [] stand = absurd stand
each_head (entry ∷ log) (command ∷ commands) stand =
    ap (λ (h : Head). h ∷ map (λ (e : Entry). e.head) log) stand.0.1 ∙ ap (λ (heads : List Head). command.head ∷ heads) (each_head log commands stand.1)

pub same_heads : (log : List Entry) (commands : List Command) → StandForEach log commands → heads_of log ≡ heads_in commands
same_heads log commands stand = ap (λ (heads : List Head). reverse heads) (each_head log commands stand)

-- an entry that is the same does so for the same
same_stands : {one other : Entry} {command : Command} → one ≡ other → AnswersFor one command → AnswersFor other command
same_stands {command = command} same stands = subst (λ entry. AnswersFor entry command) same stands

command_there :
    (log : List Entry) (commands : List Command) → StandForEach log commands → (place : ℕ) (entry : Entry) → slice_get log place ≡ Some entry →
    (command : Command) × (slice_get commands place ≡ Some command) × AnswersFor entry command
command_there [] commands stand place entry e = cc
command_there (first ∷ log) [] stand place entry e = absurd stand
command_there (first ∷ log) (command ∷ commands) stand zero entry e =
    let same : first ≡ entry = same_Some first entry e in (command, refl, same_stands same stand.0)
command_there (first ∷ log) (command ∷ commands) stand (suc place) entry e = command_there log commands stand.1 place entry e

-- ---- an outcome as it is told

whole_form : (form : Form) (bytes : List ℕ) → whole_bytes form ≡ Some bytes → form ≡ forms.Whole bytes
whole_form (forms.Whole own) bytes is = ap (λ it. forms.Whole it) (same_Some own bytes is)
whole_form (forms.Part part) bytes is = cc

-- where the value at a place is held whole, it is the command's
value_there :
    (log : List Entry) (n : ℕ) (commands : List Command) → StandForEach (take n log) commands → (place : ℕ) → place < length commands →
    (bytes : List ℕ) → value_of (slice_get log place) ≡ Some bytes → bytes ≡ value_of_command (slice_get commands place)
value_there log n commands stand place lt bytes is =
    let long : length (take n log) ≡ length commands = same_long (take n log) commands stand in
    let found = at_position (take n log) place (omega (arith, long, lt)) in
    let within : length (take n log) ≡ min n (length log) = length-take n log in
    let there : slice_get log place ≡ Some found.0 = sym (taken_there n log place (omega (arith, within, long, lt))) ∙ found.1 in
    let by = command_there (take n log) commands stand place found.0 found.1 in
    by.2.2 bytes (whole_form found.0.form bytes (sym (ap value_of there) ∙ is)) ∙ ap value_of_command (sym by.1)

-- what is told of an outcome by a log is what the commands tell
pub told_by_commands :
    (log : List Entry) (n : ℕ) (commands : List Command) → StandForEach (take n log) commands → (o : Outcome) → TellsIndexes (length commands) o →
    (reply : Reply) → reply_of log o ≡ Some reply → reply ≡ told (value_in commands) o
told_by_commands log n commands stand (outcomes.Found zero) is reply e = absurd (omega (arith, is.0))
told_by_commands log n commands stand (outcomes.Found (suc place)) is reply e = by_value (value_of (slice_get log place)) refl e where
  by_value : (found : Option (List ℕ)) → value_of (slice_get log place) ≡ found → value_reply (suc place) found ≡ Some reply → reply ≡ told (value_in commands) (outcomes.Found (suc place))
  by_value None here e = cc
  by_value (Some bytes) here e =
      let at : place ≡ suc place - 1 = omega arith in
      sym (same_Some (replies.Value (suc place) bytes) reply e)
      ∙ ap (λ it. replies.Value (suc place) it) (value_there log n commands stand place (omega (arith, is.1)) bytes here)
      ∙ ap (λ i. replies.Value (suc place) (value_of_command (slice_get commands i))) at
told_by_commands log n commands stand (outcomes.Done version) is reply e = sym (same_Some _ reply e)
told_by_commands log n commands stand (outcomes.Differs version) is reply e = sym (same_Some _ reply e)
told_by_commands log n commands stand (outcomes.Gone was_there) is reply e = sym (same_Some _ reply e)
told_by_commands log n commands stand outcomes.Nothing is reply e = sym (same_Some _ reply e)
told_by_commands log n commands stand outcomes.Old is reply e = sym (same_Some _ reply e)

-- ---- commands out of what each place tells

-- at that place there is a command in the list, and the log has an entry for it
abbrev pub StandsThere : List Entry → List (Option Command) → ℕ → Type 0
StandsThere log listed place =
    (entry : Entry) × (command : Command) × (slice_get log place ≡ Some entry) × (slice_get listed place ≡ Some (Some command))
    × AnswersFor entry command

-- the commands that a list begins with, for which a front of the log stands
pub record Gathered (log : List Entry) (listed : List (Option Command)) (n : ℕ) : Type 0 where
  pub commands : List Command
  pub front : IsFront (map Some commands) listed
  pub stand : StandForEach (take n log) commands

pub gather : (log : List Entry) (listed : List (Option Command)) (n : ℕ) → ((place : ℕ) → place < n → StandsThere log listed place) → Gathered log listed n
gather log listed zero each = record { commands = []; front = (listed, refl); stand = tt }
gather [] listed (suc n) each = let first = each zero (omega arith) in absurd (cc first.2)
gather (entry ∷ log) [] (suc n) each = let first = each zero (omega arith) in absurd (cc first.3)
gather (entry ∷ log) (x ∷ listed) (suc n) each =
    let first = each zero (omega arith) in
    let rest : Gathered log listed n = gather log listed n (λ place lt. each (suc place) (omega (arith, lt))) in
    let same : x ≡ Some first.1 = same_Some x (Some first.1) first.3 in
    record {
      commands = first.1 ∷ rest.commands;
      front = (rest.front.0, ap (λ it. it ∷ (map Some rest.commands ++ rest.front.0)) (sym same) ∙ ap (λ it. x ∷ it) rest.front.1);
      stand = (same_stands (sym (same_Some entry first.0 first.2)) first.4, rest.stand);
    }
