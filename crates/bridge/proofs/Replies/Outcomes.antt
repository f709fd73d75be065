-- What a client is told by a list of commands, and that it is told the same by each list that goes on.
use Rattle.std.proofs.Common.{◌≡◌, ℕ, ◌+◌, ◌-◌, ◌<◌, ◌≤◌, ◌⊎◌, Bool, true, false, List, [], ◌∷◌, ◌++◌, length, map, reverse, Option, None, Some, option_map, refl, sym, ap, subst, ◌∙◌, inl, inr, arith, append_assoc, append-nil, length-append, max}
use Rattle.std.specs.Prelude.{◌==◌, ◌&&◌, nat_lt, if◌then◌else◌}
use Rattle.std.proofs.lemmas.Bool.{cond_both, cases_Bool, ltb-false, ltb-true, lt-ltb, true≢false}
use Rattle.std.proofs.lemmas.List.{length-map, length-reverse, map-append, reverse-append}
use Rattle.craft_base.specs.declared.command.Head.{Head}
use Rattle.craft_base.specs.declared.command.Op.{Op}
use Rattle.craft_base.specs.declared.command.Op.TheVariants as ops
use Rattle.craft_base.specs.declared.command.Reply.{Reply}
use Rattle.craft_base.specs.declared.command.Reply.TheVariants as replies
use Rattle.kv_apply.specs.Commands.{greater, greatest_number, is_effective, is_of, map_outcome, outcome, outcome_of, told, version}
use Rattle.kv_apply.specs.Laws.{TellsIndexes, is_outrun}
use Rattle.kv_apply.specs.declared.outcome.Outcome.{Outcome}
use Rattle.kv_apply.specs.declared.outcome.Outcome.TheVariants as outcomes
use Rattle.kv_apply.proofs.Once.{outcome_stays}
use Rattle.world_model.specs.Safety.{HasGreater, IsIn, IsOfOneMap, heads_in, value_in, value_of_command}
use Rattle.world_model.specs.Traces.{Command}
use Rattle.bridge.proofs.Replies.Lists.{in_either, in_more, still_there}

-- ---- no effective command is old

abbrev is_old : Outcome → Bool
is_old outcomes.Old = true
is_old _ = false

abbrev is_any_old : Option Outcome → Bool
is_any_old None = false
is_any_old (Some o) = is_old o

fresh_outcome : (op : Op) (index before : ℕ) → is_old (outcome_of op index before) ≡ false
fresh_outcome ops.Noop index before = refl
fresh_outcome ops.Put index before = refl
fresh_outcome (ops.PutIf expected) index before =
    cond_both (before == expected) (outcomes.Done index) (outcomes.Differs before) (λ o. is_old o ≡ false) (λ same. refl) (λ differ. refl)
fresh_outcome ops.Del index before = refl
fresh_outcome ops.Get index before = cond_both (before == 0) outcomes.Nothing (outcomes.Found before) (λ o. is_old o ≡ false) (λ absent. refl) (λ there. refl)

never_old : (client seq : ℕ) (heads : List Head) → is_any_old (map_outcome client seq heads) ≡ false
never_old client seq [] = refl
never_old client seq (h ∷ earlier) =
    cond_both (is_of client h && ((h.seq == seq) && is_effective h earlier)) (Some (outcome h earlier)) (map_outcome client seq earlier)
    (λ o. is_any_old o ≡ false) (λ here. fresh_outcome h.op (length earlier + 1) (version h.key earlier)) (λ before. never_old client seq earlier)

-- ---- what a client is told

-- a reply that says nothing of the map
abbrev pub IsRefusal : Reply → Type 0
IsRefusal (replies.Elsewhere hint) = Unit {0}
IsRefusal replies.Preparing = Unit {0}
IsRefusal replies.Busy = Unit {0}
IsRefusal replies.Full = Unit {0}
IsRefusal _ = ⊥

-- the outcome that the commands have for that number of the client, with the value of the version that was found
pub record IsOutcome (commands : List Command) (client seq : ℕ) (reply : Reply) : Type 0 where
  pub came_to : Outcome
  pub is : map_outcome client seq (heads_in commands) ≡ Some came_to
  pub indexes : TellsIndexes (length commands) came_to
  pub tells : reply ≡ told (value_in commands) came_to

-- it is one of these: a refusal, that a greater number came, or the outcome
abbrev pub IsTold : List Command → (client seq : ℕ) → Reply → Type 0
IsTold commands client seq reply = IsRefusal reply ⊎ ((HasGreater commands client seq × (reply ≡ replies.Old)) ⊎ IsOutcome commands client seq reply)

-- ---- it is of one map

refusal_of_one_map : (commands : List Command) (client seq : ℕ) (reply : Reply) → IsRefusal reply → IsOfOneMap commands client seq reply
refusal_of_one_map commands client seq (replies.Elsewhere hint) is = tt
refusal_of_one_map commands client seq replies.Preparing is = tt
refusal_of_one_map commands client seq replies.Busy is = tt
refusal_of_one_map commands client seq replies.Full is = tt
refusal_of_one_map commands client seq (replies.Done version) is = absurd is
refusal_of_one_map commands client seq (replies.Differs version) is = absurd is
refusal_of_one_map commands client seq (replies.Gone was_there) is = absurd is
refusal_of_one_map commands client seq (replies.Value version value) is = absurd is
refusal_of_one_map commands client seq replies.Nothing is = absurd is
refusal_of_one_map commands client seq replies.Old is = absurd is

outcome_of_one_map :
    (commands : List Command) (client seq : ℕ) (o : Outcome) → map_outcome client seq (heads_in commands) ≡ Some o →
    IsOfOneMap commands client seq (told (value_in commands) o)
outcome_of_one_map commands client seq (outcomes.Done version) is = ap (option_map (told (value_in commands))) is
outcome_of_one_map commands client seq (outcomes.Differs version) is = ap (option_map (told (value_in commands))) is
outcome_of_one_map commands client seq (outcomes.Gone was_there) is = ap (option_map (told (value_in commands))) is
outcome_of_one_map commands client seq (outcomes.Found version) is = ap (option_map (told (value_in commands))) is
outcome_of_one_map commands client seq outcomes.Nothing is = ap (option_map (told (value_in commands))) is
outcome_of_one_map commands client seq outcomes.Old is =
    absurd (true≢false (sym (ap is_any_old is) ∙ never_old client seq (heads_in commands)))

pub told_of_one_map : (commands : List Command) (client seq : ℕ) (reply : Reply) → IsTold commands client seq reply → IsOfOneMap commands client seq reply
told_of_one_map commands client seq reply is = elim is [
  | inl refusal ↦ refusal_of_one_map commands client seq reply refusal
  | inr told_so ↦ elim told_so [
    | inl old ↦ subst (IsOfOneMap commands client seq) (sym old.1) old.0
    | inr o ↦ subst (IsOfOneMap commands client seq) (sym o.tells) (outcome_of_one_map commands client seq o.came_to o.is)
  ]
]

-- ---- and stays so as the list goes on

pub heads_more : (commands : List Command) (c : Command) → heads_in (commands ++ c ∷ []) ≡ c.head ∷ heads_in commands
heads_more commands c =
    ap (λ (heads : List Head). reverse heads) (map-append (λ (c : Command). c.head) commands (c ∷ []))
    ∙ reverse-append (map (λ (c : Command). c.head) commands) (c.head ∷ [])

-- each command has one
pub heads_long : (commands : List Command) → length (heads_in commands) ≡ length commands
heads_long commands = length-reverse (map (λ (c : Command). c.head) commands) ∙ length-map commands (λ (c : Command). c.head)

indexes_more : (n m : ℕ) (o : Outcome) → n ≤ m → TellsIndexes n o → TellsIndexes m o
indexes_more n m (outcomes.Done version) le is = (is.0, omega (arith, le, is.1))
indexes_more n m (outcomes.Differs version) le is = omega (arith, le, is)
indexes_more n m (outcomes.Gone was_there) le is = tt
indexes_more n m (outcomes.Found version) le is = (is.0, omega (arith, le, is.1))
indexes_more n m outcomes.Nothing le is = tt
indexes_more n m outcomes.Old le is = tt

-- the values of the versions that an outcome tells are the same
pub told_more :
    (commands more : List Command) (o : Outcome) → TellsIndexes (length commands) o → told (value_in commands) o ≡ told (value_in (commands ++ more)) o
told_more commands more (outcomes.Found version) is =
    let within : version - 1 < length commands = omega (arith, is.0, is.1) in
    ap (λ it. replies.Value version (value_of_command it)) (sym (still_there commands more (version - 1) within))
told_more commands more (outcomes.Done version) is = refl
told_more commands more (outcomes.Differs version) is = refl
told_more commands more (outcomes.Gone was_there) is = refl
told_more commands more outcomes.Nothing is = refl
told_more commands more outcomes.Old is = refl

outcome_more : (commands : List Command) (c : Command) (client seq : ℕ) (reply : Reply) → IsOutcome commands client seq reply → IsOutcome (commands ++ c ∷ []) client seq reply
outcome_more commands c client seq reply o = record {
  came_to = o.came_to;
  is =
      ap (map_outcome client seq) (heads_more commands c) ∙ outcome_stays client seq c.head (heads_in commands) o.came_to o.is;
  indexes =
      let long : length (commands ++ c ∷ []) ≡ length commands + 1 = length-append commands (c ∷ []) in
      indexes_more (length commands) (length (commands ++ c ∷ [])) o.came_to (omega (arith, long)) o.indexes;
  tells = o.tells ∙ told_more commands (c ∷ []) o.came_to o.indexes;
}

greater_more : (commands more : List Command) (client seq : ℕ) → HasGreater commands client seq → HasGreater (commands ++ more) client seq
greater_more commands more client seq has = (has.0, in_more has.0 commands more has.1, has.2, has.3)

one_more : (commands : List Command) (c : Command) (client seq : ℕ) (reply : Reply) → IsTold commands client seq reply → IsTold (commands ++ c ∷ []) client seq reply
one_more commands c client seq reply is = elim is [
  | inl refusal ↦ inl refusal
  | inr told_so ↦ inr (elim told_so [
    | inl old ↦ inl (greater_more commands (c ∷ []) client seq old.0, old.1)
    | inr o ↦ inr (outcome_more commands c client seq reply o)
  ])
]

pub told_longer : (commands more : List Command) (client seq : ℕ) (reply : Reply) → IsTold commands client seq reply → IsTold (commands ++ more) client seq reply
told_longer commands [] client seq reply is = subst (λ it. IsTold it client seq reply) (sym (append-nil commands)) is
told_longer commands (c ∷ more) client seq reply is =
    subst (λ it. IsTold it client seq reply) (append_assoc commands (c ∷ []) more)
    (told_longer (commands ++ c ∷ []) more client seq reply (one_more commands c client seq reply is))

-- ---- where a greater number came

in_heads : (h : Head) (commands : List Command) → IsIn h (heads_in commands) → (c : Command) × IsIn c commands × (c.head ≡ h)
in_heads h [] among = absurd among
in_heads h (c ∷ commands) among =
    let apart : heads_in (c ∷ commands) ≡ heads_in commands ++ c.head ∷ [] = reverse-append (c.head ∷ []) (map (λ (c : Command). c.head) commands) in
    elim (in_either h (heads_in commands) (c.head ∷ []) (subst (IsIn h) apart among)) [
      | inl before ↦ let found = in_heads h commands before in (found.0, inr found.1, found.2)
      | inr last ↦ elim last [ inl same ↦ (c, inl refl, sym same) | inr none ↦ absurd none ]
    ]

-- a head of that client with a greater number
abbrev HasOutrun : (client seq : ℕ) → List Head → Type 0
HasOutrun client seq heads = (h : Head) × IsIn h heads × (is_of client h ≡ true) × (seq < h.seq)

outrun_by : (client seq : ℕ) (h : Head) (earlier : List Head) (so_far : Option ℕ) → is_of client h ≡ true → greatest_number client earlier ≡ so_far →
    (is_outrun seq so_far ≡ true → HasOutrun client seq earlier) → is_outrun seq (Some (greater h.seq so_far)) ≡ true → HasOutrun client seq (h ∷ earlier)
outrun_by client seq h earlier None of is later outrun = (h, inl refl, of, ltb-true seq h.seq outrun)
outrun_by client seq h earlier (Some m) of is later outrun = elim (cases_Bool (nat_lt seq h.seq)) [
  | inl less ↦ (h, inl refl, of, ltb-true seq h.seq less)
  | inr not_less ↦
      let found = later (lt-ltb seq m (omega (arith, ltb-true seq (max h.seq m) outrun, ltb-false seq h.seq not_less))) in
      (found.0, inr found.1, found.2, found.3)
]

outrun_in : (client seq : ℕ) (heads : List Head) → is_outrun seq (greatest_number client heads) ≡ true → HasOutrun client seq heads
outrun_in client seq [] outrun = absurd (true≢false (sym outrun))
outrun_in client seq (h ∷ earlier) outrun = elim (cases_Bool (is_of client h)) [
  | inl of ↦
      outrun_by client seq h earlier (greatest_number client earlier) of refl (outrun_in client seq earlier)
      (sym (ap (λ (b : Bool). is_outrun seq (if b then Some (greater h.seq (greatest_number client earlier)) else greatest_number client earlier)) of) ∙ outrun)
  | inr other ↦
      let found =
      outrun_in client seq earlier
      (sym (ap (λ (b : Bool). is_outrun seq (if b then Some (greater h.seq (greatest_number client earlier)) else greatest_number client earlier)) other) ∙ outrun) in
      (found.0, inr found.1, found.2, found.3)
]

pub greater_in : (client seq : ℕ) (commands : List Command) → is_outrun seq (greatest_number client (heads_in commands)) ≡ true → HasGreater commands client seq
greater_in client seq commands outrun =
    let found = outrun_in client seq (heads_in commands) outrun in
    let by = in_heads found.0 commands found.1 in
    (by.0, by.1, ap (is_of client) by.2 ∙ found.2, subst (λ (h : Head). seq < h.seq) (sym by.2) found.3)
