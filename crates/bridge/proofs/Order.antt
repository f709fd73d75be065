-- The order of time: a reply is told of a list of which each command was proposed by then, and the effective command that it tells of is in
-- that list. So what is proposed later stands above it.
use Rattle.std.proofs.Common.{◌≡◌, ℕ, zero, suc, ◌+◌, ◌-◌, ◌<◌, ◌≤◌, ◌&&◌, ◌==◌, Bool, true, false, if◌then◌else◌, List, ◌∷◌, ◌++◌, length, map, take, Some, slice_get, refl, sym, ap, subst, ◌∙◌, arith, inl, inr, length-append}
use Rattle.std.proofs.Math.Seq.{take-append_seam}
use Rattle.std.specs.List.{All}
use Rattle.std.proofs.lemmas.Bool.{and_parts, cases_lt, eqb-true, true≢false}
use Rattle.std.proofs.lemmas.Option.{get_or_from_slice_get, same_Some, slice_get_within}
use Rattle.craft_base.specs.declared.command.Head.{Head}
use Rattle.craft_base.specs.declared.command.Reply.{Reply}
use Rattle.craft_base.specs.declared.command.Reply.TheVariants as replies
use Rattle.kv_apply.specs.Commands.{is_effective, is_of, map_outcome, outcome, told}
use Rattle.kv_apply.specs.declared.outcome.Outcome.{Outcome}
use Rattle.kv_apply.proofs.Once.{no_second, outcome_stays}
use Rattle.world_model.specs.Order.{EachToldAt, IsEffectiveAt, IsOrdered, IsRequestAt, IsTakenAfter, IsToldAt, LaterCount, LaterStandAbove, TellsOutcome}
use Rattle.world_model.specs.Safety.{IsIn, committed, heads_in, value_in}
use Rattle.world_model.specs.Traces.{Command, Proposal, Replied}
use Rattle.world_model.specs.World.{World}
use Rattle.bridge.proofs.Furthest.{at_position}
use Rattle.bridge.proofs.Replies.Dates.{IsProposedBy}
use Rattle.bridge.proofs.Replies.Lists.{front_of_commands, is_in, taken_more, taken_there}
use Rattle.bridge.proofs.Replies.Outcomes.{IsOutcome, IsRefusal, IsTold, heads_more, told_more}
use Rattle.bridge.proofs.Replies.World.{IsToldOf, WorldAnswers}

-- ---- where a command takes effect

heads_next : (commands : List Command) (i : ℕ) (c : Command) → slice_get commands i ≡ Some c → heads_in (take (suc i) commands) ≡ c.head ∷ heads_in (take i commands)
heads_next commands i c here = ap heads_in (taken_more commands i c here) ∙ heads_more (take i commands) c

module _ (commands : List Command) (client seq : ℕ) where
  -- an outcome that was had stays, as the commands go on
  outcome_later :
      (more n : ℕ) (o : Outcome) → n + more ≤ length commands → map_outcome client seq (heads_in (take n commands)) ≡ Some o →
      map_outcome client seq (heads_in (take (n + more) commands)) ≡ Some o
  outcome_later zero n o within is =
      let same : n ≡ n + 0 = omega arith in subst (λ k. map_outcome client seq (heads_in (take k commands)) ≡ Some o) same is
  outcome_later (suc more) n o within is =
      let at : (c : Command) × (slice_get commands n ≡ Some c) = at_position commands n (omega (arith, within)) in
      let next : map_outcome client seq (heads_in (take (suc n) commands)) ≡ Some o =
      ap (map_outcome client seq) (heads_next commands n at.0 at.1) ∙ outcome_stays client seq at.0.head (heads_in (take n commands)) o is in
      let same : suc n + more ≡ n + suc more = omega arith in
      subst (λ k. map_outcome client seq (heads_in (take k commands)) ≡ Some o) same (outcome_later more (suc n) o (omega (arith, within)) next)

  -- the command of which an outcome tells
  pub record IsOutcomeAt (n : ℕ) (o : Outcome) : Type 0 where
    pub place : ℕ
    pub below : place < n
    pub at : IsEffectiveAt commands client seq place
    pub is : o ≡ outcome (at.request).command.head (heads_in (take place commands))

  outcome_at : (n : ℕ) (o : Outcome) → n ≤ length commands → map_outcome client seq (heads_in (take n commands)) ≡ Some o → IsOutcomeAt n o
  outcome_at zero o within is = cc
  outcome_at (suc i) o within is =
      let at : (c : Command) × (slice_get commands i ≡ Some c) = at_position commands i (omega (arith, within)) in
      let earlier : List Head = heads_in (take i commands) in
      by_test at.0 at.1 (is_of client at.0.head && ((at.0.head.seq == seq) && is_effective at.0.head earlier)) refl
      (sym (ap (map_outcome client seq) (heads_next commands i at.0 at.1)) ∙ is) (outcome_at i o (omega (arith, within)))
    where
      by_test :
          (c : Command) → slice_get commands i ≡ Some c → (test : Bool) →
          (is_of client c.head && ((c.head.seq == seq) && is_effective c.head (heads_in (take i commands)))) ≡ test →
          (if test then Some (outcome c.head (heads_in (take i commands))) else map_outcome client seq (heads_in (take i commands))) ≡ Some o →
          (map_outcome client seq (heads_in (take i commands)) ≡ Some o → IsOutcomeAt i o) → IsOutcomeAt (suc i) o
      by_test c here true passes e rest =
          let both = and_parts (is_of client c.head) _ passes in
          let all = and_parts (c.head.seq == seq) _ both.1 in
          record {
            place = i;
            below = omega arith;
            at = record { request = record { command = c; here = here; of = both.0; number = eqb-true c.head.seq seq all.0 }; effective = all.1 };
            is = sym (same_Some (outcome c.head (heads_in (take i commands))) o e);
          }
      by_test c here false passes e rest =
          let before = rest e in
          let lt : before.place < i = before.below in
          record { place = before.place; below = omega (arith, lt); at = before.at; is = before.is }

  -- a number takes effect once: where it has an outcome, no later command of it is effective
  effective_below : (n place : ℕ) (o : Outcome) → place < length commands → map_outcome client seq (heads_in (take n commands)) ≡ Some o → IsEffectiveAt commands client seq place → place < n
  effective_below n place o within is at = elim (cases_lt place n) [
    | inl below ↦ below
    | inr above ↦
        let le : n ≤ place = above in
        let c : Command = (at.request).command in
        let same : n + (place - n) ≡ place = omega (arith, le) in
        let then_is : map_outcome client seq (heads_in (take place commands)) ≡ Some o =
        subst (λ k. map_outcome client seq (heads_in (take k commands)) ≡ Some o) same (outcome_later (place - n) n o (omega (arith, le, within)) is) in
        absurd (true≢false (sym (at.effective) ∙ no_second client seq c.head (heads_in (take place commands)) o then_is (at.request).of (at.request).number))
  ]

-- what was first taken later wasn't proposed by then
not_by_then :
    (book : List Proposal) (event client seq : ℕ) → IsTakenAfter book event client seq → (c : Command) → is_of client c.head ≡ true → c.head.seq ≡ seq →
    IsProposedBy book event c → ⊥
not_by_then book event client seq after c of number by = too_early by.0 by.1 by.2 by.3 where
  too_early : (p : Proposal) → IsIn p book → p.command ≡ c → p.event ≤ event → ⊥
  too_early p among is early =
      let late : event < p.event = after p among (ap (λ (it : Command). is_of client it.head) is ∙ of) (ap (λ (it : Command). it.head.seq) is ∙ number) in
      omega (arith, late, early)

-- ---- what a reply is told of

-- a reply that tells what a request came to is neither a refusal nor that its number is old
told_outcome : (commands : List Command) (client seq : ℕ) (reply : Reply) → TellsOutcome reply → IsTold commands client seq reply → IsOutcome commands client seq reply
told_outcome commands client seq reply tells is = elim is [
  | inl refusal ↦ absurd (no_refusal reply tells refusal)
  | inr told_so ↦ elim told_so [
    | inl old ↦ absurd (subst TellsOutcome old.1 tells)
    | inr o ↦ o
  ]
] where
  no_refusal : (reply : Reply) → TellsOutcome reply → IsRefusal reply → ⊥
  no_refusal (replies.Elsewhere hint) tells refusal = tells
  no_refusal replies.Preparing tells refusal = tells
  no_refusal replies.Busy tells refusal = tells
  no_refusal replies.Full tells refusal = tells
  no_refusal (replies.Done version) tells refusal = refusal
  no_refusal (replies.Differs version) tells refusal = refusal
  no_refusal (replies.Gone was_there) tells refusal = refusal
  no_refusal (replies.Value version value) tells refusal = refusal
  no_refusal replies.Nothing tells refusal = refusal
  no_refusal replies.Old tells refusal = tells

-- of the commands that are committed, the reply is told of the first ones, each of which was proposed by then
record IsToldOfFirst (w : World) (commands : List Command) (r : Replied) : Type 0 where
  pub first : List Command
  pub more : List Command
  pub all : first ++ more ≡ commands
  pub outcome : IsOutcome first r.client r.seq r.reply
  pub dated : All (IsProposedBy w.book r.event) first

module _ (w : World) (commands : List Command) (are : committed w ≡ map Some commands) (answers : WorldAnswers (committed w) w) where
  told_first : (r : Replied) → IsIn r w.replies → TellsOutcome r.reply → IsToldOfFirst w commands r
  told_first r among tells =
      let it : IsToldOf (committed w) w.book r = is_in (IsToldOf (committed w) w.book) w.replies answers.told r among in
      let rest = front_of_commands it.commands it.front.0 commands (it.front.1 ∙ are) in
      record { first = it.commands; more = rest.0; all = rest.1; outcome = told_outcome it.commands r.client r.seq r.reply tells it.told; dated = it.dated }

  module _ (r : Replied) (f : IsToldOfFirst w commands r) where
    abbrev n : ℕ
    n = length f.first

    within : n ≤ length commands
    within = let long : length (f.first ++ f.more) ≡ n + length f.more = length-append f.first f.more in
        let same : length (f.first ++ f.more) ≡ length commands = ap length f.all in
        omega (arith, long, same)

    first_is : take n commands ≡ f.first
    first_is = ap (take n) (sym f.all) ∙ take-append_seam f.first f.more

    found : map_outcome r.client r.seq (heads_in (take n commands)) ≡ Some (f.outcome).came_to
    found = ap (λ (cs : List Command). map_outcome r.client r.seq (heads_in cs)) first_is ∙ (f.outcome).is

    told_at : (place : ℕ) × IsToldAt commands r.client r.seq place r.reply
    told_at =
        let it : IsOutcomeAt commands r.client r.seq n (f.outcome).came_to = outcome_at commands r.client r.seq n (f.outcome).came_to within found in (
          it.place,
          record {
            at = it.at;
            tells =
                (f.outcome).tells ∙ told_more f.first f.more (f.outcome).came_to (f.outcome).indexes
                ∙ ap (λ (cs : List Command). told (value_in cs) (f.outcome).came_to) f.all ∙ ap (told (value_in commands)) it.is;
          },
        )

    -- the effective command is among the first, and so is all before it: each was proposed by then
    stands_above :
        (client seq : ℕ) → IsTakenAfter w.book r.event client seq → (place later : ℕ) → IsEffectiveAt commands r.client r.seq place →
        IsRequestAt commands client seq later → place < later
    stands_above client seq after place later at request = elim (cases_lt place later) [
      | inl below ↦ below
      | inr above ↦
          let le : later ≤ place = above in
          let here : place < length commands = slice_get_within commands place (at.request).command (at.request).here in
          let lt : place < n = effective_below commands r.client r.seq n place (f.outcome).came_to here found at in
          let in_first : slice_get f.first later ≡ Some request.command =
          ap (λ (cs : List Command). slice_get cs later) (sym first_is) ∙ taken_there n commands later (omega (arith, le, lt)) ∙ request.here in
          absurd (not_by_then w.book r.event client seq after request.command request.of request.number (each_at f.first f.dated later request.command in_first))
    ] where
      each_at : (cs : List Command) → All (IsProposedBy w.book r.event) cs → (i : ℕ) (c : Command) → slice_get cs i ≡ Some c → IsProposedBy w.book r.event c
      each_at cs all i c e = subst (IsProposedBy w.book r.event) (get_or_from_slice_get cs i c c e) (all i c (slice_get_within cs i c e))

  each_told : EachToldAt w commands
  each_told r among tells = told_at r (told_first r among tells)

  above : LaterStandAbove w commands
  above r client seq before place later at request = stands_above r (told_first r before.among before.tells) client seq before.after place later at request

  counts : LaterCount w commands
  counts one other before among tells =
      let first = each_told one before.among before.tells in
      let second = each_told other among tells in
      record {
        place = first.0;
        later = second.0;
        first = first.1;
        second = second.1;
        below = above one other.client other.seq before first.0 second.0 (first.1).at ((second.1).at).request;
      }

  pub world_is_ordered : IsOrdered w commands
  world_is_ordered = record { each = each_told; above = above; counts = counts }
