-- What a leader knows of its entries is at most what was acknowledged: its counts are at most the protocol's.
use Rattle.std.proofs.Common.{◌≡◌, ℕ, ◌+◌, ◌-◌, ◌<◌, ◌≤◌, ◌⊎◌, Bool, true, false, ◌&&◌, ◌==◌, if◌then◌else◌, nat_le, nat_lt, List, [], ◌∷◌, length, Option, None, Some, refl, sym, subst, ◌∙◌, inl, inr, arith, le_trans}
use Rattle.std.specs.List.{All, count_by}
use Rattle.std.proofs.lemmas.Bool.{cond_both, and_parts, or_cases, true≢false, leb-true, le-leb, ltb-true, eqb-true}
use Rattle.std.proofs.lemmas.List.Elements.{All-head, All-tail}
use Rattle.craft_base.specs.Knowledge as known
use Rattle.craft_base.specs.Knowledge.{Heard, Told, Beat, From, Voted, Matched, Refused, Answered}
use Rattle.craft_base.specs.Shape.{Shape, coded_quorum_of, majority_of, members_of}
use Rattle.craft_base.specs.declared.command.Entry.{Entry}
use Rattle.craft_base.specs.declared.command.Held.{Held}
use Rattle.craft_base.specs.declared.command.Held.TheVariants as helds
use Rattle.entry_frames.specs.Logs as node
use Rattle.world_model.specs.Quorums.{form_of, is_enough, is_held, is_held_whole, is_whole, known_form}
use Rattle.protocol.specs.Counting.{count}
use Rattle.protocol.specs.History as protocol
use Rattle.protocol.specs.Logs.{whole_at}
use Rattle.protocol.specs.Words.{Quorum, reaches}
use Rattle.protocol.proofs.Counting.{count_more}
use Rattle.bridge.specs.Views.{log_seen}
use Rattle.bridge.specs.Agreement.{HeardAgrees}
use Rattle.bridge.proofs.Counting.{count_members}
use Rattle.bridge.proofs.Views.{is_whole_entry, whole_at_seen}

-- ---- of another member

module _ (h : protocol.History) (term me member : ℕ) where
  matched_whole :
      (sender last prev count mask index : ℕ) → HeardAgrees h term me (From sender last (Matched prev count mask)) →
      known.is_whole_in index (known.told_by member (From sender last (Matched prev count mask))) ≡ true → h.held term member index ≡ true
  matched_whole sender last prev count mask index a =
      cond_both ((sender == member) && known.is_admitted last (Matched prev count mask)) (Some (Matched prev count mask)) None
      (λ told. known.is_whole_in index told ≡ true → h.held term member index ≡ true)
      (λ of e.
      let same : sender ≡ member = eqb-true sender member (and_parts (sender == member) _ of).0 in
      let parts = and_parts (nat_lt prev index) _ e in
      let behind : prev < index = ltb-true _ _ parts.0 in
      let at : prev + 1 + (index - (prev + 1)) ≡ index = omega (arith, behind) in
      subst (λ j. h.held term j index ≡ true) same
      (subst (λ i. h.held term sender i ≡ true) at ((a.body_agrees).whole (index - (prev + 1)) (eqb-true _ _ parts.1))))
      (λ other e. absurd (true≢false (sym e)))

  -- what tells of no log tells of no entry
  no_whole :
      (sender last : ℕ) (told : Told) (index : ℕ) → known.is_whole_in index (Some told) ≡ false →
      known.is_whole_in index (known.told_by member (From sender last told)) ≡ true → h.held term member index ≡ true
  no_whole sender last told index none =
      cond_both ((sender == member) && known.is_admitted last told) (Some told) None
      (λ it. known.is_whole_in index it ≡ true → h.held term member index ≡ true)
      (λ of e. absurd (true≢false (sym e ∙ none))) (λ other e. absurd (true≢false (sym e)))

  item_whole :
      (item : Heard) (index : ℕ) → HeardAgrees h term me item → known.is_whole_in index (known.told_by member item) ≡ true →
      h.held term member index ≡ true
  item_whole Beat index a e = absurd (true≢false (sym e))
  item_whole (From sender last (Voted granted)) index a e = no_whole sender last (Voted granted) index refl e
  item_whole (From sender last (Matched prev count mask)) index a e = matched_whole sender last prev count mask index a e
  item_whole (From sender last (Refused next)) index a e = no_whole sender last (Refused next) index refl e
  item_whole (From sender last Answered) index a e = no_whole sender last Answered index refl e

  -- who was heard to hold an entry whole said so
  heard_whole :
      (heard : List Heard) (index : ℕ) → All (HeardAgrees h term me) heard → known.is_held_whole member index heard ≡ true →
      h.held term member index ≡ true
  heard_whole [] index a e = absurd (true≢false (sym e))
  heard_whole (item ∷ heard) index a e = elim (or_cases (known.is_whole_in index (known.told_by member item)) _ e) [
    | inl here ↦ item_whole item index (All-head (HeardAgrees h term me) item heard a) here
    | inr there ↦ heard_whole heard index (All-tail (HeardAgrees h term me) item heard a) there
  ]

  -- a match is at most what was acknowledged
  no_match :
      (sender last : ℕ) (told : Told) → known.matched_to (Some told) ≡ 0 →
      known.matched_to (known.told_by member (From sender last told)) ≤ h.ack term member
  no_match sender last told none =
      cond_both ((sender == member) && known.is_admitted last told) (Some told) None (λ it. known.matched_to it ≤ h.ack term member)
      (λ of. omega (arith, none)) (λ other. omega arith)

  item_match : (item : Heard) → HeardAgrees h term me item → known.matched_to (known.told_by member item) ≤ h.ack term member
  item_match Beat a = omega arith
  item_match (From sender last (Voted granted)) a = no_match sender last (Voted granted) refl
  item_match (From sender last (Matched prev count mask)) a =
      cond_both ((sender == member) && known.is_admitted last (Matched prev count mask)) (Some (Matched prev count mask)) None
      (λ it. known.matched_to it ≤ h.ack term member)
      (λ of.
      let same : sender ≡ member = eqb-true sender member (and_parts (sender == member) _ of).0 in
      subst (λ j. prev + count ≤ h.ack term j) same (a.body_agrees).reach)
      (λ other. omega arith)
  item_match (From sender last (Refused next)) a = no_match sender last (Refused next) refl
  item_match (From sender last Answered) a = no_match sender last Answered refl

  heard_match : (heard : List Heard) → All (HeardAgrees h term me) heard → known.match_index member heard ≤ h.ack term member
  heard_match [] a = omega arith
  heard_match (item ∷ heard) a =
      let here = item_match item (All-head (HeardAgrees h term me) item heard a) in
      let there = heard_match heard (All-tail (HeardAgrees h term me) item heard a) in
      omega (arith, here, there)

-- ---- of each member

held_of : (whole : Bool) → is_held_whole (if whole then helds.Whole else helds.Part) ≡ whole
held_of true = refl
held_of false = refl

own_form : (found : Option Entry) → is_held_whole (form_of found) ≡ is_whole_entry found
own_form None = refl
own_form (Some entry) = held_of (is_whole entry.form)

-- what a member knows that acknowledged its own log: nothing that isn't held
module _
    (shape : Shape) (h : protocol.History) (term me : ℕ) (log : List Entry) (heard : List Heard) (told : All (HeardAgrees h term me) heard)
    (own_reach : length log ≤ h.ack term me)
    (own_whole : (i : ℕ) → i ≤ length log → whole_at (log_seen log) i ≡ true → h.held term me i ≡ true)
    (held_within : (j i : ℕ) → h.held term j i ≡ true → i ≤ h.ack term j) (index : ℕ) (within : index ≤ length log) where
  known_whole : (member : ℕ) → is_held_whole (known_form me log heard index member) ≡ true → h.held term member index ≡ true
  known_whole member =
      cond_both (member == me) (form_of (node.entry_at log index)) (known.held_form member index heard)
      (λ form. is_held_whole form ≡ true → h.held term member index ≡ true)
      (λ mine e.
      subst (λ j. h.held term j index ≡ true) (sym (eqb-true member me mine))
      (own_whole index within (whole_at_seen log index ∙ sym (own_form (node.entry_at log index)) ∙ e)))
      (λ other.
      cond_both (known.is_held_whole member index heard) helds.Whole
      (if nat_le index (known.match_index member heard) then helds.Part else helds.Nothing)
      (λ form. is_held_whole form ≡ true → h.held term member index ≡ true)
      (λ whole e. heard_whole h term me member heard index told whole)
      (λ part.
      cond_both (nat_le index (known.match_index member heard)) helds.Part helds.Nothing
      (λ form. is_held_whole form ≡ true → h.held term member index ≡ true)
      (λ matched e. absurd (true≢false (sym e))) (λ nothing e. absurd (true≢false (sym e)))))

  -- held in any form, by whichever test of it
  known_any :
      (test : Held → Bool) → test helds.Nothing ≡ false → (member : ℕ) → test (known_form me log heard index member) ≡ true →
      reaches h term index member ≡ true
  known_any test none member =
      cond_both (member == me) (form_of (node.entry_at log index)) (known.held_form member index heard)
      (λ form. test form ≡ true → reaches h term index member ≡ true)
      (λ mine e.
      subst (λ j. reaches h term index j ≡ true) (sym (eqb-true member me mine)) (le-leb index (h.ack term me) (le_trans within own_reach)))
      (λ other.
      cond_both (known.is_held_whole member index heard) helds.Whole
      (if nat_le index (known.match_index member heard) then helds.Part else helds.Nothing)
      (λ form. test form ≡ true → reaches h term index member ≡ true)
      (λ whole e. le-leb index (h.ack term member) (held_within member index (heard_whole h term me member heard index told whole)))
      (λ part.
      cond_both (nat_le index (known.match_index member heard)) helds.Part helds.Nothing
      (λ form. test form ≡ true → reaches h term index member ≡ true)
      (λ matched e. le-leb index (h.ack term member) (le_trans (leb-true _ _ matched) (heard_match h term me member heard told)))
      (λ nothing e. absurd (true≢false (sym e ∙ none)))))

  counted : (test other : ℕ → Bool) → ((j : ℕ) → test j ≡ true → other j ≡ true) →
      count_by test (known.members shape) ≤ count other (members_of shape)
  counted test other more =
      let all = count_members test (members_of shape) in
      let le = count_more test other (members_of shape) (λ j lt e. more j e) in
      omega (arith, all, le)

  -- enough members that hold the entry whole, or enough in any form, by what was heard
  pub quorum_counted :
      (test : Held → Bool) → test helds.Nothing ≡ false →
      (majority_of shape ≤ count_by (λ member. is_held_whole (known_form me log heard index member)) (known.members shape))
      ⊎ (coded_quorum_of shape ≤ count_by (λ member. test (known_form me log heard index member)) (known.members shape)) →
      Quorum shape.faults (λ j. h.held term j index) (reaches h term index) shape.need
  quorum_counted test none enough = elim enough [
    | inl whole ↦
        inl (le_trans whole (counted (λ member. is_held_whole (known_form me log heard index member)) (λ j. h.held term j index) known_whole))
    | inr any ↦
        inr (le_trans any (counted (λ member. test (known_form me log heard index member)) (reaches h term index) (known_any test none)))
  ]

  -- what the rule takes for enough is a quorum
  pub enough_counted :
      is_enough shape me log heard index ≡ true → Quorum shape.faults (λ j. h.held term j index) (reaches h term index) shape.need
  enough_counted enough = quorum_counted is_held refl (elim (or_cases _ _ enough) [
    | inl wholes ↦ inl (leb-true _ _ wholes)
    | inr any ↦ inr (leb-true _ _ any)
  ])
