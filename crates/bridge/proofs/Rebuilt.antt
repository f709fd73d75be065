-- Any F + 1 members' logs rebuild each committed value: by the protocol's law, and since each entry stands in the book.
use Rattle.std.proofs.Common.{◌≡◌, ℕ, zero, suc, ◌+◌, ◌<◌, ◌≤◌, ◌⊎◌, Bool, true, not, ◌&&◌, ◌==◌, nat_le, List, [], ◌∷◌, length, take, Option, Some, slice_get, refl, sym, ap, subst, ◌∙◌, inl, inr, arith, le_trans, length-take-le}
use Rattle.std.specs.List.{count_by}
use Rattle.std.proofs.lemmas.Bool.{and_from, and_parts, cases_Bool, cases_lt, eq-eqb, eqb-true, leb-true}
use Rattle.std.proofs.lemmas.Option.{same_Some, slice_get_within}
use Rattle.craft_base.specs.Knowledge as known
use Rattle.craft_base.specs.Shape.{Shape, majority_of, members_of}
use Rattle.craft_base.specs.declared.command.Entry.{Entry}
use Rattle.craft_base.specs.declared.command.Form.{Form}
use Rattle.entry_frames.specs.Durable.{Durable, born}
use Rattle.entry_frames.specs.Logs as node
use Rattle.world_model.specs.Quorums.{is_whole}
use Rattle.world_model.specs.Safety.{Rebuilds, RebuildsCommitted, StandsFor, command_in, commands_of, committed, furthest, has_part, has_whole, is_held_as, log_of}
use Rattle.world_model.specs.Traces.{Command, Proposal}
use Rattle.world_model.specs.World.{Member, World}
use Rattle.protocol.specs.Counting.{count}
use Rattle.protocol.specs.History as protocol
use Rattle.protocol.specs.Logs.{Agree, Has, has, term_at, whole_at}
use Rattle.protocol.specs.Moves.{Reached}
use Rattle.protocol.proofs.Counting.{count_found, count_more}
use Rattle.protocol.proofs.Rebuilding.{is_rebuilt}
use Rattle.bridge.specs.Agreement.{NodeAgrees, WorldAgrees}
use Rattle.bridge.specs.Traced.{holder}
use Rattle.bridge.specs.Views.{log_seen}
use Rattle.bridge.proofs.Book.Standing.{stand_place, stand_take}
use Rattle.bridge.proofs.Counting.{count_members}
use Rattle.bridge.proofs.Furthest.{IsCommitted, at_position, furthest_committed}
use Rattle.bridge.proofs.Replies.Lists.{taken_there}
use Rattle.bridge.proofs.Views.{is_whole_entry, length_seen, term_at_seen, whole_at_seen}

-- a command of a log's list is the book's for the entry there
commands_from :
    (book : List Proposal) (index : ℕ) (log : List Entry) (place : ℕ) (found : Option Command) → slice_get (commands_of book index log) place ≡ Some found →
    (entry : Entry) × (slice_get log place ≡ Some entry) × (command_in book entry.term (index + place) ≡ found)
commands_from book index [] place found e = cc
commands_from book index (first ∷ log) zero found e =
    let here : index ≡ index + 0 = omega arith in
    (first, refl, ap (command_in book first.term) (sym here) ∙ same_Some _ found e)
commands_from book index (first ∷ log) (suc place) found e =
    let rest = commands_from book (index + 1) log place found e in
    let behind : index + 1 + place ≡ index + suc place = omega arith in
    (rest.0, rest.1, ap (command_in book rest.0.term) (sym behind) ∙ rest.2)

-- the entry that the protocol sees
entry_seen : (log : List Entry) (place term : ℕ) → Has (log_seen log) (suc place) term → (entry : Entry) × (slice_get log place ≡ Some entry) × (entry.term ≡ term)
entry_seen log place term h =
    let within : suc place ≤ length (log_seen log) = h.within in
    let seen : length (log_seen log) ≡ length log = length_seen log in
    let found = at_position log place (omega (arith, within, seen)) in
    (found.0, found.1, sym (ap node.term_of_entry found.1) ∙ sym (term_at_seen log (suc place)) ∙ h.here)

held_as : (test : Form → Bool) (term : ℕ) (entry : Entry) (found : Option Entry) → found ≡ Some entry → entry.term ≡ term → test entry.form ≡ true → is_held_as test term found ≡ true
held_as test term entry found is same passes = subst (λ it. is_held_as test term it ≡ true) (sym is) (and_from _ _ (eq-eqb entry.term term same) passes)

-- at a member's place stands its log
log_there : (w : World) (me : ℕ) (m : Member) (place : ℕ) (entry : Entry) → slice_get w.members me ≡ Some m → slice_get m.durable.log place ≡ Some entry →
    slice_get (log_of (slice_get w.members me)) place ≡ Some entry
log_there w me m place entry here there = ap (λ it. slice_get (log_of it) place) here ∙ there

none_of : (p : ℕ → Bool) (n j : ℕ) → count p n ≡ 0 → j < n → p j ≡ true → ⊥
none_of p n j none lt passes =
    let some : count (λ k. k == j) n ≤ count p n = count_more (λ k. k == j) p n (λ k l same. subst (λ i. p i ≡ true) (sym (eqb-true k j same)) passes) in
    let one : 0 < count (λ k. k == j) n = counts n lt in
    omega (arith, some, one, none) where
      counts : (n : ℕ) → j < n → 0 < count (λ k. k == j) n
      counts zero lt = absurd (omega (arith, lt))
      counts (suc n) lt = elim (cases_lt j n) [
        | inl below ↦ let rest : 0 < count (λ k. k == j) n = counts n below in omega (arith, rest)
        | inr top ↦ let last : (n == j) ≡ true = eq-eqb n j (omega (arith, lt, top)) in rw last (omega arith)
      ]

module _
    {shape : Shape} {h : protocol.History} {w : World} (reached : Reached shape.faults h) (a : WorldAgrees shape h w) (who : ℕ → Bool) (place : ℕ)
    (command : Command) (listed : slice_get (committed w) place ≡ Some (Some command)) where
  abbrev d : Durable
  d = furthest born w.members

  most : IsCommitted shape h w d
  most = furthest_committed reached a

  own : (entry : Entry) × (slice_get (take d.commit d.log) place ≡ Some entry) × (command_in w.book entry.term (1 + place) ≡ Some command)
  own = commands_from w.book 1 (take d.commit d.log) place (Some command) listed

  below : place < d.commit
  below =
      let within : place < length (take d.commit d.log) = slice_get_within (take d.commit d.log) place own.0 own.1 in
      let long : length (take d.commit d.log) ≡ d.commit = length-take-le d.commit d.log most.within in
      omega (arith, within, long)

  -- the command is of the term of the entry that is committed
  own_term : own.0.term ≡ command.term
  own_term =
      let stands = stand_place most.at w.book 1 (take d.commit d.log) place own.0 (stand_take most.at w.book 1 d.commit d.log most.stand) own.1 in
      let same : stands.0 ≡ command = same_Some stands.0 command (sym stands.1 ∙ own.2) in
      stands.2.0 ∙ ap (λ (c : Command). c.term) same

  term_committed : term_at (log_seen d.log) (suc place) ≡ command.term
  term_committed =
      term_at_seen d.log (suc place) ∙ ap node.term_of_entry (sym (taken_there d.commit d.log place below) ∙ own.1) ∙ own_term

  stand_there :
      (me : ℕ) (m : Member) (entry : Entry) → who me ≡ true → slice_get w.members me ≡ Some m → slice_get m.durable.log place ≡ Some entry →
      entry.term ≡ command.term → StandsFor w.shape.need me entry command
  stand_there me m entry asked here there term =
      let stands = stand_place (holder shape me) w.book 1 m.durable.log place entry (a.logs me m here) there in
      let found : command_in w.book entry.term (1 + place) ≡ Some command = ap (λ t. command_in w.book t (1 + place)) (term ∙ sym own_term) ∙ own.2 in
      let same : stands.0 ≡ command = same_Some stands.0 command (sym stands.1 ∙ found) in
      subst (λ s. StandsFor s.need me entry command) (sym a.of_shape) (subst (StandsFor shape.need me entry) same stands.2)

  abbrev need : ℕ
  need = h.need (term_at (log_seen d.log) (suc place)) (suc place)

  needs : need ≡ shape.need
  needs =
      let first = at_position w.members 0 (omega (arith, a.many)) in
      let node_first : NodeAgrees shape h 0 _ = a.members 0 first.0 first.1 in
      let term = most.front.0 in
      let agree : Agree (log_seen d.log) (h.led term) d.commit = most.front.2 in
      ap (λ t. h.need t (suc place)) (agree.same (suc place) (omega (arith, below)))
      ∙ node_first.needs term (suc place) (omega arith) (le_trans (omega (arith, below)) agree.right)

  -- what a member has in the history, its log has
  there : (me : ℕ) → me < members_of shape → Has (h.log me) (suc place) (term_at (log_seen d.log) (suc place)) →
      (m : Member) × (entry : Entry) × (slice_get w.members me ≡ Some m) × (slice_get m.durable.log place ≡ Some entry) × (entry.term ≡ command.term)
      × (h.log me ≡ log_seen m.durable.log)
  there me lt has_it =
      let found = at_position w.members me (omega (arith, lt, a.many)) in
      let m : Member = found.0 in
      let is_log : h.log me ≡ log_seen m.durable.log = (a.members me m found.1).log in
      let seen = entry_seen m.durable.log place (term_at (log_seen d.log) (suc place)) (subst (λ log. Has log (suc place) (term_at (log_seen d.log) (suc place))) is_log has_it) in
      (m, seen.0, found.1, seen.1, seen.2 ∙ term_committed, is_log)

  abbrev wholes : ℕ → Bool
  wholes me = who me && has_whole w command.term place me

  abbrev parts : ℕ → Bool
  parts me = who me && has_part w command.term place me

  abbrev any : ℕ → Bool
  any me = who me && has (h.log me) (suc place) (term_at (log_seen d.log) (suc place))

  -- where none has it whole, all that have it have a part
  any_part : count wholes (members_of shape) ≡ 0 → (me : ℕ) → me < members_of shape → any me ≡ true → parts me ≡ true
  any_part none me lt e =
      let asked = and_parts (who me) _ e in
      let tests = and_parts (nat_le (suc place) (length (h.log me))) _ asked.1 in
      let it = there me lt (record { from = omega arith; within = leb-true _ _ tests.0; here = eqb-true _ _ tests.1 }) in
      let found : slice_get (log_of (slice_get w.members me)) place ≡ Some it.1 = log_there w me it.0 place it.1 it.2 it.3 in
      elim (cases_Bool (is_whole it.1.form)) [
        | inl whole ↦ absurd (none_of wholes (members_of shape) me none lt (and_from _ _ asked.0 (held_as is_whole command.term it.1 _ found it.4 whole)))
        | inr part ↦ and_from _ _ asked.0 (held_as (λ form. not (is_whole form)) command.term it.1 _ found it.4 (ap not part))
      ]

  abbrev Enough : Type 0
  Enough = ((me : ℕ) × (who me ≡ true) × (has_whole w command.term place me ≡ true)) ⊎ (w.shape.need ≤ count_by parts (known.members w.shape))

  by_parts : need ≤ count any (members_of shape) → Enough
  by_parts le = elim (cases_lt 0 (count wholes (members_of shape))) [
    | inl some ↦
        let found = count_found wholes (members_of shape) some in
        let both = and_parts (who found.0) _ found.2 in
        inl (found.0, both.0, both.1)
    | inr none ↦
        let more : count any (members_of shape) ≤ count parts (members_of shape) = count_more any parts (members_of shape) (any_part (omega (arith, none))) in
        let counted : count_by parts (known.members shape) ≡ count parts (members_of shape) = count_members parts (members_of shape) in
        inr (subst (λ s. s.need ≤ count_by parts (known.members s)) (sym a.of_shape) (omega (arith, le, more, counted, needs)))
  ]

  enough : majority_of shape ≤ count_by who (known.members shape) → Enough
  enough many =
      let counted : count_by who (known.members shape) ≡ count who (members_of shape) = count_members who (members_of shape) in
      elim (is_rebuilt shape.faults h reached who (omega (arith, many, counted)) (log_seen d.log) d.commit (suc place) most.front (omega arith) (omega (arith, below))) [
        | inl whole ↦
            let it = there whole.0 whole.1 whole.3 in
            let found : slice_get (log_of (slice_get w.members whole.0)) place ≡ Some it.1 = log_there w whole.0 it.0 place it.1 it.2 it.3 in
            let seen : whole_at (log_seen it.0.durable.log) (suc place) ≡ true = subst (λ log. whole_at log (suc place) ≡ true) it.5 whole.4 in
            let held : is_whole it.1.form ≡ true = sym (ap is_whole_entry it.3) ∙ sym (whole_at_seen it.0.durable.log (suc place)) ∙ seen in
            inl (whole.0, whole.2, held_as is_whole command.term it.1 _ found it.4 held)
        | inr any_many ↦ by_parts any_many
      ]

  pub rebuilds : majority_of w.shape ≤ count_by who (known.members w.shape) → Rebuilds w who place command
  rebuilds many = record {
    stand = stand_there;
    enough = enough (subst (λ s. majority_of s ≤ count_by who (known.members s)) a.of_shape many);
  }

pub rebuilds_committed : {shape : Shape} {h : protocol.History} {w : World} → Reached shape.faults h → WorldAgrees shape h w → RebuildsCommitted w
rebuilds_committed reached a who place command many listed = rebuilds reached a who place command listed many
