-- Say: what a leader sends is a stretch of its log, which is the one that history has for its term.
use Rattle.std.proofs.Common.{◌≡◌, ◌≢◌, ℕ, zero, suc, ◌+◌, ◌-◌, ◌<◌, ◌≤◌, ◌⊎◌, List, [], ◌∷◌, length, drop, take, map, filter, refl, sym, ap, subst, ◌∙◌, arith, length-drop, length-take-le, ◌==◌, Bool, true, not}
use Rattle.std.specs.List.{All}
use Rattle.std.proofs.lemmas.Bool.{not-true, eqb-false}
use Rattle.std.proofs.lemmas.List.{length-map, take-map}
use Rattle.std.proofs.lemmas.List.Elements.{All-filter, All-map, All-weaker, filter_passes}
use Rattle.craft_base.specs.Knowledge.{members}
use Rattle.craft_base.specs.Shape.{Shape}
use Rattle.craft_base.specs.declared.command.Entry.{Entry}
use Rattle.entry_frames.specs.Logs as node
use Rattle.entry_frames.specs.declared.role.Role.TheVariants.{Leader}
use Rattle.coded_append.specs.Batches.{before_part, coded_batch, sent_to, whole_batch}
use Rattle.coded_append.specs.declared.modes.Mode.{Mode}
use Rattle.coded_append.specs.declared.modes.Mode.TheVariants.{Coded, Complete}
use Rattle.world_model.specs.Nodes.{Node}
use Rattle.world_model.specs.Rules.Acts.{others}
use Rattle.world_model.specs.Rules.Say.{append_if_any, append_to, append_with, appends_to_others, batch_for, batch_in, mode_of_leader, start_of}
use Rattle.protocol.specs.History as protocol
use Rattle.protocol.specs.Invariants.{Sound}
use Rattle.protocol.specs.Logs.{Same, term_at}
use Rattle.protocol.specs.Moves.{Reached}
use Rattle.protocol.proofs.Messages.{leader_commit}
use Rattle.protocol.proofs.Runs.{sound_reached}
use Rattle.protocol.proofs.Slots.{term_at-take}
use Rattle.bridge.specs.Views.{log_seen, role_seen}
use Rattle.bridge.specs.Agreement.{AppendAgrees, MessageAgrees, NodeAgrees}
use Rattle.world_model.proofs.Ranges.Batches.{sent_term}
use Rattle.bridge.proofs.Batches.{IsFirst, batch_first, before_part_first, first_trans, whole_batch_first}
use Rattle.bridge.proofs.Starts.{starts_within}
use Rattle.bridge.proofs.Steps.{sends_none, sends_one}
use Rattle.bridge.proofs.Stretches.{term_at-drop}
use Rattle.bridge.proofs.Views.{drop_seen, length_seen, take_seen, term_at_seen}

-- an entry of the batch is that of the log, so much further on
batch_term :
    (log batch : List Entry) (prev place : ℕ) → IsFirst (drop prev log) batch → 0 < place → place ≤ length batch →
    term_at (log_seen batch) place ≡ term_at (log_seen log) (prev + place)
batch_term log batch prev place first from le =
    ap (λ entries. term_at (log_seen entries) place) first.is
    ∙ ap (λ slots. term_at slots place) (take_seen (length batch) (drop prev log))
    ∙ term_at-take (length batch) (log_seen (drop prev log)) place le
    ∙ ap (λ slots. term_at slots place) (drop_seen prev log)
    ∙ term_at-drop prev (log_seen log) place (prev + place) from refl

-- no more entries than stand behind an index of the log, with the terms of those
record IsStretchOf (log : List Entry) (prev : ℕ) (batch : List Entry) : Type 0 where
  fits : length batch ≤ length (drop prev log)
  terms : (place : ℕ) → 0 < place → place ≤ length batch → term_at (log_seen batch) place ≡ term_at (log_seen log) (prev + place)

-- entries of the same terms have them wherever they stand
mapped_term :
    (f : Entry → Entry) → ((entry : Entry) → (f entry).term ≡ entry.term) → (entries : List Entry) (place : ℕ) →
    term_at (log_seen (map f entries)) place ≡ term_at (log_seen entries) place
unfolding term_at
mapped_term f same entries zero = refl
mapped_term f same [] (suc place) = refl
mapped_term f same (entry ∷ entries) (suc zero) = same entry
mapped_term f same (entry ∷ entries) (suc (suc place)) = mapped_term f same entries (suc place)

whole_stretch : (need : ℕ) (log : List Entry) (start : ℕ) → IsStretchOf log (start - 1) (whole_batch need log start)
whole_stretch need log start =
    let first : IsFirst (drop (start - 1) log) (whole_batch need log start) = whole_batch_first need log start in
    record { fits = first.fits; terms = λ place from within. batch_term log (whole_batch need log start) (start - 1) place first from within }

coded_stretch : (need receiver : ℕ) (log : List Entry) (start : ℕ) → IsStretchOf log (start - 1) (coded_batch need receiver log start)
coded_stretch need receiver log start =
    let behind : List Entry = drop (start - 1) log in
    let front : List Entry = before_part behind in
    let send : Entry → Entry = sent_to need receiver in
    let batch : List Entry = coded_batch need receiver log start in
    let first : IsFirst (map send front) batch = batch_first need (map send front) in
    let many : length (map send front) ≡ length front = length-map front send in
    let taken : List Entry = take (length batch) front in
    let long : length taken ≡ length batch = length-take-le (length batch) front (omega (arith, first.fits, many)) in
    let of_front : IsFirst front taken = record { fits = omega (arith, first.fits, many, long); is = ap (λ k. take k front) (sym long) } in
    let of_log : IsFirst behind taken = first_trans behind front taken (before_part_first behind) of_front in
    let is : batch ≡ map send taken = first.is ∙ take-map send (length batch) front in record {
      fits = omega (arith, of_log.fits, long);
      terms = λ place from within.
          ap (λ entries. term_at (log_seen entries) place) is ∙ mapped_term send (sent_term need receiver) taken place
          ∙ batch_term log taken (start - 1) place of_log from (omega (arith, within, long));
    }

stretch_in : (mode : Mode) (need receiver : ℕ) (log : List Entry) (start : ℕ) → IsStretchOf log (start - 1) (batch_in mode need receiver log start)
stretch_in Coded need receiver log start = coded_stretch need receiver log start
stretch_in Complete need receiver log start = whole_stretch need log start

module _
    {shape : Shape} {g : protocol.History} {member : ℕ} {n : Node} (reached : Reached shape.faults g) (a : NodeAgrees shape g member n)
    (leads : n.volatile.role ≡ Leader) where
  leading_sound : Sound shape.faults g
  leading_sound = sound_reached shape.faults g reached

  leading_role : g.role member ≡ protocol.Leading
  leading_role = a.role ∙ ap role_seen leads

  -- the leader's log is the one that history has for its term
  pub leading_log : Same (log_seen n.durable.log) (g.led n.durable.term)
  leading_log = subst (λ log. Same log (g.led n.durable.term)) a.log
      (subst (λ t. Same (g.log member) (g.led t)) a.term (leading_sound.logs.leading member leading_role).1)

  stretch_agrees :
      (prev : ℕ) (batch : List Entry) → prev ≤ length n.durable.log → IsStretchOf n.durable.log prev batch →
      AppendAgrees g n.durable.term prev (node.term_at n.durable.log prev) n.durable.commit batch
  stretch_agrees prev batch le stretch =
      let log = n.durable.log in
      let seen : length (log_seen log) ≡ length log = length_seen log in
      let behind : length (drop prev log) ≡ length log - prev = length-drop prev log in
      let fits : length batch ≤ length (drop prev log) = stretch.fits in
      let long : length (log_seen log) ≡ length (g.led n.durable.term) = leading_log.long in
      record {
        began = subst (λ t. g.began t ≡ true) a.term (leading_sound.logs.leading member leading_role).0;
        within = omega (arith, seen, behind, fits, long, le);
        before = sym ((leading_log.agree).same prev (omega (arith, seen, le))) ∙ term_at_seen log prev;
        terms = λ place from within.
            stretch.terms place from within
            ∙ (leading_log.agree).same (prev + place) (omega (arith, seen, behind, fits, le, within));
        commits =
            subst (λ t. (n.durable.commit ≤ g.base t) ⊎ (n.durable.commit ≤ g.decided t)) a.term
            (subst (λ c. (c ≤ g.base (g.term member)) ⊎ (c ≤ g.decided (g.term member))) a.commit
            (leader_commit shape.faults g leading_sound member leading_role));
      }

module _
    {shape : Shape} {g : protocol.History} {member : ℕ} {n : Node} (reached : Reached shape.faults g) (a : NodeAgrees shape g member n)
    (leads : n.volatile.role ≡ Leader) where
  pub append_to_agrees : (receiver : ℕ) → n.me ≢ receiver → MessageAgrees g (append_to n receiver)
  append_to_agrees receiver apart =
      let within : start_of n receiver ≤ length n.durable.log + 1 = starts_within n leads a.knows receiver in
      record {
        apart = apart;
        body_agrees =
            stretch_agrees reached a leads (start_of n receiver - 1) (batch_for n receiver (start_of n receiver)) (omega (arith, within))
            (stretch_in (mode_of_leader n) n.shape.need receiver n.durable.log (start_of n receiver));
      }

  -- to each other member
  each_agrees : All (λ receiver. MessageAgrees g (append_to n receiver)) (others n)
  each_agrees =
      let each : (receiver : ℕ) → not (receiver == n.me) ≡ true → MessageAgrees g (append_to n receiver) =
      λ receiver passes. append_to_agrees receiver (λ e. eqb-false receiver n.me (not-true _ passes) (sym e)) in
      All-weaker (λ receiver. not (receiver == n.me) ≡ true) (λ receiver. MessageAgrees g (append_to n receiver)) each (others n)
      (filter_passes (λ receiver. not (receiver == n.me)) (members n.shape))

  pub appends_agree : All (MessageAgrees g) (appends_to_others n)
  appends_agree = All-map (MessageAgrees g) (append_to n) (others n) each_agrees

  -- and to those of them that pass a test
  pub some_appends_agree : (test : ℕ → Bool) → All (MessageAgrees g) (map (append_to n) (filter test (others n)))
  some_appends_agree test =
      All-map (MessageAgrees g) (append_to n) (filter test (others n))
      (All-filter test (λ receiver. MessageAgrees g (append_to n receiver)) (others n) each_agrees)

  append_with_agrees : (receiver : ℕ) (batch : List Entry) → n.me ≢ receiver → All (MessageAgrees g) (append_with n receiver batch)
  append_with_agrees receiver [] apart = sends_none g
  append_with_agrees receiver (entry ∷ entries) apart = sends_one g (append_to n receiver) (append_to_agrees receiver apart)

  pub append_if_any_agrees : (receiver : ℕ) → n.me ≢ receiver → All (MessageAgrees g) (append_if_any n receiver)
  append_if_any_agrees receiver apart =
      append_with_agrees receiver (batch_for n receiver (start_of n receiver)) apart
