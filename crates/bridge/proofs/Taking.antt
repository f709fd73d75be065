-- What an append makes of a log: what both have stays, and what it lacks comes from the leader's log.
use Rattle.std.proofs.Common.{◌≡◌, ◌≢◌, ℕ, zero, suc, ◌+◌, ◌-◌, ◌<◌, ◌≤◌, ◌==◌, true, List, [], ◌∷◌, ◌++◌, length, take, drop, sym, ap, subst, ◌∙◌, inl, inr, arith, length-append, length-drop, length-take-le}
use Rattle.std.proofs.lemmas.Bool.{cond_both, cases_lt, eqb-true, eqb-false}
use Rattle.craft_base.specs.declared.command.Entry.{Entry}
use Rattle.world_model.specs.Rules.Append.{common}
use Rattle.protocol.specs.Logs.{Slot, Agree, IsFront, Same, term_at, whole_at}
use Rattle.protocol.specs.Moves.{Taken, Kept, Longer, Replaced}
use Rattle.protocol.proofs.Logs.{agree_less, agree_trans, same_agrees}
use Rattle.protocol.proofs.Slots.{front_append, term_at-append, term_at-take, whole_at-append, whole_at-take}
use Rattle.bridge.specs.Views.{log_seen}
use Rattle.bridge.proofs.Stretches.{term_at-behind, term_at-drop}
use Rattle.bridge.proofs.Views.{drop_seen, length_seen}

-- ---- how many entries two lists have in common

-- so many of their first have the same terms, and the next ones, where both have one, don't
pub record IsCommon (own entries : List Entry) (same : ℕ) : Type 0 where
  pub in_own : same ≤ length own
  pub in_sent : same ≤ length entries
  pub terms : (k : ℕ) → 0 < k → k ≤ same → term_at (log_seen own) k ≡ term_at (log_seen entries) k
  pub differ : same < length own → same < length entries → term_at (log_seen own) (suc same) ≢ term_at (log_seen entries) (suc same)

module _ (one other : Entry) (own entries : List Entry) where
  more_terms :
      (same : ℕ) → one.term ≡ other.term → ((k : ℕ) → 0 < k → k ≤ same → term_at (log_seen own) k ≡ term_at (log_seen entries) k) →
      (k : ℕ) → 0 < k → k ≤ suc same → term_at (log_seen (one ∷ own)) k ≡ term_at (log_seen (other ∷ entries)) k
  unfolding term_at
  more_terms same e rest zero from le = absurd (omega (arith, from))
  more_terms same e rest (suc zero) from le = e
  more_terms same e rest (suc (suc k)) from le = rest (suc k) (omega arith) (omega (arith, le))

  differ_later :
      (same : ℕ) → term_at (log_seen own) (suc same) ≢ term_at (log_seen entries) (suc same) →
      term_at (log_seen (one ∷ own)) (suc (suc same)) ≢ term_at (log_seen (other ∷ entries)) (suc (suc same))
  unfolding term_at
  differ_later same apart = apart

  differ_first : one.term ≢ other.term → term_at (log_seen (one ∷ own)) 1 ≢ term_at (log_seen (other ∷ entries)) 1
  unfolding term_at
  differ_first apart = apart

pub common_is : (own entries : List Entry) → IsCommon own entries (common own entries)
common_is [] entries = record {
  in_own = omega arith;
  in_sent = omega arith;
  terms = λ k from le. absurd (omega (arith, from, le));
  differ = λ lt other. absurd (omega (arith, lt));
}
common_is (one ∷ own) [] = record {
  in_own = omega arith;
  in_sent = omega arith;
  terms = λ k from le. absurd (omega (arith, from, le));
  differ = λ lt other. absurd (omega (arith, other));
}
common_is (one ∷ own) (other ∷ entries) =
    let rest = common_is own entries in
    let in_own : common own entries ≤ length own = rest.in_own in
    let in_sent : common own entries ≤ length entries = rest.in_sent in
    cond_both (one.term == other.term) (suc (common own entries)) 0 (IsCommon (one ∷ own) (other ∷ entries))
    (λ e. record {
      in_own = omega (arith, in_own);
      in_sent = omega (arith, in_sent);
      terms = more_terms one other own entries (common own entries) (eqb-true one.term other.term e) rest.terms;
      differ = λ lt less. differ_later one other own entries (common own entries) (rest.differ (omega (arith, lt)) (omega (arith, less)));
    })
    (λ e. record {
      in_own = omega arith;
      in_sent = omega arith;
      terms = λ k from le. absurd (omega (arith, from, le));
      differ = λ lt less. differ_first one other own entries (eqb-false one.term other.term e);
    })

-- ---- what the log becomes

-- the log changes as an append of the leader allows, and is then the leader's up to an index
pub record IsTaken (old new led : List Slot) (reach : ℕ) : Type 0 where
  pub taken : Taken old new led
  pub marks : (i : ℕ) → Agree old led i → whole_at old i ≡ true → whole_at new i ≡ true
  pub agree : Agree new led reach

module _
    (log entries : List Entry) (led : List Slot) (prev same : ℕ) (before : Agree (log_seen log) led prev) (within : prev + length entries ≤ length led)
    (terms : (place : ℕ) → 0 < place → place ≤ length entries → term_at (log_seen entries) place ≡ term_at led (prev + place))
    (both : IsCommon (drop prev log) entries same) (now : List Slot) (kept : Same (log_seen log) now)
    (whole : (i : ℕ) → whole_at (log_seen log) i ≡ true → whole_at now i ≡ true) where
  -- a term of the log behind `prev`, read in what stands there
  own_term : (k i : ℕ) → 0 < k → i ≡ prev + k → term_at (log_seen (drop prev log)) k ≡ term_at (log_seen log) i
  own_term k i from e = ap (λ slots. term_at slots k) (drop_seen prev log) ∙ term_at-drop prev (log_seen log) k i from e

  own_length : prev + same ≤ length (log_seen log)
  own_length =
      let left : prev ≤ length (log_seen log) = before.left in
      let behind : length (drop prev log) ≡ length log - prev = length-drop prev log in
      let fits : same ≤ length (drop prev log) = both.in_own in
      let long : length (log_seen log) ≡ length log = length_seen log in
      omega (arith, left, behind, fits, long)

  -- what both have the leader has
  shared : Agree (log_seen log) led (prev + same)
  shared =
      let in_sent : same ≤ length entries = both.in_sent in
      record {
        left = own_length;
        right = omega (arith, within, in_sent);
        same = λ i le. elim (cases_lt prev i) [
          | inl behind ↦
              let k : ℕ = i - prev in
              let at_k : i ≡ prev + k = omega (arith, behind) in
              let from : 0 < k = omega (arith, behind) in
              let in_both : k ≤ same = omega (arith, behind, le) in
              sym (own_term k i from at_k) ∙ both.terms k from in_both ∙ terms k from (omega (arith, in_both, in_sent)) ∙ ap (term_at led) (sym at_k)
          | inr up_to ↦ before.same i (omega (arith, up_to))
        ];
      }

  -- the message has nothing that the log lacks
  pub kept_taken : length entries ≤ same → IsTaken (log_seen log) now led (prev + length entries)
  kept_taken short = record {
    taken = Kept kept;
    marks = λ i agree w. whole i w;
    agree = same_agrees kept (agree_less (prev + length entries) (omega (arith, short)) shared);
  }

  -- what the log lacks stands behind what both have
  joined :
      (front : List Slot) → length front ≡ prev + same → ((i : ℕ) → i ≤ prev + same → term_at front i ≡ term_at (log_seen log) i) →
      (length (front ++ log_seen (drop same entries)) ≡ prev + length entries)
      × Agree (front ++ log_seen (drop same entries)) led (prev + length entries)
  joined front long fronts =
      let more = log_seen (drop same entries) in
      let in_sent : same ≤ length entries = both.in_sent in
      let rest : length (log_seen (drop same entries)) ≡ length entries - same = length_seen (drop same entries) ∙ length-drop same entries in
      let all : length (front ++ log_seen (drop same entries)) ≡ prev + length entries = omega (arith, length-append front more, long, rest, in_sent) in (
        all,
        record {
          left = omega (arith, all);
          right = within;
          same = λ i le. elim (cases_lt (prev + same) i) [
            | inl behind ↦
                let k : ℕ = i - (prev + same) in
                let place : ℕ = i - prev in
                let from : 0 < k = omega (arith, behind) in
                let at_k : i ≡ length front + k = omega (arith, behind, long) in
                let at_place : place ≡ same + k = omega (arith, behind) in
                let place_at : prev + place ≡ i = omega (arith, behind) in
                term_at-behind front more k i from at_k
                ∙ ap (λ slots. term_at slots k) (drop_seen same entries)
                ∙ term_at-drop same (log_seen entries) k place from at_place
                ∙ terms place (omega (arith, behind)) (omega (arith, behind, le))
                ∙ ap (term_at led) place_at
            | inr up_to ↦
                term_at-append front more i (omega (arith, up_to, long)) ∙ fronts i up_to ∙ shared.same i up_to
          ];
        },
      )

  -- the log ends where both do
  pub longer_taken : length log ≤ prev + same → IsTaken (log_seen log) (now ++ log_seen (drop same entries)) led (prev + length entries)
  longer_taken ends =
      let more = log_seen (drop same entries) in
      let long : length (log_seen log) ≡ length log = length_seen log in
      let same_long : length (log_seen log) ≡ length now = kept.long in
      let fits : prev + same ≤ length (log_seen log) = own_length in
      let new = joined now (omega (arith, ends, long, same_long, fits)) (λ i le. sym ((kept.agree).same i (omega (arith, fits, le)))) in
      let behind : IsFront now (now ++ more) = front_append now more in
      record {
        taken = Longer (agree_trans kept.agree (agree_less (length (log_seen log)) (omega (arith, same_long)) behind))
            (subst (Agree (now ++ more) led) (sym new.0) new.1);
        marks = λ i agree w.
            let left : i ≤ length (log_seen log) = agree.left in
            whole_at-append now more i (omega (arith, left, same_long)) ∙ whole i w;
        agree = new.1;
      }

  -- the two differ behind what both have
  pub replaced_taken :
      prev + same < length log → same < length entries →
      IsTaken (log_seen log) (take (prev + same) now ++ log_seen (drop same entries)) led (prev + length entries)
  replaced_taken more_own more_sent =
      let more = log_seen (drop same entries) in
      let long : length (log_seen log) ≡ length log = length_seen log in
      let same_long : length (log_seen log) ≡ length now = kept.long in
      let front_long : length (take (prev + same) now) ≡ prev + same = length-take-le (prev + same) now (omega (arith, long, same_long, more_own)) in
      let new =
      joined (take (prev + same) now) front_long
      (λ i le. term_at-take (prev + same) now i le ∙ sym ((kept.agree).same i (omega (arith, le, long, more_own)))) in
      let all : length (take (prev + same) now ++ more) ≡ prev + length entries = new.0 in
      let behind : length (drop prev log) ≡ length log - prev = length-drop prev log in
      let own : term_at (log_seen (drop prev log)) (suc same) ≡ term_at (log_seen log) (suc (prev + same)) =
      own_term (suc same) (suc (prev + same)) (omega arith) (omega arith) in
      let sent : term_at (log_seen entries) (suc same) ≡ term_at led (suc (prev + same)) =
      terms (suc same) (omega arith) more_sent ∙ ap (term_at led) (omega arith) in
      let apart : term_at (log_seen log) (suc (prev + same)) ≢ term_at led (suc (prev + same)) =
      λ e. both.differ (omega (arith, behind, more_own)) more_sent (own ∙ e ∙ sym sent) in
      record {
        taken = Replaced (suc (prev + same)) (omega (arith, long, more_own)) (omega (arith, all, more_sent))
            (λ e. apart (e ∙ (new.1).same (suc (prev + same)) (omega (arith, more_sent)))) (subst (Agree (take (prev + same) now ++ more) led) (sym new.0) new.1);
        marks = λ i agree w. elim (cases_lt (prev + same) i) [
          | inl past ↦ absurd (apart (agree.same (suc (prev + same)) past))
          | inr up_to ↦
              whole_at-append (take (prev + same) now) more i (omega (arith, front_long, up_to))
              ∙ whole_at-take (prev + same) now i up_to ∙ whole i w
        ];
        agree = new.1;
      }
