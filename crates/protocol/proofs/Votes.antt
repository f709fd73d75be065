-- Votes: each move keeps that a member votes once in a term, and so that a term has one winner.
use Rattle.std.proofs.Common.{◌≡◌, ℕ, suc, ◌+◌, ◌<◌, ◌≤◌, ◌⊎◌, true, refl, sym, inl, inr, arith, Option, Some, None, le_trans, ◌∙◌}
use Rattle.std.proofs.lemmas.Bool.{ne_eqb, true≢false, false_from_ne_true}
use Rattle.protocol.specs.Counting.{count, members, put, put_at}
use Rattle.protocol.specs.History.{History, Follower, Candidate, Preparing, Leading}
use Rattle.protocol.specs.Words.{is_for, votes}
use Rattle.protocol.specs.Moves.{Move, Raise, Stand, Cast, Win, Rebuild, Begin, Propose, Accept, Acknowledge, Answer, Decide, Learn, Restart, Allowed, after}
use Rattle.protocol.specs.Invariants.{Votes}
use Rattle.protocol.proofs.Counting.{count_more, count_found, overlap, Equal, Apart, same_or_other, test_same, put_all, put_at_all, put_elsewhere, cond_same, is_for-Some, is_for_from}

-- two members that each have more than half of a term's votes are one
pub one_majority : (F : ℕ) (h : History) (t u v : ℕ) → F + 1 ≤ votes F h t u → F + 1 ≤ votes F h t v → u ≡ v
one_majority F h t u v a b =
    let voter : (j : ℕ) × (j < members F) × (is_for u (h.voted t j) ≡ true) × (is_for v (h.voted t j) ≡ true) =
    overlap (λ j. is_for u (h.voted t j)) (λ j. is_for v (h.voted t j)) (members F) (omega arith) in
    let one : h.voted t voter.0 ≡ Some u = is_for-Some u (h.voted t voter.0) voter.2 in
    let two : h.voted t voter.0 ≡ Some v = is_for-Some v (h.voted t voter.0) voter.3 in
    cc

-- who won a term is the only one
pub one_winner : (F : ℕ) (h : History) → Votes F h → (t u v : ℕ) → h.won t u ≡ true → h.won t v ≡ true → u ≡ v
one_winner F h s t u v a b = one_majority F h t u v (s.won t u a) (s.won t v b)

-- who won voted for itself
pub self_vote : (F : ℕ) (h : History) → Votes F h → (t u : ℕ) → h.won t u ≡ true → h.voted t u ≡ Some u
self_vote F h s t u w =
    let voter : (j : ℕ) × (j < members F) × (is_for u (h.voted t j) ≡ true) =
    count_found (λ j. is_for u (h.voted t j)) (members F) (omega (arith, s.won t u w)) in
    s.candidate t voter.0 u (is_for-Some u (h.voted t voter.0) voter.2)

-- a vote is never of a later term than its member's
pub vote_past : (F : ℕ) (h : History) → Votes F h → (t j c : ℕ) → h.voted t j ≡ Some c → t ≤ h.term j
vote_past F h s t j c e = elim (Rattle.std.proofs.lemmas.Bool.cases_lt (h.term j) t) [
  | inl lt ↦ let none : h.voted t j ≡ None = s.later t j lt in cc
  | inr le ↦ le
]

-- a vote where there was none, or the same, keeps every vote
pub vote_added :
    (voted : ℕ → ℕ → Option ℕ) (t j c : ℕ) → (voted t j ≡ None) ⊎ (voted t j ≡ Some c) →
    (u k d : ℕ) → voted u k ≡ Some d → put_at t j (Some c) voted u k ≡ Some d
vote_added voted t j c free u k d =
    put_at_all (λ u k x. voted u k ≡ Some d → x ≡ Some d) t j (Some c) voted
    (λ e. elim free [ inl none ↦ cc | inr it ↦ cc ]) (λ u k n e. e) u k

-- after it, who has a vote still voted for itself
candidate_added :
    (voted : ℕ → ℕ → Option ℕ) (t j c : ℕ) → (voted t j ≡ None) ⊎ (voted t j ≡ Some c) →
    put_at t j (Some c) voted t c ≡ Some c → ((u k d : ℕ) → voted u k ≡ Some d → voted u d ≡ Some d) →
    (u k d : ℕ) → put_at t j (Some c) voted u k ≡ Some d → put_at t j (Some c) voted u d ≡ Some d
candidate_added voted t j c free own s u k d =
    put_at_all (λ u k x. x ≡ Some d → put_at t j (Some c) voted u d ≡ Some d) t j (Some c) voted
    (λ e. let q : c ≡ d = cc in rw (← q) own)
    (λ u k n e. vote_added voted t j c free u d d (s u k d e)) u k

-- more votes leave who won with more than half
pub votes_more :
    (F : ℕ) (old new : ℕ → Option ℕ) (c : ℕ) → ((k : ℕ) → old k ≡ Some c → new k ≡ Some c) →
    count (λ j. is_for c (old j)) (members F) ≤ count (λ j. is_for c (new j)) (members F)
votes_more F old new c kept =
    count_more (λ j. is_for c (old j)) (λ j. is_for c (new j)) (members F)
    (λ j lt e. is_for_from c (new j) (kept j (is_for-Some c (old j) e)))

pub raise_votes : (F : ℕ) (h : History) (j t : ℕ) → h.term j < t → Votes F h → Votes F (after h (Raise j t))
raise_votes F h j t lt s = record {
  present = λ k. elim (same_or_other k j) [ Equal e q ↦ rw (e, q) (sym (s.later t j lt)) | Apart e n ↦ rw e (s.present k) ];
  later = λ u k. elim (same_or_other k j) [ Equal e q ↦ rw (e, q) (λ l. s.later u j (omega arith)) | Apart e n ↦ rw e (s.later u k) ];
  candidate = s.candidate;
  won = s.won;
  standing = λ k e. let r = put_elsewhere j Follower h.role k Candidate (λ c. cc) e in rw (ne_eqb k j r.0) (s.standing k r.1);
  preparing = λ k e. let r = put_elsewhere j Follower h.role k Preparing (λ c. cc) e in rw (ne_eqb k j r.0) (s.preparing k r.1);
  leading = λ k e. let r = put_elsewhere j Follower h.role k Leading (λ c. cc) e in rw (ne_eqb k j r.0) (s.leading k r.1);
}

pub stand_votes : (F : ℕ) (h : History) (j : ℕ) → Votes F h → Votes F (after h (Stand j))
stand_votes F h j s =
    let t : ℕ = suc (h.term j) in
    let free : (h.voted t j ≡ None) ⊎ (h.voted t j ≡ Some j) = inl (s.later t j (omega arith)) in
    record {
      present = λ k. elim (same_or_other k j) [ Equal e q ↦ rw (e, test_same (suc (h.term j))) refl | Apart e n ↦ rw (e, cond_same) (s.present k) ];
      later = λ u k. elim (same_or_other k j) [
        | Equal e q ↦ rw e (λ l. rw (ne_eqb u (suc (h.term j)) (λ x. omega arith)) (rw q (s.later u j (omega arith))))
        | Apart e n ↦ rw (e, cond_same) (s.later u k)
      ];
      candidate = candidate_added h.voted t j j free (rw (test_same t, test_same j) refl) s.candidate;
      won = λ u c w. le_trans (s.won u c w) (votes_more F (h.voted u) (put_at t j (Some j) h.voted u) c (λ k. vote_added h.voted t j j free u k c));
      standing = λ k. elim (same_or_other k j) [
        | Equal e q ↦ rw (e, test_same (suc (h.term j))) (λ r. rw q (refl, false_from_ne_true (h.won t j) (λ w. let a : h.voted t j ≡ Some j = self_vote F h s t j w in let b : h.voted t j ≡ None = s.later t j (omega arith) in cc)))
        | Apart e n ↦ rw (e, cond_same) (s.standing k)
      ];
      preparing = λ k e. let r = put_elsewhere j Candidate h.role k Preparing (λ c. cc) e in rw (ne_eqb k j r.0) (s.preparing k r.1);
      leading = λ k e. let r = put_elsewhere j Candidate h.role k Leading (λ c. cc) e in rw (ne_eqb k j r.0) (s.leading k r.1);
    }

pub cast_votes : (F : ℕ) (h : History) (j c : ℕ) → Allowed F h (Cast j c) → Votes F h → Votes F (after h (Cast j c))
cast_votes F h j c a s =
    let t : ℕ = h.term j in
    let free : (h.voted t j ≡ None) ⊎ (h.voted t j ≡ Some c) =
    elim a.0 [ inl none ↦ inl (sym (s.present j) ∙ none) | inr it ↦ inr (sym (s.present j) ∙ it) ] in
    record {
      present = λ k. elim (same_or_other k j) [ Equal e q ↦ rw (e, q, test_same (h.term j)) refl | Apart e n ↦ rw (e, cond_same) (s.present k) ];
      later = λ u k l. elim (same_or_other k j) [
        | Equal e q ↦ rw (ne_eqb u (h.term j) (λ x. let y : h.term k ≡ h.term j = rw q refl in omega arith)) (s.later u k l)
        | Apart e n ↦ rw (e, cond_same) (s.later u k l)
      ];
      candidate = candidate_added h.voted t j c free (vote_added h.voted t j c free t c c a.1) s.candidate;
      won = λ u d w. le_trans (s.won u d w) (votes_more F (h.voted u) (put_at t j (Some c) h.voted u) d (λ k. vote_added h.voted t j c free u k d));
      standing = λ k e. let r = s.standing k e in (vote_added h.voted t j c free (h.term k) k k r.0, r.1);
      preparing = s.preparing;
      leading = s.leading;
    }

pub win_votes : (F : ℕ) (h : History) (u : ℕ) → Allowed F h (Win u) → Votes F h → Votes F (after h (Win u))
win_votes F h u a s = record {
  present = s.present;
  later = s.later;
  candidate = s.candidate;
  won = put_at_all (λ t v b. b ≡ true → F + 1 ≤ votes F h t v) (h.term u) u true h.won (λ e. a.1) (λ t v n. s.won t v);
  standing = λ k e. let r = put_elsewhere u Preparing h.role k Candidate (λ c. cc) e in rw (ne_eqb k u r.0, cond_same) (s.standing k r.1);
  preparing = λ k. elim (same_or_other k u) [ Equal e q ↦ rw (e, q, test_same (h.term u)) (λ x. refl) | Apart e n ↦ rw (e, cond_same) (s.preparing k) ];
  leading = λ k e. let r = put_elsewhere u Preparing h.role k Leading (λ c. cc) e in rw (ne_eqb k u r.0, cond_same) (s.leading k r.1);
}

pub begin_votes : (F : ℕ) (h : History) (u : ℕ) → h.role u ≡ Preparing → Votes F h → Votes F (record h { role = put u Leading h.role })
begin_votes F h u p s = record {
  present = s.present;
  later = s.later;
  candidate = s.candidate;
  won = s.won;
  standing = λ k e. let r = put_elsewhere u Leading h.role k Candidate (λ c. cc) e in s.standing k r.1;
  preparing = λ k e. let r = put_elsewhere u Leading h.role k Preparing (λ c. cc) e in s.preparing k r.1;
  leading = put_all (λ k r. r ≡ Leading → h.won (h.term k) k ≡ true) u Leading h.role (λ e. s.preparing u p) (λ k n. s.leading k);
}

pub follow_votes : (F : ℕ) (h : History) (j : ℕ) → Votes F h → Votes F (record h { role = put j Follower h.role })
follow_votes F h j s = record {
  present = s.present;
  later = s.later;
  candidate = s.candidate;
  won = s.won;
  standing = λ k e. let r = put_elsewhere j Follower h.role k Candidate (λ c. cc) e in s.standing k r.1;
  preparing = λ k e. let r = put_elsewhere j Follower h.role k Preparing (λ c. cc) e in s.preparing k r.1;
  leading = λ k e. let r = put_elsewhere j Follower h.role k Leading (λ c. cc) e in s.leading k r.1;
}

-- each move keeps what is said of votes, and asks nothing else for it
pub votes_after : (F : ℕ) (h : History) (move : Move) → Allowed F h move → Votes F h → Votes F (after h move)
votes_after F h (Raise j t) a s = raise_votes F h j t a s
votes_after F h (Stand j) a s = stand_votes F h j s
votes_after F h (Cast j c) a s = cast_votes F h j c a s
votes_after F h (Win u) a s = win_votes F h u a s
votes_after F h (Rebuild j log) a s = s
votes_after F h (Begin u log) a s = begin_votes F h u a.0 s
votes_after F h (Propose u log need) a s = s
votes_after F h (Accept j log) a s = follow_votes F h j s
votes_after F h (Acknowledge j reach whole) a s = s
votes_after F h (Answer j from) a s = s
votes_after F h (Decide u n) a s = s
votes_after F h (Learn j n) a s = s
votes_after F h (Restart j) a s = follow_votes F h j s
