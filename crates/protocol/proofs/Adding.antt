-- An entry that a leader adds: no need that is in use changes, and where a later term has a winner it is closed at birth.
use Rattle.std.proofs.Common.{◌≡◌, ℕ, suc, ◌<◌, ◌≤◌, ◌⊎◌, true, List, length, refl, sym, ◌∙◌, ap, subst, inl, inr, arith}
use Rattle.std.proofs.lemmas.Bool.{cases_lt}
use Rattle.protocol.specs.Counting.{put, put_at, members}
use Rattle.protocol.specs.Logs.{Slot, Has, Agree, Same, Extends, term_at}
use Rattle.protocol.specs.History.{History, Leading}
use Rattle.protocol.specs.Words.{is_for, may_hold, may_hold_whole, need_at, Quorum, Open}
use Rattle.protocol.specs.Moves.{Propose, Adds, after}
use Rattle.protocol.specs.Invariants.{Logs, Acks, Sound}
use Rattle.protocol.proofs.Counting.{Equal, Apart, same_or_other, put_at_all, overlap, is_for-Some}
use Rattle.protocol.proofs.Logs.{agree_sym, agree_trans, has_by, sound_match, extends_put}
use Rattle.protocol.proofs.Opening.{may_acked, open_majority}
use Rattle.protocol.proofs.Votes.{vote_past}

-- the leader's log grows by the entry
pub adds_extends : (h : History) → Logs h → (u : ℕ) (log : List Slot) → h.role u ≡ Leading → Adds h u log → Extends h.led (put (h.term u) log h.led)
adds_extends h s u log role a =
    let leads : Same (h.log u) (h.led (h.term u)) = (s.leading u role).1 in
    let long : length (h.log u) ≡ length (h.led (h.term u)) = leads.long in
    extends_put (h.term u) log h.led (rw (← long) (agree_sym (agree_trans (agree_sym a.front) leads.agree)))

pub adds_length : (h : History) → Logs h → (u : ℕ) (log : List Slot) → h.role u ≡ Leading → Adds h u log → length log ≡ suc (length (h.led (h.term u)))
adds_length h s u log role a =
    let long = ((s.leading u role).1).long in
    let longer = a.longer in
    omega arith

-- no need changes that was in use
pub need_same :
    (h : History) → Logs h → (u : ℕ) (log : List Slot) (need : ℕ) → h.role u ≡ Leading → Adds h u log → (t i : ℕ) → 0 < i →
    i ≤ length (h.led t) → need_at (after h (Propose u log need)) t i ≡ need_at h t i
need_same h s u log need role a t i from le =
    let x : Extends h.led (put (h.term u) log h.led) = adds_extends h s u log role a in
    let entry : Has (h.led t) i (term_at (h.led t) i) = record { from = from; within = le; here = refl } in
    let known : Agree (h.led t) (h.led (term_at (h.led t) i)) i = sound_match i (term_at (h.led t) i) (s.led t).0 entry in
    ap (λ (b : ℕ). put_at (h.term u) (length log) need h.need b i) (sym ((x t).same i le))
    ∙ put_at_all (λ b k y. ((b ≡ h.term u) × (k ≡ length log) → ⊥) → y ≡ h.need b k) (h.term u) (length log) need h.need
    (λ no. absurd (no (refl, refl))) (λ b k apart no. refl) (term_at (h.led t) i) i
    (λ both.
    let right : i ≤ length (h.led (term_at (h.led t) i)) = known.right in
    let same_log : length (h.led (term_at (h.led t) i)) ≡ length (h.led (h.term u)) = ap (λ (b : ℕ). length (h.led b)) both.0 in
    let last_index : i ≡ length log = both.1 in
    let long = adds_length h s u log role a in
    omega arith)

-- what is open now was open before, or is the new entry
pub open_propose :
    (F : ℕ) (h : History) → Logs h → (u : ℕ) (log : List Slot) (need : ℕ) → h.role u ≡ Leading → Adds h u log → (t n : ℕ) →
    Open F (after h (Propose u log need)) t n → Open F h t n ⊎ ((t ≡ h.term u) × (n ≡ length log))
open_propose F h s u log need role a t n o = elim (cases_lt (length (h.led t)) n) [
  | inl beyond ↦ elim (same_or_other t (h.term u)) [
    | Equal e q ↦ inr (
      q,
      let own : Has log n t = rw e at o.own in
          let within = own.within in
          let long = adds_length h s u log role a in
          let there : length (h.led t) ≡ length (h.led (h.term u)) = ap (λ (b : ℕ). length (h.led b)) q in
          omega arith,
    )
    | Apart e apart ↦ absurd (let own : Has (h.led t) n t = rw e at o.own in let within = own.within in omega arith)
  ]
  | inr le ↦ inl (record {
    own = has_by n t (agree_sym (x t)) le o.own;
    above = o.above;
    each = λ i lt ie.
        subst (Quorum F (may_hold_whole h t i) (may_hold h t i)) (need_same h s u log need role a t i (omega arith) (omega arith)) (o.each i lt ie);
  })
]
  where
    x : Extends h.led (put (h.term u) log h.led)
    x = adds_extends h s u log role a

-- the new entry is closed where a later term has a winner
pub late :
    (F : ℕ) (h : History) → Sound F h → (u : ℕ) (log : List Slot) (need : ℕ) → h.role u ≡ Leading → Adds h u log →
    Acks (after h (Propose u log need)) → (t n w v : ℕ) → t ≡ h.term u → n ≡ length log → t < w → h.won w v ≡ true →
    Open F (after h (Propose u log need)) t n → ⊥
late F h s u log need role a acks t n w v tq nq lt won o =
    let voter : (j : ℕ) × (j < members F) × (may_hold h t n j ≡ true) × (is_for v (h.voted w j) ≡ true) =
    overlap (may_hold h t n) (λ j. is_for v (h.voted w j)) (members F)
    (let m = open_majority F (after h (Propose u log need)) acks t n o in let c = s.votes.won w v won in omega arith) in
    let past : w ≤ h.term voter.0 = vote_past F h s.votes w voter.0 v (is_for-Some v (h.voted w voter.0) voter.3) in
    let reach : n ≤ h.ack t voter.0 = may_acked h t n voter.0 (omega arith) voter.2 in
    let within : h.ack t voter.0 ≤ length (h.led t) = s.acks.within t voter.0 in
    let there : length (h.led t) ≡ length (h.led (h.term u)) = ap (λ (b : ℕ). length (h.led b)) tq in
    let long = adds_length h s.logs u log role a in
    omega arith
