-- What may still be committed: the sets that may hold an entry only shrink, and what was counted stays within them.
use Rattle.std.proofs.Common.{◌≡◌, ℕ, ◌+◌, ◌<◌, ◌≤◌, Bool, true, ◌||◌, nat_le, length, inl, inr, arith, le_trans}
use Rattle.std.proofs.lemmas.Bool.{or_cases, or_left, or_right, leb-true, le-leb, cases_Bool}
use Rattle.protocol.specs.Counting.{count, members}
use Rattle.protocol.specs.Logs.{Has, Agree, term_at}
use Rattle.protocol.specs.History.{History}
use Rattle.protocol.specs.Words.{reaches, may_hold, may_hold_whole, Quorum, need_at, Counted, Open, Quiet}
use Rattle.protocol.specs.Invariants.{Logs, Acks, Core}
use Rattle.protocol.proofs.Counting.{count_more}
use Rattle.protocol.proofs.Logs.{has_by, agree_sym}

-- larger sets make a quorum where smaller ones do
pub quorum_more :
    (F : ℕ) (whole whole2 any any2 : ℕ → Bool) (need : ℕ) →
    ((j : ℕ) → whole j ≡ true → whole2 j ≡ true) → ((j : ℕ) → any j ≡ true → any2 j ≡ true) →
    Quorum F whole any need → Quorum F whole2 any2 need
quorum_more F whole whole2 any any2 need w a quorum = elim quorum [
  | inl h ↦ inl (le_trans h (count_more whole whole2 (members F) (λ j lt. w j)))
  | inr h ↦ inr (le_trans h (count_more any any2 (members F) (λ j lt. a j)))
]

-- what was counted is open
pub open_counted : (F : ℕ) (h : History) (t n : ℕ) → Counted F h t n → Open F h t n
open_counted F h t n c = record {
  own = c.own;
  above = c.above;
  each = λ i lt le.
      quorum_more F (λ j. h.held t j i) (may_hold_whole h t i) (reaches h t i) (may_hold h t i) (need_at h t i)
      (λ j e. or_left _ _ e) (λ j e. or_left _ _ e) (c.each i lt le);
}

may_term : (b : Bool) (x y t : ℕ) → x ≤ y → (b || nat_le y t) ≡ true → (b || nat_le x t) ≡ true
may_term b x y t le e = elim (or_cases b (nat_le y t) e) [
  | inl left ↦ or_left _ _ left
  | inr right ↦ or_right b (nat_le x t) (le-leb x t (le_trans le (leb-true y t right)))
]

-- terms that rise open nothing
pub open_term :
    (F : ℕ) (h : History) (term : ℕ → ℕ) → ((k : ℕ) → h.term k ≤ term k) → (t n : ℕ) →
    Open F (record h { term = term }) t n → Open F h t n
open_term F h term rises t n o = record {
  own = o.own;
  above = o.above;
  each = λ i lt le.
      quorum_more F (λ j. h.held t j i || nat_le (term j) t) (may_hold_whole h t i)
      (λ j. nat_le i (h.ack t j) || nat_le (term j) t) (may_hold h t i) (need_at h t i)
      (λ j. may_term (h.held t j i) (h.term j) (term j) t (rises j))
      (λ j. may_term (nat_le i (h.ack t j)) (h.term j) (term j) t (rises j))
      (o.each i lt le);
}

pub may_term_of :
    (h : History) (term : ℕ → ℕ) → ((k : ℕ) → h.term k ≤ term k) → (t n j : ℕ) →
    may_hold (record h { term = term }) t n j ≡ true → may_hold h t n j ≡ true
may_term_of h term rises t n j = may_term (nat_le n (h.ack t j)) (h.term j) (term j) t (rises j)

-- who may hold an entry of an earlier term acknowledged it
pub may_acked : (h : History) (t n j : ℕ) → t < h.term j → may_hold h t n j ≡ true → n ≤ h.ack t j
may_acked h t n j lt e = elim (or_cases (nat_le n (h.ack t j)) (nat_le (h.term j) t) e) [
  | inl left ↦ leb-true n (h.ack t j) left
  | inr right ↦ absurd (let le : h.term j ≤ t = leb-true (h.term j) t right in omega arith)
]

-- and still has it
pub acked_agrees :
    (F : ℕ) (h : History) → Core F h → (t n j : ℕ) → t ≤ h.term j → Open F h t n → n ≤ h.ack t j → Agree (h.log j) (h.led t) n
acked_agrees F h s t n j le o reach = let k = s.stored t n j le (inl o) in k.agree n (omega arith) reach

pub acked_has :
    (F : ℕ) (h : History) → Core F h → (t n j : ℕ) → t ≤ h.term j → Open F h t n → n ≤ h.ack t j → Has (h.log j) n t
acked_has F h s t n j le o reach = has_by n t (agree_sym (acked_agrees F h s t n j le o reach)) (omega arith) o.own

pub quiet_less : (h : History) (t a b : ℕ) → a ≤ b → Quiet h t b → Quiet h t a
quiet_less h t a b le q u lt ub = q u lt (le_trans ub le)

pub whole_may : (h : History) → Acks h → (t i j : ℕ) → may_hold_whole h t i j ≡ true → may_hold h t i j ≡ true
whole_may h s t i j e = elim (or_cases (h.held t j i) (nat_le (h.term j) t) e) [
  | inl held ↦ or_left _ _ (le-leb i (h.ack t j) (s.held t j i held).1)
  | inr term ↦ or_right (nat_le i (h.ack t j)) _ term
]

-- more than half of the members may hold an entry that is open
pub open_majority :
    (F : ℕ) (h : History) → Acks h → (t n : ℕ) → Open F h t n → F + 1 ≤ count (may_hold h t n) (members F)
open_majority F h s t n o = elim (o.each n o.above (omega arith)) [
  | inl whole ↦ le_trans whole (count_more (may_hold_whole h t n) (may_hold h t n) (members F) (λ j lt. whole_may h s t n j))
  | inr any ↦ omega (arith, s.need (term_at (h.led t) n) n)
]

-- a leader whose log has something began to lead
pub began_by : (h : History) → Logs h → (t : ℕ) → 0 < length (h.led t) → h.began t ≡ true
began_by h s t some = elim (cases_Bool (h.began t)) [
  | inl e ↦ e
  | inr e ↦ absurd (let none : length (h.led t) ≡ 0 = s.silent t e in omega arith)
]
