-- What a node may conclude from a message: facts that stay true while history grows.
use Rattle.std.proofs.Common.{◌≡◌, ℕ, ◌<◌, ◌≤◌, ◌⊎◌, true, length, refl, inl, inr, arith, le_trans}
use Rattle.std.proofs.lemmas.Bool.{cases_eq}
use Rattle.protocol.specs.Logs.{Agree, term_at}
use Rattle.protocol.specs.History.{History, Leading}
use Rattle.protocol.specs.Invariants.{Sound}
use Rattle.protocol.specs.Growth.{Grows}
use Rattle.protocol.proofs.Logs.{agree_none, matching}

-- a leader's commit index is one that members of its term may learn
pub leader_commit :
    (F : ℕ) (h : History) → Sound F h → (u : ℕ) → h.role u ≡ Leading →
    (h.commit u ≤ h.base (h.term u)) ⊎ (h.commit u ≤ h.decided (h.term u))
leader_commit F h s u role = elim (s.commits.leading u role) [
  | inl still ↦ let e = still.0 in inl (omega arith)
  | inr moved ↦ let e = moved.0 in inr (omega arith)
]

-- and stays one
pub known_commit :
    (g h : History) → Grows g h → (t n : ℕ) → g.began t ≡ true → (n ≤ g.base t) ⊎ (n ≤ g.decided t) →
    (n ≤ h.base t) ⊎ (n ≤ h.decided t)
known_commit g h x t n began known = elim known [
  | inl base ↦ let e = x.base t began in inl (omega arith)
  | inr decided ↦ inr (le_trans decided (x.decided t))
]

-- a log with the leader's term at an index agrees with the leader's log up to it: the test of an append's `prev`
pub agrees_at :
    (F : ℕ) (h : History) → Sound F h → (j t i : ℕ) → i ≤ length (h.log j) → i ≤ length (h.led t) →
    term_at (h.log j) i ≡ term_at (h.led t) i → Agree (h.log j) (h.led t) i
agrees_at F h s j t i own led e = elim (cases_eq i 0) [
  | inl none ↦ rw none (agree_none (h.log j) (h.led t))
  | inr some ↦
      let from : 0 < i = omega arith in
      matching i (term_at (h.led t) i) (s.logs.log j).0 (s.logs.led t).0
      (record { from = from; within = own; here = e }) (record { from = from; within = led; here = refl })
]
