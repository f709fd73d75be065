-- What an entry needs is what the shape says, also of an entry with which a leader begins, and of one that it adds.
use Rattle.std.proofs.Common.{◌≡◌, ℕ, suc, ◌<◌, ◌≤◌, List, length, refl, ap, subst, ◌∙◌, inl, inr, arith, le_refl, le_trans}
use Rattle.std.proofs.lemmas.Bool.{cases_lt}
use Rattle.protocol.specs.Counting.{put_at}
use Rattle.protocol.specs.Logs.{IsFront, Slot, term_at}
use Rattle.protocol.specs.History.{History}
use Rattle.protocol.specs.Invariants.{Sound}
use Rattle.protocol.specs.Moves.{Adds, Begin, Propose, after}
use Rattle.protocol.proofs.Counting.{put_all, put_at_all, put_at_same}
use Rattle.bridge.specs.Agreement.{AllNeed}

module _ (F need : ℕ) (g : History) (s : Sound F g) (a : AllNeed need g) (member : ℕ) where
  -- so does each entry of a member's log, which some leader had
  log_needs : (i : ℕ) → 0 < i → i ≤ length (g.log member) → g.need (term_at (g.log member) i) i ≡ need
  log_needs i from le =
      let match = (s.logs.log member).0.matches i from le in
      ap (λ b. g.need b i) (match.same i (le_refl _)) ∙ a (term_at (g.log member) i) i from match.right

  -- and each of what is left of it
  front_needs : (log : List Slot) → IsFront log (g.log member) → (i : ℕ) → 0 < i → i ≤ length log → g.need (term_at log i) i ≡ need
  front_needs log front i from le = ap (λ b. g.need b i) (front.same i le) ∙ log_needs i from (le_trans le front.right)

  pub begin_needs : (log : List Slot) → IsFront log (g.log member) → AllNeed need (after g (Begin member log))
  begin_needs log front =
      put_all (λ t log. (i : ℕ) → 0 < i → i ≤ length log → g.need (term_at log i) i ≡ need) (g.term member) log g.led
      (front_needs log front) (λ t apart. a t)

  -- an entry that is added needs as much, and no other entry changes
  still_needs :
      (log : List Slot) (b i : ℕ) → g.need b i ≡ need → put_at (g.term member) (length log) need g.need b i ≡ need
  still_needs log =
      put_at_all (λ b i v. g.need b i ≡ need → v ≡ need) (g.term member) (length log) need g.need (λ e. refl) (λ b i apart e. e)

  added_needs :
      (log : List Slot) → Adds g member log → (i : ℕ) → 0 < i → i ≤ length log →
      put_at (g.term member) (length log) need g.need (term_at log i) i ≡ need
  added_needs log adds i from le = elim (cases_lt (length (g.log member)) i) [
    | inl new ↦
        let long : length log ≡ suc (length (g.log member)) = adds.longer in
        let last : i ≡ length log = omega (arith, long, le, new) in
        let own : term_at log i ≡ g.term member = ap (term_at log) last ∙ adds.newest in
        rw (own, last) (put_at_same (g.term member) (length log) need g.need)
    | inr old ↦
        let same : term_at (g.log member) i ≡ term_at log i = (adds.front).same i (omega (arith, old)) in
        subst (λ b. put_at (g.term member) (length log) need g.need b i ≡ need) same
        (still_needs log (term_at (g.log member) i) i (log_needs i from (omega (arith, old))))
  ]

  pub propose_needs : (log : List Slot) → Adds g member log → AllNeed need (after g (Propose member log need))
  propose_needs log adds =
      put_all (λ t l. (i : ℕ) → 0 < i → i ≤ length l → put_at (g.term member) (length log) need g.need (term_at l i) i ≡ need)
      (g.term member) log g.led (added_needs log adds) (λ t apart i from le. still_needs log (term_at (g.led t) i) i (a t i from le))
