-- Decided fronts: they agree and stay, members commit no more, and nothing that was cut is among them.
use Rattle.std.proofs.Common.{◌≡◌, ℕ, ◌<◌, ◌≤◌, true, subst, inl, inr, arith, le_trans, le_refl}
use Rattle.std.proofs.lemmas.Bool.{cases_lt, cases_order, cases_Bool}
use Rattle.protocol.specs.Logs.{Has, Agree}
use Rattle.protocol.specs.History.{History, Cut, IsIn}
use Rattle.protocol.specs.Words.{IsLost}
use Rattle.protocol.specs.Invariants.{Sound}
use Rattle.protocol.specs.Growth.{Grows}
use Rattle.protocol.specs.Laws.{IsDecidedFront, FrontsAgree, FrontsStay, CutStaysUndecided, DecidedStaysUncut, CommitsAreDecided, CommitsGrow}
use Rattle.protocol.proofs.Logs.{agree_none, agree_refl, agree_sym, agree_trans, agree_less, agree_extends, has_extends}
use Rattle.protocol.proofs.Opening.{open_counted}
use Rattle.protocol.proofs.Accept.{known_to_leader}
use Rattle.protocol.proofs.Runs.{sound_kept, sound_reached}
use Rattle.protocol.proofs.Growth.{history_grows}

-- who decided began to lead
decided_began : (F : ℕ) (h : History) → Sound F h → (t : ℕ) → 0 < h.decided t → h.began t ≡ true
decided_began F h s t lt = elim (cases_Bool (h.began t)) [
  | inl e ↦ e
  | inr e ↦ absurd (let none : h.decided t ≡ 0 = (s.commits.silent t e).1 in omega arith)
]

-- a later leader that decided has what an earlier one decided
earlier_later :
    (F : ℕ) (h : History) → Sound F h → (t u k : ℕ) → t < u → 0 < k → k ≤ h.decided t → k ≤ h.decided u → Agree (h.led t) (h.led u) k
earlier_later F h s t u k lt some kt ku =
    agree_sym (agree_less k kt
    (known_to_leader F h s t u (h.decided t) lt
    (open_counted F h t (h.decided t) (s.commits.counted t (omega arith))) (decided_began F h s u (omega arith))))

pub leaders_agree :
    (F : ℕ) (h : History) → Sound F h → (t u k : ℕ) → k ≤ h.decided t → k ≤ h.decided u → Agree (h.led t) (h.led u) k
leaders_agree F h s t u k kt ku = elim (cases_lt 0 k) [
  | inl some ↦ elim (cases_order t u) [
    | inl e ↦
        let within = ((s.commits.counted t (omega arith)).own).within in
        subst (λ (u : ℕ). Agree (h.led t) (h.led u) k) e (agree_refl (h.led t) k (omega arith))
    | inr apart ↦ elim apart [
      | inl lt ↦ earlier_later F h s t u k lt some kt ku
      | inr gt ↦ agree_sym (earlier_later F h s u t k gt some ku kt)
    ]
  ]
  | inr none ↦ let e : k ≡ 0 = omega arith in rw e (agree_none (h.led t) (h.led u))
]

pub fronts_stay : FrontsStay
fronts_stay F g h reached run log n d =
    let grows : Grows g h = history_grows F g h reached run in
    (d.0, le_trans d.1 (grows.decided d.0), agree_extends d.0 grows.led d.2)

pub fronts_agree : FrontsAgree
fronts_agree F g h reached run one another n m k a b kn km =
    let s : Sound F h = sound_kept F g h run (sound_reached F g reached) in
    let d : IsDecidedFront h one n = fronts_stay F g h reached run one n a in
    agree_trans (agree_less k kn d.2)
    (agree_trans (leaders_agree F h s d.0 b.0 k (le_trans kn d.1) (le_trans km b.1)) (agree_sym (agree_less k km b.2)))

pub commits_are_decided : CommitsAreDecided
commits_are_decided F h reached j = let d = (sound_reached F h reached).commits.commit j in (d.0, d.2, d.3)

pub commits_grow : CommitsGrow
commits_grow F g h reached run j =
    let grows : Grows g h = history_grows F g h reached run in
    let s : Sound F h = sound_kept F g h run (sound_reached F g reached) in
    let d = s.commits.commit j in
    let now : IsDecidedFront h (h.log j) (h.commit j) = (d.0, d.2, d.3) in (
      grows.commit j,
      fronts_agree F g h reached run (g.log j) (h.log j) (g.commit j) (h.commit j) (g.commit j)
          (commits_are_decided F g reached j) now (le_refl _) (grows.commit j),
    )

-- nothing that was cut at a term is decided by a leader of a term up to it
cut_apart :
    (F : ℕ) (h : History) → Sound F h → (cut : Cut) (i a t : ℕ) → IsIn cut h.cuts → IsLost cut i a → t ≤ cut.term →
    i ≤ h.decided t → Has (h.led t) i a → ⊥
cut_apart F h s cut i a t among lost le reach has =
    let c = s.cuts cut among i a lost in
    elim (cases_lt t cut.term) [
      | inl lt ↦
          let from = has.from in
          c.open_front t (h.decided t) lt (open_counted F h t (h.decided t) (s.commits.counted t (omega arith))) reach has
      | inr ge ↦ let e : t ≡ cut.term = omega arith in c.led (subst (λ (t : ℕ). Has (h.led t) i a) e has)
    ]

pub cut_stays_undecided : CutStaysUndecided
cut_stays_undecided F g h reached run cut i a t among lost =
    cut_apart F h (sound_kept F g h run (sound_reached F g reached)) cut i a t ((history_grows F g h reached run).cuts cut among) lost

pub decided_stays_uncut : DecidedStaysUncut
decided_stays_uncut F g h reached run cut i a t among lost le reach has =
    let grows : Grows g h = history_grows F g h reached run in
    cut_apart F h (sound_kept F g h run (sound_reached F g reached)) cut i a t among lost le
    (le_trans reach (grows.decided t)) (has_extends t i a grows.led has)
