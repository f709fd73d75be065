-- What becomes of an entry of a member's log by moves: it is there still, or it went out of the log by a cut of the member's term.
use Rattle.std.proofs.Common.{◌≡◌, ℕ, ◌<◌, ◌≤◌, ◌⊎◌, List, ◌∷◌, length, nat_le, refl, sym, ◌∙◌, inl, inr, arith, le_refl, le_trans}
use Rattle.std.proofs.lemmas.Bool.{and_parts, cases_Bool, eqb-true, leb-true, true≢false}
use Rattle.protocol.specs.Counting.{put}
use Rattle.protocol.specs.Growth.{Grows}
use Rattle.protocol.specs.History.{Cut, History, IsIn}
use Rattle.protocol.specs.Invariants.{Sound}
use Rattle.protocol.specs.Logs.{Has, Slot, has}
use Rattle.protocol.specs.Moves.{Move, Raise, Stand, Cast, Win, Rebuild, Begin, Propose, Accept, Acknowledge, Answer, Decide, Learn, Restart, Allowed, Moves, Reached, None_yet, Then, after}
use Rattle.protocol.specs.Words.{IsLost}
use Rattle.protocol.proofs.Counting.{put_all}
use Rattle.protocol.proofs.Growth.{grows_after, grows_kept}
use Rattle.protocol.proofs.Logs.{has_by, has_test, same_has}
use Rattle.protocol.proofs.Runs.{sound_kept, sound_reached}
use Rattle.bridge.specs.Traced.{IsGone}

-- an entry that was there is among a log, or it isn't
kept_or_not : (log : List Slot) (i a : ℕ) → 0 < i → Has log i a ⊎ (Has log i a → ⊥)
kept_or_not log i a from = elim (cases_Bool (has log i a)) [
  | inl e ↦
      let parts = and_parts (nat_le i (length log)) _ e in
      inl (record { from = from; within = leb-true _ _ parts.0; here = eqb-true _ _ parts.1 })
  | inr e ↦ inr (λ it. true≢false (sym (has_test log i a it.within it.here) ∙ e))
]

module _ (F : ℕ) (g : History) (reached : Reached F g) (i a : ℕ) where
  -- it went out by a cut, at a term that the member had
  abbrev IsCut : (j bound : ℕ) → List Cut → Type 0
  IsCut j bound cuts = (cut : Cut) × IsIn cut cuts × (g.term j ≤ cut.term) × (cut.term ≤ bound) × IsLost cut i a

  abbrev IsKnown : History → ℕ → Type 0
  IsKnown h j = Has (h.log j) i a ⊎ IsCut j (h.term j) h.cuts

  -- by a move that may cut
  by_cut :
      (h : History) (u : ℕ) (log : List Slot) (j : ℕ) → g.term j ≤ h.term j → Has (h.log j) i a →
      Has (put u log h.log j) i a ⊎ IsCut j (h.term j) (record { term = h.term u; before = h.log u; after = log } ∷ h.cuts)
  by_cut h u log =
      put_all (λ j it. g.term j ≤ h.term j → Has (h.log j) i a →
      Has it i a ⊎ IsCut j (h.term j) (record { term = h.term u; before = h.log u; after = log } ∷ h.cuts)) u log h.log
      (λ later here. elim (kept_or_not log i a here.from) [
        | inl kept ↦ inl kept
        | inr lost ↦ inr (record { term = h.term u; before = h.log u; after = log }, inl refl, later, le_refl _, (here, lost))
      ])
      (λ j apart later here. inl here)

  -- by a move that doesn't
  by_same :
      (h : History) (u : ℕ) (log : List Slot) → (Has (h.log u) i a → Has log i a) → (j : ℕ) → Has (h.log j) i a → Has (put u log h.log j) i a
  by_same h u log keeps = put_all (λ j it. Has (h.log j) i a → Has it i a) u log h.log keeps (λ j apart here. here)

  by_move : (h : History) (move : Move) → Allowed F h move → (j : ℕ) → g.term j ≤ h.term j → Has (h.log j) i a → Has ((after h move).log j) i a ⊎ IsCut j (h.term j) (after h move).cuts
  by_move h (Raise u t) allowed j later here = inl here
  by_move h (Stand u) allowed j later here = inl here
  by_move h (Cast u c) allowed j later here = inl here
  by_move h (Win u) allowed j later here = inl here
  by_move h (Rebuild u log) allowed j later here = inl (by_same h u log (same_has i a allowed.0) j here)
  by_move h (Begin u log) allowed j later here = by_cut h u log j later here
  by_move h (Propose u log need) allowed j later here =
      inl (by_same h u log (λ it. has_by i a (allowed.1).front it.within it) j here)
  by_move h (Accept u log) allowed j later here = by_cut h u log j later here
  by_move h (Acknowledge u reach whole) allowed j later here = inl here
  by_move h (Answer u from) allowed j later here = inl here
  by_move h (Decide u n) allowed j later here = inl here
  by_move h (Learn u n) allowed j later here = inl here
  by_move h (Restart u) allowed j later here = inl here

  known_after : (j : ℕ) → Has (g.log j) i a → (h : History) → Moves F g h → IsKnown h j
  known_after j here h None_yet = inl here
  known_after j here h (Then before move allowed run) =
      let sound : Sound F before = sound_kept F g before run (sound_reached F g reached) in
      let grows : Grows before (after before move) = grows_after F before move allowed sound in
      let later : g.term j ≤ before.term j = (grows_kept F g before (sound_reached F g reached) run).term j in
      elim (known_after j here before run) [
        | inl there ↦ elim (by_move before move allowed j later there) [
          | inl still ↦ inl still
          | inr cut ↦ inr (cut.0, cut.1, cut.2, le_trans cut.3 (grows.term j), cut.4)
        ]
        | inr cut ↦ inr (cut.0, grows.cuts cut.0 cut.1, cut.2, le_trans cut.3 (grows.term j), cut.4)
      ]

  -- within one term of the member
  pub gone : (j : ℕ) (h : History) (term : ℕ) → Moves F g h → Has (g.log j) i a → (Has (h.log j) i a → ⊥) → g.term j ≡ term → h.term j ≡ term → IsGone h term i a
  gone j h term run here lost first last = elim (known_after j here h run) [
    | inl there ↦ absurd (lost there)
    | inr cut ↦ (cut.0, cut.1, omega (arith, cut.2, cut.3, first, last), cut.4)
  ]
