-- Two runs of three members, one of which may be lost.
use Rattle.std.proofs.Common.{◌≡◌, ℕ, zero, suc, ◌<◌, ◌≤◌, true, false, not, nat_eq, cond, List, [], ◌∷◌, refl, sym, inl, inr, arith}
use Rattle.std.proofs.lemmas.Bool.{eqb-true, true≢false}
use Rattle.protocol.specs.Logs.{Slot, Whole, Part, Has, Agree, term_at, whole_at}
use Rattle.protocol.specs.History.{History, start}
use Rattle.protocol.specs.Words.{reaches, need_at, Quorum}
use Rattle.protocol.specs.Moves.{Raise, Stand, Cast, Win, Begin, Propose, Accept, Acknowledge, Answer, Decide, Adds, Takes, Longer, ShowsLoss, Moves, None_yet, Then, after}
use Rattle.protocol.specs.Laws.{SomeRunDecides, SomeRunCuts}
use Rattle.protocol.proofs.Logs.{agree_none, agree_refl, same_refl}

abbrev value : List Slot
value = record { term = 1; mark = Whole } ∷ []

abbrev piece : List Slot
piece = record { term = 1; mark = Part } ∷ []

-- one entry, in two forms
terms_up_to_one : (i : ℕ) → i ≤ 1 → term_at piece i ≡ term_at value i
unfolding term_at
terms_up_to_one zero le = refl
terms_up_to_one (suc zero) le = refl
terms_up_to_one (suc (suc n)) le = absurd (omega arith)

piece_agrees : Agree piece value 1
piece_agrees = record { left = omega arith; right = omega arith; same = terms_up_to_one }

nothing_whole : (i : ℕ) → whole_at [] i ≡ true → ⊥
unfolding whole_at
nothing_whole zero e = true≢false (sym e)
nothing_whole (suc n) e = true≢false (sym e)

value_has : Has value 1 1
unfolding term_at
value_has = record { from = omega arith; within = omega arith; here = refl }

piece_has : Has piece 1 1
unfolding term_at
piece_has = record { from = omega arith; within = omega arith; here = refl }

-- member 0 leads term 1, and has one entry with a need of 2, of which member 1 has a part
abbrev elected : History
elected = after (after (after (after (after start (Stand 0)) (Raise 1 1)) (Cast 1 0)) (Win 0)) (Begin 0 [])

abbrev proposed : History
proposed = after (after elected (Propose 0 value 2)) (Accept 1 piece)

elected_run : Moves 1 start elected
unfolding term_at
elected_run =
    Then _ (Begin 0 []) (refl, inl (same_refl [], λ i le e. e))
    (Then _ (Win 0) (refl, omega arith)
    (Then _ (Cast 1 0) (inl refl, refl, inr (refl, omega arith))
    (Then _ (Raise 1 1) (omega arith)
    (Then _ (Stand 0) tt None_yet))))

adds_value : Adds elected 0 value
unfolding term_at whole_at
adds_value = record {
  longer = refl;
  front = agree_none [] value;
  newest = refl;
  whole = refl;
  marks = λ i le e. absurd (nothing_whole i e);
}

takes_piece : (h : History) (j : ℕ) → h.began (h.term j) ≡ true → h.log j ≡ [] → h.led (h.term j) ≡ value → Takes h j piece
takes_piece h j began empty led = record {
  began = began;
  taken = rw (empty, led) (Longer (agree_none [] piece) piece_agrees);
  marks = rw empty (λ i agree e. absurd (nothing_whole i e));
}

proposed_run : Moves 1 start proposed
proposed_run =
    Then _ (Accept 1 piece) (takes_piece (after elected (Propose 0 value 2)) 1 refl refl refl)
    (Then _ (Propose 0 value 2) (refl, adds_value, omega arith, omega arith) elected_run)

-- each below three
three : (P : ℕ → Type 0) → P 0 → P 1 → P 2 → (j : ℕ) → j < 3 → P j
three P a b c zero lt = a
three P a b c (suc zero) lt = b
three P a b c (suc (suc zero)) lt = c
three P a b c (suc (suc (suc n))) lt = absurd (omega arith)

-- all three say that they have it, and member 0 that it has it whole: 3 parts are enough where 2 are needed
abbrev counted : History
counted =
    after (after (after (after (after proposed (Raise 2 1)) (Accept 2 piece)) (Acknowledge 0 1 (λ i. nat_eq i 1)))
    (Acknowledge 1 1 (λ i. false))) (Acknowledge 2 1 (λ i. false))

whole_one : (i : ℕ) → nat_eq i 1 ≡ true → (i ≤ 1) × (whole_at value i ≡ true)
unfolding whole_at
whole_one i e = let q : i ≡ 1 = eqb-true i 1 e in rw q (omega arith, refl)

counted_run : Moves 1 start counted
counted_run =
    Then _ (Acknowledge 2 1 (λ i. false)) (piece_agrees, λ i e. absurd (true≢false (sym e)))
    (Then _ (Acknowledge 1 1 (λ i. false)) (piece_agrees, λ i e. absurd (true≢false (sym e)))
    (Then _ (Acknowledge 0 1 (λ i. nat_eq i 1)) (agree_refl value 1 (omega arith), whole_one)
    (Then _ (Accept 2 piece) (takes_piece (after proposed (Raise 2 1)) 2 refl refl refl)
    (Then _ (Raise 2 1) (omega arith) proposed_run))))

enough : (i : ℕ) → 0 < i → i ≤ 1 → Quorum 1 (λ j. counted.held 1 j i) (reaches counted 1 i) (need_at counted 1 i)
unfolding term_at
enough i from le = let e : i ≡ 1 = omega arith in rw e (inr (omega arith))

pub some_run_decides : SomeRunDecides
unfolding whole_at
some_run_decides = (
  after counted (Decide 0 1),
  Then _ (Decide 0 1) (refl, value_has, omega arith, enough) counted_run,
  refl,
  refl,
  refl,
  refl,
  refl,
)

-- member 0 is silent. Member 1 is elected with the vote of member 2, which has nothing, and both show their logs
abbrev prepared : History
prepared =
    after (after (after (after (after (after proposed (Stand 1)) (Raise 2 2)) (Cast 2 1)) (Win 1)) (Answer 1 1)) (Answer 2 1)

prepared_run : Moves 1 start prepared
unfolding term_at
prepared_run =
    Then _ (Answer 2 1) tt
    (Then _ (Answer 1 1) tt
    (Then _ (Win 1) (refl, omega arith)
    (Then _ (Cast 2 1) (inl refl, refl, inl (omega arith))
    (Then _ (Raise 2 2) (omega arith)
    (Then _ (Stand 1) tt proposed_run)))))

nothing_below : (i : ℕ) → i ≤ 0 → whole_at piece i ≡ true → ⊥
unfolding whole_at
nothing_below zero le e = true≢false (sym e)
nothing_below (suc n) le e = omega arith

loss : ShowsLoss 1 prepared 1 []
unfolding term_at whole_at
loss = record {
  index = 1;
  above = omega arith;
  within = omega arith;
  shorter = refl;
  front = agree_none [] piece;
  marks = λ i le e. absurd (nothing_below i le e);
  covers = λ j. not (nat_eq j 0);
  seen = λ j. cond (nat_eq j 1) piece [];
  enough = omega arith;
  showed = three _ (λ e. absurd (true≢false (sym e))) (λ e. (1, omega arith, inr (inl refl))) (λ e. (1, omega arith, inl refl));
  no_whole = three _ (λ e. absurd (true≢false (sym e))) (λ e usable. refl) (λ e usable. refl);
  few = omega arith;
}

pub some_run_cuts : SomeRunCuts
some_run_cuts = (
  after prepared (Begin 1 []),
  Then _ (Begin 1 []) (refl, inr loss) prepared_run,
  refl,
  record { term = 2; before = piece; after = [] },
  inl refl,
  (piece_has, λ none. let w = none.within in omega arith),
)
