-- History only grows, and a move touches one member.
use Rattle.std.proofs.Common.{◌≡◌, ℕ, suc, ◌<◌, ◌≤◌, ◌⊎◌, Bool, true, false, ◌||◌, max, List, length, Some, None, refl, sym, ◌∙◌, ap, inl, inr, arith, le_trans, le_refl}
use Rattle.std.proofs.lemmas.Bool.{or_left, true≢false}
use Rattle.protocol.specs.Counting.{put, put_at}
use Rattle.protocol.specs.Logs.{Slot, Extends, Has}
use Rattle.protocol.specs.History.{History, Cut, Shown, IsIn}
use Rattle.protocol.specs.Moves.{Move, Raise, Stand, Cast, Win, Rebuild, Begin, Propose, Accept, Acknowledge, Answer, Decide, Learn, Restart, Allowed, after, Moves, None_yet, Then}
use Rattle.protocol.specs.Invariants.{Sound}
use Rattle.protocol.specs.Growth.{Grows}
use Rattle.protocol.specs.Laws.{HistoryGrows}
use Rattle.protocol.proofs.Counting.{put_all, put_at_all}
use Rattle.protocol.proofs.Logs.{agree_refl, agree_trans, agree_less, has_extends, sound_match}
use Rattle.protocol.proofs.Rising.{rises}
use Rattle.protocol.proofs.Votes.{vote_added}
use Rattle.protocol.proofs.Deciding.{decide_counted}
use Rattle.protocol.proofs.Begin.{begin_extends}
use Rattle.protocol.proofs.Adding.{adds_extends, adds_length}
use Rattle.protocol.proofs.Runs.{sound_kept, sound_reached}

pub extends_refl : (led : ℕ → List Slot) → Extends led led
extends_refl led t = agree_refl (led t) (length (led t)) (le_refl _)

pub extends_trans : (one two three : ℕ → List Slot) → Extends one two → Extends two three → Extends one three
extends_trans one two three x y t = agree_trans (x t) (agree_less (length (one t)) (x t).right (y t))

pub grows_refl : (h : History) → Grows h h
grows_refl h = record {
  term = λ j. le_refl _;
  commit = λ j. le_refl _;
  voted = λ t j c e. e;
  stood = λ t c e. refl;
  won = λ t u e. e;
  began = λ t e. e;
  led = extends_refl h.led;
  base = λ t e. refl;
  need = λ t i a has. refl;
  decided = λ t. le_refl _;
  ack = λ t j. le_refl _;
  held = λ t j i e. e;
  answers = λ a among. among;
  cuts = λ c among. among;
}

pub grows_trans : {g h k : History} → Grows g h → Grows h k → Grows g k
grows_trans {g} {h} {k} x y = record {
  term = λ j. le_trans (x.term j) (y.term j);
  commit = λ j. le_trans (x.commit j) (y.commit j);
  voted = λ t j c e. y.voted t j c (x.voted t j c e);
  stood = λ t c e. y.stood t c (x.voted t c c e) ∙ x.stood t c e;
  won = λ t u e. y.won t u (x.won t u e);
  began = λ t e. y.began t (x.began t e);
  led = extends_trans g.led h.led k.led x.led y.led;
  base = λ t e. y.base t (x.began t e) ∙ x.base t e;
  need = λ t i a has. y.need t i a (has_extends t i a x.led has) ∙ x.need t i a has;
  decided = λ t. le_trans (x.decided t) (y.decided t);
  ack = λ t j. le_trans (x.ack t j) (y.ack t j);
  held = λ t j i e. y.held t j i (x.held t j i e);
  answers = λ a among. y.answers a (x.answers a among);
  cuts = λ c among. y.cuts c (x.cuts c among);
}

raise_grows : (F : ℕ) (h : History) (j t : ℕ) → h.term j < t → Grows h (after h (Raise j t))
raise_grows F h j t lt =
    let term : (k : ℕ) → h.term k ≤ put j t h.term k = rises h j t (omega arith) in
    assumption (term, grows_refl h)

stand_grows : (F : ℕ) (h : History) (j : ℕ) → Sound F h → Grows h (after h (Stand j))
stand_grows F h j s =
    let none : h.voted (suc (h.term j)) j ≡ None = s.votes.later (suc (h.term j)) j (omega arith) in
    let term : (k : ℕ) → h.term k ≤ put j (suc (h.term j)) h.term k = rises h j (suc (h.term j)) (omega arith) in
    let voted : (t k c : ℕ) → h.voted t k ≡ Some c → put_at (suc (h.term j)) j (Some j) h.voted t k ≡ Some c =
    vote_added h.voted (suc (h.term j)) j j (inl none) in
    let stood : (t c : ℕ) → h.voted t c ≡ Some c → put_at (suc (h.term j)) j (h.log j) h.stood t c ≡ h.stood t c =
    put_at_all (λ t c log. h.voted t c ≡ Some c → log ≡ h.stood t c) (suc (h.term j)) j (h.log j) h.stood
    (λ e. absurd (cc)) (λ t c apart e. refl) in
    assumption (term, voted, stood, grows_refl h)

cast_grows : (F : ℕ) (h : History) (j c : ℕ) → Allowed F h (Cast j c) → Sound F h → Grows h (after h (Cast j c))
cast_grows F h j c a s =
    let free : (h.voted (h.term j) j ≡ None) ⊎ (h.voted (h.term j) j ≡ Some c) =
    elim a.0 [ inl none ↦ inl (sym (s.votes.present j) ∙ none) | inr it ↦ inr (sym (s.votes.present j) ∙ it) ] in
    let voted : (t k d : ℕ) → h.voted t k ≡ Some d → put_at (h.term j) j (Some c) h.voted t k ≡ Some d =
    vote_added h.voted (h.term j) j c free in
    assumption (voted, grows_refl h)

win_grows : (h : History) (u : ℕ) → Grows h (after h (Win u))
win_grows h u =
    let won : (t v : ℕ) → h.won t v ≡ true → put_at (h.term u) u true h.won t v ≡ true =
    put_at_all (λ t v y. h.won t v ≡ true → y ≡ true) (h.term u) u true h.won (λ e. refl) (λ t v apart e. e) in
    assumption (won, grows_refl h)

begin_grows : (F : ℕ) (h : History) (u : ℕ) (log : List Slot) → Allowed F h (Begin u log) → Sound F h → Grows h (after h (Begin u log))
begin_grows F h u log a s =
    let silent : h.began (h.term u) ≡ false = s.logs.preparing u a.0 in
    let began : (t : ℕ) → h.began t ≡ true → put (h.term u) true h.began t ≡ true =
    put_all (λ t y. h.began t ≡ true → y ≡ true) (h.term u) true h.began (λ e. refl) (λ t apart e. e) in
    let led : Extends h.led (put (h.term u) log h.led) = begin_extends h s.logs u log a.0 in
    let base : (t : ℕ) → h.began t ≡ true → put (h.term u) (h.commit u) h.base t ≡ h.base t =
    put_all (λ t y. h.began t ≡ true → y ≡ h.base t) (h.term u) (h.commit u) h.base
    (λ e. absurd (true≢false (sym e ∙ silent))) (λ t apart e. refl) in
    let cuts : (c : Cut) → IsIn c h.cuts → IsIn c (after h (Begin u log)).cuts = λ c among. inr among in
    assumption (began, led, base, cuts, grows_refl h)

propose_grows :
    (F : ℕ) (h : History) (u : ℕ) (log : List Slot) (need : ℕ) → Allowed F h (Propose u log need) → Sound F h →
    Grows h (after h (Propose u log need))
propose_grows F h u log need a s =
    let led : Extends h.led (put (h.term u) log h.led) = adds_extends h s.logs u log a.0 a.1 in
    let needs : (t i b : ℕ) → Has (h.led t) i b → put_at (h.term u) (length log) need h.need b i ≡ h.need b i =
    λ t i b has.
    let known = sound_match i b (s.logs.led t).0 has in
    put_at_all (λ b k y. ((b ≡ h.term u) × (k ≡ length log) → ⊥) → y ≡ h.need b k) (h.term u) (length log) need h.need
    (λ no. absurd (no (refl, refl))) (λ b k apart no. refl) b i
    (λ both.
    let right : i ≤ length (h.led b) = known.right in
    let same_log : length (h.led b) ≡ length (h.led (h.term u)) = ap (λ (b : ℕ). length (h.led b)) both.0 in
    let last_index : i ≡ length log = both.1 in
    let long = adds_length h s.logs u log a.0 a.1 in
    omega arith) in
    assumption (led, needs, grows_refl h)

accept_grows : (h : History) (j : ℕ) (log : List Slot) → Grows h (after h (Accept j log))
accept_grows h j log =
    let cuts : (c : Cut) → IsIn c h.cuts → IsIn c (after h (Accept j log)).cuts = λ c among. inr among in
    assumption (cuts, grows_refl h)

ack_grows : (h : History) (j reach : ℕ) (whole : ℕ → Bool) → Grows h (after h (Acknowledge j reach whole))
ack_grows h j reach whole =
    let ack : (t k : ℕ) → h.ack t k ≤ put_at (h.term j) j (max (h.ack (h.term j) j) reach) h.ack t k =
    put_at_all (λ t k y. h.ack t k ≤ y) (h.term j) j (max (h.ack (h.term j) j) reach) h.ack (omega arith) (λ t k apart. le_refl _) in
    let held : (t k i : ℕ) → h.held t k i ≡ true → put_at (h.term j) j (λ i. h.held (h.term j) j i || whole i) h.held t k i ≡ true =
    put_at_all (λ t k f. (i : ℕ) → h.held t k i ≡ true → f i ≡ true) (h.term j) j (λ i. h.held (h.term j) j i || whole i) h.held
    (λ i e. or_left _ _ e) (λ t k apart i e. e) in
    assumption (ack, held, grows_refl h)

answer_grows : (h : History) (j from : ℕ) → Grows h (after h (Answer j from))
answer_grows h j from =
    let answers : (a : Shown) → IsIn a h.answers → IsIn a (after h (Answer j from)).answers = λ a among. inr among in
    assumption (answers, grows_refl h)

decide_grows : (F : ℕ) (h : History) (u n : ℕ) → Allowed F h (Decide u n) → Sound F h → Grows h (after h (Decide u n))
decide_grows F h u n a s =
    let commit : (k : ℕ) → h.commit k ≤ put u n h.commit k =
    put_all (λ k c. h.commit k ≤ c) u n h.commit (let lt = a.2 in omega arith) (λ k apart. le_refl _) in
    let decided : (t : ℕ) → h.decided t ≤ put (h.term u) n h.decided t =
    put_all (λ t d. h.decided t ≤ d) (h.term u) n h.decided (decide_counted F h u n a s).0 (λ t apart. le_refl _) in
    assumption (commit, decided, grows_refl h)

learn_grows : (F : ℕ) (h : History) (j n : ℕ) → Allowed F h (Learn j n) → Grows h (after h (Learn j n))
learn_grows F h j n a =
    let commit : (k : ℕ) → h.commit k ≤ put j n h.commit k =
    put_all (λ k c. h.commit k ≤ c) j n h.commit (let lt = a.0 in omega arith) (λ k apart. le_refl _) in
    assumption (commit, grows_refl h)

rebuild_grows : (h : History) (j : ℕ) (log : List Slot) → Grows h (after h (Rebuild j log))
rebuild_grows h j log = assumption (grows_refl h)

restart_grows : (h : History) (j : ℕ) → Grows h (after h (Restart j))
restart_grows h j = assumption (grows_refl h)

-- what a move lets grow
pub grows_after : (F : ℕ) (h : History) (move : Move) → Allowed F h move → Sound F h → Grows h (after h move)
grows_after F h (Raise j t) a s = raise_grows F h j t a
grows_after F h (Stand j) a s = stand_grows F h j s
grows_after F h (Cast j c) a s = cast_grows F h j c a s
grows_after F h (Win u) a s = win_grows h u
grows_after F h (Rebuild j log) a s = rebuild_grows h j log
grows_after F h (Begin u log) a s = begin_grows F h u log a s
grows_after F h (Propose u log need) a s = propose_grows F h u log need a s
grows_after F h (Accept j log) a s = accept_grows h j log
grows_after F h (Acknowledge j reach whole) a s = ack_grows h j reach whole
grows_after F h (Answer j from) a s = answer_grows h j from
grows_after F h (Decide u n) a s = decide_grows F h u n a s
grows_after F h (Learn j n) a s = learn_grows F h j n a
grows_after F h (Restart j) a s = restart_grows h j

pub grows_kept : (F : ℕ) (g h : History) → Sound F g → Moves F g h → Grows g h
grows_kept F g h s None_yet = grows_refl g
grows_kept F g h s (Then h2 move allowed run) =
    grows_trans (grows_kept F g h2 s run) (grows_after F h2 move allowed (sound_kept F g h2 run s))

pub history_grows : HistoryGrows
history_grows F g h reached run = grows_kept F g h (sound_reached F g reached) run
