-- A member that won begins to lead, with its log or what is left of it.
use Rattle.std.proofs.Common.{◌≡◌, ℕ, ◌<◌, ◌≤◌, ◌⊎◌, ◌≢◌, true, false, List, length, refl, sym, ◌∙◌, subst, inl, inr, arith, le_trans, le_refl}
use Rattle.std.proofs.lemmas.Bool.{cases_lt, ne_eqb, true≢false}
use Rattle.protocol.specs.Counting.{put}
use Rattle.protocol.specs.Logs.{Slot, Has, Agree, IsFront, Extends, term_at}
use Rattle.protocol.specs.History.{History, Candidate, Preparing, Leading}
use Rattle.protocol.specs.Words.{Open, Quiet, Stores, Decided}
use Rattle.protocol.specs.Moves.{Begin, Allowed, after}
use Rattle.protocol.specs.Invariants.{Votes, Logs, Core, Commits, Cuts, Sound, IsSound, Below}
use Rattle.protocol.proofs.Counting.{Equal, Apart, same_or_other, put_all, put_elsewhere, test_same}
use Rattle.protocol.proofs.Logs.{agree_none, agree_sym, agree_trans, agree_less, has_by, sound_match, sound_front, sound_extends, below_front, extends_put, agree_extends, stores_none, stores_extends, same_refl}
use Rattle.protocol.proofs.Losses.{Begins, begins}
use Rattle.protocol.proofs.Votes.{begin_votes, one_winner}

-- before its leader begins, no log has an entry of the term
no_own : (h : History) → Logs h → (t j i : ℕ) → h.began t ≡ false → Has (h.log j) i t → ⊥
no_own h s t j i silent has =
    let m = sound_match i t (s.log j).0 has in
    let right = m.right in
    let from = has.from in
    let none : length (h.led t) ≡ 0 = s.silent t silent in
    omega arith

-- who else prepares or leads is in another term
pub other_term :
    (F : ℕ) (h : History) → Votes F h → (u k : ℕ) → k ≢ u → h.won (h.term u) u ≡ true → h.won (h.term k) k ≡ true → h.term k ≢ h.term u
other_term F h s u k apart a b e =
    apart (one_winner F h s (h.term u) k u (subst (λ (t : ℕ). h.won t k ≡ true) e b) a)

pub begin_extends : (h : History) → Logs h → (u : ℕ) (log : List Slot) → h.role u ≡ Preparing → Extends h.led (put (h.term u) log h.led)
begin_extends h s u log role =
    extends_put (h.term u) log h.led
    (let none : length (h.led (h.term u)) ≡ 0 = s.silent (h.term u) (s.preparing u role) in rw none (agree_none _ _))

-- what is open now was open before, in another term
open_begin :
    (F : ℕ) (h : History) (u : ℕ) (log : List Slot) → Sound F h → h.role u ≡ Preparing → IsFront log (h.log u) → (t n : ℕ) →
    Open F (after h (Begin u log)) t n → (t ≢ h.term u) × Open F h t n
open_begin F h u log s role front t n = elim (same_or_other t (h.term u)) [
  | Equal e q ↦ rw e (λ o. absurd (
      let own : Has log n t = o.own in
      no_own h s.logs (h.term u) u n (s.logs.preparing u role)
      (subst (λ (t : ℕ). Has (h.log u) n t) q (has_by n t front own.within own))))
  | Apart e apart ↦ rw e (λ o. (apart, o))
]

begin_logs :
    (F : ℕ) (h : History) (u : ℕ) (log : List Slot) → Sound F h → h.role u ≡ Preparing → Begins F h u log →
    Logs (after h (Begin u log))
begin_logs F h u log s role b =
    let x : Extends h.led (put (h.term u) log h.led) = begin_extends h s.logs u log role in
    let silent : h.began (h.term u) ≡ false = s.logs.preparing u role in
    let won : h.won (h.term u) u ≡ true = s.votes.preparing u role in
    let sound : IsSound (put (h.term u) log h.led) log = sound_extends x (sound_front (s.logs.log u).0 b.front) in
    let below : Below log (h.term u) = below_front (h.term u) (s.logs.log u).1 b.front in
    record {
      log = put_all (λ k l. IsSound (put (h.term u) log h.led) l × Below l (h.term k)) u log h.log (sound, below)
          (λ k n. (sound_extends x (s.logs.log k).0, (s.logs.log k).1));
      led = put_all (λ t l. IsSound (put (h.term u) log h.led) l × Below l t) (h.term u) log h.led (sound, below)
          (λ t n. (sound_extends x (s.logs.led t).0, (s.logs.led t).1));
      stood = λ t c e. let r = s.logs.stood t c e in (sound_extends x r.0, r.1);
      silent = λ t e. let r = put_elsewhere (h.term u) true h.began t false (λ c. true≢false c) e in rw (ne_eqb t (h.term u) r.0) (s.logs.silent t r.1);
      began = put_all (λ t y. y ≡ true → (v : ℕ) × (h.won t v ≡ true)) (h.term u) true h.began (λ e. (u, won)) (λ t n. s.logs.began t);
      standing = λ k e. let r = put_elsewhere u Leading h.role k Candidate (λ c. cc) e in rw (ne_eqb k u r.0) (s.logs.standing k r.1);
      preparing = λ k e.
          let r = put_elsewhere u Leading h.role k Preparing (λ c. cc) e in
          rw (ne_eqb (h.term k) (h.term u) (other_term F h s.votes u k r.0 won (s.votes.preparing k r.1))) (s.logs.preparing k r.1);
      leading = λ k. elim (same_or_other k u) [
        | Equal e q ↦ rw (e, q, test_same (h.term u)) (λ r. (refl, same_refl log))
        | Apart e apart ↦ rw e (λ r.
            rw (ne_eqb (h.term k) (h.term u) (other_term F h s.votes u k apart won (s.votes.leading k r))) (s.logs.leading k r))
      ];
    }

begin_core :
    (F : ℕ) (h : History) (u : ℕ) (log : List Slot) → Sound F h → h.role u ≡ Preparing → Begins F h u log →
    Core F (after h (Begin u log))
begin_core F h u log s role b =
    let x : Extends h.led (put (h.term u) log h.led) = begin_extends h s.logs u log role in
    let silent : h.began (h.term u) ≡ false = s.logs.preparing u role in
    let opens : (t n : ℕ) → Open F (after h (Begin u log)) t n → (t ≢ h.term u) × Open F h t n = open_begin F h u log s role b.front in
    let quiets : (t bound : ℕ) → Quiet (after h (Begin u log)) t bound → Quiet h t bound =
    λ t bound q w lt le. (put_elsewhere (h.term u) true h.began w false (λ c. true≢false c) (q w lt le)).1 in
    let lives : (t n bound : ℕ) → Open F (after h (Begin u log)) t n ⊎ Quiet (after h (Begin u log)) t bound → Open F h t n ⊎ Quiet h t bound =
    λ t n bound live. elim live [ inl o ↦ inl (opens t n o).1 | inr q ↦ inr (quiets t bound q) ] in
    record {
      led = λ t w n lt o. elim (same_or_other w (h.term u)) [
        | Equal e q ↦ rw e (λ y.
            let lt2 : t < h.term u = omega arith in
            let it : Has (h.log u) n t = s.core.preparing t n u role lt2 (opens t n o).1 in
            has_by n t (agree_sym b.front) (b.spares t n lt2 (opens t n o).1) it)
        | Apart e apart ↦ rw e (s.core.led t w n lt (opens t n o).1)
      ];
      preparing = λ t n k e.
          let r = put_elsewhere u Leading h.role k Preparing (λ c. cc) e in
          rw (ne_eqb k u r.0) (λ lt o. s.core.preparing t n k r.1 lt (opens t n o).1);
      ballots = λ t w n j c lt o. s.core.ballots t w n j c lt (opens t n o).1;
      stored = λ t n k le live.
          put_all
          (λ k l. t ≤ h.term k → Open F (after h (Begin u log)) t n ⊎ Quiet (after h (Begin u log)) t (h.term k) →
          Stores (put (h.term u) log h.led t) (h.ack t k) (h.held t k) n l) u log h.log
          (λ le live. begin_stores t n le live) (λ k apart le live. stores_extends (x t) (s.core.stored t n k le (lives t n (h.term k) live)))
          k le live;
      shown = λ a among t n lt live. stores_extends (x t) (s.core.shown a among t n lt (lives t n a.term live));
    }
  where
    begin_stores :
        (t n : ℕ) → t ≤ h.term u → Open F (after h (Begin u log)) t n ⊎ Quiet (after h (Begin u log)) t (h.term u) →
        Stores (put (h.term u) log h.led t) (h.ack t u) (h.held t u) n log
    begin_stores t n le live =
        let x : Extends h.led (put (h.term u) log h.led) = begin_extends h s.logs u log role in
        let silent : h.began (h.term u) ≡ false = s.logs.preparing u role in
        elim (cases_lt t (h.term u)) [
          | inl lt ↦ elim live [
            | inl o ↦
                let before : Open F h t n = (open_begin F h u log s role b.front t n o).1 in
                let old : Stores (put (h.term u) log h.led t) (h.ack t u) (h.held t u) n (h.log u) =
                stores_extends (x t) (s.core.stored t n u le (inl before)) in
                let spared : n ≤ length log = b.spares t n lt before in
                record {
                  agree = λ m mn ma. agree_trans (agree_less m (omega arith) b.front) (old.agree m mn ma);
                  whole = λ i il e. b.marks i (omega arith) (old.whole i il e);
                }
            | inr q ↦ absurd (
                let no = q (h.term u) lt (le_refl _) in
                (put_elsewhere (h.term u) true h.began (h.term u) false (λ c. true≢false c) no).0 refl)
          ]
          | inr ge ↦
              let e : t ≡ h.term u = omega arith in
              let none : h.ack t u ≡ 0 =
              let within = s.acks.within (h.term u) u in
              let empty : length (h.led (h.term u)) ≡ 0 = s.logs.silent (h.term u) silent in
              rw e (omega arith) in
              stores_none (put (h.term u) log h.led t) (h.ack t u) (h.held t u) n log none (s.acks.held t u)
        ]

begin_commits :
    (F : ℕ) (h : History) (u : ℕ) (log : List Slot) → Sound F h → h.role u ≡ Preparing → Begins F h u log →
    Commits F (after h (Begin u log))
begin_commits F h u log s role b =
    let x : Extends h.led (put (h.term u) log h.led) = begin_extends h s.logs u log role in
    let silent : h.began (h.term u) ≡ false = s.logs.preparing u role in
    let won : h.won (h.term u) u ≡ true = s.votes.preparing u role in
    let undecided : h.decided (h.term u) ≡ 0 = (s.commits.silent (h.term u) silent).1 in
    let d = s.commits.commit u in
    let kept : Agree log (h.log u) (h.commit u) = agree_less (h.commit u) b.committed b.front in
    record {
      counted = λ t lt. elim (same_or_other t (h.term u)) [
        | Equal e q ↦ absurd (let none : h.decided t ≡ 0 = rw q undecided in omega arith)
        | Apart e apart ↦ rw e (s.commits.counted t lt)
      ];
      base = λ t. elim (same_or_other t (h.term u)) [
        | Equal e q ↦ rw e (λ lt.
            let under = d.1 in
            let reach = d.2 in
            let earlier : d.0 ≢ h.term u = λ y.
            let none : h.decided d.0 ≡ 0 = rw y undecided in
            let c : h.commit u ≤ h.decided d.0 = reach in
            omega arith in
            (d.0, omega arith, reach, agree_trans kept (agree_extends d.0 x d.3)))
        | Apart e apart ↦ rw e (λ lt. let o = s.commits.base t lt in (o.0, o.1, o.2, agree_extends o.0 x o.3))
      ];
      commit = put_all (λ k l. Decided (after h (Begin u log)) (h.term k) (h.commit k) l) u log h.log
          (d.0, d.1, d.2, agree_trans kept (agree_extends d.0 x d.3))
          (λ k apart. let o = s.commits.commit k in (o.0, o.1, o.2, agree_extends o.0 x o.3));
      silent = λ t e. let r = put_elsewhere (h.term u) true h.began t false (λ c. true≢false c) e in rw (ne_eqb t (h.term u) r.0) (s.commits.silent t r.1);
      leading = λ k. elim (same_or_other k u) [
        | Equal e q ↦ rw (e, q, test_same (h.term u)) (λ r. inl (refl, undecided))
        | Apart e apart ↦ rw e (λ r.
            rw (ne_eqb (h.term k) (h.term u) (other_term F h s.votes u k apart won (s.votes.leading k r))) (s.commits.leading k r))
      ];
    }

begin_cuts :
    (F : ℕ) (h : History) (u : ℕ) (log : List Slot) → Sound F h → h.role u ≡ Preparing → Begins F h u log →
    Cuts F (after h (Begin u log))
begin_cuts F h u log s role b cut among =
    let opens : (t n : ℕ) → Open F (after h (Begin u log)) t n → (t ≢ h.term u) × Open F h t n = open_begin F h u log s role b.front in
    let silent : h.began (h.term u) ≡ false = s.logs.preparing u role in
    elim among [
      | inl e ↦ rw (e, test_same (h.term u)) (λ index a lost. record {
        began = refl;
        led = lost.1;
        beyond = λ short.
            let has = lost.0 in
            let here : term_at (h.log u) index ≡ a = has.here in
            let low = (s.logs.log u).1 index has.from has.within in
            let apart : a ≢ h.term u = λ y.
            no_own h s.logs (h.term u) u index silent (subst (λ (t : ℕ). Has (h.log u) index t) y has) in
            omega arith;
        open_front = λ t n lt o le has.
            lost.1 (has_by index a (agree_sym b.front) (let far = b.spares t n lt (opens t n o).1 in omega arith) lost.0);
      })
      | inr old ↦ λ index a lost.
          let c = s.cuts cut old index a lost in
          let apart : cut.term ≢ h.term u = λ y. true≢false (sym c.began ∙ (rw y silent)) in
          rw (ne_eqb cut.term (h.term u) apart) (record {
            began = c.began;
            led = c.led;
            beyond = c.beyond;
            open_front = λ t n lt o le.
                rw (ne_eqb t (h.term u) (opens t n o).0) (c.open_front t n lt (opens t n o).1 le);
          })
    ]

pub begin_keeps :
    (F : ℕ) (h : History) (u : ℕ) (log : List Slot) → Allowed F h (Begin u log) → Sound F h → Sound F (after h (Begin u log))
begin_keeps F h u log a s =
    let b : Begins F h u log = begins F h u log s a.0 a.1 in
    let x : Extends h.led (put (h.term u) log h.led) = begin_extends h s.logs u log a.0 in
    record {
      votes = begin_votes F h u a.0 s.votes;
      logs = begin_logs F h u log s a.0 b;
      acks = record {
        later = s.acks.later;
        within = λ t j. le_trans (s.acks.within t j) (x t).right;
        held = s.acks.held;
        shown = s.acks.shown;
        need = s.acks.need;
      };
      core = begin_core F h u log s a.0 b;
      commits = begin_commits F h u log s a.0 b;
      cuts = begin_cuts F h u log s a.0 b;
    }
