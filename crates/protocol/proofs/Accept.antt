-- A member takes an append: it keeps all that it shares with the leader's log, and loses only what the leader doesn't have.
use Rattle.std.proofs.Common.{◌≡◌, ℕ, ◌<◌, ◌≤◌, ◌⊎◌, true, List, length, sym, ◌∙◌, ap, subst, inl, inr, arith, le_refl}
use Rattle.std.proofs.lemmas.Bool.{cases_lt, ne_eqb, true≢false}
use Rattle.protocol.specs.Logs.{Slot, Has, Agree}
use Rattle.protocol.specs.History.{History, Follower, Candidate, Preparing, Leading}
use Rattle.protocol.specs.Words.{Open, Quiet, Stores, Decided}
use Rattle.protocol.specs.Moves.{Accept, Taken, Kept, Longer, Replaced, Takes, after}
use Rattle.protocol.specs.Invariants.{Cuts, Sound, IsSound, Below}
use Rattle.protocol.proofs.Counting.{put_all, put_elsewhere}
use Rattle.protocol.proofs.Logs.{agree_none, agree_sym, agree_trans, agree_less, has_by, sound_match, matching, sound_front, sound_same, below_front, below_same, same_has, same_agrees}
use Rattle.protocol.proofs.Opening.{open_counted}
use Rattle.protocol.proofs.Votes.{follow_votes}

-- what a member shares with the leader's log stays
pub shared : {old new led : List Slot} (k : ℕ) → Taken old new led → Agree old led k → Agree new led k
shared k (Kept same_log) a = same_agrees same_log a
shared k (Longer front _) a = agree_trans (agree_sym (agree_less k a.left front)) a
shared {old} {new} {led} k (Replaced i io within differ front) a = elim (cases_lt k i) [
  | inl less ↦ agree_less k (omega arith) front
  | inr le ↦ absurd (differ (a.same i le ∙ sym (front.same i within)))
]

taken_sound : {led : ℕ → List Slot} (t : ℕ) {old new : List Slot} → IsSound led old → IsSound led (led t) → Taken old new (led t) → IsSound led new
taken_sound t so st (Kept same_log) = sound_same same_log so
taken_sound t so st (Longer _ front) = sound_front st front
taken_sound t so st (Replaced _ _ _ _ front) = sound_front st front

taken_below : (t bound : ℕ) {old new led : List Slot} → Below old bound → Below led bound → Taken old new led → Below new bound
taken_below t bound bo bt (Kept same_log) = below_same bound same_log bo
taken_below t bound bo bt (Longer _ front) = below_front bound bt front
taken_below t bound bo bt (Replaced _ _ _ _ front) = below_front bound bt front

-- what goes out of a log is not in the leader's
lost_apart :
    {led : ℕ → List Slot} (t i a : ℕ) {old new : List Slot} → IsSound led old → IsSound led (led t) → Taken old new (led t) →
    Has old i a → (Has new i a → ⊥) → Has (led t) i a → ⊥
lost_apart t i a so st (Kept same_log) was gone has = gone (same_has i a same_log was)
lost_apart t i a so st (Longer front _) was gone has = gone (has_by i a front was.within was)
lost_apart {led} t i a {old} {new} so st (Replaced x xo within differ front) was gone has =
    let both : Agree old (led t) i = matching i a so st was has in
    elim (cases_lt i x) [
      | inl less ↦ gone (has_by i a (agree_sym front) (omega arith) has)
      | inr le ↦ differ (both.same x le ∙ sym (front.same x within))
    ]

-- an earlier entry that is open is in the leader's log, with all below it
pub known_to_leader :
    (F : ℕ) (h : History) → Sound F h → (t u n : ℕ) → t < u → Open F h t n → h.began u ≡ true → Agree (h.led u) (h.led t) n
known_to_leader F h s t u n lt o began = sound_match n t (s.logs.led u).0 (s.core.led t u n lt o began)

accept_stores :
    (F : ℕ) (h : History) (j : ℕ) (log : List Slot) → Takes h j log → Sound F h → (t n : ℕ) → t ≤ h.term j →
    Open F h t n ⊎ Quiet h t (h.term j) → Stores (h.led t) (h.ack t j) (h.held t j) n log
accept_stores F h j log a s t n le live =
    let old : Stores (h.led t) (h.ack t j) (h.held t j) n (h.log j) = s.core.stored t n j le live in
    let leader : (m : ℕ) → m ≤ n → Agree (h.led (h.term j)) (h.led t) m ⊎ (t ≡ h.term j) =
    λ m mn. elim (cases_lt t (h.term j)) [
      | inl lt ↦ elim live [
        | inl o ↦ inl (agree_less m mn (known_to_leader F h s t (h.term j) n lt o a.began))
        | inr q ↦ absurd (true≢false (sym a.began ∙ q (h.term j) lt (le_refl _)))
      ]
      | inr ge ↦ inr (omega arith)
    ] in
    let with_leader : (m : ℕ) → m ≤ n → m ≤ h.ack t j → Agree (h.log j) (h.led (h.term j)) m =
    λ m mn ma. elim (leader m mn) [
      | inl agree ↦ agree_trans (old.agree m mn ma) (agree_sym agree)
      | inr e ↦ subst (λ (u : ℕ). Agree (h.log j) (h.led u) m) e (old.agree m mn ma)
    ] in
    record {
      agree = λ m mn ma.
          let kept : Agree log (h.led (h.term j)) m = shared m a.taken (with_leader m mn ma) in
          elim (leader m mn) [
            | inl agree ↦ agree_trans kept agree
            | inr e ↦ subst (λ (u : ℕ). Agree log (h.led u) m) (sym e) kept
          ];
      whole = λ i il e. a.marks i (with_leader i il (s.acks.held t j i e).1) (old.whole i il e);
    }

-- what a member committed it shares with its leader, so an append never reaches below its commit index
pub commit_shared :
    (F : ℕ) (h : History) → Sound F h → (j : ℕ) → h.began (h.term j) ≡ true → Agree (h.log j) (h.led (h.term j)) (h.commit j)
commit_shared F h s j began =
    let d = s.commits.commit j in
    let under = d.1 in
    let reach = d.2 in
    elim (cases_lt d.0 (h.term j)) [
      | inl lt ↦ elim (cases_lt 0 (h.commit j)) [
        | inl some ↦
            agree_trans d.3
            (agree_sym
            (agree_less (h.commit j) reach
            (known_to_leader F h s d.0 (h.term j) (h.decided d.0) lt
            (open_counted F h d.0 (h.decided d.0) (s.commits.counted d.0 (omega arith))) began)))
        | inr zero_commit ↦ let none : h.commit j ≡ 0 = omega arith in rw none (agree_none (h.log j) (h.led (h.term j)))
      ]
      | inr ge ↦ let e : d.0 ≡ h.term j = omega arith in subst (λ (u : ℕ). Agree (h.log j) (h.led u) (h.commit j)) e d.3
    ]

accept_commit :
    (F : ℕ) (h : History) (j : ℕ) (log : List Slot) → Takes h j log → Sound F h → Decided h (h.term j) (h.commit j) log
accept_commit F h j log a s =
    let d = s.commits.commit j in
    let known : Agree (h.log j) (h.led (h.term j)) (h.commit j) = commit_shared F h s j a.began in
    (d.0, d.1, d.2, agree_trans (shared (h.commit j) a.taken known) (agree_trans (agree_sym known) d.3))

accept_cuts : (F : ℕ) (h : History) (j : ℕ) (log : List Slot) → Takes h j log → Sound F h → Cuts F (after h (Accept j log))
accept_cuts F h j log a s cut among = elim among [
  | inl e ↦ rw e (λ index b lost.
      let was : Has (h.log j) index b = lost.0 in
      let apart : Has (h.led (h.term j)) index b → ⊥ =
      lost_apart (h.term j) index b (s.logs.log j).0 (s.logs.led (h.term j)).0 a.taken was lost.1 in
      record {
        began = a.began;
        led = apart;
        beyond = λ short. elim (cases_lt b (h.term j)) [
          | inl lt ↦ lt
          | inr ge ↦
              let here = was.here in
              let low = (s.logs.log j).1 index was.from was.within in
              let own : b ≡ h.term j = omega arith in
              let m : Agree (h.log j) (h.led b) index = sound_match index b (s.logs.log j).0 was in
              let right : index ≤ length (h.led b) = m.right in
              let there : length (h.led b) ≡ length (h.led (h.term j)) = ap (λ (u : ℕ). length (h.led u)) own in
              absurd (omega arith)
        ];
        open_front = λ t n lt o le has.
            apart (has_by index b (agree_sym (known_to_leader F h s t (h.term j) n lt o a.began)) le has);
      })
  | inr old ↦ s.cuts cut old
]

pub accept_keeps : (F : ℕ) (h : History) (j : ℕ) (log : List Slot) → Takes h j log → Sound F h → Sound F (after h (Accept j log))
accept_keeps F h j log a s = record {
  votes = follow_votes F h j s.votes;
  logs = record {
    log = put_all (λ k l. IsSound h.led l × Below l (h.term k)) j log h.log (
      taken_sound (h.term j) (s.logs.log j).0 (s.logs.led (h.term j)).0 a.taken,
      taken_below (h.term j) (h.term j) (s.logs.log j).1 (s.logs.led (h.term j)).1 a.taken,
    )
        (λ k n. s.logs.log k);
    led = s.logs.led;
    stood = s.logs.stood;
    silent = s.logs.silent;
    began = s.logs.began;
    standing = λ k e. let r = put_elsewhere j Follower h.role k Candidate (λ c. cc) e in rw (ne_eqb k j r.0) (s.logs.standing k r.1);
    preparing = λ k e. let r = put_elsewhere j Follower h.role k Preparing (λ c. cc) e in s.logs.preparing k r.1;
    leading = λ k e. let r = put_elsewhere j Follower h.role k Leading (λ c. cc) e in rw (ne_eqb k j r.0) (s.logs.leading k r.1);
  };
  acks = s.acks;
  core = record {
    led = s.core.led;
    preparing = λ t n k e. let r = put_elsewhere j Follower h.role k Preparing (λ c. cc) e in rw (ne_eqb k j r.0) (s.core.preparing t n k r.1);
    ballots = s.core.ballots;
    stored = λ t n.
        put_all (λ k l. t ≤ h.term k → Open F h t n ⊎ Quiet h t (h.term k) → Stores (h.led t) (h.ack t k) (h.held t k) n l) j log h.log
        (accept_stores F h j log a s t n) (λ k apart. s.core.stored t n k);
    shown = s.core.shown;
  };
  commits = record {
    counted = s.commits.counted;
    base = s.commits.base;
    commit = put_all (λ k l. Decided h (h.term k) (h.commit k) l) j log h.log (accept_commit F h j log a s) (λ k apart. s.commits.commit k);
    silent = s.commits.silent;
    leading = λ k e. let r = put_elsewhere j Follower h.role k Leading (λ c. cc) e in s.commits.leading k r.1;
  };
  cuts = accept_cuts F h j log a s;
}
