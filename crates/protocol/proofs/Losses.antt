-- A leader that prepares cuts nothing that may still be committed.
use Rattle.std.proofs.Common.{◌≡◌, ℕ, zero, suc, ◌+◌, ◌<◌, ◌≤◌, true, false, ◌&&◌, nat_le, List, length, sym, ◌∙◌, ap, inl, inr, arith, le_refl}
use Rattle.std.proofs.lemmas.Bool.{cases_lt, or_cases, leb-true, and_parts, and_from}
use Rattle.protocol.specs.Counting.{count, members}
use Rattle.protocol.specs.Logs.{Slot, Has, has, Agree, IsFront, KeepsWhole, term_at, whole_at}
use Rattle.protocol.specs.History.{History, Preparing, Shown, IsIn}
use Rattle.protocol.specs.Words.{may_hold, may_hold_whole, need_at, Counted, Open, Stores}
use Rattle.protocol.specs.Moves.{ShowsLoss, BeginsWith}
use Rattle.protocol.specs.Invariants.{Commits, Sound}
use Rattle.protocol.proofs.Counting.{count_more, count_share, overlap}
use Rattle.protocol.proofs.Logs.{agree_trans, agree_less, sound_match, same_sym, has_test}
use Rattle.protocol.proofs.Opening.{open_counted, may_acked, whole_may}

-- an index was counted by a leader that began below it
pub record CountedBy (F : ℕ) (h : History) (log : List Slot) (bound i : ℕ) : Type 0 where
  pub term : ℕ
  pub up_to : ℕ
  pub under : term ≤ bound
  pub above : h.base term < i
  pub reach : i ≤ up_to
  pub agree : Agree log (h.led term) i
  pub counted : Counted F h term up_to

-- what a leader began with was counted by leaders before it: down from term to term, to one that began below the index
pub descend :
    (F : ℕ) (h : History) → Commits F h → (fuel t i : ℕ) → t ≤ fuel → 0 < i → i ≤ h.base t → CountedBy F h (h.led t) t i
descend F h s zero t i le from under =
    let b = s.base t (omega arith) in absurd (let lt = b.1 in omega arith)
descend F h s (suc fuel) t i le from under =
    let b = s.base t (omega arith) in
    let lt = b.1 in
    let far = b.2 in
    let again : i ≤ h.base b.0 → CountedBy F h (h.led b.0) b.0 i = descend F h s fuel b.0 i (omega arith) from in
    let agree : Agree (h.led t) (h.led b.0) i = agree_less i under b.3 in
    elim (cases_lt (h.base b.0) i) [
      | inl above ↦
          record {
            term = b.0;
            up_to = h.decided b.0;
            under = omega arith;
            above = above;
            reach = omega arith;
            agree = agree;
            counted = s.counted b.0 (omega arith);
          }
      | inr below ↦
          let c = again below in
          let less = c.under in
          record {
            term = c.term;
            up_to = c.up_to;
            under = omega arith;
            above = c.above;
            reach = c.reach;
            agree = agree_trans agree c.agree;
            counted = c.counted;
          }
    ]

-- what is whole or usable at a member that covers the index
pub record Shows (F : ℕ) (h : History) (u : ℕ) (log : List Slot) (loss : ShowsLoss F h u log) (t j : ℕ) : Type 0 where
  pub usable : may_hold h t loss.index j ≡ true → has (loss.seen j) loss.index (term_at (h.log u) loss.index) ≡ true
  pub lost : may_hold_whole h t loss.index j ≡ true → ⊥

-- what a member that covers the index showed: it has what it acknowledged
covered :
    (F : ℕ) (h : History) (u : ℕ) (log : List Slot) → Sound F h → (loss : ShowsLoss F h u log) → (t m : ℕ) → t < h.term u →
    Open F h t m → loss.index ≤ m → Agree (h.log u) (h.led t) loss.index →
    (j : ℕ) → j < members F → loss.covers j ≡ true → Shows F h u log loss t j
covered F h u log s loss t m lt o reach agree j member covers =
    let answer : (start : ℕ) × (start ≤ loss.index) × IsIn (record { term = h.term u; member = j; start = start; slots = loss.seen j }) h.answers =
    loss.showed j member covers in
    let a : Shown = record { term = h.term u; member = j; start = answer.0; slots = loss.seen j } in
    let stores : Stores (h.led t) (h.ack t j) (h.held t j) m (loss.seen j) = s.core.shown a answer.2 t m lt (inl o) in
    let past : h.term u ≤ h.term j = s.acks.shown a answer.2 in
    let reached : may_hold h t loss.index j ≡ true → loss.index ≤ h.ack t j = may_acked h t loss.index j (omega arith) in
    let use_it : may_hold h t loss.index j ≡ true → has (loss.seen j) loss.index (term_at (h.log u) loss.index) ≡ true =
    λ may. let shows = stores.agree loss.index reach (reached may) in
    has_test (loss.seen j) loss.index (term_at (h.log u) loss.index) shows.left
    (shows.same loss.index (le_refl _) ∙ sym (agree.same loss.index (le_refl _))) in
    record {
      usable = use_it;
      lost = λ may. elim (or_cases (h.held t j loss.index) (nat_le (h.term j) t) may) [
        | inl held ↦
            let yes : whole_at (loss.seen j) loss.index ≡ true = stores.whole loss.index reach held in
            let none : whole_at (loss.seen j) loss.index ≡ false =
            loss.no_whole j member covers (use_it (whole_may h s.acks t loss.index j may)) in
            cc
        | inr low ↦ let le : h.term j ≤ t = leb-true _ _ low in omega arith
      ];
    }

-- nothing that is open at the index is lost
not_lost :
    (F : ℕ) (h : History) (u : ℕ) (log : List Slot) → Sound F h → (loss : ShowsLoss F h u log) → (t m : ℕ) → t < h.term u →
    Open F h t m → h.base t < loss.index → loss.index ≤ m → Agree (h.log u) (h.led t) loss.index → ⊥
not_lost F h u log s loss t m lt o above reach agree =
    let shows : (j : ℕ) → j < members F → loss.covers j ≡ true → Shows F h u log loss t j =
    covered F h u log s loss t m lt o reach agree in
    let enough = loss.enough in
    elim (o.each loss.index above reach) [
      | inl whole ↦
          let both : (j : ℕ) × (j < members F) × (may_hold_whole h t loss.index j ≡ true) × (loss.covers j ≡ true) =
          overlap (may_hold_whole h t loss.index) loss.covers (members F) (omega arith) in
          (shows both.0 both.1 both.3).lost both.2
      | inr any ↦
          let few = loss.few in
          let same_need : need_at h t loss.index ≡ h.need (term_at (h.log u) loss.index) loss.index =
          ap (λ (a : ℕ). h.need a loss.index) (sym (agree.same loss.index (le_refl _))) in
          let shared : count (may_hold h t loss.index) (members F) + count loss.covers (members F)
          ≤ members F + count (λ j. may_hold h t loss.index j && loss.covers j) (members F) =
          count_share (may_hold h t loss.index) loss.covers (members F) in
          let used : count (λ j. may_hold h t loss.index j && loss.covers j) (members F)
          ≤ count (λ j. loss.covers j && has (loss.seen j) loss.index (term_at (h.log u) loss.index)) (members F) =
          count_more (λ j. may_hold h t loss.index j && loss.covers j)
          (λ j. loss.covers j && has (loss.seen j) loss.index (term_at (h.log u) loss.index)) (members F)
          (λ j member e.
          let p = and_parts (may_hold h t loss.index j) (loss.covers j) e in
          and_from _ _ p.1 ((shows j member p.1).usable p.0)) in
          omega arith
    ]

-- so the cut stands above all that is open
uncut :
    (F : ℕ) (h : History) (u : ℕ) (log : List Slot) → Sound F h → h.role u ≡ Preparing → (loss : ShowsLoss F h u log) →
    (t n : ℕ) → t < h.term u → Open F h t n → loss.index ≤ n → ⊥
uncut F h u log s role loss t n lt o le =
    let known : Has (h.log u) n t = s.core.preparing t n u role lt o in
    let agree : Agree (h.log u) (h.led t) loss.index = agree_less loss.index le (sound_match n t (s.logs.log u).0 known) in
    elim (cases_lt (h.base t) loss.index) [
      | inl above ↦ not_lost F h u log s loss t n lt o above le agree
      | inr under ↦
          let high = loss.above in
          let c : CountedBy F h (h.led t) t loss.index = descend F h s.commits t t loss.index (le_refl _) (omega arith) under in
          let less = c.under in
          not_lost F h u log s loss c.term c.up_to (omega arith) (open_counted F h c.term c.up_to c.counted) c.above c.reach
          (agree_trans agree c.agree)
    ]

-- what holds of the log with which a member begins to lead
pub record Begins (F : ℕ) (h : History) (u : ℕ) (log : List Slot) : Type 0 where
  pub front : IsFront log (h.log u)
  pub marks : KeepsWhole (h.log u) log (length log)
  pub committed : h.commit u ≤ length log
  pub spares : (t n : ℕ) → t < h.term u → Open F h t n → n ≤ length log

pub begins :
    (F : ℕ) (h : History) (u : ℕ) (log : List Slot) → Sound F h → h.role u ≡ Preparing → BeginsWith F h u log → Begins F h u log
begins F h u log s role way = elim way [
  | inl whole ↦
      let long = (whole.0).long in
      let known = (s.commits.commit u).3 in
      let within = known.left in
      record {
        front = (same_sym whole.0).agree;
        marks = whole.1;
        committed = omega arith;
        spares = λ t n lt o. let it = s.core.preparing t n u role lt o in let le = it.within in omega arith;
      }
  | inr loss ↦
      let short = loss.shorter in
      let above = loss.above in
      record {
        front = loss.front;
        marks = loss.marks;
        committed = omega arith;
        spares = λ t n lt o. elim (cases_lt n loss.index) [
          | inl less ↦ omega arith
          | inr le ↦ absurd (uncut F h u log s role loss t n lt o le)
        ];
      }
]
