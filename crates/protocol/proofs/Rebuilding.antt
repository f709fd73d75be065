-- Any F + 1 members have what it takes to rebuild a decided entry.
use Rattle.std.proofs.Common.{◌≡◌, ℕ, ◌+◌, ◌<◌, ◌≤◌, ◌⊎◌, Bool, true, ◌&&◌, List, sym, ap, inl, inr, arith, le_refl}
use Rattle.std.proofs.lemmas.Bool.{cases_lt, leb-true, and_parts, and_from}
use Rattle.protocol.specs.Counting.{count, members}
use Rattle.protocol.specs.Logs.{Slot, Has, Agree, has, term_at, whole_at}
use Rattle.protocol.specs.History.{History}
use Rattle.protocol.specs.Words.{reaches, need_at, Stores}
use Rattle.protocol.specs.Invariants.{Sound}
use Rattle.protocol.specs.Laws.{IsDecidedFront, IsRebuilt}
use Rattle.protocol.proofs.Counting.{count_more, count_share, overlap}
use Rattle.protocol.proofs.Logs.{agree_sym, agree_trans, agree_less, has_test}
use Rattle.protocol.proofs.Opening.{open_counted}
use Rattle.protocol.proofs.Losses.{CountedBy, descend}
use Rattle.protocol.proofs.Runs.{sound_reached}

-- each index of a decided front was counted by a leader that began below it
pub counted_front :
    (F : ℕ) (h : History) → Sound F h → (log : List Slot) (n i : ℕ) → IsDecidedFront h log n → 0 < i → i ≤ n →
    (t : ℕ) × CountedBy F h log t i
counted_front F h s log n i d from le =
    let reach = d.1 in
    let agree : Agree log (h.led d.0) i = agree_less i le d.2 in
    elim (cases_lt (h.base d.0) i) [
      | inl above ↦ (
        d.0,
        record {
          term = d.0;
          up_to = h.decided d.0;
          under = le_refl _;
          above = above;
          reach = omega arith;
          agree = agree;
          counted = s.commits.counted d.0 (omega arith);
        },
      )
      | inr under ↦
          let c : CountedBy F h (h.led d.0) d.0 i = descend F h s.commits d.0 d.0 i (le_refl _) from under in (
            d.0,
            record {
              term = c.term;
              up_to = c.up_to;
              under = c.under;
              above = c.above;
              reach = c.reach;
              agree = agree_trans agree c.agree;
              counted = c.counted;
            },
          )
    ]

-- who was counted still has it
counted_stores :
    (F : ℕ) (h : History) → Sound F h → (log : List Slot) (bound i : ℕ) → (c : CountedBy F h log bound i) → 0 < i → (j : ℕ) →
    i ≤ h.ack c.term j → Stores (h.led c.term) (h.ack c.term j) (h.held c.term j) c.up_to (h.log j)
counted_stores F h s log bound i c from j reach =
    s.core.stored c.term c.up_to j
    (elim (cases_lt (h.term j) c.term) [
      | inl lt ↦ absurd (let none : h.ack c.term j ≡ 0 = s.acks.later c.term j lt in omega arith)
      | inr le ↦ le
    ])
    (inl (open_counted F h c.term c.up_to c.counted))

counted_has :
    (F : ℕ) (h : History) → Sound F h → (log : List Slot) (bound i : ℕ) → (c : CountedBy F h log bound i) → 0 < i → (j : ℕ) →
    i ≤ h.ack c.term j → Agree (h.log j) log i
counted_has F h s log bound i c from j reach =
    let stores = counted_stores F h s log bound i c from j reach in
    agree_trans (stores.agree i c.reach reach) (agree_sym c.agree)

rebuilt_by :
    (F : ℕ) (h : History) → Sound F h → (who : ℕ → Bool) → F + 1 ≤ count who (members F) → (log : List Slot) (bound i : ℕ) →
    (c : CountedBy F h log bound i) → 0 < i →
    ((j : ℕ) × (j < members F) × (who j ≡ true) × Has (h.log j) i (term_at log i) × (whole_at (h.log j) i ≡ true))
    ⊎ (h.need (term_at log i) i ≤ count (λ j. who j && has (h.log j) i (term_at log i)) (members F))
rebuilt_by F h s who enough log bound i c from = elim ((c.counted).each i c.above c.reach) [
  | inl whole ↦
      let both : (j : ℕ) × (j < members F) × (who j ≡ true) × (h.held c.term j i ≡ true) =
      overlap who (λ j. h.held c.term j i) (members F) (omega arith) in
      let reach : i ≤ h.ack c.term both.0 = (s.acks.held c.term both.0 i both.3).1 in
      let agree : Agree (h.log both.0) log i = counted_has F h s log bound i c from both.0 reach in
      let stores = counted_stores F h s log bound i c from both.0 reach in
      inl (both.0, both.1, both.2, record { from = from; within = agree.left; here = agree.same i (le_refl _) }, stores.whole i c.reach both.3)
  | inr any ↦
      let same_need : need_at h c.term i ≡ h.need (term_at log i) i =
      ap (λ (a : ℕ). h.need a i) (sym ((c.agree).same i (le_refl _))) in
      let shared : count (reaches h c.term i) (members F) + count who (members F)
      ≤ members F + count (λ j. reaches h c.term i j && who j) (members F) =
      count_share (reaches h c.term i) who (members F) in
      let used : count (λ j. reaches h c.term i j && who j) (members F)
      ≤ count (λ j. who j && has (h.log j) i (term_at log i)) (members F) =
      count_more (λ j. reaches h c.term i j && who j) (λ j. who j && has (h.log j) i (term_at log i)) (members F)
      (λ j member e.
      let p = and_parts (reaches h c.term i j) (who j) e in
      let agree : Agree (h.log j) log i = counted_has F h s log bound i c from j (leb-true _ _ p.0) in
      and_from _ _ p.1 (has_test (h.log j) i (term_at log i) agree.left (agree.same i (le_refl _)))) in
      inr (omega arith)
]

pub is_rebuilt : IsRebuilt
is_rebuilt F h reached who enough log n i d from le =
    let s : Sound F h = sound_reached F h reached in
    let c : (t : ℕ) × CountedBy F h log t i = counted_front F h s log n i d from le in
    rebuilt_by F h s who enough log c.0 i c.1 from
